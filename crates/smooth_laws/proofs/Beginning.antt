-- An end that has the objects of EAP-PSK and EAP-GPSK still begins as it did at first.
use Rattle.std.proofs.Common.{◌≡◌, ℕ, true, Option, Some, None, refl, sym, ap, ◌∙◌}
use Rattle.std.proofs.Math.Path.{fun_ext}
use Rattle.std.proofs.lemmas.Option.{same_Some}
use Rattle.std.specs.Prelude.{option_map}
use Rattle.login_setup.specs.declared.setup.PeerSetup.{PeerSetup}
use Rattle.login_setup.specs.Setup.{ServerSetup}
use Rattle.octet_lists.specs.Among.{is_among}
use Rattle.eap_method.specs.BothPeers as both_peers
use Rattle.eap_method.specs.BothServers as both_servers
use Rattle.eap_method.specs.Peer as peers
use Rattle.eap_method.specs.Peer.{PeerShown, PeerViews, peer_kind, peer_started_in}
use Rattle.eap_method.specs.Server as servers
use Rattle.eap_method.specs.Server.{ServerShown, ServerViews, server_kind, server_started_in}
use Rattle.eap_method.specs.Server.{side_of}
use Rattle.eap_method.proofs.PeerViews as peer_views
use Rattle.eap_method.proofs.ServerViews as server_views
use Rattle.method_laws.specs.Both.{PeerHasBoth}
use Rattle.method_laws.specs.Both.{ServerHasBoth}
use Rattle.world_laws.specs.Runs as runs
use Rattle.method_laws.proofs.PeerObjects as peer_objects
use Rattle.method_laws.proofs.ServerObjects as server_objects

-- ---- the peer

module _ (setup : PeerSetup) where
  abbrev fresh_peer : peers.Method → PeerShown
  fresh_peer m = record {
    method = m;
    view = peers.fresh m (peers.credential_for setup (peers.kind_of m)) setup.nonce;
  }

  peer_same : (one other : PeerShown) → peers.method_of one ≡ peers.method_of other
      → is_among setup.methods (peer_kind other) ≡ true
      → peer_started_in setup one ≡ peer_started_in setup other
  peer_same one other same named =
      sym (peer_views.begins setup one
      (ap (λ (m : peers.Method). is_among setup.methods (peers.kind_of m)) same ∙ named))
      ∙ (ap fresh_peer same ∙ peer_views.begins setup other named)

  peer_found : (one other : Option PeerShown)
      → option_map peers.method_of one ≡ option_map peers.method_of other
      → ((s : PeerShown) → other ≡ Some s → is_among setup.methods (peer_kind s) ≡ true)
      → option_map (peer_started_in setup) one ≡ option_map (peer_started_in setup) other
  peer_found None None same named = refl
  peer_found None (Some t) same named = absurd cc
  peer_found (Some s) None same named = absurd cc
  peer_found (Some s) (Some t) same named =
      ap (λ (x : PeerShown). Some x) (peer_same s t (same_Some _ _ same) (named t refl))

  peer_kind_is : (kind : ℕ) (s : PeerShown) → both_peers.IsOne kind s → peer_kind s ≡ kind
  peer_kind_is kind _ (both_peers.is_psk same view) = sym same
  peer_kind_is kind _ (both_peers.is_gpsk same view) = sym same

  pub peer_starts_again : (views : PeerViews) → PeerHasBoth setup.methods views
      → peers.views_started setup views ≡ runs.views_started setup
  unfolding peers.views_started
  peer_starts_again views both =
      let first = peer_objects.both_are setup.methods in
      fun_ext (λ kind. peer_found (views kind) (both_peers.both_of setup.methods kind)
      (both.same kind) (λ s is. ap (is_among setup.methods) (peer_kind_is kind s
      (peer_objects.is_one first kind s is)) ∙ peer_objects.is_named first kind s is))

-- ---- the server

module _ (setup : ServerSetup) where
  abbrev fresh_server : servers.Method → ServerShown
  fresh_server m = record { method = m; view = servers.fresh m (side_of setup) setup.nonce }

  server_same : (one other : ServerShown) → servers.method_of one ≡ servers.method_of other
      → is_among setup.methods (server_kind other) ≡ true
      → server_started_in setup one ≡ server_started_in setup other
  server_same one other same named =
      sym (server_views.begins setup one
      (ap (λ (m : servers.Method). is_among setup.methods (servers.kind_of m)) same ∙ named))
      ∙ (ap fresh_server same ∙ server_views.begins setup other named)

  server_found : (one other : Option ServerShown) → option_map servers.method_of one
      ≡ option_map servers.method_of other
      → ((s : ServerShown) → other ≡ Some s → is_among setup.methods (server_kind s) ≡ true)
      → option_map (server_started_in setup) one ≡ option_map (server_started_in setup) other
  server_found None None same named = refl
  server_found None (Some t) same named = absurd cc
  server_found (Some s) None same named = absurd cc
  server_found (Some s) (Some t) same named =
      ap (λ (x : ServerShown). Some x) (server_same s t (same_Some _ _ same) (named t refl))

  server_kind_is : (kind : ℕ) (s : ServerShown) → both_servers.IsOne kind s → server_kind s ≡ kind
  server_kind_is kind _ (both_servers.is_psk same view) = sym same
  server_kind_is kind _ (both_servers.is_gpsk same view) = sym same

  pub server_starts_again : (views : ServerViews) → ServerHasBoth setup.methods views
      → servers.views_started setup views ≡ runs.server_views_started setup
  unfolding servers.views_started
  server_starts_again views both =
      let first = server_objects.both_are setup.methods in
      fun_ext (λ kind. server_found (views kind) (both_servers.both_of setup.methods kind)
      (both.same kind) (λ s is. ap (is_among setup.methods) (server_kind_is kind s
      (server_objects.is_one first kind s is)) ∙ server_objects.is_named first kind s is))
