-- What an end has and tells by the method of a Type: the other end's nonce, of which its first
-- sixteen octets are all that EAP-PSK has (RFC 4764 section 3.2), the report that its login leads
-- to, its tags, and whether the method has succeeded.
use Rattle.std.specs.Prelude.{◌≡◌, ℕ, List, [], Bool, true, false, ◌==◌, Option, None, Some}
use Rattle.login_setup.specs.declared.setup.PeerSetup.{PeerSetup}
use Rattle.login_setup.specs.Setup.{ServerSetup}
use Rattle.octet_lists.specs.Among.{psk_kind, gpsk_kind, identity_kind}
use Rattle.eap_method.specs.BothServers.{gpsk_at, psk_at}
use Rattle.eap_method.specs.declared.tags.TagRecord.{TagRecord}
use Rattle.eap_method.specs.declared.values.Report.{Report}
use Rattle.eap_method.specs.GpskPeer as gpsk_peer
use Rattle.eap_method.specs.GpskServer as gpsk_server
use Rattle.eap_method.specs.PskPeer as psk_peer
use Rattle.eap_method.specs.PskServer as psk_server
use Rattle.eap_method.specs.Peer.{PeerViews}
use Rattle.eap_method.specs.Server.{ServerViews}
use Rattle.method_laws.specs.GpskPeerInvariant.{GpskPeerTags, gpsk_peer_login, gpsk_rand_s}
use Rattle.method_laws.specs.GpskServerInvariant.{GpskServerTags, gpsk_rand_p_in, gpsk_server_login}
use Rattle.method_laws.specs.PskPeerInvariant.{PskPeerTags, psk_peer_login, psk_rand_s}
use Rattle.method_laws.specs.PskServerInvariant.{PskServerTags, psk_rand_p_in, psk_server_login}
use Rattle.eap_method.specs.BothPeers.{psk_in}
use Rattle.eap_method.specs.BothPeers.{gpsk_in}

-- by the method, if the Type is that of one
abbrev pub by_kind : {A : Type 0} → Bool → Bool → Option A → Option A → Option A
by_kind true is_gpsk psk gpsk = psk
by_kind false true psk gpsk = gpsk
by_kind false false psk gpsk = None

-- ---- the peer

-- the server's nonce
abbrev pub peer_foreign_of : PeerViews → ℕ → Option (List ℕ)
peer_foreign_of views kind = by_kind (kind == psk_kind) (kind == gpsk_kind)
    (psk_rand_s (psk_in views)) (gpsk_rand_s (gpsk_in views))

abbrev pub peer_foreign : Option ℕ → PeerViews → Option (List ℕ)
peer_foreign None views = None
peer_foreign (Some kind) views = peer_foreign_of views kind

-- the report
abbrev pub peer_login : Option ℕ → PeerViews → Option Report
peer_login None views = None
peer_login (Some kind) views = by_kind (kind == psk_kind) (kind == gpsk_kind)
    (psk_peer_login (psk_in views)) (gpsk_peer_login (gpsk_in views))

-- the tags of a peer are those of its selected method; there are none before it selects one
pub data PeerTags (setup : PeerSetup) (selected : Option ℕ) (views : PeerViews) : List TagRecord
    → List TagRecord → Type 0 where
  none_selected : (unselected : selected ≡ None) (psk_verdict : PskPeerTags setup
      (psk_in views) [] []) (gpsk_verdict : GpskPeerTags setup (gpsk_in views) [] [])
      → PeerTags setup selected views [] []
  psk_selected : (accepted made : List TagRecord) (is_selected : selected ≡ Some psk_kind)
      (told : PskPeerTags setup (psk_in views) accepted made)
      → PeerTags setup selected views accepted made
  gpsk_selected : (accepted made : List TagRecord) (is_selected : selected ≡ Some gpsk_kind)
      (told : GpskPeerTags setup (gpsk_in views) accepted made)
      → PeerTags setup selected views accepted made

-- the selected method has succeeded
pub data PeerHasSucceeded (selected : Option ℕ) (views : PeerViews) : Type 0 where
  psk_peer_succeeded : (login : psk_peer.Login) (is_selected : selected ≡ Some psk_kind)
      (in_view : psk_in views ≡ psk_peer.over login true)
      → PeerHasSucceeded selected views
  gpsk_peer_succeeded : (login : gpsk_peer.Login) (is_selected : selected ≡ Some gpsk_kind)
      (in_view : gpsk_in views ≡ gpsk_peer.over login true)
      → PeerHasSucceeded selected views

-- ---- the server

-- the peer's nonce
abbrev pub server_foreign_of : ServerViews → ℕ → Option (List ℕ)
server_foreign_of views kind = by_kind (kind == psk_kind) (kind == gpsk_kind)
    (psk_rand_p_in (psk_at views)) (gpsk_rand_p_in (gpsk_at views))

abbrev pub server_foreign : Option ℕ → ServerViews → Option (List ℕ)
server_foreign None views = None
server_foreign (Some kind) views = server_foreign_of views kind

-- the report
abbrev pub server_login : Option ℕ → ServerViews → Option Report
server_login None views = None
server_login (Some kind) views = by_kind (kind == psk_kind) (kind == gpsk_kind)
    (psk_server_login (psk_at views)) (gpsk_server_login (gpsk_at views))

-- the tags of a server are those of its current method; there are none before its first proposal
pub data ServerTags (setup : ServerSetup) (current : Option ℕ)
    (views : ServerViews) : List TagRecord → List TagRecord → Type 0 where
  none_current : (none : current ≡ None) → ServerTags setup current views [] []
  identity_current : (is_current : current ≡ Some identity_kind)
      → ServerTags setup current views [] []
  psk_current : (view : psk_server.View) (accepted made : List TagRecord)
      (is_current : current ≡ Some psk_kind) (in_view : psk_at views ≡ Some view)
      (told : PskServerTags setup view accepted made) → ServerTags setup current views accepted made
  gpsk_current : (view : gpsk_server.View) (accepted made : List TagRecord)
      (is_current : current ≡ Some gpsk_kind) (in_view : gpsk_at views ≡ Some view)
      (told : GpskServerTags setup view accepted made)
      → ServerTags setup current views accepted made

-- the current method has succeeded
pub data ServerHasSucceeded (current : Option ℕ) (views : ServerViews) : Type 0 where
  psk_server_succeeded : (login : psk_server.Login) (is_current : current ≡ Some psk_kind)
      (in_view : psk_at views ≡ Some (psk_server.over login true))
      → ServerHasSucceeded current views
  gpsk_server_succeeded : (login : gpsk_server.Login) (is_current : current ≡ Some gpsk_kind)
      (in_view : gpsk_at views ≡ Some (gpsk_server.over login true))
      → ServerHasSucceeded current views
