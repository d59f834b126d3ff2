-- Two ends of EAP-PAX agree in every run: what their histories imply, by the law over any methods.
use Rattle.std.proofs.Common.{◌≡◌, ℕ, List, Bool, true, false, Some, None, refl, sym, ap}
use Rattle.std.proofs.Common.{subst, ◌∙◌}
use Rattle.std.specs.Prelude.{◌==◌, if◌then◌else◌, option_map}
use Rattle.std.proofs.lemmas.Bool.{eqb-true}
use Rattle.octet_lists.specs.Among.{is_among}
use Rattle.eap_method.specs.Peer as peer
use Rattle.eap_method.specs.Peer.{PeerShown, peer_kind}
use Rattle.eap_method.specs.Server as server
use Rattle.eap_method.specs.Server.{ServerShown, server_kind}
use Rattle.method_laws.specs.Agreeing.{Agreeing}
use Rattle.method_laws.specs.Objects.{PeerHasOwn, ServerHasOwn}
use Rattle.world_laws.specs.MethodsAgree.{AllAgree}
use Rattle.world_laws.proofs.MethodsAgree.{methods_agree}
use Rattle.pax_method.specs.Packets.{pax_kind}
use Rattle.pax_method.specs.PaxPeer.{pax_peer}
use Rattle.pax_method.specs.PaxServer.{pax_server}
use Rattle.pax_method.specs.Runs.{PaxRunsAgree, pax_peers, pax_servers}
use Rattle.pax_method.proofs.Agrees.{pax_agrees}

-- ---- the objects

peer_found : (at : Bool) (one s : PeerShown) → (if at then Some one else None) ≡ Some s
    → (at ≡ true) × (one ≡ s)
peer_found true one s is = (refl, (let same : one ≡ s = cc in same))
peer_found false one s is = absurd cc

server_found : (at : Bool) (one s : ServerShown) → (if at then Some one else None) ≡ Some s
    → (at ≡ true) × (one ≡ s)
server_found true one s is = (refl, (let same : one ≡ s = cc in same))
server_found false one s is = absurd cc

module _ (ak name methods : List ℕ) (named : is_among methods pax_kind ≡ true) where
  peers_own : PeerHasOwn methods (pax_peers ak name)
  peers_own = record {
    allowed = λ kind s is. ap (is_among methods)
        (eqb-true kind pax_kind (peer_found (kind == pax_kind) _ s is).0) ∙ named;
    at_own = λ kind s is. ap peer_kind (sym (peer_found (kind == pax_kind) _ s is).1)
        ∙ sym (eqb-true kind pax_kind (peer_found (kind == pax_kind) _ s is).0);
  }

  servers_own : ServerHasOwn methods (pax_servers ak name)
  servers_own = record {
    ordered = λ kind s is. ap (is_among methods)
        (eqb-true kind pax_kind (server_found (kind == pax_kind) _ s is).0) ∙ named;
    at_own = λ kind s is. ap server_kind (sym (server_found (kind == pax_kind) _ s is).1)
        ∙ sym (eqb-true kind pax_kind (server_found (kind == pax_kind) _ s is).0);
  }

-- ---- they agree

peer_method : (at : Bool) (one : PeerShown) (m : peer.Method)
    → option_map peer.method_of (if at then Some one else None) ≡ Some m → one.method ≡ m
peer_method true one m is = cc
peer_method false one m is = absurd cc

server_method : (at : Bool) (one : ServerShown) (m : server.Method)
    → option_map server.method_of (if at then Some one else None) ≡ Some m → one.method ≡ m
server_method true one m is = cc
server_method false one m is = absurd cc

by_methods : (ak other name : List ℕ) (m : peer.Method) (view : peer.View m) (n : server.Method)
    (state : server.View n) → peer.by_other (pax_peer ak name) ≡ m
    → server.by_other (pax_server other name) ≡ n
    → Agreeing (record { method = m; view = view }) (record { method = n; view = state })
by_methods ak other name m view n state is_peer is_server =
    subst (λ (a : peer.Method). (v : peer.View a)
    → Agreeing (record { method = a; view = v }) (record { method = n; view = state })) is_peer
    (λ v. subst (λ (b : server.Method). (w : server.View b)
    → Agreeing (peer.other (pax_peer ak name) v) (record { method = b; view = w })) is_server
    (λ w. pax_agrees ak other name v w) state) view

all_agree : (ak other name : List ℕ) → AllAgree (pax_peers ak name) (pax_servers other name)
all_agree ak other name = record {
  each = λ kind k p s began server_began. by_methods ak other name p.method p.view s.method s.view
      (peer_method (kind == pax_kind) _ p.method began)
      (server_method (k == pax_kind) _ s.method server_began);
}

pub pax_runs_agree : PaxRunsAgree
pax_runs_agree ak other name setup events allowed ordered peer_nonce server_nonce =
    methods_agree setup (pax_peers ak name) (pax_servers other name) events
    (peers_own ak name setup.peer.methods allowed)
    (servers_own other name setup.server.methods ordered) peer_nonce server_nonce
    (all_agree ak other name)
