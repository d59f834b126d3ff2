-- What a machine has is what the object of its current method has.
use Rattle.std.proofs.Common.{◌≡◌, ℕ, Option, Some, None, refl, sym, subst}
use Rattle.eap_method.specs.Peer as peers
use Rattle.eap_method.specs.Peer.{PeerShown, PeerViews}
use Rattle.eap_method.specs.Server as servers
use Rattle.eap_method.specs.Server.{ServerShown, ServerViews}
use Rattle.eap_method.specs.declared.values.Report.{Report}
use Rattle.end_objects.specs.Objects.{peer_object_shown, server_object_shown}
use Rattle.end_objects.specs.declared.objects.PeerObject.{PeerObject}
use Rattle.end_objects.specs.declared.objects.ServerObject.{ServerObject}
use Rattle.peer_machine.specs.PeerTable as peer
use Rattle.peer_machine.specs.PeerTable.{PeerValue}
use Rattle.server_machine.specs.ServerTable as server
use Rattle.server_machine.specs.ServerTable.{ServerValue}
use Rattle.tuvaddri_c.specs.Ends.{nonces_of_peer, nonces_of_server, selected_shown_of}
use Rattle.tuvaddri_c.specs.Ends.{current_shown_of}
use Rattle.tuvaddri_c.specs.Reports.{both, peer_stored, server_stored}

nothing_stored : (report : Option Report) → both report None ≡ None
nothing_stored None = refl
nothing_stored (Some report) = refl

peer_reported : (views : PeerViews) (selected : Option ℕ) → peer.selected_report views selected
    ≡ peers.reported (peer.selected_of views selected)
unfolding peers.peer_report_of
peer_reported views None = refl
peer_reported views (Some kind) = refl

server_reported : (views : ServerViews) (current : Option ℕ) → server.current_report views current
    ≡ servers.reported (server.current_of views current)
unfolding servers.server_report_of
server_reported views None = refl
server_reported views (Some kind) = refl

pub of_peer : (m : PeerValue PeerObject) (seen : Option PeerShown) → seen ≡ selected_shown_of m
    → ((shown : PeerShown) → seen ≡ Some shown
    → peer.selected_view (peer.now_of peer_object_shown m) ≡ Some shown)
    → both (peer.peer_reports (peer.now_of peer_object_shown m)) (nonces_of_peer
    (selected_shown_of m)) ≡ peer_stored seen
of_peer m None selected view =
    rw (sym selected) (nothing_stored (peer.peer_reports (peer.now_of peer_object_shown m)))
of_peer m (Some shown) selected view =
    let now = peer.now_of peer_object_shown m in
    rw (sym selected, peer_reported now.views now.vars.selected, view shown refl) refl

-- the same of a supplicant's peer, as a borrow of it shows
pub of_peer_at : (m at : PeerValue PeerObject) (seen : Option PeerShown) → at ≡ m
    → seen ≡ selected_shown_of at
    → ((shown : PeerShown) → seen ≡ Some shown
    → peer.selected_view (peer.now_of peer_object_shown at) ≡ Some shown)
    → both (peer.peer_reports (peer.now_of peer_object_shown m)) (nonces_of_peer
    (selected_shown_of m)) ≡ peer_stored seen
of_peer_at m at seen is selected view = subst (λ (it : PeerValue PeerObject).
    both (peer.peer_reports (peer.now_of peer_object_shown it)) (nonces_of_peer
    (selected_shown_of it)) ≡ peer_stored seen) is (of_peer at seen selected view)

pub of_server : (m : ServerValue ServerObject) (seen : Option ServerShown)
    → seen ≡ current_shown_of m
    → both (server.server_reports (server.now_of server_object_shown m)) (nonces_of_server
    (current_shown_of m)) ≡ server_stored seen
of_server m None current =
    rw (sym current) (nothing_stored (server.server_reports (server.now_of server_object_shown m)))
of_server m (Some shown) current =
    let now = server.now_of server_object_shown m in
    rw (server_reported now.views now.vars.current, sym current) refl
