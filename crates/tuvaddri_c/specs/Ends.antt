-- Which end a session is, which calls it takes, and what it has.
use Rattle.std.specs.Prelude.{Bool, true, false, ◌&&◌, not, ⊤, Option, None, Some, map}
use Rattle.eap_method.specs.declared.values.Report.{Report}
use Rattle.eap_method.specs.Peer.{PeerShown, peer_report, peer_kinds, have_each}
use Rattle.eap_method.specs.Server.{ServerShown, server_report, server_kinds}
use Rattle.eap_method.specs.Steps.{is_end}
use Rattle.peer_machine.specs.PeerTable.{PeerValue, peer_reports, selected_shown}
use Rattle.peer_machine.specs.PeerTable as peer
use Rattle.server_machine.specs.ServerTable.{ServerValue, server_reports, current_view, is_ready}
use Rattle.server_machine.specs.ServerTable.{is_started, is_backend}
use Rattle.server_machine.specs.ServerTable as server
use Rattle.pass_through.specs.PassTable as pass
use Rattle.pass_through.specs.declared.variables.PassVariables.{PassVariables}
use Rattle.end_objects.specs.Objects.{peer_object_shown, server_object_shown, peer_nonces}
use Rattle.end_objects.specs.Objects.{server_nonces}
use Rattle.end_objects.specs.declared.objects.Nonces.{Nonces}
use Rattle.end_objects.specs.declared.objects.PeerObject.{PeerObject}
use Rattle.end_objects.specs.declared.objects.ServerObject.{ServerObject}
use Rattle.tuvaddri_c.specs.declared.session.End.{End}
use Rattle.tuvaddri_c.specs.declared.session.End.TheVariants as ends

-- if the end is a peer, this holds of it
abbrev pub IfPeer : End → (PeerValue PeerObject → Type 0) → Type 0
IfPeer e P = elim e [ ends.Peer m ↦ P m | _ ↦ ⊤ ]

-- the end is a peer, and this holds of it
abbrev pub AsPeer : End → (PeerValue PeerObject → Type 0) → Type 0
AsPeer e P = elim e [ ends.Peer m ↦ P m | _ ↦ ⊥ ]

-- if the end is a stand-alone server, this holds of it
abbrev pub IfServer : End → (ServerValue ServerObject → Type 0) → Type 0
IfServer e P = elim e [ ends.Server m last ↦ P m | _ ↦ ⊤ ]

-- the end is a stand-alone server, and this holds of it
abbrev pub AsServer : End → (ServerValue ServerObject → Type 0) → Type 0
AsServer e P = elim e [ ends.Server m last ↦ P m | _ ↦ ⊥ ]

-- if the end is a backend, this holds of it
abbrev pub IfBackend : End → (ServerValue ServerObject → Type 0) → Type 0
IfBackend e P = elim e [ ends.Backend m last ↦ P m | _ ↦ ⊤ ]

-- the end is a backend, and this holds of it
abbrev pub AsBackend : End → (ServerValue ServerObject → Type 0) → Type 0
AsBackend e P = elim e [ ends.Backend m last ↦ P m | _ ↦ ⊥ ]

-- if the end is a pass-through, this holds of it
abbrev pub IfPass : End → (PassVariables → Type 0) → Type 0
IfPass e P = elim e [ ends.Pass m last ↦ P m | _ ↦ ⊤ ]

-- the end is a pass-through, and this holds of it
abbrev pub AsPass : End → (PassVariables → Type 0) → Type 0
AsPass e P = elim e [ ends.Pass m last ↦ P m | _ ↦ ⊥ ]

-- whether octets may come: to a peer, to a backend, and to a server that has started
abbrev pub receives_octets : End → Bool
receives_octets e = elim e [
  | ends.Peer m ↦ true
  | ends.Server m last ↦ is_ready m.vars
  | ends.Backend m last ↦ true
  | _ ↦ false
]

-- whether Responses may come: to a backend, and to a server that has started
abbrev pub receives_responses : End → Bool
receives_responses e =
    elim e [ ends.Server m last ↦ is_ready m.vars | ends.Backend m last ↦ true | _ ↦ false ]

-- whether the end is a peer
abbrev pub is_peer : End → Bool
is_peer e = elim e [ ends.Peer m ↦ true | _ ↦ false ]

-- whether the end is a peer, a peer's method or a supplicant
abbrev pub is_at_peer : End → Bool
is_at_peer e = elim e [
  | ends.Peer m ↦ true
  | ends.PeerMethod object key last ↦ true
  | ends.Supplicant m last ↦ true
  | _ ↦ false
]

-- whether the lower layer may report to the peer: it has not ended
abbrev pub is_running_peer : End → Bool
is_running_peer e = elim e [ ends.Peer m ↦ not (is_end m.vars.state) | _ ↦ false ]

-- whether a server may start: it has not yet
abbrev pub can_start : End → Bool
can_start e =
    elim e [ ends.Server m last ↦ not (is_started m.vars) && not (is_backend m.vars) | _ ↦ false ]

-- whether a server's retransmission timer runs
abbrev pub has_timer : End → Bool
has_timer e = elim e [ ends.Server m last ↦ server.has_timer m.vars | _ ↦ false ]

-- whether each method of a peer's settings has an object; of a server's
abbrev pub peer_has_objects : PeerValue PeerObject → Bool
peer_has_objects m = have_each (peer_kinds (map peer_object_shown m.methods)) m.vars.setup.methods

abbrev pub server_has_objects : ServerValue ServerObject → Bool
server_has_objects m =
    have_each (server_kinds (map server_object_shown m.methods)) m.vars.setup.methods

-- whether an end may begin a new conversation: a peer, a stand-alone server, also before its start,
-- or a backend
abbrev pub can_restart : End → Bool
can_restart e = elim e [
  | ends.Peer m ↦ peer_has_objects m
  | ends.Server m last ↦ server_has_objects m
  | ends.Backend m last ↦ server_has_objects m
  | _ ↦ false
]

-- the same of a peer alone; of a server alone
abbrev pub can_restart_peer : End → Bool
can_restart_peer e = elim e [ ends.Peer m ↦ peer_has_objects m | _ ↦ false ]

abbrev pub can_restart_server : End → Bool
can_restart_server e = elim e [
  | ends.Server m last ↦ server_has_objects m
  | ends.Backend m last ↦ server_has_objects m
  | _ ↦ false
]

-- whether the end is a pass-through; one that may start; one whose retransmission timer runs; one
-- that waits for the backend
abbrev pub is_pass : End → Bool
is_pass e = elim e [ ends.Pass m last ↦ true | _ ↦ false ]

abbrev pub can_start_pass : End → Bool
can_start_pass e = elim e [ ends.Pass m last ↦ not (pass.is_started m.state) | _ ↦ false ]

abbrev pub has_timer_pass : End → Bool
has_timer_pass e = elim e [ ends.Pass m last ↦ pass.has_timer m.state | _ ↦ false ]

abbrev pub waits_for_backend : End → Bool
waits_for_backend e = elim e [ ends.Pass m last ↦ pass.is_aaa_idle m.state | _ ↦ false ]

-- what a peer's selected method shows, and a server's current one
abbrev pub selected_shown_of : PeerValue PeerObject → Option PeerShown
selected_shown_of m = selected_shown m.vars.selected (map peer_object_shown m.methods)

abbrev pub current_shown_of : ServerValue ServerObject → Option ServerShown
current_shown_of m = current_view (server.now_of server_object_shown m)

-- the report of a method that succeeded
abbrev pub end_reports : End → Option Report
end_reports ends.Closed = None
end_reports (ends.PeerMethod object key last) = peer_report (peer_object_shown object)
end_reports (ends.ServerMethod object known last) = server_report (server_object_shown object)
end_reports (ends.Peer m) = peer_reports (peer.now_of peer_object_shown m)
end_reports (ends.Server m last) = server_reports (server.now_of server_object_shown m)
end_reports (ends.Backend m last) = server_reports (server.now_of server_object_shown m)
end_reports (ends.Pass m last) = None
end_reports (ends.Supplicant m last) = peer_reports (peer.now_of peer_object_shown m.peer)
end_reports (ends.Port m last) = None

-- its nonces
abbrev pub nonces_of_peer : Option PeerShown → Option Nonces
nonces_of_peer None = None
nonces_of_peer (Some shown) = peer_nonces shown

abbrev pub nonces_of_server : Option ServerShown → Option Nonces
nonces_of_server None = None
nonces_of_server (Some shown) = server_nonces shown

abbrev pub end_nonces : End → Option Nonces
end_nonces ends.Closed = None
end_nonces (ends.PeerMethod object key last) = peer_nonces (peer_object_shown object)
end_nonces (ends.ServerMethod object known last) = server_nonces (server_object_shown object)
end_nonces (ends.Peer m) = nonces_of_peer (selected_shown_of m)
end_nonces (ends.Server m last) = nonces_of_server (current_shown_of m)
end_nonces (ends.Backend m last) = nonces_of_server (current_shown_of m)
end_nonces (ends.Pass m last) = None
end_nonces (ends.Supplicant m last) = nonces_of_peer (selected_shown_of m.peer)
end_nonces (ends.Port m last) = None
