-- Why a login has failed, as far as its end can know.
use Rattle.std.specs.Prelude.{ℕ, List, if◌then◌else◌, Option, Some, None, Result, Ok}
use Rattle.eap_packet.specs.declared.cause.Cause.{Cause}
use Rattle.eap_packet.specs.declared.state.State.{State}
use Rattle.eap_packet.specs.declared.state.State.TheVariants as state
use Rattle.eap_packet.specs.Packet.{PacketValue, response}
use Rattle.eap_method.specs.Peer.{PeerShown}
use Rattle.eap_method.specs.Server.{ServerShown, server_kind}
use Rattle.end_objects.specs.Objects.{peer_object_shown, server_object_shown, peer_has_failed}
use Rattle.end_objects.specs.Objects.{is_unknown, server_has_failed}
use Rattle.end_objects.specs.declared.objects.PeerObject.{PeerObject}
use Rattle.peer_machine.specs.PeerTable.{PeerValue}
use Rattle.switch_port.specs.declared.settings.Phase.{Phase}
use Rattle.switch_port.specs.declared.settings.Phase.TheVariants as phase
use Rattle.tuvaddri_c.specs.declared.failure.TuvFailure.{TuvFailure}
use Rattle.tuvaddri_c.specs.declared.session.End.{End}
use Rattle.tuvaddri_c.specs.declared.session.End.TheVariants as ends
use Rattle.tuvaddri_c.specs.ByMethod.{repeated_by, code_by}
use Rattle.tuvaddri_c.specs.Ends.{selected_shown_of, current_shown_of}
use Rattle.tuvaddri_c.specs.PeerName.{plain_packet_of}

-- a reason, and a Failure-Code (RFC 5433 section 9.3)
abbrev pub failing : ℕ → ℕ → TuvFailure
failing reason code = record { reason = reason; code = code }

-- the reasons: it has not failed; the server doesn't know the user; it has barred him, or the peer
-- has said that it fails; a peer was refused within the method; no method in common; a Request was
-- never answered; it was ended
abbrev pub not_failed : TuvFailure
not_failed = failing 0 0

abbrev pub unknown_user : ℕ → TuvFailure
unknown_user code = failing 1 code

abbrev pub barred_user : ℕ → TuvFailure
barred_user code = failing 2 code

abbrev pub refusal : ℕ → TuvFailure
refusal code = failing 3 code

abbrev pub no_method : TuvFailure
no_method = failing 4 0

abbrev pub timed_out : TuvFailure
timed_out = failing 5 0

abbrev pub other_end : TuvFailure
other_end = failing 6 0

-- the Failure-Code in a packet of a peer
abbrev pub code_in : Result PacketValue Cause → ℕ
code_in (Ok (response id kind body)) = repeated_by kind body
code_in packet = 0

-- the Failure-Code in the packet that a peer has sent last
abbrev pub sent_code : List ℕ → ℕ
sent_code octets = code_in (plain_packet_of octets)

-- a peer: the server has refused it within the method; else this
abbrev pub peer_failure : Option PeerShown → List ℕ → TuvFailure → TuvFailure
peer_failure None sent other = other
peer_failure (Some shown) sent other =
    if peer_has_failed shown then refusal (sent_code sent) else other

-- a peer in FAILURE, without a method or with one
abbrev pub with_method : Option PeerShown → TuvFailure
with_method None = no_method
with_method (Some shown) = other_end

abbrev pub peer_ended : State → Option PeerShown → TuvFailure
peer_ended s selected = elim s [ state.Failure ↦ with_method selected | _ ↦ not_failed ]

-- a server: its user is unknown (PSK Not Found), or barred (Authorization Failure); else this
abbrev pub shown_failure : ServerShown → TuvFailure → TuvFailure
shown_failure shown other =
    if is_unknown shown then unknown_user (code_by (server_kind shown) 1)
    else if server_has_failed shown then barred_user (code_by (server_kind shown) 3)
    else other

abbrev pub server_failure : Option ServerShown → TuvFailure → TuvFailure
server_failure None other = other
server_failure (Some shown) other = shown_failure shown other

abbrev pub server_ended : State → TuvFailure
server_ended s =
    elim s [ state.TimeoutFailure ↦ timed_out | state.Failure ↦ no_method | _ ↦ not_failed ]

abbrev pub pass_ended : State → TuvFailure
pass_ended s = elim s [
  | state.TimeoutFailure ↦ timed_out
  | state.TimeoutFailure2 ↦ timed_out
  | state.Failure2 ↦ other_end
  | _ ↦ not_failed
]

-- a supplicant's peer, which has sent its lastRespData last
abbrev pub machine_failure : PeerValue PeerObject → TuvFailure
machine_failure m = peer_failure (selected_shown_of m) m.vars.last_response
    (peer_ended m.vars.state (selected_shown_of m))

-- a port in HELD: the server rejected the station
abbrev pub port_ended : Phase → TuvFailure
port_ended p = elim p [ phase.Held ↦ other_end | _ ↦ not_failed ]

-- why the login of an end, which has sent this packet last, has failed
abbrev pub end_failure : End → List ℕ → TuvFailure
end_failure ends.Closed sent = not_failed
end_failure (ends.PeerMethod object key last) sent =
    peer_failure (Some (peer_object_shown object)) sent not_failed
end_failure (ends.ServerMethod object known last) sent =
    shown_failure (server_object_shown object) not_failed
end_failure (ends.Peer m) sent =
    peer_failure (selected_shown_of m) sent (peer_ended m.vars.state (selected_shown_of m))
end_failure (ends.Server m last) sent =
    server_failure (current_shown_of m) (server_ended m.vars.state)
end_failure (ends.Backend m last) sent =
    server_failure (current_shown_of m) (server_ended m.vars.state)
end_failure (ends.Pass m last) sent = pass_ended m.state
end_failure (ends.Supplicant m last) sent = machine_failure m.peer
end_failure (ends.Port m last) sent = port_ended m.phase
