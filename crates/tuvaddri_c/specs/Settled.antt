-- The states in which an end stands between two calls (RFC 4137 sections 4 to 7): all others it
-- passes through within one.
use Rattle.std.specs.Prelude.{Bool, true, false}
use Rattle.eap_packet.specs.declared.state.State.{State}
use Rattle.eap_packet.specs.declared.state.State.TheVariants as state
use Rattle.tuvaddri_c.specs.declared.session.End.{End}
use Rattle.tuvaddri_c.specs.declared.session.End.TheVariants as ends

-- a peer waits for a packet, or has ended
abbrev pub peer_settled : State → Bool
peer_settled s =
    elim s [ state.Idle ↦ true | state.Success ↦ true | state.Failure ↦ true | _ ↦ false ]

-- a server has not started, waits for a Response, or has ended
abbrev pub server_settled : State → Bool
server_settled s = elim s [
  | state.Initialize ↦ true
  | state.Idle ↦ true
  | state.Success ↦ true
  | state.Failure ↦ true
  | state.TimeoutFailure ↦ true
  | _ ↦ false
]

-- a pass-through has not started, waits for the peer or for the backend, or has ended
abbrev pub pass_settled : State → Bool
pass_settled s = elim s [
  | state.Initialize ↦ true
  | state.Idle ↦ true
  | state.TimeoutFailure ↦ true
  | state.AaaIdle ↦ true
  | state.Idle2 ↦ true
  | state.Success2 ↦ true
  | state.Failure2 ↦ true
  | state.TimeoutFailure2 ↦ true
  | _ ↦ false
]

-- an end stands in such a state; a closed end and a method alone have none
abbrev pub is_settled : End → Bool
is_settled e = elim e [
  | ends.Peer m ↦ peer_settled m.vars.state
  | ends.Server m last ↦ server_settled m.vars.state
  | ends.Backend m last ↦ server_settled m.vars.state
  | ends.Pass m last ↦ pass_settled m.state
  | _ ↦ true
]
