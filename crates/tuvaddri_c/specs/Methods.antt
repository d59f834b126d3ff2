-- The methods alone: which one a session has, and the result of a call of it, as numbers.
use Rattle.std.specs.Prelude.{◌≡◌, ℕ, List, Bool, true, false, ⊤, ◌==◌, if◌then◌else◌, Option, Some}
use Rattle.std.specs.Prelude.{None, Result, Ok, Err}
use Rattle.eap_packet.specs.Packet.{PacketValue, request, response, success, failure, spelled}
use Rattle.eap_packet.specs.declared.cause.Cause.{Cause}
use Rattle.eap_packet.specs.declared.cause.Cause.TheVariants as cause
use Rattle.eap_method.specs.declared.values.MethodState.{MethodState}
use Rattle.eap_method.specs.declared.values.MethodState.TheVariants as method
use Rattle.eap_method.specs.declared.values.Decision.{Decision}
use Rattle.eap_method.specs.declared.values.Decision.TheVariants as decision
use Rattle.eap_method.specs.Peer.{PeerShown}
use Rattle.eap_method.specs.PeerTurn.{PeerTurn}
use Rattle.eap_method.specs.PeerTurn as peer_turn
use Rattle.eap_method.specs.Server.{ServerShown}
use Rattle.eap_method.specs.ServerTurn.{ServerTurn}
use Rattle.eap_method.specs.ServerTurn as server_turn
use Rattle.eap_method.specs.Turns.{PeerOutcome, ServerOutcome}
use Rattle.eap_method.specs.declared.turn.PeerAnswer as peer_briefs
use Rattle.eap_method.specs.declared.turn.PeerAnswer.TheVariants as peer_answer
use Rattle.eap_method.specs.declared.turn.ServerAnswer as server_briefs
use Rattle.eap_method.specs.declared.turn.ServerAnswer.TheVariants as server_answer
use Rattle.end_objects.specs.Objects.{peer_object_shown, server_object_shown}
use Rattle.tuvaddri_c.specs.Turns.{cause_number}
use Rattle.tuvaddri_c.specs.declared.method_turn.TuvMethodTurn.{TuvMethodTurn}
use Rattle.end_objects.specs.declared.objects.PeerObject.{PeerObject}
use Rattle.end_objects.specs.declared.objects.ServerObject.{ServerObject}
use Rattle.tuvaddri_c.specs.declared.session.End.{End}
use Rattle.tuvaddri_c.specs.declared.session.CheckedUsers.{CheckedUsers}
use Rattle.tuvaddri_c.specs.declared.session.Session.{Session}
use Rattle.tuvaddri_c.specs.Sent.{Sent, after_turn, session_after_silence}
use Rattle.tuvaddri_c.specs.declared.session.End.TheVariants as ends

-- if the session has a peer's method, this holds of it and its key
abbrev pub IfPeerMethod : End → (PeerObject → List ℕ → Type 0) → Type 0
IfPeerMethod e P = elim e [ ends.PeerMethod o key last ↦ P o key | _ ↦ ⊤ ]

-- the session has a peer's method, and this holds of it and its key
abbrev pub AsPeerMethod : End → (PeerObject → List ℕ → Type 0) → Type 0
AsPeerMethod e P = elim e [ ends.PeerMethod o key last ↦ P o key | _ ↦ ⊥ ]

-- if the session has a server's method, this holds of it and its users
abbrev pub IfServerMethod : End → (ServerObject → CheckedUsers → Type 0) → Type 0
IfServerMethod e P = elim e [ ends.ServerMethod o users last ↦ P o users | _ ↦ ⊤ ]

-- the session has a server's method, and this holds of it and its users
abbrev pub AsServerMethod : End → (ServerObject → CheckedUsers → Type 0) → Type 0
AsServerMethod e P = elim e [ ends.ServerMethod o users last ↦ P o users | _ ↦ ⊥ ]

-- the numbers of methodState and of decision, in the order of their declarations
abbrev pub method_number : MethodState → ℕ
method_number method.NotSet = 0
method_number method.Init = 1
method_number method.Cont = 2
method_number method.MayCont = 3
method_number method.Done = 4

abbrev pub decision_number : Decision → ℕ
decision_number decision.Fail = 0
decision_number decision.CondSucc = 1
decision_number decision.UncondSucc = 2

-- a call that has no place
abbrev pub no_method_turn : TuvMethodTurn
no_method_turn = record {
  sends = false;
  discards = false;
  misplaced = true;
  cause = 0;
  state = 0;
  decision = 0;
}

-- what came is discarded
abbrev pub discarding : Cause → TuvMethodTurn
discarding c = record {
  sends = false;
  discards = true;
  misplaced = false;
  cause = cause_number c;
  state = 0;
  decision = 0;
}

-- what came is taken, and a packet is sent or not, with this methodState and decision
abbrev pub taking : Bool → ℕ → ℕ → TuvMethodTurn
taking sends m d = record {
  sends = sends;
  discards = false;
  misplaced = false;
  cause = 0;
  state = m;
  decision = d;
}

-- a packet is sent, with this methodState and decision
abbrev pub replying : ℕ → ℕ → TuvMethodTurn
replying m d = taking true m d

-- a server's method is over, methodState DONE (4), with this decision
abbrev pub method_done : ℕ → TuvMethodTurn
method_done d = taking false 4 d

-- a call that has no place says so, and changes nothing
pub record IsMisplaced (before : Session) (turn : TuvMethodTurn) (after : Session) : Type 0 where
  pub turn_is : turn ≡ no_method_turn
  pub same : after ≡ session_after_silence before

-- what came is discarded, and changes nothing
pub record IsDiscarded (c : Cause) (before : Session) (turn : TuvMethodTurn)
    (after : Session) : Type 0 where
  pub turn_is : turn ≡ discarding c
  pub same : after ≡ session_after_silence before

-- the result of a peer's turn
abbrev pub peer_result : PeerTurn → TuvMethodTurn
peer_result (peer_turn.Discard c) = discarding c
peer_result (peer_turn.Reply packet m d tags) = replying (method_number m) (decision_number d)

-- the packet of the turn, if it has one
abbrev pub reply_of : PeerTurn → Option (List ℕ)
reply_of (peer_turn.Discard c) = None
reply_of (peer_turn.Reply packet m d tags) = Some packet

-- the result of a server's turn: methodState CONT (2) or DONE (4), and decision FAIL (0) or
-- UNCOND_SUCC (2)
abbrev pub server_result : ServerTurn → TuvMethodTurn
server_result (server_turn.Discard c) = discarding c
server_result (server_turn.Request packet tags) = replying 2 0
server_result (server_turn.Done true tags) = method_done 2
server_result (server_turn.Done false tags) = method_done 0

abbrev pub request_of : ServerTurn → Option (List ℕ)
request_of (server_turn.Discard c) = None
request_of (server_turn.Request packet tags) = Some packet
request_of (server_turn.Done well tags) = None

-- the result of a turn, as the method says it
abbrev pub peer_brief : peer_briefs.PeerAnswer → TuvMethodTurn
peer_brief (peer_answer.Discard c) = discarding c
peer_brief (peer_answer.Reply m d) = replying (method_number m) (decision_number d)

abbrev pub server_brief : server_briefs.ServerAnswer → TuvMethodTurn
server_brief (server_answer.Discard c) = discarding c
server_brief server_answer.Request = replying 2 0
server_brief (server_answer.Done true) = method_done 2
server_brief (server_answer.Done false) = method_done 0

-- the call does what the method's definition says
pub record PeerTurns (out : PeerOutcome PeerShown) (before : Sent) (turn : TuvMethodTurn)
    (sent : Sent) (after : PeerObject) : Type 0 where
  pub turn_is : turn ≡ peer_result out.turn
  pub sent_is : sent ≡ after_turn (reply_of out.turn) before
  pub object : out.after ≡ peer_object_shown after

pub record ServerTurns (out : ServerOutcome ServerShown) (before : Sent) (turn : TuvMethodTurn)
    (sent : Sent) (after : ServerObject) : Type 0 where
  pub turn_is : turn ≡ server_result out.turn
  pub sent_is : sent ≡ after_turn (request_of out.turn) before
  pub object : out.after ≡ server_object_shown after

-- the octets of the Request of this Type with which octets begin, or why they are discarded
abbrev pub request_in : ℕ → Result PacketValue Cause → Result (List ℕ) Cause
request_in kind (Err c) = Err c
request_in kind (Ok (request id other body)) =
    if other == kind then Ok (spelled (request id other body)) else Err cause.OtherMethod
request_in kind (Ok (response id other body)) = Err cause.WrongRole
request_in kind (Ok (success id)) = Err cause.WrongRole
request_in kind (Ok (failure id)) = Err cause.WrongRole

-- the octets of the Response of this Type with which octets begin, or why they are discarded
abbrev pub response_in : ℕ → Result PacketValue Cause → Result (List ℕ) Cause
response_in kind (Err c) = Err c
response_in kind (Ok (request id other body)) = Err cause.WrongRole
response_in kind (Ok (response id other body)) =
    if other == kind then Ok (spelled (response id other body)) else Err cause.WrongMethod
response_in kind (Ok (success id)) = Err cause.WrongRole
response_in kind (Ok (failure id)) = Err cause.WrongRole

-- whether the session has a peer's method; a server's method
abbrev pub is_peer_method : End → Bool
is_peer_method e = elim e [ ends.PeerMethod o key last ↦ true | _ ↦ false ]

abbrev pub is_server_method : End → Bool
is_server_method e = elim e [ ends.ServerMethod o users last ↦ true | _ ↦ false ]
