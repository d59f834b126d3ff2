-- The result of a call, as numbers.
use Rattle.std.specs.Prelude.{◌≡◌, ℕ, Bool, true, false, Option, Some, None}
use Rattle.eap_packet.specs.declared.cause.Cause.{Cause}
use Rattle.eap_packet.specs.declared.cause.Cause.TheVariants as cause
use Rattle.eap_packet.specs.declared.state.State.{State}
use Rattle.eap_packet.specs.declared.state.State.TheVariants as state
use Rattle.eap_method.specs.declared.step.Step as brief
use Rattle.eap_method.specs.Steps.{Step}
use Rattle.eap_method.specs.Tags.{no_tags}
use Rattle.peer_machine.specs.PeerTable.{PeerValue, PeerAnswer}
use Rattle.peer_machine.specs.PeerTable as peer
use Rattle.server_machine.specs.ServerTable.{ServerValue, ServerAnswer}
use Rattle.server_machine.specs.ServerTable as server
use Rattle.pass_through.specs.PassTable.{PassStep, PassAnswer}
use Rattle.pass_through.specs.declared.variables.PassVariables.{PassVariables}
use Rattle.end_objects.specs.Objects.{peer_object_shown, server_object_shown}
use Rattle.end_objects.specs.declared.objects.PeerObject.{PeerObject}
use Rattle.end_objects.specs.declared.objects.ServerObject.{ServerObject}
use Rattle.tuvaddri_c.specs.declared.session.Session.{Session}
use Rattle.tuvaddri_c.specs.declared.turn.TuvTurn.{TuvTurn}
use Rattle.tuvaddri_c.specs.Sent.{Sent, after_turn, session_after_silence}

-- the number of a cause, in the order of its declaration
unfoldable pub cause_number : Cause → ℕ
cause_number cause.Short = 0
cause_number cause.BadCode = 1
cause_number cause.BadLength = 2
cause_number cause.Truncated = 3
cause_number cause.TooLong = 4
cause_number cause.NakRequest = 5
cause_number cause.BadNak = 6
cause_number cause.WrongRole = 7
cause_number cause.BadExpanded = 8
cause_number cause.NotAllowed = 9
cause_number cause.MethodDone = 10
cause_number cause.OtherMethod = 11
cause_number cause.IdMismatch = 12
cause_number cause.EarlySuccess = 13
cause_number cause.LateFailure = 14
cause_number cause.EarlyFailure = 15
cause_number cause.WrongMethod = 16
cause_number cause.NotWaiting = 17
cause_number cause.Ended = 18
cause_number cause.GpskShape = 19
cause_number cause.ListTooLong = 20
cause_number cause.PskShape = 21
cause_number cause.WrongOp = 22
cause_number cause.UnknownServer = 23
cause_number cause.NoSuite = 24
cause_number cause.FieldMismatch = 25
cause_number cause.SuiteNotOffered = 26
cause_number cause.BadNonce = 27
cause_number cause.BadTag = 28
cause_number cause.BadResult = 29
cause_number cause.Extended = 30

-- the number of a state, in the order of its declaration
unfoldable pub state_number : State → ℕ
state_number state.Initialize = 0
state_number state.Idle = 1
state_number state.Received = 2
state_number state.GetMethod = 3
state_number state.Method = 4
state_number state.Identity = 5
state_number state.Notification = 6
state_number state.Retransmit = 7
state_number state.SendResponse = 8
state_number state.Discard = 9
state_number state.Success = 10
state_number state.Failure = 11
state_number state.SelectAction = 12
state_number state.ProposeMethod = 13
state_number state.MethodRequest = 14
state_number state.SendRequest = 15
state_number state.Nak = 16
state_number state.IntegrityCheck = 17
state_number state.MethodResponse = 18
state_number state.TimeoutFailure = 19
state_number state.PickUpMethod = 20
state_number state.InitializePassthrough = 21
state_number state.AaaRequest = 22
state_number state.AaaIdle = 23
state_number state.AaaResponse = 24
state_number state.SendRequest2 = 25
state_number state.Idle2 = 26
state_number state.Received2 = 27
state_number state.Retransmit2 = 28
state_number state.Discard2 = 29
state_number state.Success2 = 30
state_number state.Failure2 = 31
state_number state.TimeoutFailure2 = 32

abbrev pub is_some : {A : Type 0} → Option A → Bool
is_some None = false
is_some (Some x) = true

abbrev pub number_of_cause : Option Cause → ℕ
number_of_cause None = 0
number_of_cause (Some c) = cause_number c

-- a call that has no place
abbrev pub no_turn : TuvTurn
no_turn = record { sends = false; discards = false; misplaced = true; cause = 0; state = 0 }

-- a call that has no place says so, and changes nothing
pub record IsMisplaced (before : Session) (turn : TuvTurn) (after : Session) : Type 0 where
  pub turn_is : turn ≡ no_turn
  pub same : after ≡ session_after_silence before

-- the result of a step, as the machine says it
abbrev pub turn_of : brief.Step → State → TuvTurn
turn_of step s =
    record {
      sends = step.sends;
      discards = is_some step.cause;
      misplaced = false;
      cause = number_of_cause step.cause;
      state = state_number s;
    }

-- the result of a step of a table
abbrev pub turn_of_table : Step → State → TuvTurn
turn_of_table step s =
    record {
      sends = is_some step.sent;
      discards = is_some step.cause;
      misplaced = false;
      cause = number_of_cause step.cause;
      state = state_number s;
    }

-- the call answers what the peer's table says, sends the packet that it says, and leaves the
-- machine after it
pub record PeerDoes (row : PeerAnswer) (before : Sent) (turn : TuvTurn) (sent : Sent)
    (after : PeerValue PeerObject) : Type 0 where
  pub turn_is : turn ≡ turn_of_table row.step row.after.vars.state
  pub sent_is : sent ≡ after_turn row.step.sent before
  pub machine : row.after ≡ peer.now_of peer_object_shown after

-- the same of a server's
pub record ServerDoes (row : ServerAnswer) (before : Sent) (turn : TuvTurn) (sent : Sent)
    (after : ServerValue ServerObject) : Type 0 where
  pub turn_is : turn ≡ turn_of_table row.step row.after.vars.state
  pub sent_is : sent ≡ after_turn row.step.sent before
  pub machine : row.after ≡ server.now_of server_object_shown after

-- the result of a step of the pass-through, whichever side it sends to
abbrev pub pass_result : PassStep → State → TuvTurn
pass_result step s = turn_of_table
    (record { path = step.path; cause = step.cause; sent = step.sent; tags = no_tags }) s

-- the same of a pass-through's
pub record PassDoes (row : PassAnswer) (before : Sent) (turn : TuvTurn) (sent : Sent)
    (after : PassVariables) : Type 0 where
  pub turn_is : turn ≡ pass_result row.step row.after.state
  pub sent_is : sent ≡ after_turn row.step.sent before
  pub machine : row.after ≡ after
