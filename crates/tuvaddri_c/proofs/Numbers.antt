-- The numbers of causes, states, methodState and decision are those of their declarations.
use Rattle.std.proofs.Common.{◌≡◌, refl}
use denote.Enum.Declared.{tag_of}
use Rattle.eap_packet.specs.contracts.cause.Cause as cause_type
use Rattle.eap_packet.specs.contracts.state.State as state_type
use Rattle.eap_packet.specs.declared.cause.Cause.{Cause}
use Rattle.eap_packet.specs.declared.cause.Cause.TheVariants as cause
use Rattle.eap_packet.specs.declared.state.State.{State}
use Rattle.eap_packet.specs.declared.state.State.TheVariants as state
use Rattle.eap_method.specs.contracts.values.MethodState as method_type
use Rattle.eap_method.specs.contracts.values.Decision as decision_type
use Rattle.eap_method.specs.declared.values.MethodState.{MethodState}
use Rattle.eap_method.specs.declared.values.MethodState.TheVariants as method
use Rattle.eap_method.specs.declared.values.Decision.{Decision}
use Rattle.eap_method.specs.declared.values.Decision.TheVariants as decision
use Rattle.tuvaddri_c.specs.Turns.{cause_number, state_number}
use Rattle.tuvaddri_c.specs.Methods.{method_number, decision_number}

pub cause_tag : (c : Cause) → tag_of cause_type.the_type c ≡ cause_number c
unfolding cause_number
cause_tag cause.Short = refl
cause_tag cause.BadCode = refl
cause_tag cause.BadLength = refl
cause_tag cause.Truncated = refl
cause_tag cause.TooLong = refl
cause_tag cause.NakRequest = refl
cause_tag cause.BadNak = refl
cause_tag cause.WrongRole = refl
cause_tag cause.BadExpanded = refl
cause_tag cause.NotAllowed = refl
cause_tag cause.MethodDone = refl
cause_tag cause.OtherMethod = refl
cause_tag cause.IdMismatch = refl
cause_tag cause.EarlySuccess = refl
cause_tag cause.LateFailure = refl
cause_tag cause.EarlyFailure = refl
cause_tag cause.WrongMethod = refl
cause_tag cause.NotWaiting = refl
cause_tag cause.Ended = refl
cause_tag cause.GpskShape = refl
cause_tag cause.ListTooLong = refl
cause_tag cause.PskShape = refl
cause_tag cause.WrongOp = refl
cause_tag cause.UnknownServer = refl
cause_tag cause.NoSuite = refl
cause_tag cause.FieldMismatch = refl
cause_tag cause.SuiteNotOffered = refl
cause_tag cause.BadNonce = refl
cause_tag cause.BadTag = refl
cause_tag cause.BadResult = refl
cause_tag cause.Extended = refl

pub state_tag : (s : State) → tag_of state_type.the_type s ≡ state_number s
unfolding state_number
state_tag state.Initialize = refl
state_tag state.Idle = refl
state_tag state.Received = refl
state_tag state.GetMethod = refl
state_tag state.Method = refl
state_tag state.Identity = refl
state_tag state.Notification = refl
state_tag state.Retransmit = refl
state_tag state.SendResponse = refl
state_tag state.Discard = refl
state_tag state.Success = refl
state_tag state.Failure = refl
state_tag state.SelectAction = refl
state_tag state.ProposeMethod = refl
state_tag state.MethodRequest = refl
state_tag state.SendRequest = refl
state_tag state.Nak = refl
state_tag state.IntegrityCheck = refl
state_tag state.MethodResponse = refl
state_tag state.TimeoutFailure = refl
state_tag state.PickUpMethod = refl
state_tag state.InitializePassthrough = refl
state_tag state.AaaRequest = refl
state_tag state.AaaIdle = refl
state_tag state.AaaResponse = refl
state_tag state.SendRequest2 = refl
state_tag state.Idle2 = refl
state_tag state.Received2 = refl
state_tag state.Retransmit2 = refl
state_tag state.Discard2 = refl
state_tag state.Success2 = refl
state_tag state.Failure2 = refl
state_tag state.TimeoutFailure2 = refl

pub method_tag : (m : MethodState) → tag_of method_type.the_type m ≡ method_number m
method_tag method.NotSet = refl
method_tag method.Init = refl
method_tag method.Cont = refl
method_tag method.MayCont = refl
method_tag method.Done = refl

pub decision_tag : (d : Decision) → tag_of decision_type.the_type d ≡ decision_number d
decision_tag decision.Fail = refl
decision_tag decision.CondSucc = refl
decision_tag decision.UncondSucc = refl
