-- What a call of a machine of RFC 4137 comes to, for the loop around it.
use Rattle.std.specs.Prelude.{List, length, ◌-◌, Bool, if◌then◌else◌, Option, Some, None, slice_get}
use Rattle.eap_packet.specs.declared.cause.Cause.{Cause}
use Rattle.eap_packet.specs.declared.state.State.{State}
use Rattle.eap_packet.specs.declared.state.State.TheVariants as state
use Rattle.eap_method.specs.declared.outcome.Outcome.{Outcome}
use Rattle.eap_method.specs.declared.outcome.Outcome.TheVariants.{Send, Discarded, Success, Failed}
use Rattle.eap_method.specs.declared.outcome.Outcome.TheVariants.{Waiting}
use Rattle.eap_method.specs.declared.values.Report.{Report}

-- the state that a call has entered last; none if it has entered none
abbrev pub entered : List State → Option State
entered path = slice_get path (length path - 1)

-- the end of a login that has this report
abbrev pub success_with : Option Report → Outcome
success_with None = Failed
success_with (Some report) = Success report

-- of a call that has entered this state last
abbrev pub outcome_in : State → Bool → Option Report → Outcome
outcome_in s sends report = elim s [
  | state.Success ↦ success_with report
  | state.Failure ↦ Failed
  | state.TimeoutFailure ↦ Failed
  | _ ↦ if sends then Send else Waiting
]

-- of a call that discards nothing
abbrev pub outcome_after : Option State → Bool → Option Report → Outcome
outcome_after None sends report = if sends then Send else Waiting
outcome_after (Some s) sends report = outcome_in s sends report

-- a discard comes before all else
abbrev pub outcome_of : Option Cause → Option State → Bool → Option Report → Outcome
outcome_of None last sends report = outcome_after last sends report
outcome_of (Some cause) last sends report = Discarded cause
