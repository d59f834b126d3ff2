-- What one call of a machine of RFC 4137 does, seen from outside.
use Rattle.std.specs.Prelude.{ℕ, List, Bool, true, false, if◌then◌else◌, Option, Some, None}
use Rattle.eap_packet.specs.declared.cause.Cause.{Cause}
use Rattle.eap_packet.specs.declared.state.State.{State}
use Rattle.eap_packet.specs.declared.state.State.TheVariants as state
use Rattle.eap_method.specs.declared.step.Step as brief
use Rattle.eap_method.specs.Tags.{Tags, no_tags}

-- what one call does, with what it writes: the states that it enters, the cause of a discard, the
-- packet that it sends, the records of the tags accepted and made
pub record Step : Type 0 where
  pub path : List State
  pub cause : Option Cause
  pub sent : Option (List ℕ)
  pub tags : Tags

-- the step of a call that answers so, with the packet and the records that it wrote
abbrev pub step_with : brief.Step → List ℕ → Tags → Step
step_with step packet tags =
    record {
      path = step.path;
      cause = step.cause;
      sent = if step.sends then Some packet else None;
      tags = tags;
    }

-- the states entered, the octets sent, and the records
abbrev pub sends : List State → List ℕ → Tags → Step
sends path octets tags = record { path = path; cause = None; sent = Some octets; tags = tags }

-- the states entered, and nothing sent
abbrev pub enters : List State → Tags → Step
enters path tags = record { path = path; cause = None; sent = None; tags = tags }

-- a discard
abbrev pub discards : List State → Cause → Step
discards path cause = record { path = path; cause = Some cause; sent = None; tags = no_tags }

-- whether a party has ended
abbrev pub is_end : State → Bool
is_end s =
    elim s [ state.Success ↦ true | state.Failure ↦ true | state.TimeoutFailure ↦ true | _ ↦ false ]
