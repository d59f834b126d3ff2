-- Laws of the pass-through (RFC 4137 section 7), over its table alone.
use Rattle.std.specs.Prelude.{◌≡◌, ℕ, List, true, Option, Some, None, IsSome}
use Rattle.pass_through.specs.Inputs.{PassInput, start, timeout, from_peer, from_backend, restart}
use Rattle.pass_through.specs.Inputs.{pass_accepts}
use Rattle.pass_through.specs.PassTable.{Side, Peer, Server, PassAnswer, identity_request}
use Rattle.pass_through.specs.PassTable.{without_padding, is_over}
use Rattle.pass_through.specs.declared.variables.PassVariables.{PassVariables}

-- no variable changed, and nothing was sent
pub record PreservesThePassThrough (before : PassVariables) (out : PassAnswer) : Type 0 where
  pub all : out.after ≡ before
  pub sent : out.step.sent ≡ None

-- a discard changes nothing
abbrev pub DiscardsChangeNothing : Type 0
DiscardsChangeNothing =
    (vars : PassVariables) (input : PassInput) → IsSome (pass_accepts vars input).step.cause
    → PreservesThePassThrough vars (pass_accepts vars input)

-- the origin of what is sent to a side: the pass-through's own Identity Request; the Request that
-- it sent last, again; or the delivery that it answers, without its padding, on its way to the
-- other side
pub data IsSentOn (vars : PassVariables) : PassInput → Side → Option (List ℕ) → Type 0 where
  nothing : (input : PassInput) (to : Side) → IsSentOn vars input to None
  own : IsSentOn vars start Peer (Some (identity_request vars.first_id))
  own_again : IsSentOn vars restart Peer (Some (identity_request vars.first_id))
  again : IsSentOn vars timeout Peer (Some vars.last_request)
  onwards : (octets : List ℕ)
      → IsSentOn vars (from_peer octets) Server (Some (without_padding octets))
  back : (octets : List ℕ)
      → IsSentOn vars (from_backend octets) Peer (Some (without_padding octets))

-- what is stored for the timer is what was sent to the peer last, but for a Success or a Failure,
-- after which nothing is sent
pub data PreservesTheLast (before after : PassVariables) : Side → Option (List ℕ) → Type 0 where
  unsent : (to : Side) (same : after.last_request ≡ before.last_request)
      → PreservesTheLast before after to None
  unkept : (octets : List ℕ) (same : after.last_request ≡ before.last_request)
      → PreservesTheLast before after Server (Some octets)
  kept : (octets : List ℕ) (is_last : after.last_request ≡ octets)
      → PreservesTheLast before after Peer (Some octets)
  last : (octets : List ℕ) (over : is_over after.state ≡ true)
      → PreservesTheLast before after Peer (Some octets)

pub record Carries (vars : PassVariables) (input : PassInput) (out : PassAnswer) : Type 0 where
  pub sent_on : IsSentOn vars input out.step.to out.step.sent
  pub keeps : PreservesTheLast vars out.after out.step.to out.step.sent

-- what is sent is what came, or was sent before, or is the Identity Request
abbrev pub SendsOnlyReceived : Type 0
SendsOnlyReceived =
    (vars : PassVariables) (input : PassInput) → Carries vars input (pass_accepts vars input)
