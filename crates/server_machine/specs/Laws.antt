-- Laws of the server (RFC 4137 section 5), over its table alone.
use Rattle.std.specs.Prelude.{◌≡◌, None, IsSome, true}
use Rattle.eap_method.specs.Tags.{no_tags}
use Rattle.server_machine.specs.Inputs.{ServerInput, server_accepts}
use Rattle.server_machine.specs.ServerTable.{ServerNow, ServerAnswer, is_ready}
use Rattle.server_machine.specs.Variables.{ServerVariables}

-- no variable and no view of a method changed, nothing was sent, and no tag was accepted or made
pub record PreservesTheServer (before : ServerNow) (out : ServerAnswer) : Type 0 where
  pub all : out.after ≡ before
  pub sent : out.step.sent ≡ None
  pub tags : out.step.tags ≡ no_tags

-- a discard changes nothing
abbrev pub DiscardsChangeNothing : Type 0
DiscardsChangeNothing =
    (now : ServerNow) (input : ServerInput) → IsSome (server_accepts now input).step.cause
    → PreservesTheServer now (server_accepts now input)

-- the role is the same, and a server to which octets may come is one afterwards
pub record StaysReady (before after : ServerVariables) : Type 0 where
  pub role : after.role ≡ before.role
  pub ready : is_ready before ≡ true → is_ready after ≡ true

-- every input leaves the role and the readiness
abbrev pub StaysAsItIs : Type 0
StaysAsItIs = (now : ServerNow) (input : ServerInput)
    → StaysReady now.vars (server_accepts now input).after.vars
