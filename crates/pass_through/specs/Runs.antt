-- The pass-through alone over all that comes to it: its state then, and what it has sent.
use Rattle.std.specs.Prelude.{ℕ, List, [], ◌∷◌, ◌++◌, All, Option, Some, None}
use Rattle.pass_through.specs.Inputs.{PassInput, from_peer, from_backend, pass_accepts}
use Rattle.pass_through.specs.PassTable.{Side, Peer, Server, identity_request, initial_pass}
use Rattle.pass_through.specs.PassTable.{without_padding}
use Rattle.pass_through.specs.declared.variables.PassVariables.{PassVariables}

-- its variables after these inputs
unfoldable pub pass_after : PassVariables → List PassInput → PassVariables
pass_after vars [] = vars
pass_after vars (input ∷ rest) = pass_after (pass_accepts vars input).after rest

-- a packet that it sent, to the end on a side
pub record SentOn : Type 0 where
  pub to : Side
  pub octets : List ℕ

abbrev pub sent_on : Side → Option (List ℕ) → List SentOn
sent_on to None = []
sent_on to (Some octets) = record { to = to; octets = octets } ∷ []

-- what it sends
unfoldable pub pass_sends : PassVariables → List PassInput → List SentOn
pass_sends vars [] = []
pass_sends vars (input ∷ rest) = let out = pass_accepts vars input in
    sent_on out.step.to out.step.sent ++ pass_sends out.after rest

-- an input is among those that came
pub data HasArrived (input : PassInput) : List PassInput → Type 0 where
  first : (rest : List PassInput) → HasArrived input (input ∷ rest)
  behind : (other : PassInput) (rest : List PassInput) → HasArrived input rest
      → HasArrived input (other ∷ rest)

-- its own Identity Request, to the peer; octets that came from the peer, on to the server; octets
-- that came from the server, back to the peer: both without what followed their Length
pub data IsCarried (first_id : ℕ) (came : List PassInput) : SentOn → Type 0 where
  own : IsCarried first_id came (record { to = Peer; octets = identity_request first_id })
  onwards : (octets : List ℕ) (has : HasArrived (from_peer octets) came)
      → IsCarried first_id came (record { to = Server; octets = without_padding octets })
  back : (octets : List ℕ) (has : HasArrived (from_backend octets) came)
      → IsCarried first_id came (record { to = Peer; octets = without_padding octets })

-- each packet that it sends is its Identity Request, or came to it; so it is at each moment, over
-- what has come so far
abbrev pub CarriesOnlyReceived : Type 0
CarriesOnlyReceived = (first_id max_retrans : ℕ) (came : List PassInput)
    → All (IsCarried first_id came) (pass_sends (initial_pass first_id max_retrans) came)
