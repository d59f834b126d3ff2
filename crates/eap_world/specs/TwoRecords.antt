-- How the conversations are stored.
use Rattle.std.specs.Prelude.{ℕ, List, [], ◌∷◌, Bool, true, not, All}
use Rattle.std.specs.Str.{bytes_eq}
use Rattle.eap_world.specs.Conversations.{front, waiting}
use Rattle.eap_world.specs.Receiving.{IsMarked}
use Rattle.eap_world.specs.declared.conversations.ConversationStart.{ConversationStart}
use Rattle.eap_world.specs.declared.conversations.Waiting.{Waiting}

-- nonces, and beside each whether it has been seen in a delivery
abbrev pub waits : List (List ℕ) → List Bool → List Waiting
waits [] marks = []
waits (nonce ∷ nonces) [] = []
waits (nonce ∷ nonces) (heard ∷ marks) = record { nonce = nonce; heard = heard }
    ∷ waits nonces marks

-- the first octet of each nonce is marked
abbrev pub AreMarked : List Bool → List (List ℕ) → Type 0
AreMarked firsts nonces = All (λ (nonce : List ℕ). IsMarked firsts (waiting nonce)) nonces

-- whether the first two conversations have begun with nonces of different prefixes
abbrev pub fronts_differ : List ConversationStart → Bool
fronts_differ [] = true
fronts_differ (one ∷ []) = true
fronts_differ (one ∷ other ∷ rest) = not (bytes_eq (front one.nonce) (front other.nonce))
