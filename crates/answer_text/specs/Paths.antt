-- The states that an end entered, and the cause of a discard.
use Rattle.std.specs.Prelude.{ℕ, List, [], ◌∷◌, ◌++◌, Option, Some, None, codes, decimal}
use Rattle.std.specs.List.{concat}
use Rattle.eap_packet.specs.Words.{cause_word, state_word}
use Rattle.eap_packet.specs.declared.cause.Cause.{Cause}
use Rattle.eap_packet.specs.declared.state.State.{State}

abbrev pub state_text : State → List ℕ
state_text state = concat (codes " " ∷ state_word state ∷ [])

-- the states of a path, each after a space, and the end of the line
abbrev pub states_text : List State → List ℕ
states_text [] = codes "\n"
states_text (s ∷ rest) = state_text s ++ states_text rest

abbrev pub path_text : List State → List ℕ
path_text [] = codes " -\n"
path_text (s ∷ rest) = states_text (s ∷ rest)

-- the states of a path behind a number
abbrev pub states_line : ℕ → List State → List ℕ
states_line number path = decimal number ++ path_text path

-- the line of a discard
abbrev pub cause_text : ℕ → Option Cause → List ℕ
cause_text event None = []
cause_text event (Some cause) =
    concat (decimal event ∷ codes " cause " ∷ cause_word cause ∷ codes "\n" ∷ [])
