-- The text that says what one end does: the lines of its start and of each input, and its last
-- lines.
use Rattle.std.specs.Prelude.{ℕ, ◌+◌, List, [], ◌∷◌, ◌++◌, Bool, true, false, Option, Some, None}
use Rattle.std.specs.Prelude.{codes, decimal}
use Rattle.std.specs.List.{concat}
use Rattle.eap_method.specs.declared.values.Report.{Report}
use Rattle.eap_packet.specs.Words.{state_word}
use Rattle.eap_packet.specs.declared.state.State.{State}
use Rattle.end_pipe.specs.EndRun.{EndTold}
use Rattle.login_keys.specs.KeyName.{key_name_of}
use Rattle.answer_text.specs.Pieces.{hex_text}
use Rattle.answer_text.specs.Paths.{cause_text, states_line}

-- the line of the packet that is sent, if one is
abbrev pub send_text : ℕ → Option (List ℕ) → List ℕ
send_text number None = []
send_text number (Some octets) =
    concat (decimal number ∷ codes " send " ∷ hex_text octets ∷ codes "\n" ∷ [])

-- the names of the keys of a report that the end first has
abbrev pub keys_line : ℕ → List ℕ → List ℕ → List ℕ
keys_line number msk emsk =
    concat (decimal number ∷ codes " keys msk " ∷ hex_text msk ∷ codes " emsk " ∷ hex_text emsk
    ∷ codes "\n" ∷ [])

abbrev pub keys_text : ℕ → Option Report → List ℕ
keys_text number None = []
keys_text number (Some report) = keys_line number (key_name_of report.msk) (key_name_of report.emsk)

-- the states that were entered, the cause of a discard, the packet, the keys
abbrev pub acted_text : ℕ → EndTold → List ℕ
acted_text number told =
    states_line number told.step.path
    ++ (cause_text number told.step.cause
    ++ (send_text number told.step.sent ++ keys_text number told.named))

abbrev pub skip_line : ℕ → List ℕ
skip_line number = concat (decimal number ∷ codes " skip Ended\n" ∷ [])

abbrev pub told_by : ℕ → EndTold → Bool → List ℕ
told_by number told true = skip_line number
told_by number told false = acted_text number told

-- the lines of an input of this number, and of the start, whose number is 0
unfoldable pub told_text : ℕ → EndTold → List ℕ
told_text number told = told_by number told told.skipped

-- those of a start, if an end has one
abbrev pub start_text : Option EndTold → List ℕ
start_text None = []
start_text (Some told) = told_text 0 told

-- the lines of inputs, if this many came before
unfoldable pub tolds_text : ℕ → List EndTold → List ℕ
tolds_text taken [] = []
tolds_text taken (told ∷ rest) = told_text (taken + 1) told ++ tolds_text (taken + 1) rest

-- the last lines
unfoldable pub last_text : State → List ℕ
last_text state = concat (codes "state " ∷ state_word state ∷ codes "\n" ∷ codes "end\n" ∷ [])
