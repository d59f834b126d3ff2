-- The first fault of the words of a line, word by word.
use Rattle.std.specs.Prelude.{ℕ, List, [], ◌∷◌, length, nat_lt, if◌then◌else◌, Option, Some, None}
use Rattle.std.specs.Prelude.{find}
use Rattle.text_tables.specs.Rows.{field_has, any_has}
use Rattle.text_tables.specs.declared.fault.LineFault.{LineFault}
use Rattle.text_tables.specs.declared.fault.LineFault.TheVariants as fault
use Rattle.text_tables.specs.declared.rows.Field.{Field}

-- the order of the faults
abbrev pub rank_of : LineFault → ℕ
rank_of fault.NoHeader = 0
rank_of fault.BadWord = 1
rank_of fault.BadCount = 2
rank_of fault.BadChoice = 3
rank_of fault.BadNumber = 4
rank_of fault.BadHex = 5
rank_of fault.BadSize = 6
rank_of fault.Repeated = 7
rank_of fault.Missing = 8
rank_of fault.Order = 9

abbrev pub earlier : Option LineFault → Option LineFault → Option LineFault
earlier None other = other
earlier (Some first) None = Some first
earlier (Some first) (Some second) =
    if nat_lt (rank_of second) (rank_of first) then Some second else Some first

-- the faults that a word can have
abbrev pub word_faults : List LineFault
word_faults = fault.BadChoice ∷ fault.BadNumber ∷ fault.BadHex ∷ fault.BadSize ∷ fault.Repeated ∷ []

abbrev pub fault_of_word : Field → ℕ → List (List ℕ) → Option LineFault
fault_of_word f place ws = find (λ e. field_has e f place ws) word_faults

abbrev pub fault_at : Field → ℕ → List (List ℕ) → Option LineFault
fault_at f place ws = if nat_lt place (length ws) then fault_of_word f place ws else None

unfoldable pub first_fault : ℕ → List Field → List (List ℕ) → Option LineFault
first_fault place fields ws = find (λ e. any_has e place fields ws) word_faults
