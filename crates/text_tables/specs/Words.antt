-- The words of a line, and the names of faults.
use Rattle.std.specs.Prelude.{ℕ, List, [], ◌∷◌, ◌==◌, ◌&&◌, Bool, true, nat_le, codes}
use Rattle.std.specs.List.{slice_split, list_all}
use Rattle.text_tables.specs.declared.fault.LineFault.{LineFault}
use Rattle.text_tables.specs.declared.fault.LineFault.TheVariants.{NoHeader, BadWord, BadCount}
use Rattle.text_tables.specs.declared.fault.LineFault.TheVariants.{BadChoice, BadNumber, BadHex}
use Rattle.text_tables.specs.declared.fault.LineFault.TheVariants.{BadSize, Repeated, Missing}
use Rattle.text_tables.specs.declared.fault.LineFault.TheVariants.{Order}

-- the words, which one space separates
abbrev pub words : List ℕ → List (List ℕ)
words line = slice_split (λ b. b == 32) line

-- whether every octet is a printable character, 20 to 7e
abbrev pub is_printable : List ℕ → Bool
is_printable line = list_all (λ b. nat_le 32 b && nat_le b 126) line

-- a line that is ignored: an empty one, or one that begins with #
abbrev pub is_passed_over : List ℕ → Bool
is_passed_over [] = true
is_passed_over (b ∷ rest) = b == 35

-- the name of a fault
abbrev pub fault_word : LineFault → List ℕ
fault_word NoHeader = codes "NoHeader"
fault_word BadWord = codes "BadWord"
fault_word BadCount = codes "BadCount"
fault_word BadChoice = codes "BadChoice"
fault_word BadNumber = codes "BadNumber"
fault_word BadHex = codes "BadHex"
fault_word BadSize = codes "BadSize"
fault_word Repeated = codes "Repeated"
fault_word Missing = codes "Missing"
fault_word Order = codes "Order"
