-- The words `bulk N K`: K conversations of the number N.
use Rattle.std.specs.Prelude.{ℕ, List, [], ◌∷◌, if◌then◌else◌, codes, decimal, Option, Some, None}
use Rattle.std.specs.Prelude.{Result, Ok, Err}
use Rattle.std.specs.List.{concat}
use Rattle.std.specs.Str.{bytes_eq}
use Rattle.bulk_run.specs.Summing.{summary_of}
use Rattle.bulk_run.specs.declared.summary.Summary.{Summary}
use Rattle.text_tables.specs.Fields.{number_of}
use Rattle.text_tables.specs.declared.fault.LineFault.{LineFault}
use Rattle.command_driver.specs.Answers.{Answer}
use Rattle.world_commands.specs.declared.bulk.Bulk.{Bulk}
use Rattle.command_driver.specs.declared.status.Status.TheVariants as status

abbrev pub max_number : ℕ
max_number = 999999

abbrev pub max_count : ℕ
max_count = 1000

-- the number is at most 999,999, and there are 1 to 1,000 conversations; both as a scenario spells
-- numbers
abbrev pub bulk_with : Result ℕ LineFault → Result ℕ LineFault → Option Bulk
bulk_with (Err fault) count = None
bulk_with (Ok number) (Err fault) = None
bulk_with (Ok number) (Ok count) = Some (record { number = number; count = count })

abbrev pub bulk_encoded : List ℕ → List ℕ → Option Bulk
bulk_encoded number count = bulk_with (number_of number 0 max_number) (number_of count 1 max_count)

-- what the words ask for
abbrev pub bulk_of : List (List ℕ) → Option Bulk
bulk_of [] = None
bulk_of (word ∷ []) = None
bulk_of (word ∷ number ∷ []) = None
bulk_of (word ∷ number ∷ count ∷ []) =
    if bytes_eq word (codes "bulk") then bulk_encoded number count else None
bulk_of (word ∷ number ∷ count ∷ more ∷ rest) = None

-- the words again, how the conversations ended, in how many a tag was broken, and what was
-- delivered and discarded in them
unfoldable pub bulk_text : ℕ → ℕ → Summary → List ℕ
bulk_text number count s = concat (
    codes "bulk " ∷ decimal number ∷ codes " " ∷ decimal count ∷ codes "\nconversations "
    ∷ decimal s.conversations ∷
    codes "\nagree " ∷ decimal s.agree ∷ codes "\nopen " ∷ decimal s.unfinished ∷ codes "\napart "
    ∷ decimal s.apart ∷
    codes "\nbroken " ∷ decimal s.broken ∷ codes "\ndeliveries " ∷ decimal s.deliveries
    ∷ codes "\ndiscards " ∷
    decimal s.discards ∷ codes "\nend\n" ∷ [])

unfoldable pub bulk_answer : Bulk → Answer
bulk_answer b = record {
  text = bulk_text b.number b.count (summary_of b.number b.count);
  status = status.Done;
}
