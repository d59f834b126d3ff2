-- No line of `bulk N K` begins as the line of the result does.
use Rattle.std.proofs.Common.{◌≡◌, ℕ, true, refl, decimal}
use Rattle.bulk_run.specs.declared.summary.Summary.{Summary}
use Rattle.answer_text.proofs.Plain.{plain, through, decimal_within}
use Rattle.answer_text.proofs.PlainKeys.{starts_result}
use Rattle.command_driver.proofs.Quiet.{IsQuiet}
use Rattle.world_commands.specs.Bulk.{bulk_text, bulk_answer}
use Rattle.world_commands.specs.declared.bulk.Bulk.{Bulk}

summary_quiet : (number count : ℕ) (s : Summary)
    → plain starts_result true (bulk_text number count s) ≡ true
unfolding bulk_text
summary_quiet number count s =
    through starts_result (decimal number) _ (decimal_within number)
    (through starts_result (decimal count) _ (decimal_within count)
    (through starts_result (decimal s.conversations) _ (decimal_within s.conversations)
    (through starts_result (decimal s.agree) _ (decimal_within s.agree)
    (through starts_result (decimal s.unfinished) _ (decimal_within s.unfinished)
    (through starts_result (decimal s.apart) _ (decimal_within s.apart)
    (through starts_result (decimal s.broken) _ (decimal_within s.broken)
    (through starts_result (decimal s.deliveries) _ (decimal_within s.deliveries)
    (through starts_result (decimal s.discards) _ (decimal_within s.discards) refl))))))))

pub bulk_quiet : (b : Bulk) → IsQuiet starts_result (bulk_answer b)
unfolding bulk_answer
bulk_quiet b = record { holds = λ done. summary_quiet b.number b.count _ }
