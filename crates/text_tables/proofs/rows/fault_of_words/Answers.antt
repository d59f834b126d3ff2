-- A wrong number of words, or the first fault that one of them has.
use Rattle.std.proofs.Common.{◌≡◌, true, false, length, ◌∙◌, sym}
use Rattle.text_tables.specs.Words.{words}
use Rattle.text_tables.specs.Rows.{has_bad_count}
use Rattle.text_tables.proofs.Earliest.{fault_of_words_count, fault_of_words_first}
use Rattle.text_tables.proofs.rows.fault_of_words.Goals as goal

pub returns-then-has_bad_count : goal.returns-then-has_bad_count
returns-then-has_bad_count c =
    let bad : has_bad_count c.args.least (length c.args.fields.now) (length (words c.args.line.now))
    ≡ true = cc in
    sym (fault_of_words_count c.args.least c.args.fields.now (words c.args.line.now) bad)

pub returns : goal.returns
returns c =
    let good : has_bad_count c.args.least (length c.args.fields.now) (length
    (words c.args.line.now)) ≡ false = cc in
    c.first_fault.ensures
    ∙ sym (fault_of_words_first c.args.least c.args.fields.now (words c.args.line.now) good)
