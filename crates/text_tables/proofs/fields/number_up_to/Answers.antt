-- One more digit, cut off at the same bound.
use Rattle.std.proofs.Common.{arith}
use Rattle.text_tables.proofs.FieldLemmas.{number_after_more}
use Rattle.text_tables.proofs.fields.number_up_to.Goals as goal

pub loop-digit-preserved : goal.loop-digit-preserved
loop-digit-preserved c =
    let ds = c.args.digits.now in
    let i = c.loop-digit.digit-index in
    let more = number_after_more 0 ds i (omega arith) in
    omega arith
