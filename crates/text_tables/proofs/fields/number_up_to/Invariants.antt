use Rattle.std.proofs.Common.{◌≡◌, min, take}
use Rattle.text_tables.specs.Fields.{number_after}
use Rattle.text_tables.proofs.fields.number_up_to.Given as goal

abbrev pub invariant-loop-digit : goal.invariant-loop-digit
invariant-loop-digit l = l.number ≡ min (number_after 0 (take l.digit-index l.digits)) l.most
