use Rattle.std.proofs.Common.{◌≡◌, length, arith, refl}
use Rattle.answer_text.proofs.Putting.{putting_starts, putting_next, putting_cut, putting_over}
use Rattle.answer_text.proofs.Putting.{encoded_range, encoded_none}
use Rattle.answer_text.proofs.pieces.put_digits.Goals as goal

pub loop-rest-init : goal.loop-rest-init
loop-rest-init g c = putting_starts _ _ _ _

pub loop-rest-preserved : goal.loop-rest-preserved
loop-rest-preserved g c =
    putting_next _ _ _ _ _ _ _ _ _ _ _ (encoded_range _ _) c.loop-rest.invariant
    (rw c.digits_of.ensures at c.in_ok-put_octets.ensures)

pub returns-in_err-put_octets : goal.returns-in_err-put_octets
returns-in_err-put_octets g c =
    putting_cut _ _ _ _ _ _ _ _ _ _ _ _ _ _ c.from_residual.ensures.0 refl (encoded_range _ _)
    c.loop-rest.invariant (rw c.digits_of.ensures at c.in_err-put_octets.ensures)

pub returns : goal.returns
returns g c =
    let none : length c.loop-rest.rest.now ≡ 0 = omega arith in
    putting_over _ _ _ _ _ _ _ c.loop-rest.invariant (encoded_none _ none)
