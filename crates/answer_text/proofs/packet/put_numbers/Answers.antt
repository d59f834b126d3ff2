use Rattle.std.proofs.Common.{◌≡◌, ◌≤◌, [], arith, refl, drop, length}
use Rattle.std.proofs.Math.ListN.{drop_of_length-le}
use Rattle.answer_text.proofs.Putting.{putting_starts, putting_next, putting_cut, putting_over}
use Rattle.answer_text.proofs.PacketCuts.{numbers_text_drop}
use Rattle.answer_text.proofs.packet.put_numbers.Goals as goal

pub loop-octet-init : goal.loop-octet-init
loop-octet-init g c = putting_starts _ _ _ _

pub loop-octet-preserved : goal.loop-octet-preserved
loop-octet-preserved g c =
    putting_next _ _ _ _ _ _ _ _ _ _ _ (numbers_text_drop _ _ _ c.loop-octet-test.true)
    c.loop-octet.invariant c.in_ok-put_octet.ensures

pub returns-in_err-put_octet : goal.returns-in_err-put_octet
returns-in_err-put_octet g c =
    putting_cut _ _ _ _ _ _ _ _ _ _ _ _ _ _ c.from_residual.ensures.0 refl
    (numbers_text_drop _ _ _ c.loop-octet-test.true)
    c.loop-octet.invariant c.in_err-put_octet.ensures

pub returns : goal.returns
returns g c =
    let all : length c.args.octets.now ≤ c.loop-octet.octet-index = omega arith in
    let none : drop c.loop-octet.octet-index c.args.octets.now ≡ [] =
    drop_of_length-le c.args.octets.now all in
    putting_over _ _ _ _ _ _ _ (rw none at c.loop-octet.invariant) refl
