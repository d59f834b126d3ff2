use Rattle.answer_text.proofs.Putting.{putting_starts, putting_next, putting_cut, putting_ends}
use Rattle.answer_text.proofs.Putting.{puts_stored, range}
use Rattle.std.proofs.Common.{refl}
use Rattle.answer_text.proofs.pieces.put_octets.Goals as goal

pub loop-rest-init : goal.loop-rest-init
loop-rest-init g c = putting_starts _ _ _ _

pub loop-rest-preserved : goal.loop-rest-preserved
loop-rest-preserved g c =
    putting_next _ _ _ _ _ _ _ _ _ _ _
    (range _ _) c.loop-rest.invariant c.in_ok-send_with.ensures.puts

pub returns-in_err-send_with : goal.returns-in_err-send_with
returns-in_err-send_with g c =
    putting_cut _ _ _ _ _ _ _ _ _ _ _ _ _ _ c.from_residual.ensures.0 refl
    (range _ _) c.loop-rest.invariant c.in_err-send_with.ensures.puts

pub returns : goal.returns
returns g c = putting_ends _ _ _ _ _ _ _ _ _ _ c.loop-rest.invariant
    (puts_stored _ _ _ _ _ _ c.append.ensures)
