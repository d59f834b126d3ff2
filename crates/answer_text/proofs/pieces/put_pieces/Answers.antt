use Rattle.std.proofs.Common.{◌≡◌, ◌≤◌, [], arith, refl, drop, length}
use Rattle.std.proofs.Math.ListN.{drop_of_length-le}
use Rattle.answer_text.proofs.Putting.{putting_starts, putting_next, putting_cut, putting_over}
use Rattle.answer_text.proofs.Putting.{joined_drop}
use Rattle.answer_text.proofs.pieces.put_pieces.Goals as goal

pub loop-piece-init : goal.loop-piece-init
loop-piece-init g c = putting_starts _ _ _ _

pub loop-piece-preserved : goal.loop-piece-preserved
loop-piece-preserved g c =
    putting_next _ _ _ _ _ _ _ _ _ _ _ (joined_drop _ _ _ c.loop-piece-test.true)
    c.loop-piece.invariant c.in_ok-put_piece.ensures

pub returns-in_err-put_piece : goal.returns-in_err-put_piece
returns-in_err-put_piece g c text e =
    rw e (putting_cut _ _ _ _ _ _ _ _ _ _ _ _ _ _ c.from_residual.ensures.0 refl
    (joined_drop _ _ _ c.loop-piece-test.true) c.loop-piece.invariant c.in_err-put_piece.ensures)

pub returns : goal.returns
returns g c text e =
    let all : length c.args.pieces.now ≤ c.loop-piece.piece-index = omega arith in
    let none : drop c.loop-piece.piece-index c.args.pieces.now ≡ [] =
    drop_of_length-le c.args.pieces.now all in
    rw e (putting_over _ _ _ _ _ _ _ (rw none at c.loop-piece.invariant) refl)
