use Rattle.std.proofs.Common.{◌≡◌, ◌≤◌, [], arith, refl, drop, length}
use Rattle.std.proofs.Math.ListN.{drop_of_length-le}
use Rattle.answer_text.proofs.Putting.{putting_starts, putting_next, putting_cut, putting_ends}
use Rattle.answer_text.proofs.States.{states_text_drop}
use Rattle.answer_text.proofs.path.put_states.Goals as goal

pub loop-state-init : goal.loop-state-init
loop-state-init g c = putting_starts _ _ _ _

pub loop-state-preserved : goal.loop-state-preserved
loop-state-preserved g c =
    putting_next _ _ _ _ _ _ _ _ _ _ _ (states_text_drop _ _ _ c.loop-state-test.true)
    c.loop-state.invariant c.in_ok-put_state.ensures

pub returns-in_err-put_state : goal.returns-in_err-put_state
returns-in_err-put_state g c =
    putting_cut _ _ _ _ _ _ _ _ _ _ _ _ _ _ c.from_residual.ensures.0 refl
    (states_text_drop _ _ _ c.loop-state-test.true)
    c.loop-state.invariant c.in_err-put_state.ensures

pub returns : goal.returns
returns g c =
    let all : length c.args.states.now ≤ c.loop-state.state-index = omega arith in
    let none : drop c.loop-state.state-index c.args.states.now ≡ [] =
    drop_of_length-le c.args.states.now all in
    putting_ends _ _ _ _ _ _ _ _ _ _ (rw none at c.loop-state.invariant)
    (c.put_pieces.ensures _ refl)
