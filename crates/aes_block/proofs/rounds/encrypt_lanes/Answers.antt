use Rattle.std.proofs.Common.{refl, arith}
use Rattle.aes_block.proofs.RoundByRound.{rounds_none, rounds_more, aes128_done}
use Rattle.aes_block.proofs.rounds.encrypt_lanes.Goals as goal

pub loop-round-init : goal.loop-round-init
loop-round-init c = λ kept. rounds_none c.args.key c.args.block c.args.key _ refl kept.first_is
    c.initial_round-state.ensures

pub loop-round-preserved : goal.loop-round-preserved
loop-round-preserved c = λ kept.
    rounds_more c.args.key c.args.block c.args.key _ _ _ c.loop-round.round refl
    (kept.full_are c.loop-round.round (omega arith) _) (c.loop-round.invariant kept)
    c.full_round-next.ensures

pub returns : goal.returns
returns c = λ kept.
    aes128_done c.args.key c.args.block c.args.key _ _ _ c.loop-round.round refl
    kept.last_is (c.loop-round.invariant kept) (omega arith) c.last_round.ensures
