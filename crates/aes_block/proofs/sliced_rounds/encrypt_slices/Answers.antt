use Rattle.std.proofs.Common.{refl, ap, ◌∙◌, arith, lit<}
use Rattle.aes_block.specs.Cipher.{add_round_key}
use Rattle.aes_block.proofs.RoundByRound.{rounds_none, rounds_more, aes128_done}
use Rattle.aes_block.proofs.sliced_rounds.encrypt_slices.Goals as goal

pub loop-round-init : goal.loop-round-init
loop-round-init c = λ kept.
    rounds_none c.args.key c.args.block c.args.key _ refl kept.first_is
    (c.add_round_key-words.ensures 0 (lit< tt)
    ∙ ap (λ s. add_round_key s c.args.key) c.load.ensures.first_lane)

pub loop-round-preserved : goal.loop-round-preserved
loop-round-preserved c = λ kept.
    rounds_more c.args.key c.args.block c.args.key _ _ _ c.loop-round.round refl
    (kept.full_are c.loop-round.round (omega arith) _) (c.loop-round.invariant kept)
    (c.full_round-next.ensures 0 (lit< tt))

pub returns : goal.returns
returns c = λ kept.
    c.first_state.ensures
    ∙ aes128_done c.args.key c.args.block c.args.key _ _ _ c.loop-round.round refl
    kept.last_is (c.loop-round.invariant kept) (omega arith) (c.last_round.ensures 0 (lit< tt))
