use Rattle.std.proofs.Common.{sym, ap, ◌∙◌, ◌+◌, [], slice_index_or, arith, lit<}
use Rattle.aes_block.specs.Cipher.{add_round_key}
use Rattle.aes_block.specs.Words.{state_of_words}
use Rattle.aes_block.proofs.RoundByRound.{rounds_none, rounds_more, aes128_done}
use Rattle.aes_block.proofs.by_tables.TableAes128.encrypt.Goals as goal

pub loop-round-init : goal.loop-round-init
loop-round-init c =
    let first = state_of_words (slice_index_or c.self.inside.round_keys 0 []) in
    rounds_none c.args.self.now c.args.block.now first _ c.self.view_is
    (sym (c.self.invariant 0 (lit< tt)))
    (c.add-state.ensures ∙ ap (λ v. add_round_key v first) c.words_of.ensures)

pub loop-round-preserved : goal.loop-round-preserved
loop-round-preserved c =
    rounds_more c.args.self.now c.args.block.now
    (state_of_words (slice_index_or c.self.inside.round_keys 0 [])) _ _ _ c.loop-round.round
    c.self.view_is (c.self.invariant (c.loop-round.round + 1) (omega arith))
    c.loop-round.invariant c.full_round-next.ensures

pub returns : goal.returns
returns c =
    c.octets_of.ensures
    ∙ aes128_done c.args.self.now c.args.block.now
    (state_of_words (slice_index_or c.self.inside.round_keys 0 [])) _ _ _ c.loop-round.round
    c.self.view_is (c.self.invariant 10 (lit< tt)) c.loop-round.invariant
    (omega arith) c.last_round.ensures
