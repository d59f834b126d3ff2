use Rattle.std.proofs.Common.{◌≡◌, ◌+◌, ◌%◌, ◌++◌, length, arith}
use Rattle.cmac_mac.specs.Represents.{HasChained}
use Rattle.cmac_mac.proofs.Growing.{chained_full, chunks_consumed, ends_consumed}
use Rattle.cmac_mac.proofs.taken.ChainState.chain_in.Goals as goal

pub returns : goal.returns
unfolding HasChained
returns c = λ text n before.
    let full = chained_full c.args.self.now.chain c.args.self.now.held c.chain_block-chain.result
    c.args.cipher.now text c.args.self.now.count n before
    c.requires.full c.chain_block-chain.ensures in
    let whole : length c.split_at.result.0.now % 16 ≡ 0 =
    omega (arith, c.split_at.ensures.front_len) in
    let in_chain = chunks_consumed c.chain_blocks-self.result c.args.cipher.now text
    c.split_at.result.0.now c.as_chunks.result.0.now _ whole
    c.as_chunks.ensures.front (c.chain_blocks-self.ensures text (n + 1) full) in
    ends_consumed _ _ c.args.cipher.now text c.split_at.result.0.now c.split_at.result.1.now
    c.args.octets.now c.append.new.self.count _ _
    (c.append.ensures.chained c.args.cipher.now (text ++ c.split_at.result.0.now) _ in_chain)
    (omega (arith, c.append.ensures.count, c.split_at.ensures.back_len))
    (omega (arith, c.append.ensures.count, c.split_at.ensures.back_len))
    c.split_at.ensures.front c.split_at.ensures.back
