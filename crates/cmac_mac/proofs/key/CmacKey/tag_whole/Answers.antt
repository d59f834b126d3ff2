use Rattle.std.proofs.Common.{◌≡◌, List, ℕ, ◌+◌, ◌-◌, ◌*◌, ◌/◌, ◌≤◌, [], length, take, drop, ap}
use Rattle.std.proofs.Common.{subst, ◌∙◌, arith}
use Rattle.std.specs.List.{concat}
use Rattle.aes_block.specs.Cipher.{aes128}
use Rattle.cmac_mac.specs.Cmac.{inner_count}
use Rattle.cmac_mac.specs.Chained.{IsChained}
use Rattle.cmac_mac.proofs.Growing.{chained_none, accepted_at_once}
use Rattle.cmac_mac.proofs.Tag.{tag_of}
use Rattle.cmac_mac.proofs.key.CmacKey.tag_whole.Goals as goal

pub returns : goal.returns
returns c =
    let key : List ℕ = c.args.self.now in
    let text : List ℕ = c.args.text.now in
    let front : List ℕ = c.split_at.result.0.now in
    let end : List ℕ = c.split_at.result.1.now in
    let blocks : List (List ℕ) = c.as_chunks.result.0.now in
    let chain : List ℕ = c.chain_blocks-chain.result in
    let before : c.saturating_sub-inner.result ≡ length text - 1 =
    omega (arith, c.saturating_sub-inner.ensures) in
    let chained : IsChained chain key (concat blocks) (0 + length blocks) =
    subst (λ k. IsChained chain k (concat blocks) (0 + length blocks)) c.self.view_is
    (c.chain_blocks-chain.ensures [] 0 (chained_none c.self.inside.cipher)) in
    let is_front : front ≡ take (16 * inner_count text) text =
    c.split_at.ensures.front ∙ ap (λ (k : ℕ). take (16 * (k / 16)) text) before in
    let is_end : end ≡ drop (16 * inner_count text) text =
    c.split_at.ensures.back ∙ ap (λ (k : ℕ). drop (16 * (k / 16)) text) before in
    let size : length front ≡ 16 * inner_count text =
    c.split_at.ensures.front_len ∙ ap (λ (k : ℕ). 16 * (k / 16)) before in
    let within : length end ≤ 16 = omega (arith, c.split_at.ensures.back_len, before) in
    let so_far = accepted_at_once chain c.filled.result key text front end blocks _ is_front is_end
    size c.as_chunks.ensures.front chained c.filled.ensures in
    tag_of _ _ c.last_block-last.result c.xor_blocks.result c.encrypt.result key text
    (length end) so_far within c.last_block-last.ensures c.xor_blocks.ensures
    (c.encrypt.ensures ∙ ap (λ key. aes128 key c.xor_blocks.result) c.self.view_is)
