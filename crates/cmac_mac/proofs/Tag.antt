-- The last block, and the tag of what is taken in.
use Rattle.std.proofs.Common.{◌≡◌, ℕ, suc, ◌-◌, ◌*◌, ◌<◌, ◌≤◌, false, eqb, List, ◌∷◌, ◌++◌, length}
use Rattle.std.proofs.Common.{drop, replicate, set, refl, ap, ◌∙◌, arith, length-drop}
use Rattle.std.proofs.lemmas.Bool.{ne_eqb}
use Rattle.std.proofs.lemmas.List.{append-nil}
use Rattle.std.proofs.Math.Seq.{set-append_seam}
use Rattle.aes_block.specs.Cipher.{aes128}
use Rattle.cmac_mac.specs.Cmac.{aes_cmac, first_subkey, second_subkey, inner_count, last_block}
use Rattle.cmac_mac.specs.Cmac.{xor_blocks}
use Rattle.cmac_mac.specs.Chained.{IsPending, IsInChain}

-- an octet in the place after those that are held
set_after : (end : List ℕ) (count v : ℕ) → length end ≡ count → count < 16
    → set (end ++ replicate (16 - count) 0) count v ≡ end ++ v ∷ replicate (15 - count) 0
set_after end count v len short =
    let room : 16 - count ≡ suc (15 - count) = omega arith in
    let seam : set (end ++ 0 ∷ replicate (15 - count) 0) (length end) v
    ≡ end ++ v ∷ replicate (15 - count) 0 =
    set-append_seam end 0 (replicate (15 - count) 0) v in
    rw room (rw len at seam)

-- a last block that is padded
pub last_padded : (key held padded subkey result end : List ℕ) (count : ℕ)
    → IsPending held count end → count < 16
    → padded ≡ set held count 0x80 → subkey ≡ second_subkey key → result ≡ xor_blocks padded subkey
    → result ≡ last_block key end
unfolding last_block
last_padded key held padded subkey result end count so_far short is_padded is_subkey is_sum =
    let other : eqb count 16 ≡ false = ne_eqb count 16 (omega arith) in
    let block : padded ≡ end ++ 0x80 ∷ replicate (15 - count) 0 =
    is_padded ∙ ap (λ l. set l count 0x80) so_far.same
    ∙ set_after end count 0x80 so_far.counted short in
    rw (so_far.counted, other, is_sum, block, is_subkey) refl

-- a last block that is whole
pub last_whole : (key held subkey result end : List ℕ) (count : ℕ) → IsPending held count end
    → 16 ≤ count
    → subkey ≡ first_subkey key → result ≡ xor_blocks held subkey → result ≡ last_block key end
unfolding last_block
last_whole key held subkey result end count so_far full is_subkey is_sum =
    let all : count ≡ 16 = omega (arith, so_far.within) in
    let block : held ≡ end =
    so_far.same ∙ ap (λ k. end ++ replicate (16 - k) 0) all ∙ append-nil end in
    rw (so_far.counted, all, is_sum, block, is_subkey) refl

-- the tag
pub tag_of : (value held last block result key text : List ℕ) (count : ℕ)
    → IsInChain value held count key text (inner_count text)
    → count ≤ 16 → ((end : List ℕ) → IsPending held count end → last ≡ last_block key end)
    → block ≡ xor_blocks value last → result ≡ aes128 key block → result ≡ aes_cmac key text
unfolding aes_cmac
tag_of value held last block result key text count so_far within is_last is_block is_tag =
    let m : ℕ = 16 * inner_count text in
    let held_end : IsPending held count (drop m text) = record {
      same = so_far.rest;
      counted = omega (arith, so_far.counted, length-drop m text);
      within = within;
    } in
    rw (is_tag, is_block, is_last (drop m text) held_end, so_far.chained) refl
