-- What is taken in as a text grows.
use Rattle.std.proofs.Common.{◌≡◌, ℕ, zero, suc, ◌+◌, ◌-◌, ◌*◌, ◌/◌, ◌%◌, ◌<◌, ◌≤◌, List, [], ◌∷◌}
use Rattle.std.proofs.Common.{◌++◌, length, take, drop, replicate, get_or, refl, sym, ap}
use Rattle.std.proofs.Common.{subst, ◌∙◌, arith, append_assoc, length-append, length-drop}
use Rattle.std.specs.List.{concat}
use Rattle.std.specs.Simd.{first_chunks}
use Rattle.std.proofs.lemmas.List.Folds.{concat-append}
use Rattle.std.proofs.lemmas.List.{take_more, take-append-le, drop-append-le, take_all, drop_all}
use Rattle.std.proofs.lemmas.List.{take_at, drop_at, append-nil, drop-replicate}
use Rattle.std.proofs.lemmas.List.{take-append-drop}
use Rattle.aes_block.specs.Cipher.{aes128}
use Rattle.cmac_mac.specs.Cmac.{chain, inner_count, block_at, xor_blocks}
use Rattle.cmac_mac.specs.Chained.{IsChained, IsInChain}
use Rattle.cmac_mac.proofs.Lanes.{concat_chunks}

-- the chain over the first n blocks reads only those
pub chain_append : (key text more : List ℕ) (n : ℕ) → 16 * n ≤ length text
    → chain key (text ++ more) n ≡ chain key text n
unfolding chain
chain_append key text more zero h = refl
chain_append key text more (suc n) h =
    let whole : 16 ≤ length (drop (16 * n) text) = omega (arith, length-drop (16 * n) text) in
    let block : block_at (text ++ more) n ≡ block_at text n =
    rw (drop-append-le (16 * n) text more (omega arith))
    (take-append-le 16 (drop (16 * n) text) more whole) in
    rw (block, chain_append key text more n (omega arith)) refl

chain_next : (key text : List ℕ) (n : ℕ)
    → chain key text (suc n) ≡ aes128 key (xor_blocks (chain key text n) (block_at text n))
unfolding chain
chain_next key text n = refl

chain_none : (key text : List ℕ) → chain key text 0 ≡ replicate 16 0
unfolding chain
chain_none key text = refl

-- a list that is split
pub pieces : (text front end octets : List ℕ) (size : ℕ) → front ≡ take size octets
    → end ≡ drop size octets
    → (text ++ front) ++ end ≡ text ++ octets
pieces text front end octets size is_front is_end =
    append_assoc text front end
    ∙ ap (λ l. text ++ l) (rw (is_front, is_end) (take-append-drop size octets))

-- nothing of a text
pub accepted_none : (key : List ℕ) → IsInChain (replicate 16 0) (replicate 16 0) 0 key [] 0
accepted_none key = record { chained = sym (chain_none key []); counted = refl; rest = refl }

-- octets for which the block has room
pub accepted_more : (value held now key text octets : List ℕ) (count size n : ℕ)
    → IsInChain value held count key text n
    → size ≡ length octets → count + length octets ≤ 16
    → now ≡ take count held ++ (octets ++ drop size (drop count held))
    → IsInChain value now (count + length octets) key (text ++ octets) n
accepted_more value held now key text octets count size n before is_size room is_now =
    let end : List ℕ = drop (16 * n) text in
    let zeros : List ℕ = replicate (16 - count) 0 in
    let left : List ℕ = replicate (16 - (count + length octets)) 0 in
    let inside : 16 * n ≤ length text = omega (arith, before.counted) in
    let end_len : length end ≡ count = omega (arith, before.counted, length-drop (16 * n) text) in
    let front : take count held ≡ end =
    ap (take count) before.rest ∙ take_at end zeros count end_len in
    let back : drop count held ≡ zeros =
    ap (drop count) before.rest ∙ drop_at end zeros count end_len in
    let after : drop size (drop count held) ≡ left =
    ap (drop size) back ∙ drop-replicate size (16 - count) 0
    ∙ ap (λ k. replicate k 0) (omega arith) in
    let grown : drop (16 * n) (text ++ octets) ≡ end ++ octets =
    drop-append-le (16 * n) text octets inside in
    record {
      chained = before.chained ∙ sym (chain_append key text octets n inside);
      counted = omega (arith, before.counted, length-append text octets);
      rest = is_now
          ∙ ap (λ l. l ++ (octets ++ drop size (drop count held))) front
          ∙ ap (λ l. end ++ (octets ++ l)) after
          ∙ sym (append_assoc end octets left)
          ∙ ap (λ l. l ++ left) (sym grown);
    }

-- one block more in the chain
pub chained_more : (value next key text block : List ℕ) (n : ℕ) → IsChained value key text n
    → length block ≡ 16
    → next ≡ aes128 key (xor_blocks value block) → IsChained next key (text ++ block) (n + 1)
chained_more value next key text block n before len is_next =
    let e : n + 1 ≡ suc n = omega arith in
    let none : drop (16 * n) text ≡ [] = drop_all (16 * n) text (omega (arith, before.whole)) in
    let end : drop (16 * n) (text ++ block) ≡ block =
    drop-append-le (16 * n) text block (omega (arith, before.whole)) ∙ ap (λ l. l ++ block) none in
    let last : block_at (text ++ block) n ≡ block =
    ap (take 16) end ∙ take_all 16 block (omega arith) in
    let same : value ≡ chain key (text ++ block) n =
    before.same ∙ sym (chain_append key text block n (omega (arith, before.whole))) in
    record {
      same = is_next
          ∙ ap (λ v. aes128 key (xor_blocks v block)) same
          ∙ ap (λ b. aes128 key (xor_blocks (chain key (text ++ block) n) b)) (sym last)
          ∙ sym (chain_next key (text ++ block) n)
          ∙ ap (chain key (text ++ block)) (sym e);
      whole = omega (arith, before.whole, length-append text block);
    }

-- a full block that is held is one more
pub chained_full : (value held next key text : List ℕ) (count n : ℕ)
    → IsInChain value held count key text n → count ≡ 16
    → next ≡ aes128 key (xor_blocks value held) → IsChained next key text (n + 1)
chained_full value held next key text count n before full is_next =
    let e : n + 1 ≡ suc n = omega arith in
    let len : length (drop (16 * n) text) ≡ 16 =
    omega (arith, before.counted, length-drop (16 * n) text) in
    let last : held ≡ block_at text n =
    before.rest ∙ ap (λ k. drop (16 * n) text ++ replicate (16 - k) 0) full
    ∙ append-nil (drop (16 * n) text)
    ∙ sym (take_all 16 (drop (16 * n) text) (omega arith)) in
    record {
      same = is_next
          ∙ ap (λ v. aes128 key (xor_blocks v held)) before.chained
          ∙ ap (λ b. aes128 key (xor_blocks (chain key text n) b)) last
          ∙ sym (chain_next key text n)
          ∙ ap (chain key text) (sym e);
      whole = omega (arith, before.counted);
    }

-- one block more of many
pub blocks_more : (value next key text : List ℕ) (blocks : List (List ℕ)) (i n : ℕ) (d : List ℕ)
    → i < length blocks
    → length (get_or blocks i d) ≡ 16 → IsChained value key (text ++ concat (take i blocks)) (n + i)
    → next ≡ aes128 key (xor_blocks value (get_or blocks i d))
    → IsChained next key (text ++ concat (take (i + 1) blocks)) (n + (i + 1))
blocks_more value next key text blocks i n d inside len before is_next =
    let block : List ℕ = get_or blocks i d in
    let more : concat (take (i + 1) blocks) ≡ concat (take i blocks) ++ block =
    ap concat (take_more blocks i d inside) ∙ concat-append (take i blocks) (block ∷ [])
    ∙ ap (λ l. concat (take i blocks) ++ l) (append-nil block) in
    let grown : (text ++ concat (take i blocks)) ++ block ≡ text ++ concat (take (i + 1) blocks) =
    append_assoc text (concat (take i blocks)) block ∙ ap (λ l. text ++ l) (sym more) in
    let count : n + i + 1 ≡ n + (i + 1) = omega arith in
    let P : List ℕ → Type 0 = λ l. IsChained next key l (n + (i + 1)) in
    let Q : ℕ → Type 0 = λ k. IsChained next key ((text ++ concat (take i blocks)) ++ block) k in
    subst P grown (subst Q count
    (chained_more value next key (text ++ concat (take i blocks)) block (n + i) before len is_next))

-- whole blocks in the chain, and nothing held
pub consumed_whole : (value key text : List ℕ) (n : ℕ) → IsChained value key text n
    → IsInChain value (replicate 16 0) 0 key text n
consumed_whole value key text n before = record {
  chained = before.same;
  counted = omega (arith, before.whole);
  rest = ap (λ l. l ++ replicate 16 0) (sym (drop_all (16 * n) text (omega (arith, before.whole))));
}

-- the same of octets that are cut into blocks
pub chunks_consumed : (value key text front : List ℕ) (blocks : List (List ℕ)) (n : ℕ)
    → length front % 16 ≡ 0
    → blocks ≡ first_chunks 16 (length front / 16) front
    → IsChained value key (text ++ concat blocks) n
    → IsInChain value (replicate 16 0) 0 key (text ++ front) n
chunks_consumed value key text front blocks n whole are_chunks before =
    let joined : concat blocks ≡ front =
    ap concat are_chunks ∙ concat_chunks (length front / 16) front (omega arith) in
    let P : List ℕ → Type 0 = λ l. IsInChain value (replicate 16 0) 0 key (text ++ l) n in
    subst P joined (consumed_whole value key (text ++ concat blocks) n before)

-- octets that have room leave the last block where it is
pub stays_accepted : (value held key text octets : List ℕ) (before count : ℕ)
    → 16 * inner_count text + before ≡ length text
    → before + length octets ≤ 16
    → IsInChain value held count key (text ++ octets) (inner_count text)
    → IsInChain value held count key (text ++ octets) (inner_count (text ++ octets))
stays_accepted value held key text octets before count counted room so_far =
    let place : inner_count text ≡ inner_count (text ++ octets) =
    omega (arith, length-append text octets) in
    let P : ℕ → Type 0 = λ k. IsInChain value held count key (text ++ octets) k in
    subst P place so_far

-- octets that come after whole blocks are the last block
pub ends_consumed : (value held key text front end octets : List ℕ) (count size n : ℕ)
    → IsInChain value held count key ((text ++ front) ++ end) n
    → 1 ≤ count → count ≤ 16 → front ≡ take size octets → end ≡ drop size octets
    → IsInChain value held count key (text ++ octets) (inner_count (text ++ octets))
ends_consumed value held key text front end octets count size n so_far some within is_front is_end =
    let whole : (text ++ front) ++ end ≡ text ++ octets =
    pieces text front end octets size is_front is_end in
    let P : List ℕ → Type 0 = λ l. IsInChain value held count key l n in
    let Q : ℕ → Type 0 = λ k. IsInChain value held count key (text ++ octets) k in
    let all : IsInChain value held count key (text ++ octets) n = subst P whole so_far in
    let place : n ≡ inner_count (text ++ octets) = omega (arith, all.counted) in
    subst Q place all

-- nothing of a text is in the chain
pub chained_none : (key : List ℕ) → IsChained (replicate 16 0) key [] 0
chained_none key = record { same = sym (chain_none key []); whole = refl }

-- a text in one piece, of which all blocks before the last one are in the chain
pub accepted_at_once : (value held key text front end : List ℕ) (blocks : List (List ℕ)) (n : ℕ)
    → front ≡ take (16 * inner_count text) text
    → end ≡ drop (16 * inner_count text) text → length front ≡ 16 * inner_count text
    → blocks ≡ first_chunks 16 (length front / 16) front
    → IsChained value key (concat blocks) n → held ≡ end ++ replicate (16 - length end) 0
    → IsInChain value held (length end) key text (inner_count text)
accepted_at_once value held key text front end blocks n is_front is_end size are_chunks
    before is_held =
    let so_far = chunks_consumed value key [] front blocks n (omega arith) are_chunks before in
    let count : n ≡ inner_count text = omega (arith, so_far.counted) in
    let whole : front ++ end ≡ text =
    pieces [] front end text (16 * inner_count text) is_front is_end in
    record {
      chained = so_far.chained
          ∙ sym (chain_append key front end n (omega (arith, so_far.counted)))
          ∙ ap (λ (l : List ℕ). chain key l n) whole
          ∙ ap (chain key text) count;
      counted = omega (arith, size, ap length whole, length-append front end);
      rest = is_held ∙ ap (λ (l : List ℕ). l ++ replicate (16 - length end) 0) is_end;
    }
