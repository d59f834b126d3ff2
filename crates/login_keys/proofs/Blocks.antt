-- Blocks of a list that is made block by block.
use Rattle.std.proofs.Common.{◌≡◌, ℕ, zero, suc, ◌+◌, ◌*◌, List, [], ◌∷◌, ◌++◌, length, sym, ap}
use Rattle.std.proofs.Common.{◌∙◌, arith, add-one, add-zero, length-append}
use Rattle.std.specs.List.{flat_map, range_with_len}
use Rattle.std.proofs.lemmas.List.{append-nil}
use Rattle.std.proofs.lemmas.List.Concat.{flat_map-append}

range_push : (a n : ℕ) → range_with_len a (suc n) ≡ range_with_len a n ++ (a + n) ∷ []
range_push a zero = ap (λ k. k ∷ []) (sym (add-zero a))
range_push a (suc n) =
    let e : a + 1 + n ≡ a + suc n = omega arith in
    ap (λ l. a ∷ l) (range_push (a + 1) n) ∙ ap (λ k. a ∷ range_with_len (a + 1) n ++ k ∷ []) e

zero_mul : (size : ℕ) → 0 * size ≡ 0
zero_mul size = omega arith

mul_more : (n size : ℕ) → (n + 1) * size ≡ n * size + size
mul_more n size = omega arith

-- one block more
blocks_more : (f : ℕ → List ℕ) (a n : ℕ) → flat_map f (range_with_len a (n + 1))
    ≡ flat_map f (range_with_len a n) ++ f (a + n)
blocks_more f a n =
    ap (λ k. flat_map f (range_with_len a k)) (add-one n)
    ∙ ap (flat_map f) (range_push a n)
    ∙ flat_map-append f (range_with_len a n) ((a + n) ∷ [])
    ∙ ap (λ l. flat_map f (range_with_len a n) ++ l) (append-nil (f (a + n)))

-- the list is that of n blocks, from the number a on, of so many octets each
pub record IsJoined (f : ℕ → List ℕ) (a n size : ℕ) (list : List ℕ) : Type 0 where
  pub same : list ≡ flat_map f (range_with_len a n)
  pub whole : length list ≡ n * size

-- before the first block
pub joined_none : (f : ℕ → List ℕ) (a size : ℕ) (list : List ℕ) → list ≡ []
    → IsJoined f a 0 size list
joined_none f a size list e = record { same = e; whole = ap length e ∙ sym (zero_mul size) }

-- one block is appended
pub joined_push : (f : ℕ → List ℕ) (a n size : ℕ) (list block after : List ℕ)
    → IsJoined f a n size list
    → block ≡ f (a + n) → length block ≡ size → after ≡ list ++ block
    → IsJoined f a (n + 1) size after
joined_push f a n size list block after so_far is_block is_whole e = record {
  same = e ∙ ap (λ l. l ++ block) so_far.same
      ∙ ap (λ l. flat_map f (range_with_len a n) ++ l) is_block ∙ sym (blocks_more f a n);
  whole =
      let sum : length after ≡ n * size + length block =
      ap length e ∙ length-append list block ∙ ap (λ k. k + length block) so_far.whole in
      sum ∙ ap (λ k. n * size + k) is_whole ∙ sym (mul_more n size);
}
