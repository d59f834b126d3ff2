-- Sums in the field, which are `bit_xor`.
use Rattle.std.proofs.Common.{◌≡◌, ◌⊎◌, ℕ, zero, suc, ◌*◌, ◌/◌, ◌%◌, ◌<◌, List, [], ◌∷◌, refl, ap}
use Rattle.std.proofs.Common.{◌∙◌, sym, bit_xor, arith, inl, inr}
use Rattle.std.proofs.lemmas.Nat.{xor_comm, xor_mod, xor_shr}
use Rattle.std.specs.Int.Bits.{xor_assoc, xor_self, xor_zero_l, xor_zero_r}
use Rattle.aes_block.specs.Turned.{by_bits}

-- two sums of two, the other way round
pub xor_pairs : (a b c d : ℕ) → bit_xor (bit_xor a b) (bit_xor c d)
    ≡ bit_xor (bit_xor a c) (bit_xor b d)
xor_pairs a b c d =
    xor_assoc a b (bit_xor c d) ∙ ap (bit_xor a) (sym (xor_assoc b c d)
    ∙ ap (λ x. bit_xor x d) (xor_comm b c) ∙ xor_assoc c b d)
    ∙ sym (xor_assoc a c (bit_xor b d))

-- what is added twice is gone
pub xor_twice : (a b : ℕ) → bit_xor (bit_xor a b) b ≡ a
xor_twice a b = xor_assoc a b b ∙ ap (bit_xor a) (xor_self b) ∙ xor_zero_r a

-- the last two of three, the other way round
pub xor_ends : (a b c : ℕ) → bit_xor (bit_xor a b) c ≡ bit_xor a (bit_xor c b)
xor_ends a b c = xor_assoc a b c ∙ ap (bit_xor a) (xor_comm b c)

-- a bit times an image
bit_times : (a b m : ℕ) → a < 2 → b < 2 → bit_xor a b * m ≡ bit_xor (a * m) (b * m)
bit_times a b m ha hb =
    let none : 0 * m ≡ 0 = omega arith in
    elim (below_two a ha) [
      | inl e ↦ rw (e, xor_zero_l b, none) (sym (xor_zero_l (b * m)))
      | inr e ↦ elim (below_two b hb) [
        | inl f ↦ rw (e, f, none) (sym (xor_zero_r (1 * m)))
        | inr f ↦ rw (e, f, xor_self 1, xor_self (1 * m)) none
      ]
    ]
  where
    below_two : (n : ℕ) → n < 2 → (n ≡ 0) ⊎ (n ≡ 1)
    below_two zero h = inl refl
    below_two (suc zero) h = inr refl
    below_two (suc (suc n)) h = absurd (omega arith)

-- a map by bits is linear
pub by_bits_xor : (images : List ℕ) (a b : ℕ)
    → by_bits images (bit_xor a b) ≡ bit_xor (by_bits images a) (by_bits images b)
by_bits_xor [] a b = refl
by_bits_xor (m ∷ ms) a b =
    rw (
      xor_mod a b 1,
      xor_shr a b 1,
      by_bits_xor ms (a / 2) (b / 2),
      bit_times (a % 2) (b % 2) m (omega arith) (omega arith),
    )
    (xor_pairs (a % 2 * m) (b % 2 * m) (by_bits ms (a / 2)) (by_bits ms (b / 2)))
