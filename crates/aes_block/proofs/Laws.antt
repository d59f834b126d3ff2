-- An encryption is a block. The inverse of an octet is the only one.
use Rattle.std.proofs.Common.{◌≡◌, ℕ, ◌<◌, eqb, true, cond, ◌&&◌, nat_lt, List, length, refl, sym}
use Rattle.std.proofs.Common.{◌∙◌, map, arith}
use Rattle.std.proofs.lemmas.Bool.{ltb-true, eq-eqb, eqb-true, ne_eqb, and_parts, cond-true}
use Rattle.std.proofs.lemmas.Bool.{cond-false}
use Rattle.aes_block.proofs.Octets.{same_at}
use Rattle.aes_block.specs.Field.{times, octets, inverse, InversesAreUnique}
use Rattle.aes_block.specs.Cipher.{add_round_key, aes128}

-- an encryption has sixteen octets
pub length_aes128 : (key block : List ℕ) → length (aes128 key block) ≡ 16
unfolding aes128 add_round_key
length_aes128 key block = refl

only_test : map (λ b. map (λ c. cond (eqb (times b c) 1) c (inverse b)) octets) octets
    ≡ map (λ b. map (λ _. inverse b) octets) octets
unfolding times inverse
only_test = refl

-- no other octet is an inverse
pub inverse_only : (b c : ℕ) → b < 256 → c < 256 → times b c ≡ 1 → c ≡ inverse b
inverse_only b c hb hc h =
    let at_b : map (λ d. cond (eqb (times b d) 1) d (inverse b)) octets
    ≡ map (λ _. inverse b) octets =
    same_at (λ x. map (λ d. cond (eqb (times x d) 1) d (inverse x)) octets)
    (λ x. map (λ _. inverse x) octets) b only_test hb in
    let at_c : cond (eqb (times b c) 1) c (inverse b) ≡ inverse b =
    same_at (λ d. cond (eqb (times b d) 1) d (inverse b)) (λ _. inverse b) c at_b hc in
    sym (cond-true (eqb (times b c) 1) c (inverse b) (eq-eqb (times b c) 1 h)) ∙ at_c

inverse_test : map (λ b. cond (eqb b 0) true
    (nat_lt (inverse b) 256 && eqb (times b (inverse b)) 1)) octets ≡ map (λ _. true) octets
unfolding times inverse
inverse_test = refl

pub inverses_are_unique : InversesAreUnique
inverses_are_unique b some fits =
    let tested : cond (eqb b 0) true (nat_lt (inverse b) 256 && eqb (times b (inverse b)) 1)
    ≡ true =
    same_at (λ x. cond (eqb x 0) true (nat_lt (inverse x) 256 && eqb (times x (inverse x)) 1))
    (λ _. true) b inverse_test fits in
    let both = and_parts (nat_lt (inverse b) 256) (eqb (times b (inverse b)) 1)
    (sym (cond-false (eqb b 0) _ _ (ne_eqb b 0 (omega arith))) ∙ tested) in
    record {
      octet = ltb-true (inverse b) 256 both.0;
      product = eqb-true (times b (inverse b)) 1 both.1;
      alone = λ other small one. inverse_only b other fits small one;
    }
