-- The first round key, and the rounds one by one.
use Rattle.std.proofs.Common.{◌≡◌, ℕ, suc, ◌+◌, List, length, slice_index, refl, ap, ◌∙◌, sym}
use Rattle.std.proofs.Common.{arith}
use Rattle.std.proofs.lemmas.List.FromFn.{fill_by_all}
use Rattle.aes_block.specs.KeySchedule.{key_words, round_key}
use Rattle.aes_block.specs.Cipher.{add_round_key, full_round_of, last_round_of, rounds, aes128}

-- the key of round 0 is the key
pub round_key_zero : (key : List ℕ) → length key ≡ 16 → round_key key 0 ≡ key
unfolding round_key key_words
round_key_zero key h = sym (fill_by_all (λ i. slice_index key i) key 16 0 h (λ _ _. refl))

-- before the first round, with the key of round 0
pub rounds_none : (key block first state : List ℕ) → first ≡ key → round_key first 0 ≡ first
    → state ≡ add_round_key block first
    → state ≡ rounds key block 0
unfolding rounds
rounds_none key block first state ek zero e =
    e ∙ ap (add_round_key block) (sym zero) ∙ ap (λ k. add_round_key block (round_key k 0)) ek

-- one round more
pub rounds_more : (key block first rk before after : List ℕ) (n : ℕ) → first ≡ key
    → rk ≡ round_key first (n + 1) → before ≡ rounds key block n
    → after ≡ full_round_of before rk → after ≡ rounds key block (n + 1)
unfolding rounds
rounds_more key block first rk before after n ek er eb e =
    let place : n + 1 ≡ suc n = omega arith in
    e ∙ rw (eb, er, ek, place) refl

-- the last round
pub aes128_done : (key block first rk before result : List ℕ) (n : ℕ) → first ≡ key
    → rk ≡ round_key first 10 → before ≡ rounds key block n
    → n ≡ 9 → result ≡ last_round_of before rk → result ≡ aes128 key block
unfolding aes128
aes128_done key block first rk before result n ek er eb en e = e ∙ rw (eb, er, ek, en) refl
