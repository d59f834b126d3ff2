-- The first fault of many words is the earliest of their first faults.
use Rattle.std.proofs.Common.{◌≡◌, ℕ, ◌+◌, ◌<◌, ◌≤◌, Bool, true, false, ◌&&◌, ◌||◌, List, [], ◌∷◌}
use Rattle.std.proofs.Common.{length, Option, Some, None, find, inl, inr, leb, ltb, refl, sym, ap}
use Rattle.std.proofs.Common.{◌∙◌, arith}
use Rattle.std.proofs.lemmas.Bool.{leb-true, lt-ltb, le-ltb, and_parts, cases_Bool, cond-true}
use Rattle.std.proofs.lemmas.Bool.{cond-false}
use Rattle.text_tables.specs.Rows.{any_has, word_has, has_bad_count, fault_of_words}
use Rattle.text_tables.specs.Firsts.{rank_of, earlier, word_faults, fault_at, first_fault}
use Rattle.text_tables.specs.declared.fault.LineFault.{LineFault}
use Rattle.text_tables.specs.declared.fault.LineFault.TheVariants as fault
use Rattle.text_tables.specs.declared.rows.Field.{Field}

-- the faults stand in their order
abbrev ascends : ℕ → List LineFault → Bool
ascends n [] = true
ascends n (x ∷ rest) = leb n (rank_of x) && ascends (rank_of x + 1) rest

-- an earlier one goes before
keeps : (a b : LineFault) → rank_of a ≤ rank_of b → earlier (Some a) (Some b) ≡ Some a
keeps a b h =
    cond-false (ltb (rank_of b) (rank_of a)) (Some b) (Some a) (le-ltb (rank_of b) (rank_of a) h)

yields : (a b : LineFault) → rank_of b < rank_of a → earlier (Some a) (Some b) ≡ Some b
yields a b h =
    cond-true (ltb (rank_of b) (rank_of a)) (Some b) (Some a) (lt-ltb (rank_of b) (rank_of a) h)

-- what is found has at least the rank at which the list begins
abbrev Least : ℕ → Option LineFault → Type 0
Least n None = Unit {0}
Least n (Some b) = n ≤ rank_of b

least_more : (n m : ℕ) (b : Option LineFault) → n ≤ m → Least m b → Least n b
least_more n m None h k = tt
least_more n m (Some b) h k = omega arith

find_least : (q : LineFault → Bool) (n : ℕ) (xs : List LineFault) → ascends n xs ≡ true
    → Least n (find q xs)
find_least q n [] up = tt
find_least q n (x ∷ rest) up =
    let parts = and_parts (leb n (rank_of x)) (ascends (rank_of x + 1) rest) up in
    let low = leb-true n (rank_of x) (parts.0) in
    elim (cases_Bool (q x)) [
      | inl e ↦ rw e low
      | inr e ↦ rw e (least_more n (rank_of x + 1) (find q rest) (omega arith)
          (find_least q (rank_of x + 1) rest (parts.1)))
    ]

first_is : (x : LineFault) (b : Option LineFault) → Least (rank_of x + 1) b
    → earlier (Some x) b ≡ Some x
first_is x None h = refl
first_is x (Some b) h = keeps x b (omega arith)

second_is : (x : LineFault) (a : Option LineFault) → Least (rank_of x + 1) a
    → earlier a (Some x) ≡ Some x
second_is x None h = refl
second_is x (Some a) h = yields a x (omega arith)

-- the first that passes one of two tests
find_or : (p q : LineFault → Bool) (n : ℕ) (xs : List LineFault) → ascends n xs ≡ true
    → find (λ e. p e || q e) xs ≡ earlier (find p xs) (find q xs)
find_or p q n [] up = refl
find_or p q n (x ∷ rest) up =
    let parts = and_parts (leb n (rank_of x)) (ascends (rank_of x + 1) rest) up in
    let ups = parts.1 in
    elim (cases_Bool (p x)) [
      | inl e ↦ elim (cases_Bool (q x)) [
        | inl k ↦ rw (e, k) (sym (keeps x x (omega arith)))
        | inr k ↦ rw (e, k) (sym (first_is x (find q rest) (find_least q (rank_of x + 1) rest ups)))
      ]
      | inr e ↦ elim (cases_Bool (q x)) [
        | inl k ↦
            rw (e, k) (sym (second_is x (find p rest) (find_least p (rank_of x + 1) rest ups)))
        | inr k ↦ rw (e, k) (find_or p q (rank_of x + 1) rest ups)
      ]
    ]

word_first : (f : Field) (place : ℕ) (ws : List (List ℕ))
    → find (λ e. word_has e f place ws) word_faults ≡ fault_at f place ws
word_first f place ws =
    elim (cases_Bool (ltb place (length ws))) [
      | inl e ↦ rw e refl
      | inr e ↦ rw e refl
    ]

-- one more word, and none after the last
pub first_fault_cons : (f : Field) (rest : List Field) (place : ℕ) (ws : List (List ℕ))
    → first_fault place (f ∷ rest) ws
    ≡ earlier (fault_at f place ws) (first_fault (place + 1) rest ws)
unfolding first_fault
first_fault_cons f rest place ws =
    find_or (λ e. word_has e f place ws) (λ e. any_has e (place + 1) rest ws) 3 word_faults refl
    ∙ ap (λ here. earlier here (find (λ e. any_has e (place + 1) rest ws) word_faults))
    (word_first f place ws)

-- behind the number of words
pub fault_of_words_count : (least : ℕ) (fields : List Field) (ws : List (List ℕ))
    → has_bad_count least (length fields) (length ws) ≡ true
    → fault_of_words least fields ws ≡ Some fault.BadCount
unfolding fault_of_words
fault_of_words_count least fields ws e = rw e refl

pub fault_of_words_first : (least : ℕ) (fields : List Field) (ws : List (List ℕ))
    → has_bad_count least (length fields) (length ws) ≡ false
    → fault_of_words least fields ws ≡ first_fault 1 fields ws
unfolding fault_of_words first_fault
fault_of_words_first least fields ws e = rw e refl
