-- Writing a text part by part.
use Rattle.std.proofs.Common.{◌≡◌, ℕ, ◌≤◌, ◌-◌, List, [], ◌++◌, length, take, drop, Option, Some}
use Rattle.std.proofs.Common.{None}
use Rattle.std.specs.Prelude.{Result, Ok, Err, IsErr}
use Rattle.std.proofs.Common.{refl, sym, ◌∙◌, ap, subst, arith, append_assoc, append-nil}
use Rattle.std.proofs.Common.{take-append-drop}
use Rattle.std.proofs.lemmas.Grind.{common_steps}
use Rattle.octet_io.specs.Known.{append_known}
use Rattle.octet_io.specs.declared.source.Failed.{Failed}
use Rattle.octet_io.specs.Shown.{Shown, HasRisen}
use Rattle.answer_text.specs.Writes.{Appended, Appends}

pub append_known_nil : (known : Option (List ℕ)) → append_known known [] ≡ known
append_known_nil None = refl
append_known_nil (Some xs) = ap Some (append-nil xs)

pub append_known_append : (known : Option (List ℕ)) (xs ys : List ℕ)
    → append_known known (xs ++ ys) ≡ append_known (append_known known xs) ys
append_known_append None xs ys = refl
append_known_append (Some zs) xs ys = ap Some (sym (append_assoc zs xs ys))

module _ {S : Type 0} (shown : Shown S) where
  -- a text in two parts: the first was written, and then the second
  pub appends_both : (result : Result (Unit {0}) Failed) (done : Unit {0}) (before mid after : S)
      (first second : List ℕ)
      → Appends shown (Ok done) before mid first → Appends shown result mid after second
      → Appends shown result before after (first ++ second)
  unfolding Appends
  appends_both (Ok all) done before mid after first second a b = record {
    writes = append_known_append (shown.octets before) first second
        ∙ ap (λ k. append_known k second) a.writes ∙ b.writes;
    counted = tt;
    uncounted = b.uncounted ∙ a.uncounted;
    never_falls = omega arith;
  }
  appends_both (Err fault) done before mid after first second a b = record {
    writes = record {
      front = first ++ b.writes.front;
      rest = b.writes.rest;
      split = ap (λ t. first ++ t) b.writes.split
          ∙ sym (append_assoc first b.writes.front b.writes.rest);
      appended = append_known_append (shown.octets before) first b.writes.front
          ∙ ap (λ k. append_known k b.writes.front) a.writes ∙ b.writes.appended;
    };
    counted = λ h. b.counted (omega arith);
    uncounted = tt;
    never_falls = omega arith;
  }

  -- the first part was not written whole
  pub appends_front : (result first_result : Result (Unit {0}) Failed) (before after : S)
      (first second : List ℕ) → IsErr result → IsErr first_result
      → Appends shown first_result before after first
      → Appends shown result before after (first ++ second)
  unfolding Appends
  appends_front (Ok done) first_result before after first second e f a = absurd cc
  appends_front (Err other) (Ok done) before after first second e f a = absurd cc
  appends_front (Err other) (Err fault) before after first second e f a = record {
    writes = record {
      front = a.writes.front;
      rest = a.writes.rest ++ second;
      split = ap (λ t. t ++ second) a.writes.split
          ∙ append_assoc a.writes.front a.writes.rest second;
      appended = a.writes.appended;
    };
    counted = a.counted;
    uncounted = tt;
    never_falls = a.never_falls;
  }

  -- nothing was written
  pub appends_none : (done : Unit {0}) (now : S) → Appends shown (Ok done) now now []
  unfolding Appends
  appends_none done now = record {
    writes = append_known_nil (shown.octets now);
    counted = tt;
    uncounted = refl;
    never_falls = omega arith;
  }

  -- the text has been written up to the rest
  pub record Appending (before now : S) (text rest : List ℕ) : Type 0 where
    pub front : List ℕ
    pub split : text ≡ front ++ rest
    pub appends : Appends shown (Ok tt) before now front

  pub appending_starts : (now : S) (text : List ℕ) → Appending now now text text
  appending_starts now text = record { front = []; split = refl; appends = appends_none tt now }

  -- one more piece was written
  pub appending_next : (before now after : S) (text rest piece more : List ℕ) → rest ≡ piece ++ more
      → Appending before now text rest
      → Appends shown (Ok tt) now after piece → Appending before after text more
  appending_next before now after text rest piece more e a p = record {
    front = a.front ++ piece;
    split = a.split ∙ ap (λ t. a.front ++ t) e ∙ sym (append_assoc a.front piece more);
    appends = appends_both (Ok tt) tt before now after a.front piece a.appends p;
  }

  -- the rest was written, or a front of it
  pub appending_ends : (result : Result (Unit {0}) Failed) (before now after : S)
      (text rest : List ℕ) → Appending before now text rest
      → Appends shown result now after rest → Appends shown result before after text
  appending_ends result before now after text rest a r =
      subst (λ t. Appends shown result before after t) (sym a.split)
      (appends_both result tt before now after a.front rest a.appends r)

  -- some octets of a slice were written, and the rest of it is a range
  pub appending_range : (before now after : S) (text rest : List ℕ) (n : ℕ)
      → Appending before now text rest
      → append_known (shown.octets now) (take n rest) ≡ shown.octets after
      → shown.faults after ≡ shown.faults now
      → Appending before after text (take (length rest - n) (drop n rest))
  unfolding Appends
  appending_range before now after text rest n a e f =
      let all : take (length rest - n) (drop n rest) ≡ drop n rest = grind (arith, common_steps) in
      let took : Appended shown (Ok tt) now after (take n rest) =
      record { writes = e; counted = tt; uncounted = f; never_falls = omega arith } in
      rw all (appending_next before now after text rest (take n rest) (drop n rest)
      (sym (take-append-drop n rest)) a took)

  -- a fault came, and nothing was written
  pub appends_nothing : (result : Result (Unit {0}) Failed) (before after : S) (text : List ℕ)
      → IsErr result → shown.octets after ≡ shown.octets before
      → HasRisen shown before after → shown.faults before ≤ shown.faults after
      → Appends shown result before after text
  unfolding Appends
  appends_nothing (Ok done) before after text is e h f = absurd cc
  appends_nothing (Err fault) before after text is e h f = record {
    writes = record {
      front = [];
      rest = text;
      split = refl;
      appended = append_known_nil (shown.octets before) ∙ sym e;
    };
    counted = h;
    uncounted = tt;
    never_falls = f;
  }
