-- Tags that are among those of lists.
use Rattle.std.proofs.Common.{◌≡◌, ℕ, ◌+◌, List, [], ◌∷◌, ◌++◌, Bool, true, false, cond, Some}
use Rattle.std.proofs.Common.{None, refl, sym, subst, ◌∙◌, inl, inr}
use Rattle.std.specs.Prelude.{◌&&◌, ◌||◌, not}
use Rattle.std.specs.List.{list_any, position, position_from}
use Rattle.std.proofs.lemmas.Bool.{or_cases}
use Rattle.std.proofs.lemmas.Iterator.Adapters.{position_from-zero}
use Rattle.std.proofs.lemmas.List.Folds.{list_any-append}
use Rattle.std.proofs.lemmas.Slice.Eq.{bytes_eq-Decides}
use Rattle.eap_method.specs.Tags.{is_under, same_tag}
use Rattle.eap_method.specs.declared.tags.TagRecord.{TagRecord}
use Rattle.login_laws.specs.AnyEnds.{AreMade}
use Rattle.method_laws.specs.Records.{IsIn, here, later}
use Rattle.method_laws.proofs.TagsOfEnds.{tags_equal}
use Rattle.own_proof.specs.Ends.{is_unmade}

-- a test of two lists joined is one of both
pub any_of_both : (P : TagRecord → Bool) (xs ys : List TagRecord)
    → list_any P (xs ++ ys) ≡ (list_any P xs || list_any P ys)
any_of_both P xs ys = list_any-append P xs ys

-- a record that is the same as one of these is among them
same_is_in : (t : TagRecord) (made : List TagRecord) → list_any (same_tag t) made ≡ true → IsIn t made
same_is_in t [] e = absurd cc
same_is_in t (u ∷ rest) e =
    elim (or_cases (same_tag t u) (list_any (same_tag t) rest) e) [
      | inl this ↦ subst (λ (v : TagRecord). IsIn t (v ∷ rest)) (tags_equal t u this) (here rest)
      | inr other ↦ later u rest (same_is_in t rest other)
    ]

-- one that isn't unmade, under the key, is among those made
not_unmade : (under some : Bool) → under ≡ true → (under && not some) ≡ false → some ≡ true
not_unmade true true is e = refl
not_unmade true false is e = absurd cc
not_unmade false some is e = absurd cc

-- if the test finds no place, it holds nowhere
nowhere : (P : TagRecord → Bool) (t : TagRecord) (i : ℕ) (xs : List TagRecord)
    → position_from P i xs ≡ None → IsIn t xs → P t ≡ false
nowhere P t i _ none (here rest) = by (P t) none
  where
    by : (b : Bool) → cond b (Some i) (position_from P (i + 1) rest) ≡ None → b ≡ false
    by true e = absurd cc
    by false e = refl
nowhere P t i _ none (later other rest is) = nowhere P t (i + 1) rest (by (P other) none) is
  where
    by : (b : Bool) → cond b (Some i) (position_from P (i + 1) rest) ≡ None
        → position_from P (i + 1) rest ≡ None
    by true e = absurd cc
    by false e = e

pub none_unmade : (key : List ℕ) (accepted made : List TagRecord)
    → position (is_unmade key made) accepted ≡ None → AreMade key accepted made
none_unmade key accepted made none =
    record {
      each = λ t is under.
          (same_is_in t made (not_unmade (is_under key t) (list_any (same_tag t) made)
          ((bytes_eq-Decides t.psk key).1 under)
          (nowhere (is_unmade key made) t 0 accepted
          (sym (position_from-zero (is_unmade key made) accepted) ∙ none) is)));
    }
