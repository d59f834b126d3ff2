-- A book that is honest by the other end's tags alone is honest by those of either end.
use Rattle.std.proofs.Common.{◌≡◌, ℕ, List, [], ◌∷◌, ◌++◌, Bool, true, false, Option, Some, None}
use Rattle.std.proofs.Common.{refl, ap, ◌∙◌, inl, inr}
use Rattle.std.specs.Prelude.{not, if◌then◌else◌}
use Rattle.std.specs.List.{list_any}
use Rattle.std.proofs.lemmas.Bool.{and_parts, and_from, or_cases, or_left, or_right}
use Rattle.world_laws.specs.Laws.{HonestOfEither}
use Rattle.eap_method.specs.Tags.{same_tag}
use Rattle.tag_book.specs.Book.{same_end, is_accepted, vouches, is_honest, first_broken}
use Rattle.tag_book.specs.Book.{verdict_on}
use Rattle.tag_book.specs.declared.book.Entry.{Entry}
use Rattle.tag_book.specs.declared.book.RecordOwner.TheVariants.{Other, Either}
use Rattle.tag_book.specs.declared.book.TagsVerdict.TheVariants.{Honest}
use Rattle.tag_book.proofs.FirstBroken.{passed}
use Rattle.method_laws.proofs.TagsOfEnds.{unbroken}

pub none_if_honest : (o : Option ℕ) → verdict_on o ≡ Honest → o ≡ None
none_if_honest None e = refl
none_if_honest (Some event) e = cc

-- what vouches among the other end's records vouches among those of either
vouches_too : (e m : Entry) → vouches Other e m ≡ true → vouches Either e m ≡ true
vouches_too e m v =
    let a = and_parts (not (is_accepted m)) _ v in
    let b = and_parts (not (same_end m.end e.end)) _ a.1 in
    and_from (not (is_accepted m)) (same_tag m.tag e.tag) a.0 b.1

some_too : (e : Entry) (earlier : List Entry) → list_any (vouches Other e) earlier ≡ true
    → list_any (vouches Either e) earlier ≡ true
some_too e [] v = cc
some_too e (m ∷ rest) v =
    elim (or_cases (vouches Other e m) (list_any (vouches Other e) rest) v) [
      | inl this ↦ or_left (vouches Either e m) (list_any (vouches Either e) rest)
          (vouches_too e m this)
      | inr other ↦ or_right (vouches Either e m) (list_any (vouches Either e) rest)
          (some_too e rest other)
    ]

by_use : (b one other : Bool) → (one ≡ true → other ≡ true) → (if b then one else true) ≡ true
    → (if b then other else true) ≡ true
by_use true one other more h = more h
by_use false one other more h = refl

honest_too : (earlier : List Entry) (e : Entry) → is_honest Other earlier e ≡ true
    → is_honest Either earlier e ≡ true
honest_too earlier e h = by_use (is_accepted e) (list_any (vouches Other e) earlier)
    (list_any (vouches Either e) earlier) (some_too e earlier) h

unbroken_too : (earlier rest : List Entry) → first_broken Other earlier rest ≡ None
    → first_broken Either earlier rest ≡ None
unfolding first_broken
unbroken_too earlier [] none = refl
unbroken_too earlier (e ∷ rest) none =
    let u = unbroken Other earlier e rest none in
    passed Either earlier rest e (honest_too earlier e u.honest)
    ∙ unbroken_too (earlier ++ e ∷ []) rest u.behind

pub honest_of_either : HonestOfEither
honest_of_either book honest =
    ap verdict_on (unbroken_too [] book (none_if_honest (first_broken Other [] book) honest))
