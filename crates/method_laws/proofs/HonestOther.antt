-- Over an honest book each tag that an end accepted is one that the other end made.
use Rattle.std.proofs.Common.{◌≡◌, List, [], ◌∷◌, ◌++◌, true, None, refl, sym, subst, append_assoc}
use Rattle.std.proofs.Common.{inl, inr}
use Rattle.std.specs.Prelude.{◌&&◌, not, if◌then◌else◌}
use Rattle.std.specs.List.{list_any}
use Rattle.std.proofs.lemmas.Bool.{and_parts, and_from, or_cases}
use Rattle.eap_method.specs.declared.tags.TagRecord.{TagRecord}
use Rattle.tag_book.specs.Book.{same_end, is_accepted, vouches, first_broken}
use Rattle.tag_book.specs.declared.book.End.{End}
use Rattle.tag_book.specs.declared.book.End.TheVariants.{Peer, Server}
use Rattle.tag_book.specs.declared.book.Use.TheVariants.{Accepted, Made}
use Rattle.tag_book.specs.declared.book.Entry.{Entry}
use Rattle.tag_book.specs.declared.book.RecordOwner.TheVariants.{Other}
use Rattle.method_laws.specs.Records.{same_use, tags_by, IsIn}
use Rattle.method_laws.proofs.TagsOfEnds.{by_test_in, honest_vouched, in_if, is_in_front, not_true}
use Rattle.method_laws.proofs.TagsOfEnds.{other_end, skip_if, tags_append, tags_equal, unbroken}
use Rattle.method_laws.proofs.TagsOfEnds.{use_accepted, use_is}

other_is : (m e own : End) → same_end e own ≡ true → not (same_end m e) ≡ true
    → same_end m (other_end own) ≡ true
other_is Peer Peer own same differ = absurd cc
other_is Peer Server Peer same differ = absurd cc
other_is Peer Server Server same differ = refl
other_is Server Peer Peer same differ = refl
other_is Server Peer Server same differ = absurd cc
other_is Server Server own same differ = absurd cc

module _ (own : End) where
  vouched : (e m : Entry) (rest : List Entry) → same_end e.end own ≡ true → vouches Other e m ≡ true
      → IsIn e.tag (tags_by (other_end own) Made (m ∷ rest))
  unfolding tags_by
  vouched e m rest is_own v =
      let a = and_parts (not (is_accepted m)) _ v in
      let b = and_parts (not (same_end m.end e.end)) _ a.1 in
      let same = tags_equal m.tag e.tag b.1 in
      let is_made = use_is m.used (not_true (is_accepted m) a.0) in
      let test : (same_end m.end (other_end own) && same_use m.used Made) ≡ true =
      and_from (same_end m.end (other_end own)) (same_use m.used Made)
      (other_is m.end e.end own is_own b.0) is_made in
      let others = tags_by (other_end own) Made rest in
      subst (λ (t : TagRecord). IsIn t (if same_end m.end (other_end own) && same_use m.used Made
      then m.tag ∷ others else others)) same
      (in_if (same_end m.end (other_end own) && same_use m.used Made) m.tag others test)

  further : (e m : Entry) (rest : List Entry) → IsIn e.tag (tags_by (other_end own) Made rest)
      → IsIn e.tag (tags_by (other_end own) Made (m ∷ rest))
  unfolding tags_by
  further e m rest is = skip_if (same_end m.end (other_end own) && same_use m.used Made) e.tag m.tag
      (tags_by (other_end own) Made rest) is

  some_vouches : (e : Entry) (earlier : List Entry) → same_end e.end own ≡ true
      → list_any (vouches Other e) earlier ≡ true
      → IsIn e.tag (tags_by (other_end own) Made earlier)
  some_vouches e [] is_own v = absurd cc
  some_vouches e (m ∷ rest) is_own v =
      elim (or_cases (vouches Other e m) (list_any (vouches Other e) rest) v) [
        | inl this ↦ vouched e m rest is_own this
        | inr other ↦ further e m rest (some_vouches e rest is_own other)
      ]

  in_longer : (tag : TagRecord) (one other : List Entry) → IsIn tag (tags_by
      (other_end own) Made one) → IsIn tag (tags_by (other_end own) Made (one ++ other))
  in_longer tag one other is =
      subst (IsIn tag) (sym (tags_append (other_end own) Made one other))
      (is_in_front tag (tags_by (other_end own) Made one) (tags_by (other_end own) Made other) is)

  honest_each : (earlier rest : List Entry) → first_broken Other earlier rest ≡ None
      → (tag : TagRecord) → IsIn tag (tags_by own Accepted rest)
      → IsIn tag (tags_by (other_end own) Made (earlier ++ rest))
  unfolding tags_by
  honest_each earlier [] none tag is = elim is [ ]
  honest_each earlier (e ∷ rest) none tag is =
      let u = unbroken Other earlier e rest none in
      by_test_in (same_end e.end own && same_use e.used Accepted) tag e.tag
      (tags_by own Accepted rest) (IsIn tag (tags_by (other_end own) Made (earlier ++ e ∷ rest)))
      (λ test same.
      let parts = and_parts (same_end e.end own) (same_use e.used Accepted) test in
      let vouch = some_vouches e earlier parts.0
      (honest_vouched Other e earlier (use_accepted e.used parts.1) u.honest) in
      subst (λ (t : TagRecord). IsIn t (tags_by (other_end own) Made (earlier ++ e ∷ rest)))
      (sym same) (in_longer e.tag earlier (e ∷ rest) vouch))
      (λ behind.
      subst (λ (all : List Entry). IsIn tag (tags_by (other_end own) Made all))
      (append_assoc earlier (e ∷ []) rest)
      (honest_each (earlier ++ e ∷ []) rest u.behind tag behind))
      is

pub honest_other : (own : End) (book : List Entry) → first_broken Other [] book ≡ None
    → (tag : TagRecord) → IsIn tag (tags_by own Accepted book)
    → IsIn tag (tags_by (other_end own) Made book)
honest_other own book none tag is = honest_each own [] book none tag is
