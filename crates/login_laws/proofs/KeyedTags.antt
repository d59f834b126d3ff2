-- What the honesty of the tags under a key says of them in the whole book.
use Rattle.std.proofs.Common.{◌≡◌, ℕ, List, [], ◌∷◌, true, false, Bool, sym, ap, subst, ◌∙◌, inl}
use Rattle.std.proofs.Common.{inr}
use Rattle.std.specs.Prelude.{◌&&◌, ◌⊎◌, if◌then◌else◌}
use Rattle.std.proofs.lemmas.Slice.Eq.{bytes_eq-Decides}
use Rattle.eap_method.specs.declared.tags.TagRecord.{TagRecord}
use Rattle.eap_method.specs.Tags.{is_under}
use Rattle.tag_book.specs.Book.{first_broken, same_end, tags_verdict, tags_verdict_either, under}
use Rattle.tag_book.specs.declared.book.End.{End}
use Rattle.tag_book.specs.declared.book.Entry.{Entry}
use Rattle.tag_book.specs.declared.book.RecordOwner.TheVariants.{Either, Other}
use Rattle.tag_book.specs.declared.book.TagsVerdict.TheVariants.{Honest}
use Rattle.tag_book.specs.declared.book.Use.{Use}
use Rattle.tag_book.specs.declared.book.Use.TheVariants.{Accepted, Made}
use Rattle.method_laws.specs.Records.{IsIn, same_use, tags_by}
use Rattle.world_laws.proofs.HonestOfEither.{none_if_honest}
use Rattle.method_laws.proofs.HonestOther.{honest_other}
use Rattle.method_laws.proofs.TagsOfEnds.{by_test_in, honest_tags, in_if, other_end, skip_if}

module _ (key : List ℕ) (own : End) (how : Use) where
  abbrev is_its : Entry → Bool
  is_its e = same_end e.end own && same_use e.used how

  kept : (b : Bool) (e : Entry) (rest : List Entry) (t : TagRecord) → IsIn t (tags_by own how rest)
      → IsIn t (tags_by own how (if b then e ∷ rest else rest))
  unfolding tags_by
  kept true e rest t is = skip_if (is_its e) t e.tag (tags_by own how rest) is
  kept false e rest t is = is

  put : (b : Bool) (e : Entry) (rest : List Entry) → b ≡ true → is_its e ≡ true
      → IsIn e.tag (tags_by own how (if b then e ∷ rest else rest))
  unfolding tags_by
  put true e rest sure test = in_if (is_its e) e.tag (tags_by own how rest) test
  put false e rest sure test = cc

  in_under : (t : TagRecord) (book : List Entry) → t.psk ≡ key → IsIn t (tags_by own how book)
      → IsIn t (tags_by own how (under key book))
  unfolding tags_by under
  in_under t [] e is = elim is [ ]
  in_under t (x ∷ rest) e is =
      by_test_in (is_its x) t x.tag (tags_by own how rest) (IsIn t
      (tags_by own how (if is_under key x.tag then x ∷ under key rest else under key rest)))
      (λ test same.
      subst (λ (u : TagRecord). IsIn u (tags_by own how
      (if is_under key x.tag then x ∷ under key rest else under key rest))) (sym same)
      (put (is_under key x.tag) x (under key rest)
      ((bytes_eq-Decides x.tag.psk key).1 (sym (ap (λ (r : TagRecord). r.psk) same) ∙ e)) test))
      (λ behind. kept (is_under key x.tag) x (under key rest) t (in_under t rest e behind))
      is

  whole : (b : Bool) (x : Entry) (sub rest : List Entry) (t : TagRecord)
      → (IsIn t (tags_by own how sub) → IsIn t (tags_by own how rest))
      → IsIn t (tags_by own how (if b then x ∷ sub else sub)) → IsIn t (tags_by own how (x ∷ rest))
  unfolding tags_by
  whole true x sub rest t more is =
      by_test_in (is_its x) t x.tag (tags_by own how sub)
      (IsIn t (if is_its x then x.tag ∷ tags_by own how rest else tags_by own how rest))
      (λ test same.
      subst (λ (u : TagRecord).
      IsIn u (if is_its x then x.tag ∷ tags_by own how rest else tags_by own how rest)) (sym same)
      (in_if (is_its x) x.tag (tags_by own how rest) test))
      (λ behind. skip_if (is_its x) t x.tag (tags_by own how rest) (more behind))
      is
  whole false x sub rest t more is = skip_if (is_its x) t x.tag (tags_by own how rest) (more is)

  of_under : (t : TagRecord) (book : List Entry) → IsIn t (tags_by own how (under key book))
      → IsIn t (tags_by own how book)
  unfolding tags_by under
  of_under t [] is = elim is [ ]
  of_under t (x ∷ rest) is =
      whole (is_under key x.tag) x (under key rest) rest t (of_under t rest) is

-- each that an end accepted was made by the other, or by either
module _ (key : List ℕ) (book : List Entry) (own : End) where
  pub other_under : tags_verdict (under key book) ≡ Honest → (t : TagRecord) → t.psk ≡ key
      → IsIn t (tags_by own Accepted book)
      → IsIn t (tags_by (other_end own) Made book)
  other_under honest t e is =
      of_under key (other_end own) Made t book
      (honest_other own (under key book) (none_if_honest (first_broken Other [] (under key book))
      honest) t (in_under key own Accepted t book e is))

  pub either_under : tags_verdict_either (under key book) ≡ Honest → (t : TagRecord) → t.psk ≡ key
      → IsIn t (tags_by own Accepted book)
      → IsIn t (tags_by (other_end own) Made book) ⊎ IsIn t (tags_by own Made book)
  either_under honest t e is =
      elim ((honest_tags own (under key book) (none_if_honest (first_broken Either []
      (under key book)) honest)).each t (in_under key own Accepted t book e is)) [
        | inl made ↦ inl (of_under key (other_end own) Made t book made)
        | inr back ↦ inr (of_under key own Made t book back)
      ]
