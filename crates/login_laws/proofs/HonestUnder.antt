-- A book that is honest is honest under each key.
use Rattle.std.proofs.Common.{◌≡◌, ℕ, List, [], ◌∷◌, ◌++◌, Bool, true, false, None, refl, sym, ap}
use Rattle.std.proofs.Common.{◌∙◌}
use Rattle.std.specs.Prelude.{if◌then◌else◌}
use Rattle.eap_method.specs.Tags.{is_under}
use Rattle.tag_book.specs.Book.{first_broken, is_honest, under, verdict_on}
use Rattle.tag_book.specs.declared.book.Entry.{Entry}
use Rattle.tag_book.specs.declared.book.RecordOwner.{RecordOwner}
use Rattle.tag_book.specs.declared.book.RecordOwner.TheVariants.{Either, Other}
use Rattle.tag_book.proofs.FirstBroken.{passed}
use Rattle.tag_book.proofs.UnderKey.{honest_under, none_more, one_more}
use Rattle.login_laws.specs.UnderKey.{HonestUnder}
use Rattle.world_laws.proofs.HonestOfEither.{none_if_honest}
use Rattle.method_laws.proofs.TagsOfEnds.{unbroken}

module _ (key : List ℕ) where
  unbroken_under : (makers : RecordOwner) (earlier rest : List Entry)
      → first_broken makers earlier rest ≡ None
      → first_broken makers (under key earlier) (under key rest) ≡ None
  unfolding first_broken under
  unbroken_under makers earlier [] none = refl
  unbroken_under makers earlier (e ∷ rest) none =
      let u = unbroken makers earlier e rest none in
      by (is_under key e.tag) refl u.honest
      (unbroken_under makers (earlier ++ e ∷ []) rest u.behind)
    where
      by : (b : Bool) → is_under key e.tag ≡ b → is_honest makers earlier e ≡ true
          → first_broken makers (under key (earlier ++ e ∷ [])) (under key rest) ≡ None
          → first_broken makers (under key earlier) (if b then e ∷ under key rest
          else under key rest) ≡ None
      by true its honest behind =
          passed makers (under key earlier) (under key rest) e
          (honest_under key makers e its earlier ∙ honest)
          ∙ ap (λ (l : List Entry). first_broken makers l (under key rest))
          (sym (one_more key earlier e its))
          ∙ behind
      by false its honest behind =
          ap (λ (l : List Entry). first_broken makers l (under key rest)) (sym
          (none_more key earlier e its)) ∙ behind

-- A tag that vouches for another equals it, and so is under the same key. What is left out of the
-- book under a key vouches for nothing that stays. By induction over the book, none of the entries
-- that stay is broken.
pub honest_under_a_key : HonestUnder
unfolding under
honest_under_a_key key book = (
  (λ honest. ap verdict_on
      (unbroken_under key Other [] book (none_if_honest (first_broken Other [] book) honest))),
  (λ honest. ap verdict_on
      (unbroken_under key Either [] book (none_if_honest (first_broken Either [] book) honest))),
)
