-- Which record of a short list it is.
use Rattle.std.proofs.Common.{◌≡◌, List, [], ◌∷◌, refl, sym, subst, ◌∙◌, inl, inr}
use Rattle.std.specs.Prelude.{◌⊎◌}
use Rattle.eap_method.specs.declared.tags.TagRecord.{TagRecord}
use Rattle.method_laws.specs.Records.{IsIn, here, later, AreInEither, FirstInEither}

pub among_one : (tag a : TagRecord) → IsIn tag (a ∷ []) → tag ≡ a
among_one tag a (here rest) = refl
among_one tag a (later other rest h) = elim h [ ]

pub among_two : (tag a b : TagRecord) → IsIn tag (a ∷ b ∷ []) → (tag ≡ a) ⊎ (tag ≡ b)
among_two tag a b (here rest) = inl refl
among_two tag a b (later other rest h) = inr (among_one tag b h)

-- the first record of a list
pub first_is : (one tag : TagRecord) (rest more : List TagRecord)
    → one ∷ rest ≡ tag ∷ more → tag ≡ one
first_is one tag rest more e = cc

pub no_tag : {A : Type 0} (tag : TagRecord) (more : List TagRecord)
    → ◌≡◌ {A = List TagRecord} [] (tag ∷ more) → A
no_tag tag more e = absurd cc

-- the first tag that an end accepted is among these
pub record FirstIn (accepted others : List TagRecord) : Type 0 where
  pub is : (tag : TagRecord) (rest : List TagRecord) → accepted ≡ tag ∷ rest → IsIn tag others

pub first_in : (accepted others : List TagRecord) (tag : TagRecord) (more : List TagRecord)
    → accepted ≡ tag ∷ more → IsIn tag others → FirstIn accepted others
first_in accepted others tag more first is =
    record {
      is = λ t rest e. subst (λ (u : TagRecord). IsIn u others)
          (first_is t tag rest more (sym e ∙ first)) is;
    }

-- so it is among these or others
pub first_in_one : (accepted others own : List TagRecord) (tag : TagRecord) (more : List TagRecord)
    → accepted ≡ tag ∷ more → IsIn tag others → FirstInEither accepted others own
first_in_one accepted others own tag more first is =
    record { is = λ t rest e. inl ((first_in accepted others tag more first is).is t rest e) }

-- where each is among these or others, so is the first
pub first_of_each : (accepted others own : List TagRecord) → AreInEither accepted others own
    → FirstInEither accepted others own
first_of_each accepted others own are = record {
  is = λ tag rest e. are.each tag (subst (IsIn tag) (sym e) (here rest));
}

pub one_of : {A B : Type 0} → A ⊎ B → (B → ⊥) → A
one_of (inl a) not_other = a
one_of (inr b) not_other = absurd (not_other b)
