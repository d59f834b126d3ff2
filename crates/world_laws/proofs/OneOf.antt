-- Conversations among others, and their tags among all.
use Rattle.std.proofs.Common.{◌≡◌, List, [], ◌∷◌, None, Some, refl, sym, subst, inl, inr}
use Rattle.std.specs.Prelude.{◌⊎◌}
use Rattle.eap_method.specs.declared.tags.TagRecord.{TagRecord}
use Rattle.world_laws.specs.EachConversation.{AreTwoOf, Conversation, IsOneOf, all_accepted}
use Rattle.world_laws.specs.EachConversation.{all_produced, behind, first, here, last_now, later}
use Rattle.method_laws.specs.Records.{IsIn}
use Rattle.world_laws.proofs.PastConversations.{in_after, in_either}
use Rattle.method_laws.proofs.TagsOfEnds.{is_in_front}

-- it is the first one, or one of the others
pub one_parts : {A : Type 0} (x y : A) (xs all : List A) → IsOneOf x all → all ≡ y ∷ xs
    → (x ≡ y) ⊎ IsOneOf x xs
one_parts x y xs _ (here rest) e = inl (let same : x ≡ y = cc in same)
one_parts {A} x y xs _ (later other rest is) e =
    inr (subst (λ (l : List A). IsOneOf x l) (let same : rest ≡ xs = cc in same) is)

pub two_parts : {A : Type 0} (x y z : A) (xs all : List A) → AreTwoOf x y all → all ≡ z ∷ xs
    → ((x ≡ z) × IsOneOf y xs) ⊎ AreTwoOf x y xs
two_parts {A} x y z xs _ (first rest is) e =
    inl (
      (let same : x ≡ z = cc in same),
      subst (λ (l : List A). IsOneOf y l) (let same : rest ≡ xs = cc in same) is,
    )
two_parts {A} x y z xs _ (behind other rest are) e =
    inr (subst (λ (l : List A). AreTwoOf x y l) (let same : rest ≡ xs = cc in same) are)

-- each of two is one of them
pub first_of : {A : Type 0} (x y : A) (all : List A) → AreTwoOf x y all → IsOneOf x all
first_of x y _ (first rest is) = here rest
first_of x y _ (behind other rest are) = later other rest (first_of x y rest are)

pub second_of : {A : Type 0} (x y : A) (all : List A) → AreTwoOf x y all → IsOneOf y all
second_of x y _ (first rest is) = later x rest is
second_of x y _ (behind other rest are) = later other rest (second_of x y rest are)

-- two of them are the same, or two
pub same_or_two : {A : Type 0} (x y : A) (all : List A) → IsOneOf x all → IsOneOf y all
    → (x ≡ y) ⊎ (AreTwoOf x y all ⊎ AreTwoOf y x all)
same_or_two x y _ (here rest) other_is =
    elim (one_parts y x rest _ other_is refl) [
      | inl e ↦ inl (sym e)
      | inr is ↦ inr (inl (first rest is))
    ]
same_or_two {A} x y _ (later other rest is) other_is =
    elim (one_parts y other rest _ other_is refl) [
      | inl e ↦ inr (inr (subst (λ (z : A). AreTwoOf z x (other ∷ rest)) (sym e) (first rest is)))
      | inr there ↦ elim (same_or_two x y rest is there) [
        | inl e ↦ inl e
        | inr two ↦ elim two [
          | inl one ↦ inr (inl (behind other rest one))
          | inr one ↦ inr (inr (behind other rest one))
        ]
      ]
    ]

-- the conversation that made a tag
pub record CreatedIn {N : Type 0} (t : TagRecord) (all : List (Conversation N)) : Type 0 where
  pub by : Conversation N
  pub is_one : IsOneOf by all
  pub is_in : IsIn t by.made

pub made_in : {N : Type 0} (t : TagRecord) (all : List (Conversation N)) → IsIn t (all_produced all)
    → CreatedIn t all
unfolding all_produced
made_in t [] is = elim is [ ]
made_in t (k ∷ rest) is =
    elim (in_either t k.made (all_produced rest) is) [
      | inl now ↦ record { by = k; is_one = here rest; is_in = now }
      | inr there ↦ let m = made_in t rest there in
          record { by = m.by; is_one = later k rest m.is_one; is_in = m.is_in }
    ]

-- what one of them accepted is among all that they accepted
pub accepted_in : {N : Type 0} (t : TagRecord) (k : Conversation N) (all : List (Conversation N))
    → IsOneOf k all → IsIn t k.accepted
    → IsIn t (all_accepted all)
unfolding all_accepted
accepted_in t k _ (here rest) is = is_in_front t k.accepted (all_accepted rest) is
accepted_in t k _ (later other rest is_one) is =
    in_after t other.accepted (all_accepted rest) (accepted_in t k rest is_one is)

-- and what it made among all that they made
pub produced_in : {N : Type 0} (t : TagRecord) (k : Conversation N) (all : List (Conversation N))
    → IsOneOf k all → IsIn t k.made
    → IsIn t (all_produced all)
unfolding all_produced
produced_in t k _ (here rest) is = is_in_front t k.made (all_produced rest) is
produced_in t k _ (later other rest is_one) is =
    in_after t other.made (all_produced rest) (produced_in t k rest is_one is)

-- what holds of each of them holds of the last
now_is : {N : Type 0} (one other : N) → Some one ≡ Some other → one ≡ other
now_is one other e = cc

from_first : {N : Type 0} (k : Conversation N) (rest : List (Conversation N)) (now : N)
    → last_now (Some k.now) rest ≡ Some now → (P : N → Type 0)
    → ((j : Conversation N) → IsOneOf j (k ∷ rest) → P j.now) → P now
unfolding last_now
from_first k [] now e P each = subst P (now_is k.now now e) (each k (here []))
from_first k (j ∷ rest) now e P each =
    from_first j rest now e P (λ i is. each i (later k (j ∷ rest) is))

pub of_last : {N : Type 0} (all : List (Conversation N)) (now : N) → last_now None all ≡ Some now
    → (P : N → Type 0)
    → ((k : Conversation N) → IsOneOf k all → P k.now) → P now
unfolding last_now
of_last [] now e P each = absurd cc
of_last (k ∷ rest) now e P each = from_first k rest now e P each
