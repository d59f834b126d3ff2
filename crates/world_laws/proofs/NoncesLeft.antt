-- The nonces that an end has left, those with which conversations have begun, and which nonce is
-- new.
use Rattle.std.proofs.Common.{◌≡◌, ℕ, Bool, true, false, List, [], ◌∷◌, ◌++◌, map, Option, Some}
use Rattle.std.proofs.Common.{None, refl, sym, ap, subst, ◌∙◌}
use Rattle.std.specs.Prelude.{◌&&◌, not}
use Rattle.std.specs.List.{list_any}
use Rattle.std.specs.Str.{bytes_eq}
use Rattle.std.proofs.lemmas.Bool.{and_from, and_parts, or_left, or_right}
use Rattle.std.proofs.lemmas.List.Folds.{list_any-append}
use Rattle.std.proofs.lemmas.Slice.Eq.{bytes_eq-Decides}
use Rattle.tag_book.specs.Book.{same_end}
use Rattle.eap_world.specs.Conversations.{front, has_initiated, hears, is_new, is_used, occurs_in}
use Rattle.tag_book.specs.declared.book.End.{End}
use Rattle.eap_world.specs.declared.conversations.ConversationStart.{ConversationStart}
use Rattle.eap_world.specs.declared.conversations.Waiting.{Waiting}

-- ---- nonces that are left

pub data IsLeft (one : Waiting) : List Waiting → Type 0 where
  first : (rest : List Waiting) → IsLeft one (one ∷ rest)
  behind : (other : Waiting) (rest : List Waiting) → IsLeft one rest → IsLeft one (other ∷ rest)

-- the nonce that is held, where it is still left, is marked as heard
pub record IsMarked (left : List Waiting) (held : Option (List ℕ)) : Type 0 where
  pub each : (x : List ℕ) (one : Waiting) → held ≡ Some x → IsLeft one left → front one.nonce ≡ x
      → one.heard ≡ true

pub none_marked : (left : List Waiting) → IsMarked left None
none_marked left = record { each = λ x one e is same. cc e }

pub fewer_marked : (one : Waiting) (left : List Waiting) (held : Option (List ℕ))
    → IsMarked (one ∷ left) held → IsMarked left held
fewer_marked one left held m =
    record { each = λ x other e is same. m.each x other e (behind one left is) same }

-- a nonce that was left before octets came
pub record WasLeft (octets : List ℕ) (left : List Waiting) (one : Waiting) : Type 0 where
  pub before : Waiting
  pub is_left : IsLeft before left
  pub is : one ≡ hears octets before

was_in : (octets : List ℕ) (w one : Waiting) (left all : List Waiting) → IsLeft one all
    → all ≡ hears octets w ∷ map (hears octets) left
    → (IsLeft one (map (hears octets) left) → WasLeft octets left one)
    → WasLeft octets (w ∷ left) one
was_in octets w one left _ (first rest) e more =
    record { before = w; is_left = first left; is = (let same : one ≡ hears octets w = cc in same) }
was_in octets w one left _ (behind other rest is) e more =
    let m = more (subst (λ (l : List Waiting). IsLeft one l)
    (let same : rest ≡ map (hears octets) left = cc in same) is) in
    record { before = m.before; is_left = behind w left m.is_left; is = m.is }

pub was_left : (octets : List ℕ) (left : List Waiting) (one : Waiting)
    → IsLeft one (map (hears octets) left) → WasLeft octets left one
was_left octets [] one is = elim is [ ]
was_left octets (w ∷ left) one is = was_in octets w one left _ is refl (was_left octets left one)

-- what was marked stays so
pub marked_after : (octets : List ℕ) (left : List Waiting) (held : Option (List ℕ))
    → IsMarked left held → IsMarked (map (hears octets) left) held
marked_after octets left held m = record {
  each = λ x one e is same.
      (let w = was_left octets left one is in
      ap (λ (o : Waiting). o.heard) w.is
      ∙ or_left w.before.heard (occurs_in (front w.before.nonce) octets)
      (m.each x w.before e w.is_left (sym (ap (λ (o : Waiting). front o.nonce) w.is) ∙ same)));
}

-- a nonce that is heard in these octets is marked by them
pub marked_now : (octets x : List ℕ) (left : List Waiting) (held : Option (List ℕ)) → held ≡ Some x
    → occurs_in x octets ≡ true
    → IsMarked (map (hears octets) left) held
marked_now octets x left held is_held stands = record {
  each = λ y one e is same.
      (let w = was_left octets left one is in
      let heard : x ≡ y = cc in
      let front_is : front w.before.nonce ≡ x =
      sym (ap (λ (o : Waiting). front o.nonce) w.is) ∙ (same ∙ sym heard) in
      ap (λ (o : Waiting). o.heard) w.is
      ∙ or_right w.before.heard (occurs_in (front w.before.nonce) octets)
      (ap (λ (f : List ℕ). occurs_in f octets) front_is ∙ stands));
}

-- ---- nonces that were used

abbrev Uses : List ℕ → ConversationStart → Bool
Uses nonce b = bytes_eq (front b.nonce) (front nonce)

pub still_used : (all : List ConversationStart) (b : ConversationStart) (nonce : List ℕ)
    → is_used all nonce ≡ true → is_used (all ++ b ∷ []) nonce ≡ true
still_used all b nonce e = list_any-append (Uses nonce) all (b ∷ [])
    ∙ or_left (is_used all nonce) (list_any (Uses nonce) (b ∷ [])) e

pub now_used : (all : List ConversationStart) (b : ConversationStart)
    → is_used (all ++ b ∷ []) b.nonce ≡ true
now_used all b =
    list_any-append (Uses b.nonce) all (b ∷ [])
    ∙ or_right (is_used all b.nonce) (list_any (Uses b.nonce) (b ∷ []))
    (or_left (Uses b.nonce b) false ((bytes_eq-Decides (front b.nonce) (front b.nonce)).1 refl))

pub used_front : (all : List ConversationStart) (one other : List ℕ) → front one ≡ front other
    → is_used all one ≡ is_used all other
used_front all one other e =
    ap (λ (f : List ℕ). list_any (λ (b : ConversationStart). bytes_eq (front b.nonce) f) all) e

-- ---- nonces with which an end has begun a conversation

abbrev StartsAt : End → List ℕ → ConversationStart → Bool
StartsAt of nonce b = same_end b.end of && bytes_eq b.nonce nonce

pub still_started : (of : End) (all : List ConversationStart) (b : ConversationStart) (nonce : List
    ℕ) → has_initiated of nonce all ≡ true → has_initiated of nonce (all ++ b ∷ []) ≡ true
still_started of all b nonce e = list_any-append (StartsAt of nonce) all (b ∷ [])
    ∙ or_left (has_initiated of nonce all) (list_any (StartsAt of nonce) (b ∷ [])) e

pub now_started : (of : End) (all : List ConversationStart) (b : ConversationStart)
    → same_end b.end of ≡ true → has_initiated of b.nonce (all ++ b ∷ []) ≡ true
now_started of all b is_own =
    list_any-append (StartsAt of b.nonce) all (b ∷ [])
    ∙ or_right (has_initiated of b.nonce all) (list_any (StartsAt of b.nonce) (b ∷ []))
    (or_left (StartsAt of b.nonce b) false (and_from (same_end b.end of) (bytes_eq b.nonce b.nonce)
    is_own ((bytes_eq-Decides b.nonce b.nonce).1 refl)))

-- ---- a nonce that is new

-- it was not used, and not heard
pub record IsNew (fresh : Bool) (all : List ConversationStart) (one : Waiting) : Type 0 where
  pub was : fresh ≡ true
  pub unheard : one.heard ≡ true → ⊥
  pub unused : is_used all one.nonce ≡ true → ⊥

denied : (b : Bool) → not b ≡ true → b ≡ true → ⊥
denied true e f = absurd cc
denied false e f = absurd cc

pub new_is : (fresh : Bool) (all : List ConversationStart) (one : Waiting)
    → (fresh && is_new all one) ≡ true → IsNew fresh all one
new_is fresh all one e =
    let p = and_parts fresh (is_new all one) e in
    let q = and_parts (not one.heard) (not (is_used all one.nonce)) p.1 in
    record {
      was = p.0;
      unheard = denied one.heard q.0;
      unused = denied (is_used all one.nonce) q.1;
    }
