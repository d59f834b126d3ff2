-- The nonces that are left, as they are kept, and whether the first two conversations differ.
use Rattle.std.proofs.Common.{◌≡◌, ◌≤◌, ◌<◌, ℕ, zero, suc, ◌+◌, Bool, true, false, ◌&&◌, not, List}
use Rattle.std.proofs.Common.{[], ◌∷◌, ◌++◌, length, get_or, drop, map, refl, sym, ap, ◌∙◌, inl}
use Rattle.std.proofs.Common.{inr, arith}
use Rattle.std.specs.List.{list_all}
use Rattle.std.proofs.Math.Dec.{leb}
use Rattle.std.proofs.lemmas.Bool.Decides.{leb_tells}
use Rattle.std.proofs.lemmas.List.{drop_all, drop_more, drop-map}
use Rattle.eap_world.specs.Conversations.{waiting}
use Rattle.eap_world.specs.TwoRecords.{fronts_differ, waits}
use Rattle.eap_world.specs.World.{has_none}
use Rattle.eap_world.specs.declared.conversations.ConversationStart.{ConversationStart}
use Rattle.eap_world.specs.declared.conversations.Waiting.{Waiting}

abbrev preserved_as : List ℕ → Bool → Waiting
preserved_as nonce heard = record { nonce = nonce; heard = heard }

pub length_waits : (nonces : List (List ℕ)) (marks : List Bool) → length nonces ≤ length marks
    → length (waits nonces marks) ≡ length nonces
length_waits [] marks fits = refl
length_waits (nonce ∷ nonces) [] fits = absurd (omega (arith, fits))
length_waits (nonce ∷ nonces) (heard ∷ marks) fits =
    ap suc (length_waits nonces marks (omega (arith, fits)))

at_place : (nonces : List (List ℕ)) (marks : List Bool) (place : ℕ) → place < length nonces
    → length nonces ≤ length marks
    → get_or (waits nonces marks) place (preserved_as [] false)
    ≡ preserved_as (get_or nonces place []) (get_or marks place false)
at_place [] marks place below fits = absurd (omega (arith, below))
at_place (nonce ∷ nonces) [] place below fits = absurd (omega (arith, fits))
at_place (nonce ∷ nonces) (heard ∷ marks) zero below fits = refl
at_place (nonce ∷ nonces) (heard ∷ marks) (suc place) below fits =
    at_place nonces marks place (omega (arith, below)) (omega (arith, fits))

-- one that is left is the first of them
pub first_left : (nonces : List (List ℕ)) (marks : List Bool) (taken : ℕ) → taken < length nonces
    → length nonces ≤ length marks
    → drop taken (waits nonces marks) ≡ record {
      nonce = get_or nonces taken [];
      heard = get_or marks taken false;
    } ∷ drop (taken + 1) (waits nonces marks)
first_left nonces marks taken below fits =
    let size = length_waits nonces marks fits in
    let more =
    drop_more (waits nonces marks) taken (preserved_as [] false) (omega (arith, below, size)) in
    more ∙ ap (λ (one : Waiting).
    one ∷ drop (taken + 1) (waits nonces marks)) (at_place nonces marks taken below fits)

pub none_after : (nonces : List (List ℕ)) (marks : List Bool) (taken : ℕ) → length nonces ≤ taken
    → length nonces ≤ length marks
    → drop taken (waits nonces marks) ≡ []
none_after nonces marks taken all fits =
    let size =
    length_waits nonces marks fits in drop_all taken (waits nonces marks) (omega (arith, all, size))

pub none_left : (nonces : List (List ℕ)) (marks : List Bool) (taken : ℕ)
    → length nonces ≤ length marks
    → leb (length nonces) taken ≡ has_none (drop taken (waits nonces marks))
none_left nonces marks taken fits =
    elim (leb_tells (length nonces) taken) [
      | inl all ↦ all.0 ∙ sym (ap has_none (none_after nonces marks taken all.1 fits))
      | inr some ↦ some.0 ∙ sym (ap has_none (first_left nonces marks taken some.1 fits))
    ]

-- at first none has been heard
pub none_received_yet : (nonces : List (List ℕ)) (marks : List Bool) → list_all not marks ≡ true
    → length nonces ≤ length marks
    → waits nonces marks ≡ map waiting nonces
none_received_yet [] marks silent fits = refl
none_received_yet (nonce ∷ nonces) [] silent fits = absurd (omega (arith, fits))
none_received_yet (nonce ∷ nonces) (true ∷ marks) silent fits = absurd (cc silent)
none_received_yet (nonce ∷ nonces) (false ∷ marks) silent fits =
    ap (λ (rest : List Waiting). waiting nonce ∷ rest)
    (none_received_yet nonces marks silent (omega (arith, fits)))

-- what is done to each is done to each that is left
pub still_left : (f : Waiting → Waiting) (taken : ℕ) (before after : List Waiting)
    → after ≡ map f before → drop taken after ≡ map f (drop taken before)
still_left f taken before after same = ap (drop taken) same ∙ drop-map f taken before

-- a later conversation changes nothing of the first two
pub differ_still : (all : List ConversationStart) (one : ConversationStart) → 2 ≤ length all
    → fronts_differ (all ++ one ∷ []) ≡ fronts_differ all
differ_still [] one two = absurd (omega (arith, two))
differ_still (first ∷ []) one two = absurd (omega (arith, two))
differ_still (first ∷ other ∷ rest) one two = refl

and_last : (a b c : Bool) → ((a && b) && c) ≡ ((a && c) && b)
and_last false b c = refl
and_last true true true = refl
and_last true true false = refl
and_last true false true = refl
and_last true false false = refl

pub fresh_still : (fresh new : Bool) (all : List ConversationStart) (one : ConversationStart)
    → 2 ≤ length all
    → ((fresh && new) && fronts_differ (all ++ one ∷ [])) ≡ ((fresh && fronts_differ all) && new)
fresh_still fresh new all one two =
    ap (λ (d : Bool). (fresh && new) && d) (differ_still all one two)
    ∙ and_last fresh new (fronts_differ all)
