-- The list of an Expanded Nak by its entries of eight octets.
use Rattle.std.proofs.Common.{◌≡◌, ◌≢◌, ℕ, ◌<◌, ◌%◌, Bool, true, false, List, [], ◌∷◌, ◌++◌, length}
use Rattle.std.proofs.Common.{slice_index, arith, refl, ap, ◌∙◌}
use Rattle.std.specs.Prelude.{◌==◌, ◌&&◌}
use Rattle.std.proofs.lemmas.Bool.{eq-eqb, ne_eqb}
use Rattle.eap_packet.specs.Expanded.{are_expanded}

-- at an entry: whether it begins with 254 and the entries behind it do
expanded_from : (entry rest : List ℕ) → length entry ≡ 8
    → are_expanded (entry ++ rest) ≡ ((slice_index entry 0 == 254) && are_expanded rest)
unfolding are_expanded
expanded_from (a ∷ b ∷ c ∷ d ∷ e ∷ f ∷ g ∷ h ∷ []) rest sized = refl
expanded_from (a ∷ b ∷ c ∷ d ∷ e ∷ f ∷ g ∷ h ∷ i ∷ more) rest sized = absurd (omega arith)
expanded_from [] rest sized = absurd (omega arith)
expanded_from (a ∷ []) rest sized = absurd (omega arith)
expanded_from (a ∷ b ∷ []) rest sized = absurd (omega arith)
expanded_from (a ∷ b ∷ c ∷ []) rest sized = absurd (omega arith)
expanded_from (a ∷ b ∷ c ∷ d ∷ []) rest sized = absurd (omega arith)
expanded_from (a ∷ b ∷ c ∷ d ∷ e ∷ []) rest sized = absurd (omega arith)
expanded_from (a ∷ b ∷ c ∷ d ∷ e ∷ f ∷ []) rest sized = absurd (omega arith)
expanded_from (a ∷ b ∷ c ∷ d ∷ e ∷ f ∷ g ∷ []) rest sized = absurd (omega arith)

-- an entry that begins with 254 is passed over
pub entry_is : (entry rest list : List ℕ) → list ≡ entry ++ rest → length entry ≡ 8
    → slice_index entry 0 ≡ 254 →
    are_expanded list ≡ are_expanded rest
entry_is entry rest list joined sized is =
    rw joined (expanded_from entry rest sized
    ∙ ap (λ (b : Bool). b && are_expanded rest) (eq-eqb (slice_index entry 0) 254 is))

-- one that doesn't decides
pub entry_is_not : (entry rest list : List ℕ) → list ≡ entry ++ rest → length entry ≡ 8
    → slice_index entry 0 ≢ 254 →
    are_expanded list ≡ false
entry_is_not entry rest list joined sized is_not =
    rw joined (expanded_from entry rest sized
    ∙ ap (λ (b : Bool). b && are_expanded rest) (ne_eqb (slice_index entry 0) 254 is_not))

and_none : (b c : Bool) → c ≡ false → (b && c) ≡ false
and_none true c none = none
and_none false c none = refl

-- octets that are no whole entries
pub no_part : (list : List ℕ) → length list % 8 ≢ 0 → are_expanded list ≡ false
unfolding are_expanded
no_part [] part = absurd (part refl)
no_part (a ∷ b ∷ c ∷ d ∷ e ∷ f ∷ g ∷ h ∷ rest) part =
    and_none (a == 254) (are_expanded rest) (no_part rest (λ none. part (omega (arith, none))))
no_part (a ∷ []) part = refl
no_part (a ∷ b ∷ []) part = refl
no_part (a ∷ b ∷ c ∷ []) part = refl
no_part (a ∷ b ∷ c ∷ d ∷ []) part = refl
no_part (a ∷ b ∷ c ∷ d ∷ e ∷ []) part = refl
no_part (a ∷ b ∷ c ∷ d ∷ e ∷ f ∷ []) part = refl
no_part (a ∷ b ∷ c ∷ d ∷ e ∷ f ∷ g ∷ []) part = refl

-- whole entries of under eight octets are none
pub none_left : (list : List ℕ) → length list < 8 → length list % 8 ≡ 0 → are_expanded list ≡ true
unfolding are_expanded
none_left [] short whole = refl
none_left (a ∷ rest) short whole = absurd (omega (arith, short, whole))
