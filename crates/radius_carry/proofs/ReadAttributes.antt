-- The attributes that octets hold.
use Rattle.std.proofs.Common.{◌≡◌, ℕ, zero, suc, ◌+◌, ◌-◌, ◌<◌, ◌≤◌, List, [], ◌∷◌, ◌++◌, length}
use Rattle.std.proofs.Common.{take, drop, slice_index, Bool, true, false, cond}
use Rattle.std.proofs.Common.{refl, ap, ◌∙◌, sym, arith, append_assoc, length-append}
use Rattle.std.proofs.lemmas.Bool.Decides.{nat_tests, Decides-eqb}
use Rattle.std.proofs.lemmas.List.{length-take-le, length-drop, take-append-drop, take_at, take_all}
use Rattle.std.proofs.lemmas.List.{drop_at}
use Rattle.radius_carry.specs.Packet.{Attribute, octets_of, attribute_octets, value_of_kind}
use Rattle.radius_carry.specs.Fault.{begins, first, behind, attributes_in, left_in, attributes_of}
use Rattle.radius_carry.specs.Fault.{left_of}

-- the two ways of a test
pub both_ways : (P : Type 0) (b : Bool) → (b ≡ true → P) → (b ≡ false → P) → P
both_ways P true holds fails = holds refl
both_ways P false holds fails = fails refl

-- what a first attribute leaves is shorter by two at least
shorter : (octets : List ℕ) → begins octets ≡ true → length (behind octets) + 2 ≤ length octets
shorter octets b = grind (arith, nat_tests, length-drop (slice_index octets 1) octets)

-- octets that begin with an attribute are some
some_octets : (octets : List ℕ) → begins octets ≡ true → 2 ≤ length octets
some_octets octets b = grind (arith, nat_tests)

-- the steps, by what the octets begin with
in_more : (most : ℕ) (octets : List ℕ) → begins octets ≡ true → attributes_in (suc most) octets
    ≡ first octets ∷ attributes_in most (behind octets)
unfolding attributes_in
in_more most octets b = ap (λ t. cond t (first octets ∷ attributes_in most (behind octets)) []) b

in_none : (most : ℕ) (octets : List ℕ) → begins octets ≡ false → attributes_in most octets ≡ []
unfolding attributes_in
in_none zero octets b = refl
in_none (suc most) octets b =
    ap (λ t. cond t (first octets ∷ attributes_in most (behind octets)) []) b

left_more : (most : ℕ) (octets : List ℕ) → begins octets ≡ true
    → left_in (suc most) octets ≡ left_in most (behind octets)
unfolding left_in
left_more most octets b = ap (λ t. cond t (left_in most (behind octets)) octets) b

left_none : (most : ℕ) (octets : List ℕ) → begins octets ≡ false → left_in most octets ≡ octets
unfolding left_in
left_none zero octets b = refl
left_none (suc most) octets b = ap (λ t. cond t (left_in most (behind octets)) octets) b

-- more room than octets changes nothing
record SameCapacity (most other : ℕ) (octets : List ℕ) : Type 0 where
  attributes : attributes_in most octets ≡ attributes_in other octets
  left : left_in most octets ≡ left_in other octets

without : (most other : ℕ) (octets : List ℕ) → begins octets ≡ false
    → SameCapacity most other octets
without most other octets b = record {
  attributes = in_none most octets b ∙ sym (in_none other octets b);
  left = left_none most octets b ∙ sym (left_none other octets b);
}

enough_capacity : (most other : ℕ) (octets : List ℕ) → length octets ≤ most → length octets ≤ other
    → SameCapacity most other octets
enough_capacity zero other octets h k =
    both_ways (SameCapacity zero other octets) (begins octets)
    (λ b. absurd (omega (arith, some_octets octets b))) (without zero other octets)
enough_capacity (suc most) zero octets h k =
    both_ways (SameCapacity (suc most) zero octets) (begins octets)
    (λ b. absurd (omega (arith, some_octets octets b))) (without (suc most) zero octets)
enough_capacity (suc most) (suc other) octets h k =
    both_ways (SameCapacity (suc most) (suc other) octets) (begins octets)
    (λ b.
    let short = shorter octets b in
    let rest = enough_capacity most other (behind octets) (omega arith) (omega arith) in
    record {
      attributes = in_more most octets b ∙ ap (λ l. first octets ∷ l) rest.attributes
          ∙ sym (in_more other octets b);
      left = left_more most octets b ∙ rest.left ∙ sym (left_more other octets b);
    })
    (without (suc most) (suc other) octets)

-- the attributes of octets, by what they begin with
pub attributes_of_more : (octets : List ℕ) → begins octets ≡ true
    → attributes_of octets ≡ first octets ∷ attributes_of (behind octets)
unfolding attributes_of
attributes_of_more octets b =
    let short = shorter octets b in
    (enough_capacity (length octets) (suc (length octets)) octets (omega arith)
    (omega arith)).attributes
    ∙ in_more (length octets) octets b
    ∙ ap (λ l. first octets ∷ l) (enough_capacity (length octets) (length (behind octets))
    (behind octets) (omega arith) (omega arith)).attributes

pub attributes_of_none : (octets : List ℕ) → begins octets ≡ false → attributes_of octets ≡ []
unfolding attributes_of
attributes_of_none octets b = in_none (length octets) octets b

pub left_of_more : (octets : List ℕ) → begins octets ≡ true
    → left_of octets ≡ left_of (behind octets)
unfolding left_of
left_of_more octets b =
    let short = shorter octets b in
    (enough_capacity (length octets) (suc (length octets)) octets (omega arith) (omega arith)).left
    ∙ left_more (length octets) octets b
    ∙ (enough_capacity (length octets) (length (behind octets)) (behind octets) (omega arith)
    (omega arith)).left

pub left_of_none : (octets : List ℕ) → begins octets ≡ false → left_of octets ≡ octets
unfolding left_of
left_of_none octets b = left_none (length octets) octets b

-- the same, by the Length field
pub record Holds (octets : List ℕ) (size : ℕ) : Type 0 where
  pub attributes :
      attributes_of octets
      ≡ (slice_index octets 0, take (size - 2) (drop 2 octets))
      ∷ attributes_of (take (length octets - size) (drop size octets))
  pub left : left_of octets ≡ left_of (take (length octets - size) (drop size octets))

pub satisfies_first : (octets : List ℕ) (size : ℕ) → slice_index octets 1 ≡ size → 2 ≤ size
    → size ≤ length octets → Holds octets size
satisfies_first octets size e low high =
    let b : begins octets ≡ true = grind (arith, nat_tests) in
    let rest : take (length octets - size) (drop size octets) ≡ drop size octets =
    take_all (length octets - size) (drop size octets) (omega (arith, length-drop size octets)) in
    record {
      attributes = rw (rest, ← e) (attributes_of_more octets b);
      left = rw (rest, ← e) (left_of_more octets b);
    }

pub record SatisfiesNone (octets : List ℕ) : Type 0 where
  pub attributes : attributes_of octets ≡ []
  pub left : left_of octets ≡ octets

satisfies_none : (octets : List ℕ) → begins octets ≡ false → SatisfiesNone octets
satisfies_none octets b =
    record { attributes = attributes_of_none octets b; left = left_of_none octets b }

pub satisfies_few : (octets : List ℕ) → length octets < 2 → SatisfiesNone octets
satisfies_few octets few = satisfies_none octets (grind (arith, nat_tests))

pub satisfies_short : (octets : List ℕ) → slice_index octets 1 < 2 → SatisfiesNone octets
satisfies_short octets short = satisfies_none octets (grind (arith, nat_tests))

pub satisfies_past : (octets : List ℕ) → length octets < slice_index octets 1 → SatisfiesNone octets
satisfies_past octets past = satisfies_none octets (grind (arith, nat_tests))

pub left_few : (octets : List ℕ) → length octets < 2 → left_of octets ≡ octets
left_few octets few = (satisfies_few octets few).left

pub left_short : (octets : List ℕ) → slice_index octets 1 < 2 → left_of octets ≡ octets
left_short octets short = (satisfies_short octets short).left

pub left_past : (octets : List ℕ) → length octets < slice_index octets 1 → left_of octets ≡ octets
left_past octets past = (satisfies_past octets past).left

-- what octets begin with, for the code that looks
pub ruleset first_steps = (
  satisfies_first,
  satisfies_few,
  satisfies_short,
  satisfies_past,
  left_few,
  left_short,
  left_past,
)

-- an attribute that octets begin with is spelled by their front
first_encoded : (octets : List ℕ) → begins octets ≡ true
    → attribute_octets (first octets) ++ behind octets ≡ octets
first_encoded [] b = absurd (omega (arith, some_octets [] b))
first_encoded (kind ∷ []) b = absurd (omega (arith, some_octets (kind ∷ []) b))
first_encoded (kind ∷ zero ∷ rest) b = cc
first_encoded (kind ∷ suc zero ∷ rest) b = cc
first_encoded (kind ∷ suc (suc size) ∷ rest) b =
    let inside : size ≤ length rest = grind (arith, nat_tests) in
    let less : suc (suc size) - 2 ≡ size = omega arith in
    let whole : length (take size rest) + 2 ≡ suc (suc size) =
    omega (arith, length-take-le size rest inside) in
    rw less (ap (λ n. kind ∷ n ∷ (take size rest ++ drop size rest)) whole
    ∙ ap (λ (l : List ℕ). kind ∷ suc (suc size) ∷ l) (take-append-drop size rest))

encoded_in : (most : ℕ) (octets : List ℕ)
    → octets_of (attributes_in most octets) ++ left_in most octets ≡ octets
unfolding octets_of attributes_in left_in
encoded_in zero octets = refl
encoded_in (suc most) octets =
    both_ways (octets_of (attributes_in (suc most) octets) ++ left_in (suc most) octets ≡ octets)
    (begins octets) (λ b.
    let front = attribute_octets (first octets) in
    let rest = attributes_in most (behind octets) in
    ap (λ (l : List Attribute). octets_of l ++ left_in (suc most) octets) (in_more most octets b)
    ∙ ap (λ (l : List ℕ). (front ++ octets_of rest) ++ l) (left_more most octets b)
    ∙ append_assoc front (octets_of rest) (left_in most (behind octets))
    ∙ ap (λ (l : List ℕ). front ++ l) (encoded_in most (behind octets))
    ∙ first_encoded octets b)
    (λ b.
    ap (λ (l : List Attribute). octets_of l ++ left_in (suc most) octets)
    (in_none (suc most) octets b)
    ∙ left_none (suc most) octets b)

-- octets are their attributes and what is left
pub attributes_encoded : (octets : List ℕ)
    → octets_of (attributes_of octets) ++ left_of octets ≡ octets
unfolding attributes_of left_of
attributes_encoded octets = encoded_in (length octets) octets

-- what an attribute's octets begin with
encoding_prefixes : (kind : ℕ) (value rest : List ℕ)
    → begins (attribute_octets (kind, value) ++ rest) ≡ true
encoding_prefixes kind value rest = grind (arith, nat_tests, length-append value rest)

encoded_first : (kind : ℕ) (value rest : List ℕ) → first (attribute_octets (kind, value) ++ rest)
    ≡ (kind, value)
encoded_first kind value rest = ap (λ (l : List ℕ). (kind, l)) (take_at value rest _ (omega arith))

encoding_then : (kind : ℕ) (value rest : List ℕ)
    → behind (attribute_octets (kind, value) ++ rest) ≡ rest
encoding_then kind value rest =
    let two : length value + 2 ≡ suc (suc (length value)) = omega arith in
    rw two (drop_at value rest _ refl)

pub record AreStored (attributes : List Attribute) : Type 0 where
  pub same : attributes_of (octets_of attributes) ≡ attributes
  pub none_left : left_of (octets_of attributes) ≡ []

-- the octets of attributes hold these attributes alone
pub stored_whole : (attributes : List Attribute) → AreStored attributes
unfolding octets_of
stored_whole [] = record { same = attributes_of_none [] refl; none_left = left_of_none [] refl }
stored_whole ((kind, value) ∷ rest) =
    let octets = attribute_octets (kind, value) ++ octets_of rest in
    let b = encoding_prefixes kind value (octets_of rest) in
    let tail = stored_whole rest in
    let on = encoding_then kind value (octets_of rest) in
    record {
      same =
          attributes_of_more octets b
          ∙ ap (λ (a : Attribute). a ∷ attributes_of (behind octets))
          (encoded_first kind value (octets_of rest))
          ∙ ap (λ (l : List ℕ). (kind, value) ∷ attributes_of l) on
          ∙ ap (λ (l : List Attribute). (kind, value) ∷ l) tail.same;
      none_left = left_of_more octets b ∙ ap left_of on ∙ tail.none_left;
    }

-- there is room for a value that is to be joined
pub value_bounded : (kind other : ℕ) (value now begun whole : List ℕ) (held rest : List Attribute) →
    held ≡ (other, value) ∷ rest → other ≡ kind → now ++ value_of_kind kind held ≡ begun ++ whole
    → length begun + length whole ≤ 1500 →
    length now + length value ≤ 1500
unfolding value_of_kind
value_bounded kind other value now begun whole held rest more same all fits =
    let is_kind : value_of_kind kind ((other, value) ∷ rest) ≡ value ++ value_of_kind kind rest =
    ap (λ b. cond b (value ++ value_of_kind kind rest) (value_of_kind kind rest))
    ((Decides-eqb other kind).1 same) in
    let size = ap length
    (ap (λ (l : List ℕ). now ++ l) (sym (ap (value_of_kind kind) more ∙ is_kind)) ∙ all) in
    omega (
      arith,
      length-append now (value ++ value_of_kind kind rest),
      length-append value (value_of_kind kind rest),
      length-append begun whole,
      size,
    )
