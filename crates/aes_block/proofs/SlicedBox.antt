-- The S-box of octets by slices.
use Rattle.std.proofs.Common.{◌≡◌, ℕ, ◌<◌, List, map, get_or, slice_index, refl, sym, ap, ◌∙◌}
use Rattle.std.proofs.Common.{arith, lit<}
use Rattle.std.proofs.lemmas.List.FromFn.{get_or-map-range_with_len}
use Rattle.std.specs.Int.{bit_at}
use Rattle.aes_block.specs.Field.{octets, sub_byte}
use Rattle.aes_block.specs.Slices.{octet_of, bits_at, at_place, octet_at}
use Rattle.aes_block.specs.Circuit.{linear_sums, inner_values, inner_inverse, products_of}
use Rattle.aes_block.specs.Circuit.{output_sums, circuit}
use Rattle.aes_block.specs.declared.tables.TheConstants.{S_BOX}
use Rattle.aes_block.proofs.Sbox.{get_or_S_BOX}
use Rattle.aes_block.proofs.SliceBits.{AgreeBelow8, octet_at_lt, bit_of_octet_at, octet_at_from}
use Rattle.aes_block.proofs.SliceBits.{bits_listed}

-- the circuit is the S-box
box_test : map (λ b. octet_of (slice_index (circuit (bit_at b)))) octets ≡ S_BOX
unfolding linear_sums inner_values inner_inverse products_of output_sums
box_test = refl

box_at : (b : ℕ) → b < 256 → octet_of (slice_index (circuit (bit_at b))) ≡ sub_byte b
box_at b h =
    sym (get_or-map-range_with_len (λ c. octet_of (slice_index (circuit (bit_at c)))) 0 256 b b 0 h
    (omega arith))
    ∙ ap (λ t. get_or t b 0) box_test ∙ get_or_S_BOX b h

linear_same : (f g : ℕ → ℕ) → AgreeBelow8 f g → linear_sums f ≡ linear_sums g
unfolding linear_sums
linear_same f g h =
    rw (
      h 0 (lit< tt),
      h 1 (lit< tt),
      h 2 (lit< tt),
      h 3 (lit< tt),
      h 4 (lit< tt),
      h 5 (lit< tt),
      h 6 (lit< tt),
      h 7 (lit< tt),
    ) refl

-- what words have at a place is what this list has
listed : (words : List ℕ) (place : ℕ) (list : List ℕ) → at_place words place ≡ list
    → bits_at words place ≡ (λ k. slice_index list k)
listed words place list e =
    λ i k. (bits_listed words place k ∙ ap (λ (t : List ℕ). slice_index t k) e) i

pub substituted_at : (words sums values factors products result : List ℕ) (place : ℕ)
    → at_place sums place ≡ linear_sums (bits_at words place)
    → at_place values place ≡ inner_values (bits_at sums place)
    → at_place factors place ≡ inner_inverse (bits_at values place)
    → at_place products place ≡ products_of (bits_at sums place) (bits_at factors place)
    → at_place result place ≡ output_sums (bits_at products place)
    → octet_at result place ≡ sub_byte (octet_at words place)
substituted_at words sums values factors products result place e1 e2 e3 e4 e5 =
    let o : ℕ = octet_at words place in
    let s = λ (k : ℕ). slice_index (linear_sums (bit_at o)) k in
    let v = λ (k : ℕ). slice_index (inner_values s) k in
    let f = λ (k : ℕ). slice_index (inner_inverse v) k in
    let p = λ (k : ℕ). slice_index (products_of s f) k in
    let sums_are : bits_at sums place ≡ s =
    listed sums place (linear_sums (bit_at o))
    (e1 ∙ linear_same (bits_at words place) (bit_at o) (bit_of_octet_at words place)) in
    let values_are : bits_at values place ≡ v =
    listed values place (inner_values s) (e2 ∙ ap inner_values sums_are) in
    let factors_are : bits_at factors place ≡ f =
    listed factors place (inner_inverse v) (e3 ∙ ap inner_inverse values_are) in
    let products_are : bits_at products place ≡ p =
    listed products place (products_of s f)
    (e4 ∙ (λ i. products_of (sums_are i) (factors_are i))) in
    octet_at_from result place (λ k. slice_index (output_sums p) k)
    (λ k h. bits_listed result place k
    ∙ ap (λ (t : List ℕ). slice_index t k) (e5 ∙ ap output_sums products_are))
    ∙ box_at o (octet_at_lt words place)
