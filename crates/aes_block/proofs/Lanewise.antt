-- What the code does to sixteen lanes is what the definitions do to a state.
use Rattle.std.proofs.Common.{◌≡◌, ℕ, ◌+◌, ◌*◌, ◌%◌, ◌<◌, List, length, refl, ap, ◌∙◌, bit_xor, w8}
use Rattle.std.proofs.Common.{Fits}
use Rattle.std.proofs.lemmas.Nat.{xor_lt}
use lib.Lanes.{zip2, Each1}
use Rattle.aes_block.specs.Field.{sub_byte}
use Rattle.aes_block.specs.Cipher.{entry, state_of, sub_bytes, shift_rows, mixed, mix_columns}
use Rattle.aes_block.specs.Cipher.{add_round_key, full_round_of, last_round_of}
use Rattle.aes_block.specs.Turned.{all, below, turned, plain, once, twice, plain_box, of_turned}
use Rattle.aes_block.specs.Turned.{of_last, mixed_lanes}
use Rattle.aes_block.proofs.Sixteen.{spread, lane_bounded}
use Rattle.aes_block.proofs.Basis.{plain_turned, mixed_octet, last_octet}

-- two states with the same octets
pub state_of_same : (f g : ℕ → ℕ → ℕ) → ((row column : ℕ) → f row column ≡ g row column)
    → state_of f ≡ state_of g
state_of_same f g h =
    rw (
      h 0 0,
      h 1 0,
      h 2 0,
      h 3 0,
      h 0 1,
      h 1 1,
      h 2 1,
      h 3 1,
      h 0 2,
      h 1 2,
      h 2 2,
      h 3 2,
      h 0 3,
      h 1 3,
      h 2 3,
      h 3 3,
    )
    refl

-- a sum of two vectors
pub sum_of : (xs ys : List ℕ) → length xs ≡ 16 → length ys ≡ 16
    → zip2 bit_xor xs ys ≡ add_round_key xs ys
unfolding add_round_key
sum_of xs ys hx hy = ap (λ v. zip2 bit_xor v ys) (spread xs hx)
    ∙ ap (λ v. zip2 bit_xor (all (λ b. b) xs) v) (spread ys hy)

pub begun : (block key r : List ℕ) → length block ≡ 16 → length key ≡ 16 → Each1 (Fits w8) block
    → Each1 (Fits w8) key
    → r ≡ all turned (zip2 bit_xor block key) → all plain r ≡ add_round_key block key
unfolding add_round_key
begun block key r hb hk fb fk e =
    let sum : ℕ → ℕ → ℕ = λ row column. bit_xor (entry block row column) (entry key row column) in
    let turned_sum : r ≡ all turned (state_of sum) = e ∙ ap (all turned) (sum_of block key hb hk) in
    ap (all plain) turned_sum
    ∙ state_of_same (λ row column. plain (turned (sum row column))) sum
    (λ row column. plain_turned (sum row column)
    (xor_lt 8 (entry block row column) (entry key row column)
    (lane_bounded block (row + 4 * column) fb) (lane_bounded key (row + 4 * column) fk)))

pub mixed_are : (once twice b d p : List ℕ) → length twice ≡ 16 → b ≡ state_of (below once 1)
    → d ≡ state_of (below once 3)
    → p ≡ state_of (below (zip2 bit_xor twice b) 1)
    → zip2 bit_xor (zip2 bit_xor (zip2 bit_xor twice b) d) p ≡ mixed_lanes once twice
mixed_are once twice b d p long eb ed ep =
    let partial : ℕ → ℕ
    → ℕ = λ row column. bit_xor (entry twice row column) (below once 1 row column) in
    let partial_is : zip2 bit_xor twice b ≡ state_of partial =
    ap (zip2 bit_xor twice) eb
    ∙ ap (λ v. zip2 bit_xor v (state_of (below once 1))) (spread twice long) in
    let p_is : p ≡ state_of (below (state_of partial) 1) =
    ep ∙ ap (λ v. state_of (below v 1)) partial_is in
    rw (partial_is, ed, p_is) (refl {a = mixed_lanes once twice})

-- the octet in this place after SHIFTROWS
abbrev shifted : List ℕ → ℕ → ℕ → ℕ
shifted state row column = entry state row ((column + row) % 4)

abbrev full_lane : List ℕ → List ℕ → ℕ → ℕ → ℕ
full_lane state kept row column =
    let s : ℕ → ℕ = λ r. shifted state ((row + r) % 4) column in
    plain (bit_xor
    (bit_xor (bit_xor (bit_xor (twice (shifted state row column)) (once (s 1))) (once (s 3)))
    (bit_xor (twice (s 1)) (once (s 2)))) (entry kept row column))

abbrev full_octet : List ℕ → List ℕ → ℕ → ℕ → ℕ
full_octet state kept row column =
    let s : ℕ → ℕ = λ r. sub_byte (plain (shifted state ((row + r) % 4) column)) in
    bit_xor (mixed (sub_byte (plain (shifted state row column))) (s 1) (s 2) (s 3))
    (of_turned (entry kept row column))

full_lanes : (state kept : List ℕ) → Each1 (Fits w8) state → state_of (full_lane state kept)
    ≡ state_of (full_octet state kept)
full_lanes state kept fits =
    state_of_same (full_lane state kept) (full_octet state kept) (λ row column.
    let s : ℕ → ℕ = λ r. shifted state ((row + r) % 4) column in
    let fit : (r : ℕ) → s r < 256 =
    λ r. lane_bounded state ((row + r) % 4 + 4 * ((column + (row + r) % 4) % 4)) fits in
    mixed_octet (shifted state row column) (s 1) (s 2) (s 3) (entry kept row column)
    (lane_bounded state (row + 4 * ((column + row) % 4)) fits) (fit 1) (fit 2) (fit 3))

full_octets : (state kept : List ℕ) → state_of (full_octet state kept)
    ≡ full_round_of (all plain state) (all of_turned kept)
unfolding sub_bytes shift_rows mix_columns add_round_key
full_octets state kept = refl

full_sum : (state kept : List ℕ) → length kept ≡ 16
    → all plain (zip2 bit_xor (mixed_lanes (all once (shift_rows state))
    (all twice (shift_rows state))) kept) ≡ state_of (full_lane state kept)
unfolding shift_rows
full_sum state kept long =
    ap (λ v. all plain (zip2 bit_xor (mixed_lanes (all once (shift_rows state))
    (all twice (shift_rows state))) v)) (spread kept long)

pub full : (state kept o t m : List ℕ) → length kept ≡ 16 → Each1 (Fits w8) state
    → o ≡ all once (shift_rows state)
    → t ≡ all twice (shift_rows state) → m ≡ mixed_lanes o t
    → all plain (zip2 bit_xor m kept) ≡ full_round_of (all plain state) (all of_turned kept)
full state kept o t m long fits eo et em =
    ap (λ v. all plain (zip2 bit_xor v kept))
    (em ∙ ap (λ v. mixed_lanes v t) eo ∙ ap (mixed_lanes (all once (shift_rows state))) et)
    ∙ full_sum state kept long ∙ full_lanes state kept fits ∙ full_octets state kept

last_lanes : (state kept : List ℕ) → length kept ≡ 16 → Each1 (Fits w8) state
    → zip2 bit_xor (all plain_box (shift_rows state)) kept
    ≡ last_round_of (all plain state) (all of_last kept)
unfolding sub_bytes shift_rows add_round_key
last_lanes state kept long fits =
    ap (zip2 bit_xor (all plain_box (shift_rows state))) (spread kept long)
    ∙ state_of_same
    (λ row column. bit_xor (plain_box (shifted state row column)) (entry kept row column))
    (λ row column. bit_xor (sub_byte (plain (shifted state row column)))
    (of_last (entry kept row column))) (λ row column. last_octet (shifted state row column)
    (entry kept row column) (lane_bounded state (row + 4 * ((column + row) % 4)) fits))

pub last : (state kept p : List ℕ) → length kept ≡ 16 → Each1 (Fits w8) state
    → p ≡ all plain_box (shift_rows state)
    → zip2 bit_xor p kept ≡ last_round_of (all plain state) (all of_last kept)
last state kept p long fits e = ap (λ v. zip2 bit_xor v kept) e ∙ last_lanes state kept long fits
