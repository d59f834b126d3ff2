-- The tables of halves, octet by octet: each by a test over all octets, which computes.
use Rattle.std.proofs.Common.{◌≡◌, ℕ, ◌<◌, ◌||◌, true, leb, ltb, map, refl, bit_xor}
use Rattle.aes_block.specs.Field.{octets}
use Rattle.aes_block.specs.Turned.{IsPlace, lower, upper, look, first_sum, second_sum, first_place}
use Rattle.aes_block.specs.Turned.{second_place}
use Rattle.aes_block.proofs.Octets.{same_at}

-- f gives a place for each octet
abbrev GivesPlaces : (ℕ → ℕ) → Type 0
GivesPlaces f = map (λ b. leb 128 (f b) || ltb (f b) 16) octets ≡ map (λ _. true) octets

places_at : (f : ℕ → ℕ) → GivesPlaces f → (b : ℕ) → b < 256 → IsPlace (f b)
places_at f test b h = same_at (λ b. leb 128 (f b) || ltb (f b) 16) (λ _. true) b test h

lower_test : GivesPlaces lower
lower_test = refl

upper_test : GivesPlaces upper
upper_test = refl

sum_test : GivesPlaces (λ b. bit_xor (lower b) (upper b))
sum_test = refl

first_sum_test : GivesPlaces first_sum
unfolding first_sum look
first_sum_test = refl

second_sum_test : GivesPlaces second_sum
unfolding second_sum look
second_sum_test = refl

first_place_test : GivesPlaces first_place
unfolding first_place first_sum look
first_place_test = refl

second_place_test : GivesPlaces second_place
unfolding second_place second_sum look
second_place_test = refl

pub lower_place : (b : ℕ) → b < 256 → IsPlace (lower b)
lower_place b h = places_at lower lower_test b h

pub upper_place : (b : ℕ) → b < 256 → IsPlace (upper b)
upper_place b h = places_at upper upper_test b h

pub sum_place : (b : ℕ) → b < 256 → IsPlace (bit_xor (lower b) (upper b))
sum_place b h = places_at (λ b. bit_xor (lower b) (upper b)) sum_test b h

pub first_sum_place : (b : ℕ) → b < 256 → IsPlace (first_sum b)
first_sum_place b h = places_at first_sum first_sum_test b h

pub second_sum_place : (b : ℕ) → b < 256 → IsPlace (second_sum b)
second_sum_place b h = places_at second_sum second_sum_test b h

pub first_half_place : (b : ℕ) → b < 256 → IsPlace (first_place b)
first_half_place b h = places_at first_place first_place_test b h

pub second_half_place : (b : ℕ) → b < 256 → IsPlace (second_place b)
second_half_place b h = places_at second_place second_place_test b h
