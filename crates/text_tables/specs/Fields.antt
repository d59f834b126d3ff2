-- What a word spells: a number, octets in hex, a method, a ciphersuite.
use Rattle.std.specs.Prelude.{ℕ, ◌+◌, ◌-◌, ◌*◌, ◌%◌, List, [], ◌∷◌, length, Bool, false, ◌==◌, ◌&&◌}
use Rattle.std.specs.Prelude.{◌||◌, not, nat_lt, nat_le, if◌then◌else◌, codes, Result, Ok, Err}
use Rattle.std.specs.Prelude.{slice_get, unwrap_or}
use Rattle.std.specs.List.{list_all}
use Rattle.std.specs.Str.{bytes_eq}
use Rattle.octet_lists.specs.Among.{psk_kind, gpsk_kind}
use Rattle.text_tables.specs.declared.fault.LineFault.{LineFault}
use Rattle.text_tables.specs.declared.fault.LineFault.TheVariants.{BadNumber, BadHex, BadSize}

-- the second step, if the first met no fault
infixl 10 ◌>>=◌
abbrev pub ◌>>=◌ : {A B : Type 0} → Result A LineFault → (A → Result B LineFault)
    → Result B LineFault
Ok x >>= f = f x
Err e >>= f = Err e

-- the word at a place, 0 for the keyword
abbrev pub word_in : List (List ℕ) → ℕ → List ℕ
word_in ws place = unwrap_or (slice_get ws place) []

-- `-`, which stands for none
abbrev pub is_dash : List ℕ → Bool
is_dash word = bytes_eq word (codes "-")

-- a decimal digit, and the number that digits spell after the number before them
abbrev pub is_digit : ℕ → Bool
is_digit b = nat_le 48 b && nat_le b 57

abbrev pub number_after : ℕ → List ℕ → ℕ
number_after n [] = n
number_after n (d ∷ rest) = number_after (10 * n + (d - 48)) rest

abbrev pub number : List ℕ → ℕ
number word = number_after 0 word

-- decimal digits without a leading zero; 0 itself is one zero
abbrev pub is_decimal : List ℕ → Bool
is_decimal [] = false
is_decimal (d ∷ []) = is_digit d
is_decimal (d ∷ e ∷ rest) = not (d == 48) && list_all is_digit (d ∷ e ∷ rest)

-- a number from low to high
unfoldable pub spells_number : List ℕ → ℕ → ℕ → Bool
spells_number word low high =
    is_decimal word && nat_le low (number word) && nat_le (number word) high

unfoldable pub number_of : List ℕ → ℕ → ℕ → Result ℕ LineFault
number_of word low high = if spells_number word low high then Ok (number word) else Err BadNumber

-- a hex digit in either case, and its value
abbrev pub is_hex_digit : ℕ → Bool
is_hex_digit b =
    (nat_le 48 b && nat_le b 57) || (nat_le 97 b && nat_le b 102) || (nat_le 65 b && nat_le b 70)

abbrev pub hex_value : ℕ → ℕ
hex_value b = if nat_le b 57 then b - 48 else if nat_le b 70 then b - 55 else b - 87

-- the octets that pairs of hex digits spell; `-` spells none
abbrev pub octets_of : List ℕ → List ℕ
octets_of [] = []
octets_of (high ∷ []) = []
octets_of (high ∷ low ∷ rest) = (16 * hex_value high + hex_value low) ∷ octets_of rest

-- an even number of hex digits, at least two
abbrev pub is_hex : List ℕ → Bool
is_hex word = not (length word == 0) && (length word % 2 == 0) && list_all is_hex_digit word

-- octets in hex; - alone stands for none
unfoldable pub spells_octets : List ℕ → Bool
spells_octets word = is_dash word || is_hex word

-- at most 2,000 octets in hex
unfoldable pub hex_of : List ℕ → Result (List ℕ) LineFault
hex_of word =
    if not (spells_octets word) then Err BadHex
    else if nat_lt 2000 (length (octets_of word)) then Err BadSize
    else Ok (octets_of word)

-- the Type of a method: 47 for EAP-PSK, 51 for EAP-GPSK
abbrev pub spells_kind : List ℕ → Bool
spells_kind word = bytes_eq word (codes "47") || bytes_eq word (codes "51")

abbrev pub kind_of : List ℕ → ℕ
kind_of word = if bytes_eq word (codes "47") then psk_kind else gpsk_kind

-- the specifier of a ciphersuite of EAP-GPSK
abbrev pub spells_suite : List ℕ → Bool
spells_suite word = bytes_eq word (codes "1") || bytes_eq word (codes "2")

abbrev pub suite_of : List ℕ → ℕ
suite_of word = if bytes_eq word (codes "1") then 1 else 2
