-- Types, those of the two methods among them, and numbers among others.
use Rattle.std.specs.Prelude.{ℕ, List, [], ◌∷◌, Bool, true, false, ◌==◌, ◌&&◌, ◌||◌, not}
use Rattle.std.specs.List.{list_any}

-- the Types Identity, Notification and Nak (RFC 3748 sections 5.1, 5.2 and 5.3.1)
abbrev pub identity_kind : ℕ
identity_kind = 1

abbrev pub notification_kind : ℕ
notification_kind = 2

abbrev pub nak_kind : ℕ
nak_kind = 3

-- the Type of a packet with an Expanded Type (RFC 3748 section 5.7)
abbrev pub expanded_kind : ℕ
expanded_kind = 254

-- Vendor-Id 0, that of the IETF, and the first three of the four octets of a Vendor-Type under 256
-- (RFC 3748 section 5.7)
abbrev pub ietf : List ℕ
ietf = 0 ∷ 0 ∷ 0 ∷ 0 ∷ 0 ∷ 0 ∷ []

-- the Type of EAP-PSK (RFC 4764 section 5)
abbrev pub psk_kind : ℕ
psk_kind = 47

-- the Type of EAP-GPSK (RFC 5433 section 9.1)
abbrev pub gpsk_kind : ℕ
gpsk_kind = 51

-- whether a Type is that of one of the two methods
abbrev pub is_kind : ℕ → Bool
is_kind kind = (kind == psk_kind) || (kind == gpsk_kind)

-- whether a number is among these
abbrev pub is_among : List ℕ → ℕ → Bool
is_among numbers number = list_any (λ other. other == number) numbers

-- whether no number occurs twice
abbrev pub are_distinct : List ℕ → Bool
are_distinct [] = true
are_distinct (number ∷ rest) = not (is_among rest number) && are_distinct rest

-- whether there are some
abbrev pub is_filled : List ℕ → Bool
is_filled [] = false
is_filled (number ∷ rest) = true
