-- The line of a packet is its parts, one after the other.
use Rattle.std.proofs.Common.{◌≡◌, ℕ, ◌+◌, ◌<◌, List, ◌++◌, refl, length, drop, get_or, codes}
use Rattle.std.proofs.Common.{decimal}
use Rattle.std.proofs.Common.{append_assoc, append-nil, add-one, drop-cons}
use Rattle.answer_text.specs.Packets.{numbers_text, note_text, typed_text}
use Rattle.answer_text.specs.PacketParts.{number_text, head_text, line_end}

number_then : (n : ℕ) (rest : List ℕ) → codes " " ++ (decimal n ++ rest) ≡ number_text n ++ rest
unfolding number_text
number_then n rest = rw (append-nil (decimal n)) refl

pub numbers_text_drop : (octets : List ℕ) (i : ℕ) (d : ℕ) → i < length octets
    → numbers_text (drop i octets)
    ≡ number_text (get_or octets i d) ++ numbers_text (drop (i + 1) octets)
numbers_text_drop octets i d h = rw (add-one, drop-cons octets i d h) (number_then _ _)

pub typed_parts : (number : ℕ) (code : List ℕ) (id kind : ℕ) (body : List ℕ) (whole octets : ℕ)
    → typed_text number code id kind body whole octets
    ≡ head_text number code id kind whole octets ++ (note_text kind body ++ line_end)
unfolding typed_text head_text line_end
typed_parts number code id kind body whole octets = simp append_assoc
