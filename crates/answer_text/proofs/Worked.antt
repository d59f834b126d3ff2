-- Lines of answers, computed from the definitions alone.
use Rattle.std.proofs.Common.{◌≡◌, [], ◌∷◌, refl, sym}
use Rattle.std.proofs.lemmas.Bool.{true≢false}
use Rattle.std.specs.Prelude.{codes}
use Rattle.hex.specs.Hex.{encode_with}
use Rattle.answer_text.specs.Keys.{sealed_text}
use Rattle.answer_text.specs.Lines.{hex_line, HasLine, first, later}
use Rattle.answer_text.proofs.Scanning.{found}

-- a key of no octets
no_key : hex_line (codes "pk") [] ≡ codes "pk -\n"
unfolding hex_line
no_key = refl

-- digits are lower case
short_key : hex_line (codes "sk") (0xab ∷ 5 ∷ []) ≡ codes "sk ab05\n"
unfolding hex_line encode_with
short_key = refl

-- the ciphertext comes first
sealed : sealed_text (record { ciphertext = []; tag = 0xe0 ∷ 0x37 ∷ [] }) ≡ codes "eax - e037\n"
unfolding sealed_text encode_with
sealed = refl

-- a line that stands after another
second_line : HasLine (codes "tags honest") (codes "discards 0\ntags honest\nresult agree\n")
second_line = later (codes "discards 0") (codes "tags honest\nresult agree\n")
    (first (codes "result agree\n"))

-- neither the end of a line nor its front is that line
no_end : HasLine (codes "honest") (codes "tags honest\n") → ⊥
no_end h = true≢false (sym (found (codes "honest") (codes "tags honest\n") h))

no_front : HasLine (codes "tags") (codes "tags honest\n") → ⊥
no_front h = true≢false (sym (found (codes "tags") (codes "tags honest\n") h))
