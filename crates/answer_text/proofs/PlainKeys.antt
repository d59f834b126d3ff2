-- No line with a name and octets begins as the line of the verdict does.
use Rattle.std.proofs.Common.{◌≡◌, ℕ, ◌≤◌, ◌==◌, List, [], ◌∷◌, ◌++◌, Bool, true, false}
use Rattle.std.proofs.Common.{if◌then◌else◌, refl, codes, arith}
use Rattle.std.proofs.lemmas.Bool.{ne_eqb, false≢true}
use Rattle.eax_mode.specs.Eax.{Sealed}
use Rattle.answer_text.specs.Keys.{sealed_text, exported_text}
use Rattle.answer_text.specs.Lines.{hex_line}
use Rattle.answer_text.specs.Pieces.{hex_text}
use Rattle.answer_text.proofs.Plain.{is_within, plain, join, through, skips, after_test}
use Rattle.answer_text.proofs.PlainWords.{hex_within}

-- the first octet of `result`
abbrev pub starts_result : ℕ → Bool
starts_result o = o == 114

pub no_result : (o : ℕ) → 48 ≤ o → o ≤ 57 → starts_result o ≡ false
no_result o h k = ne_eqb o 114 (λ e. omega (arith, k, e))

-- a word that can begin a line
abbrev starts_line : List ℕ → Bool
starts_line [] = false
starts_line (o ∷ rest) = if starts_result o then false else is_within (o ∷ rest)

named_plain : (name rest : List ℕ) → starts_line name ≡ true → plain starts_result false rest ≡ true
    → plain starts_result true (name ++ rest) ≡ true
named_plain [] rest h k = absurd (false≢true h)
named_plain (o ∷ name) rest h k =
    let parts = after_test (starts_result o) (is_within (o ∷ name)) h in
    skips (starts_result o) (plain starts_result (o == 10) (name ++ rest)) parts.0
    (through starts_result (o ∷ name) rest parts.1 k)

pub hex_line_plain : (name octets : List ℕ) → starts_line name ≡ true
    → plain starts_result true (hex_line name octets) ≡ true
unfolding hex_line
hex_line_plain name octets h =
    named_plain name _ h (through starts_result (hex_text octets) _ (hex_within octets) refl)

pub sealed_plain : (sealed : Sealed) → plain starts_result true (sealed_text sealed) ≡ true
unfolding sealed_text
sealed_plain sealed =
    through starts_result (hex_text sealed.ciphertext) _ (hex_within sealed.ciphertext)
    (through starts_result (hex_text sealed.tag) _ (hex_within sealed.tag) refl)

pub exported_plain : (msk emsk : List ℕ) → plain starts_result true (exported_text msk emsk) ≡ true
exported_plain msk emsk =
    join starts_result (hex_line (codes "msk") msk) (hex_line (codes "emsk") emsk) true
    (hex_line_plain (codes "msk") msk refl) (hex_line_plain (codes "emsk") emsk refl)
