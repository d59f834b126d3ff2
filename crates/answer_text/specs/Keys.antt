-- What a text is sealed to, and the keys that every method exports: a line for each value, its name
-- and its octets.
use Rattle.std.specs.Prelude.{ℕ, List, [], ◌∷◌, ◌++◌, codes}
use Rattle.std.specs.List.{concat}
use Rattle.eax_mode.specs.Eax.{Sealed}
use Rattle.answer_text.specs.Lines.{hex_line}
use Rattle.answer_text.specs.Pieces.{hex_text}

-- a ciphertext and its tag
unfoldable pub sealed_text : Sealed → List ℕ
sealed_text sealed = concat
    (codes "eax " ∷ hex_text sealed.ciphertext ∷ codes " " ∷ hex_text sealed.tag ∷ codes "\n" ∷ [])

-- the keys that every method exports (RFC 3748 section 7.10)
abbrev pub exported_text : List ℕ → List ℕ → List ℕ
exported_text msk emsk = hex_line (codes "msk") msk ++ hex_line (codes "emsk") emsk
