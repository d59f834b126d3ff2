-- Looking for a line in a text, octet by octet.
use Rattle.std.proofs.Common.{◌≡◌, ℕ, List, [], ◌∷◌, ◌++◌, Bool, true, false, ◌&&◌, ◌||◌, ◌==◌}
use Rattle.std.proofs.Common.{refl, eq-eqb}
use Rattle.std.proofs.lemmas.Bool.{and_from, or_left, or_right}
use Rattle.answer_text.specs.Lines.{HasLine, first, later}

-- the text begins with the octets
abbrev pub begins_with : List ℕ → List ℕ → Bool
begins_with [] text = true
begins_with (m ∷ mark) [] = false
begins_with (m ∷ mark) (o ∷ text) = (m == o) && begins_with mark text

-- a line of the text begins with the octets, where the text goes on at a line's begin or within a
-- line
abbrev pub has_mark : List ℕ → Bool → List ℕ → Bool
has_mark mark begins [] = false
has_mark mark begins (o ∷ text) =
    (begins && begins_with mark (o ∷ text)) || has_mark mark (o == 10) text

starts_itself : (mark rest : List ℕ) → begins_with (mark ++ (10 ∷ [])) (mark ++ (10 ∷ rest)) ≡ true
starts_itself [] rest = refl
starts_itself (m ∷ mark) rest = and_from (m == m) (begins_with (mark ++ (10 ∷ []))
    (mark ++ (10 ∷ rest))) (eq-eqb m m refl) (starts_itself mark rest)

has_first : (line rest : List ℕ) → has_mark (line ++ (10 ∷ [])) true (line ++ (10 ∷ rest)) ≡ true
has_first [] rest = refl
has_first (l ∷ line) rest = or_left _ _ (starts_itself (l ∷ line) rest)

has_later : (mark passed rest : List ℕ) (begins : Bool) → has_mark mark true rest ≡ true
    → has_mark mark begins (passed ++ (10 ∷ rest)) ≡ true
has_later mark [] rest begins h = or_right _ _ h
has_later mark (o ∷ passed) rest begins h = or_right _ _ (has_later mark passed rest (o == 10) h)

-- each line is found
pub found : (line text : List ℕ) → HasLine line text → has_mark (line ++ (10 ∷ [])) true text ≡ true
found line _ (first rest) = has_first line rest
found line _ (later passed rest h) =
    has_later (line ++ (10 ∷ [])) passed rest true (found line rest h)
