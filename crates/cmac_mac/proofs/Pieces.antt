-- A text that is fed piece by piece.
use Rattle.std.proofs.Common.{◌≡◌, ℕ, ◌+◌, ◌<◌, ◌≤◌, List, [], ◌∷◌, ◌++◌, length, take, map, get_or}
use Rattle.std.proofs.Common.{Bor, refl, sym, ap, subst, ◌∙◌, append_assoc, append-nil}
use Rattle.std.specs.List.{concat}
use Rattle.std.proofs.lemmas.List.{take_all, take_more}

-- the pieces joined
abbrev pub joined : List (Bor (List ℕ)) → List ℕ
joined pieces = concat (map (λ p. p.now) pieces)

joined_append : (xs ys : List (Bor (List ℕ))) → joined (xs ++ ys) ≡ joined xs ++ joined ys
joined_append [] ys = refl
joined_append (x ∷ xs) ys =
    ap (λ l. x.now ++ l) (joined_append xs ys) ∙ sym (append_assoc x.now (joined xs) (joined ys))

-- one piece more
joined_more : (pieces : List (Bor (List ℕ))) (i : ℕ) (d : Bor (List ℕ)) → i < length pieces
    → joined (take (i + 1) pieces) ≡ joined (take i pieces) ++ (get_or pieces i d).now
joined_more pieces i d h =
    ap joined (take_more pieces i d h)
    ∙ joined_append (take i pieces) (get_or pieces i d ∷ [])
    ∙ ap (λ l. joined (take i pieces) ++ l) (append-nil (get_or pieces i d).now)

-- what holds of a text whose end is the pieces so far: before the first piece
pub fed_none : (P : List ℕ → Type 0) (front : List ℕ) → P front → P (front ++ [])
fed_none P front h = subst P (sym (append-nil front)) h

-- after one piece more
pub fed_more : (P : List ℕ → Type 0) (front : List ℕ) (pieces : List (Bor (List ℕ))) (i : ℕ)
    (d : Bor (List ℕ)) → i < length pieces
    → P ((front ++ joined (take i pieces)) ++ (get_or pieces i d).now)
    → P (front ++ joined (take (i + 1) pieces))
fed_more P front pieces i d h fed =
    subst P (append_assoc front (joined (take i pieces)) (get_or pieces i d).now
    ∙ ap (λ l. front ++ l) (sym (joined_more pieces i d h))) fed

-- after all pieces
pub fed_all : (front : List ℕ) (pieces : List (Bor (List ℕ))) (i : ℕ) → length pieces ≤ i
    → front ++ joined (take i pieces) ≡ front ++ joined pieces
fed_all front pieces i h = ap (λ l. front ++ joined l) (take_all i pieces h)
