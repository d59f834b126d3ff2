-- Octets that stand in others are found in them.
use Rattle.std.proofs.Common.{◌≡◌, ℕ, List, [], ◌∷◌, ◌++◌, length, take, true, refl, ap, ◌∙◌}
use Rattle.std.proofs.Common.{take_at}
use Rattle.std.proofs.lemmas.Bool.{or_left, or_right}
use Rattle.std.proofs.lemmas.Slice.Eq.{bytes_eq-Decides}
use Rattle.std.specs.Str.{bytes_eq}
use Rattle.eap_world.specs.Conversations.{occurs_in}
use Rattle.method_laws.proofs.Occurrence.{Occurrence}

here : (part after : List ℕ) → occurs_in part (part ++ after) ≡ true
unfolding occurs_in
here [] [] = refl
here [] (x ∷ after) = refl
here (p ∷ part) after =
    or_left (bytes_eq (take (length (p ∷ part)) (p ∷ (part ++ after))) (p ∷ part))
    (occurs_in (p ∷ part) (part ++ after)) ((bytes_eq-Decides (take (length (p ∷ part))
    (p ∷ (part ++ after))) (p ∷ part)).1 (take_at (p ∷ part) after (length (p ∷ part)) refl))

there : (before part after : List ℕ) → occurs_in part (before ++ (part ++ after)) ≡ true
unfolding occurs_in
there [] part after = here part after
there (b ∷ before) part after =
    or_right (bytes_eq (take (length part) (b ∷ (before ++ (part ++ after)))) part)
    (occurs_in part (before ++ (part ++ after))) (there before part after)

pub occurs_if : (part whole : List ℕ) → Occurrence part whole → occurs_in part whole ≡ true
occurs_if part whole s =
    ap (λ (l : List ℕ). occurs_in part l) s.joined ∙ there s.before part s.after
