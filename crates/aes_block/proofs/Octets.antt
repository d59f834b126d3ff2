-- From a test over all octets, which computes, to the rule at each.
use Rattle.std.proofs.Common.{◌≡◌, ℕ, ◌<◌, List, map, get_or, ap, ◌∙◌, sym, arith}
use Rattle.std.proofs.lemmas.List.FromFn.{get_or-map-range_with_len}
use Rattle.aes_block.specs.Field.{octets}

-- two maps that answer alike over all octets do so at each
pub same_at : {X : Type 0} (f g : ℕ → X) (b : ℕ) → map f octets ≡ map g octets → b < 256 → f b ≡ g b
same_at {X} f g b test h =
    sym (get_or-map-range_with_len f 0 256 b b (f b) h (omega arith))
    ∙ ap (λ (t : List X). get_or t b (f b)) test
    ∙ get_or-map-range_with_len g 0 256 b b (f b) h (omega arith)
