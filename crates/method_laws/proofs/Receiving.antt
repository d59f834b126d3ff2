-- What an end holds of the other's nonce after a call: what it held before, or what came in it.
use Rattle.std.proofs.Common.{◌≡◌, List, ℕ, Option, Some, refl, subst}
use Rattle.method_laws.proofs.Occurrence.{Occurrence, within}

pub data Receives (came : Option (List ℕ)) (before after : Option (List ℕ)) : Type 0 where
  as_before : (same : after ≡ before) → Receives came before after
  receives_now : (octets x : List ℕ) (is_came : came ≡ Some octets) (is_after : after ≡ Some x)
      (stands : Occurrence x octets) → Receives came before after

-- what comes in octets comes in those in which they stand
pub delivered_in_call : (part whole : List ℕ) (before after : Option (List ℕ))
    → Occurrence part whole → Receives (Some part) before after → Receives (Some whole) before after
delivered_in_call part whole before after stands (as_before same) = as_before same
delivered_in_call part whole before after stands (receives_now octets x is_came is_after came) =
    receives_now whole x refl is_after
    (within x part whole (subst (Occurrence x) (let same : octets ≡ part = cc in same) came) stands)
