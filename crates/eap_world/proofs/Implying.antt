-- What is told of a call, with the report that is told.
use Rattle.std.proofs.Common.{◌≡◌, ℕ, Option, None, ap, ◌∙◌}
use Rattle.eap_world.specs.World.{Called, CallResult, told_of}
use Rattle.eap_world.specs.declared.told.Named.{Named}
use Rattle.eap_world.specs.declared.told.Brief.{Brief}

pub reported_named : (told : Brief) (event number : ℕ) (did : CallResult) (named now : Option Named)
    → told ≡ told_of event number None (Called did) → named ≡ now
    → record told { named = named } ≡ told_of event number now (Called did)
reported_named told event number did named now is same =
    ap (λ (t : Brief). record t { named = named }) is
    ∙ ap (λ (n : Option Named). told_of event number n (Called did)) same
