-- An end has one method at a time.
use Rattle.std.proofs.Common.{◌≡◌, ℕ, false, Option, Some, sym, ◌∙◌}
use Rattle.std.specs.Prelude.{◌==◌}
use Rattle.std.proofs.lemmas.Bool.{false≢true, eq-eqb}

pub some_same : (one other : ℕ) → Some one ≡ Some other → one ≡ other
some_same one other same = cc

-- a method isn't two
pub apart : {A : Type 0} (held : Option ℕ) (one other : ℕ) → (one == other) ≡ false
    → held ≡ Some one → held ≡ Some other → A
apart held one other differ is_one is_other =
    absurd (false≢true
    (sym differ ∙ eq-eqb one other (some_same one other (sym is_one ∙ is_other))))
