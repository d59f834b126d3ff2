-- What a reader of lines promises of each line, over the faults that it can have.
use Rattle.std.specs.Prelude.{◌≡◌, List, ◌∷◌, ◌++◌, Bool, true, false, All, Result, Ok, Err, IsOk}
use Rattle.text_tables.specs.Rows.{faults}
use Rattle.text_tables.specs.declared.fault.LineFault.{LineFault}

-- a fault that is met, and none before it in the list
pub record IsFirstOf (list : List LineFault) (has : LineFault → Bool) (f : LineFault) : Type 0 where
  pub before : List LineFault
  pub after : List LineFault
  pub order : list ≡ before ++ f ∷ after
  pub met : has f ≡ true
  pub none_before : All (λ e. has e ≡ false) before

abbrev pub IsFirst : (LineFault → Bool) → LineFault → Type 0
IsFirst has f = IsFirstOf faults has f

-- a line is refused with exactly the first fault that it has, and accepted exactly if it has none
pub record Judges {A : Type 0} (answer : Result A LineFault) (has : LineFault → Bool)
    (value : A) : Type 0 where
  pub refused : (f : LineFault) → answer ≡ Err f → IsFirst has f
  pub first : (f : LineFault) → IsFirst has f → answer ≡ Err f
  pub taken : IsOk answer → (f : LineFault) → has f ≡ false
  pub faultless : ((f : LineFault) → has f ≡ false) → answer ≡ Ok value
