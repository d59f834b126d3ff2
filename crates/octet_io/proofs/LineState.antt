-- A reader of lines in mid-line.
use Rattle.std.proofs.Common.{◌≡◌, ℕ, ◌+◌, ◌≤◌, List, Option, length}
use Rattle.octet_io.specs.Lines.{LineReading, max_input}
use Rattle.octet_io.specs.LineSteps.{lines_within}

-- what stays true from the begin of a line on
pub record InLine (before now : LineReading) (left_before left : Option (List ℕ))
    (faults_before faults_now : ℕ) : Type 0 where
  pub lines : lines_within before left_before ≡ lines_within now left
  pub number : now.number ≡ before.number
  pub over : now.over ≡ before.over
  pub taken : now.taken ≡ before.taken + length now.line
  pub bounded : now.taken ≤ max_input
  pub faults : faults_now ≡ faults_before
