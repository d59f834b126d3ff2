-- Answers with status 0 no line of which begins with certain octets.
use Rattle.std.proofs.Common.{◌≡◌, ℕ, ◌+◌, List, [], Bool, true, refl, subst}
use Rattle.octet_io.specs.Lines.{Lines, ended, too_long, too_much, line}
use Rattle.answer_text.proofs.Plain.{plain, join}
use Rattle.command_driver.specs.Answers.{Answer, after_text, IsRefusal}
use Rattle.command_driver.specs.Commands.{LineResult, Closing, Ruling, goes, refuses, Closed, ends}
use Rattle.command_driver.specs.Commands.{misses, after_ruling, closed_answer, answer}
use Rattle.command_driver.specs.declared.status.Status.{Status}
use Rattle.command_driver.specs.declared.status.Status.TheVariants as status

-- a status of a refusal is never 0
pub never_done : (s : Status) → IsRefusal s → s ≡ status.Done → ⊥
never_done s h e = subst IsRefusal e h

abbrev pub Refuses : Ruling → Type 0
Refuses goes = Unit {0}
Refuses (refuses word s) = IsRefusal s

module _ (bad : ℕ → Bool) where
  pub record IsQuiet (a : Answer) : Type 0 where
    pub holds : a.status ≡ status.Done → plain bad true a.text ≡ true

  -- what a line brings, and what holds of the command after it
  pub record IsQuietLine {C : Type 0} (Holds : C → Type 0) (t : LineResult C) : Type 0 where
    pub text : plain bad true t.text ≡ true
    pub refusing : Refuses t.ruling
    pub after : Holds t.after

  quiet_closing : (number : ℕ) (text : List ℕ) (x : Closed) → plain bad true text ≡ true
      → IsQuiet (after_text text (closed_answer number x))
  quiet_closing number text (ends s) h = record { holds = λ done. join bad text [] true h refl }
  quiet_closing number text (misses word) h =
      record { holds = λ done. absurd (never_done status.Refused tt done) }

  quiet_after : (number : ℕ) (text : List ℕ) (v : Ruling) (a : Answer) → plain bad true text ≡ true
      → Refuses v → IsQuiet a
      → IsQuiet (after_text text (after_ruling number v a))
  quiet_after number text goes a h k rest =
      record { holds = λ done. join bad text a.text true h (rest.holds done) }
  quiet_after number text (refuses word s) a h k rest =
      record { holds = λ done. absurd (never_done s k done) }

  -- a command that keeps a property, each of whose lines is quiet
  module _ {C : Type 0} (took : C → List ℕ → LineResult C) (closing : C → Closing)
      (Holds : C → Type 0)
      (quiet_took : (c : C) (l : List ℕ) → Holds c → IsQuietLine Holds (took c l))
      (quiet_end : (c : C) → plain bad true (closing c).text ≡ true) where
    pub quiet_answer : (ls : Lines) (n : ℕ) (c : C) → Holds c → IsQuiet (answer took closing n c ls)
    unfolding answer
    quiet_answer ended n c h =
        quiet_closing (n + 1) (closing c).text (closing c).closed (quiet_end c)
    quiet_answer too_long n c h =
        record { holds = λ done. absurd (never_done status.TooMuch tt done) }
    quiet_answer too_much n c h =
        record { holds = λ done. absurd (never_done status.TooMuch tt done) }
    quiet_answer (line l rest) n c h =
        let step = quiet_took c l h in
        quiet_after (n + 1) (took c l).text (took c l).ruling
        (answer took closing (n + 1) (took c l).after rest) step.text step.refusing
        (quiet_answer rest (n + 1) (took c l).after step.after)
