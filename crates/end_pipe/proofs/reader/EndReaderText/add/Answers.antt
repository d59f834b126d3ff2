-- The settings with one more are within their limits, and whole where the line `events` was taken.
use Rattle.std.proofs.Common.{◌≡◌, false, sym, subst}
use Rattle.scenario_text.specs.Valid.{AreValid}
use Rattle.scenario_text.proofs.ValidReading.{with_setting_valid}
use Rattle.end_pipe.proofs.EndValid.{whole}
use Rattle.end_pipe.specs.EndReading.{AreWhole, EndReading, lacks_some}
use Rattle.end_pipe.specs.declared.input.EndInput.TheVariants as inputs
use Rattle.end_pipe.proofs.reader.EndReaderText.add.Goals as goal

pub invariant_of-self : goal.invariant_of-self
invariant_of-self c =
    subst AreValid (sym c.set.ensures) (with_setting_valid c.self.inside.settings c.in-Set.setting
    c.self.invariant (rw c.in-Set.is at c.requires.valid))

pub returns-in-Events-clause-so : goal.returns-in-Events-clause-so
returns-in-Events-clause-so c =
    let IsSo : EndReading → Type 0 = λ r. AreWhole r.role r.settings in
    let is_there : lacks_some c.args.self.now.role c.args.self.now.settings ≡ false =
    rw c.in-Events.is at (c.requires.none_missing inputs.Idle) in
    subst IsSo (sym c.self.view_is) (whole c.args.self.now.role c.args.self.now.settings is_there)
