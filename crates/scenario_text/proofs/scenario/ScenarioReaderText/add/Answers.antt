-- The settings with one more are within their limits, and whole where the line `events` was taken.
use Rattle.std.proofs.Common.{◌≡◌, false, IsOk, is_err, sym, subst}
use Rattle.scenario_text.specs.Reading.{Reading, setup_of}
use Rattle.login_setup.specs.declared.event.Event.TheVariants as event
use Rattle.scenario_text.specs.Valid.{AreValid}
use Rattle.scenario_text.proofs.ValidReading.{with_setting_valid, whole}
use Rattle.scenario_text.proofs.scenario.ScenarioReaderText.add.Goals as goal

pub invariant_of-self : goal.invariant_of-self
invariant_of-self c =
    subst AreValid (sym c.set.ensures) (with_setting_valid c.self.inside.settings c.in-Set.setting
    c.self.invariant (rw c.in-Set.is at c.requires.valid))

pub returns-in-Events-clause-so : goal.returns-in-Events-clause-so
returns-in-Events-clause-so c =
    let IsWhole : Reading → Type 0 = λ r. IsOk (setup_of r.settings) in
    let is_there : is_err (setup_of c.args.self.now.settings) ≡ false =
    rw c.in-Events.is at (c.requires.none_missing event.Idle) in
    subst IsWhole (sym c.self.view_is) (whole (setup_of c.args.self.now.settings) is_there)
