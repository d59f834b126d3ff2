-- The traces of smooth logins: between two ends that fit, each of whose packets is delivered once
-- and in order; the first login, and later ones behind the restarts of all parties.
use Rattle.std.specs.Prelude.{◌≡◌, List, ℕ, ◌++◌, ◌==◌, Bool, codes, if◌then◌else◌, Option, None}
use Rattle.std.specs.Prelude.{Some}
use Rattle.login_setup.specs.declared.event.Event.{Event}
use Rattle.login_setup.specs.declared.setup.Setup.{Setup}
use Rattle.smooth_laws.specs.Restarts.{AreLogins}
use Rattle.smooth_laws.specs.Smooth.{EndsCompatible}
use Rattle.trace_text.specs.Run.{fresh_text}
use Rattle.command_driver.specs.Answers.{Answer}
use Rattle.world_commands.specs.Scenario.{replay_answer}
use Rattle.world_commands.specs.Whole.{IsInputOf}
use Rattle.command_driver.specs.declared.status.Status.TheVariants.{Done}

-- whether nonces are fresh, if the text is of the second version
abbrev pub told_of : ℕ → Bool → Option Bool
told_of version fresh = if version == 2 then Some fresh else None

-- status 0, and the last lines say whether nonces are fresh (if known), that all tags are honest
-- and the ends agree
pub record ShowsAgreement (fresh : Option Bool) (a : Answer) : Type 0 where
  pub status : a.status ≡ Done
  pub before : List ℕ
  pub text : a.text
      ≡ before ++ (codes "\n" ++ (fresh_text fresh ++ codes "tags honest\nresult agree\nend\n"))

-- so it is if an input is a scenario of smooth logins, one after the other
abbrev pub SmoothTracesAgree : Type 0
SmoothTracesAgree =
    (octets : List ℕ) (setup : Setup) (fresh : Bool) (events : List Event) (names : Bool)
    → IsInputOf octets setup events →
    EndsCompatible setup → AreLogins setup fresh events
    → ShowsAgreement (told_of setup.later.version fresh) (replay_answer names octets)
