-- The version of a scenario's text stays in its world.
use Rattle.std.proofs.Common.{◌≡◌, List, [], ◌∷◌, refl}
use Rattle.login_setup.specs.declared.event.Event.{Event}
use Rattle.login_setup.specs.declared.setup.Setup.{Setup}
use Rattle.eap_world.specs.World.{WorldNow, run_after, world_start, world_step}
use Rattle.world_laws.specs.Runs.{initial_world, run_of}

version_after : (w : WorldNow) (events : List Event) → (run_after w events).version ≡ w.version
unfolding run_after world_step
version_after w [] = refl
version_after w (e ∷ rest) = version_after (world_step w e).after rest

-- in every run the version is that of the setup
pub version_preserved : (setup : Setup) (events : List Event)
    → (run_of setup events).version ≡ setup.later.version
unfolding world_start
version_preserved setup events = version_after (world_start (initial_world setup)).after events
