-- What a server brings into its method has the suites of its settings.
use Rattle.std.proofs.Common.{◌≡◌, [], None}
use Rattle.std.specs.Prelude.{IsTrue}
use Rattle.login_setup.specs.Setup.{are_suites}
use Rattle.end_objects.specs.Refusals.{server_refusal}
use Rattle.end_objects.specs.Settings.{SettingsValue, side_of, server_setup_of}
use Rattle.end_objects.proofs.Taken.{alone_is_sound}

pub side_has_suites : (told : SettingsValue) → server_refusal told ≡ None
    → IsTrue (are_suites (side_of told).suites)
unfolding side_of server_setup_of
side_has_suites told none = (alone_is_sound told [] none).suites
