-- Tests of a suite, a key and a user among the settings of an end.
use Rattle.std.specs.Prelude.{ℕ, List, Bool, true, ◌==◌, ◌&&◌, ◌||◌, Option, Some, None}
use Rattle.login_setup.specs.Setup.{has_valid_key, is_method_kind, is_valid_for}
use Rattle.login_setup.specs.declared.users.User.{User}

-- whether a number is that of one of the two suites
abbrev pub is_suite : ℕ → Bool
is_suite number = (number == 1) || (number == 2)

-- whether a peer's key for a method, if there is one, fits it
abbrev pub is_sound_key : ℕ → Option (List ℕ) → Bool
is_sound_key kind None = true
is_sound_key kind (Some key) = is_valid_for kind key

-- whether a user is of a method, and its key fits it
abbrev pub is_sound_user : User → Bool
is_sound_user user = is_method_kind user.kind && has_valid_key user
