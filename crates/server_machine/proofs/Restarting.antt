-- The settings with another nonce, with other users whose keys fit, or with one more, are sound.
use Rattle.std.proofs.Common.{◌≡◌, List, [], ◌∷◌, ◌++◌, ℕ, true}
use Rattle.std.proofs.lemmas.List.Elements.{All-push}
use Rattle.std.specs.Prelude.{All, IsTrue}
use Rattle.login_setup.specs.Setup.{IsSoundServer, is_method_kind, has_valid_key}
use Rattle.login_setup.specs.Setup.{ServerSetup}
use Rattle.login_setup.specs.declared.users.User.{User}
use Rattle.login_setup.proofs.Sound.{server_with_nonce}
use Rattle.server_machine.specs.ServerTable.{setup_with_nonce, own_users}

pub still_sound : (setup : ServerSetup) (nonce : List ℕ) → IsSoundServer setup
    → IsSoundServer (setup_with_nonce setup nonce)
still_sound = server_with_nonce

pub sound_with_users : (setup : ServerSetup) (users : List User) → IsSoundServer setup
    → All (λ user. IsTrue (is_method_kind user.kind)) users
    → All (λ user. IsTrue (has_valid_key user)) users
    → IsSoundServer (own_users setup users)
sound_with_users setup users is kinds keys =
    record { methods = is.methods; suites = is.suites; kinds = kinds; keys = keys }

pub sound_with_user : (setup : ServerSetup) (user : User) → IsSoundServer setup
    → is_method_kind user.kind ≡ true → has_valid_key user ≡ true
    → IsSoundServer (own_users setup (setup.users ++ user ∷ []))
sound_with_user setup user is kind key = record {
  methods = is.methods;
  suites = is.suites;
  kinds = All-push (λ (other : User). IsTrue (is_method_kind other.kind)) setup.users user is.kinds kind;
  keys = All-push (λ (other : User). IsTrue (has_valid_key other))
      setup.users user is.keys key;
}
