-- A server's one user, given while it runs.
use Rattle.std.specs.Prelude.{◌≡◌, ℕ, Bool, true, false, if◌then◌else◌}
use Rattle.octet_lists.specs.Among.{is_among}
use Rattle.eap_method.specs.Server.{server_kind}
use Rattle.end_objects.specs.Objects.{server_object_shown}
use Rattle.end_objects.specs.Settings.{SettingsValue, keyed_kinds, users_of}
use Rattle.end_objects.specs.declared.objects.ServerObject.{ServerObject}
use Rattle.tuvaddri_c.specs.Answers.{ok, bad_key}
use Rattle.tuvaddri_c.specs.Methods.{AsServerMethod}
use Rattle.tuvaddri_c.specs.declared.session.End.{End}
use Rattle.tuvaddri_c.specs.declared.session.End.TheVariants as ends

-- whether the end is a machine that has users
abbrev pub has_users : End → Bool
has_users e = elim e [ ends.Server m last ↦ true | ends.Backend m last ↦ true | _ ↦ false ]

-- whether there is a key for the method of an object
abbrev pub has_key_for : SettingsValue → ServerObject → Bool
has_key_for told object = is_among (keyed_kinds told) (server_kind (server_object_shown object))

-- a server's method accepts the user, if there is a key for it
pub record AcceptsUser (told : SettingsValue) (object : ServerObject) (answer : ℕ)
    (after : End) : Type 0 where
  pub answer_is : answer ≡ (if has_key_for told object then ok else bad_key)
  pub taken : has_key_for told object ≡ true
      → AsServerMethod after (λ n known. (n ≡ object) × (known.users ≡ users_of told))
