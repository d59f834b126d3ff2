-- When settings are refused, and why.
use Rattle.std.specs.Prelude.{◌≡◌, ℕ, ◌≤◌, List, [], ◌∷◌, length, Bool, true, false, ◌&&◌, ◌||◌}
use Rattle.std.specs.Prelude.{◌==◌, not, nat_lt, nat_le, if◌then◌else◌, Option, Some, None}
use Rattle.std.specs.List.{list_any, list_all}
use Rattle.octet_lists.specs.Among.{is_filled}
use Rattle.octet_lists.specs.Sizes.{max_name}
use Rattle.login_setup.specs.Setup.{are_kinds, are_suites, is_valid_for}
use Rattle.eap_method.specs.Peer.{have_each}
use Rattle.end_objects.specs.Settings.{SettingsValue, is_set, keyed_kinds, named_kinds, kinds_of}
use Rattle.end_objects.specs.Settings.{suites_of, key_for}
use Rattle.end_objects.specs.declared.refusals.Refusal.{Refusal}
use Rattle.end_objects.specs.declared.refusals.Refusal.TheVariants as refusal

-- the octets of the struct of settings, on 64 bits
abbrev pub settings_size : ℕ
settings_size = 80

-- a reason if it applies, else those that follow
abbrev pub refuse_if : Bool → Refusal → Option Refusal → Option Refusal
refuse_if applies reason others = if applies then Some reason else others

-- whether the struct has another size
abbrev pub has_bad_size : SettingsValue → Bool
has_bad_size told = not (told.size == settings_size)

-- whether a 0 precedes another number
abbrev pub has_gap : List ℕ → Bool
has_gap [] = false
has_gap (number ∷ rest) = if number == 0 then list_any is_set rest else has_gap rest

-- whether the methods are others than the two, or one occurs twice
unfoldable pub has_bad_methods : SettingsValue → Bool
has_bad_methods told = has_gap told.methods || not (are_kinds (kinds_of told))

-- whether the suites are others than 1 and 2, or one occurs twice
unfoldable pub has_bad_suites : SettingsValue → Bool
has_bad_suites told = has_gap told.suites || not (are_suites (suites_of told))

-- whether a name has octets, and no more than a field of it has room for
abbrev pub is_name : List ℕ → Bool
is_name [] = false
is_name (octet ∷ rest) = nat_le (length (octet ∷ rest)) max_name

-- whether the other end's name is too long
abbrev pub has_long_other : SettingsValue → Bool
has_long_other told = nat_lt max_name (length told.other)

-- whether each key fits its method, and there is one for each of these methods
unfoldable pub has_keys : List ℕ → SettingsValue → Bool
has_keys wanted told = list_all (λ kind. is_valid_for kind
    (key_for told kind)) (keyed_kinds told) && have_each (keyed_kinds told) wanted

-- whether there is a key exactly if there is a user
unfoldable pub has_key_of_user : SettingsValue → Bool
has_key_of_user told = if is_filled told.other then is_filled (keyed_kinds told)
    else not (is_filled (keyed_kinds told))

-- the first reason to refuse settings, the methods or keys of which may be bad for their end
abbrev pub end_refusal : SettingsValue → Bool → Bool → Option Refusal
end_refusal told bad_methods bad_keys =
    refuse_if (has_bad_size told) refusal.BadSize (
    refuse_if bad_methods refusal.NoMethod (
    refuse_if (has_bad_suites told) refusal.NoSuite (
    refuse_if (not (is_name told.name)) refusal.BadName (
    refuse_if (has_long_other told) refusal.BadOther (
    refuse_if bad_keys refusal.BadKey None)))))

-- the first reason to refuse a peer's settings; no name means any server
unfoldable pub peer_refusal : SettingsValue → Option Refusal
peer_refusal told =
    end_refusal told (has_bad_methods told || not (is_filled (named_kinds told)))
    (not (has_keys (kinds_of told) told))

-- the first reason to refuse a server's settings; no name means no user
unfoldable pub server_refusal : SettingsValue → Option Refusal
server_refusal told =
    end_refusal told (has_bad_methods told) (not (has_keys [] told && has_key_of_user told))

-- why MaxRetrans of RFC 4137 is refused
abbrev pub retry_refusal : ℕ → Option Refusal
retry_refusal max_retrans = refuse_if (nat_lt 10 max_retrans) refusal.ManyRetries None

-- the first of two reasons
abbrev pub first_of : Option Refusal → Option Refusal → Option Refusal
first_of (Some reason) other = Some reason
first_of None other = other

-- the first reason to refuse a stand-alone server's settings
unfoldable pub stand_alone_refusal : SettingsValue → ℕ → Option Refusal
stand_alone_refusal told max_retrans = first_of (server_refusal told) (retry_refusal max_retrans)

-- the first reason to refuse a user of a server, who has a name and a key
unfoldable pub user_refusal : SettingsValue → Option Refusal
user_refusal told =
    refuse_if (has_bad_size told) refusal.BadSize (
    refuse_if (not (is_name told.other)) refusal.BadOther (
    refuse_if (not (has_keys [] told && is_filled (keyed_kinds told))) refusal.BadKey None))

-- the other end's name and the keys have the sizes that they may have
pub record IsSoundOther (told : SettingsValue) : Type 0 where
  pub name : length told.other ≤ max_name
  pub keys : has_keys [] told ≡ true
