-- The settings of an end, from what a program gives.
use Rattle.std.specs.Prelude.{ℕ, List, [], ◌∷◌, ◌++◌, map, slice_index, Bool, ◌==◌, not}
use Rattle.std.specs.Prelude.{if◌then◌else◌, Option, Some, None}
use Rattle.octet_lists.specs.Among.{psk_kind, gpsk_kind, is_filled}
use Rattle.login_setup.specs.declared.setup.Accepts.{Accepts}
use Rattle.login_setup.specs.declared.setup.Accepts.TheVariants.{Any, One}
use Rattle.login_setup.specs.declared.setup.PeerSetup.{PeerSetup}
use Rattle.login_setup.specs.Setup.{ServerSetup}
use Rattle.login_setup.specs.declared.users.User.{User}
use Rattle.eap_method.specs.declared.values.Credential.{Credential}
use Rattle.eap_method.specs.declared.values.ServerSide.{ServerSide}
use Rattle.end_objects.specs.declared.settings.Settings.{Settings}

-- the configuration of an end
pub record SettingsValue : Type 0 where
  pub size : ℕ
  pub name : List ℕ
  pub other : List ℕ
  pub psk_key : List ℕ
  pub gpsk_key : List ℕ
  pub methods : List ℕ
  pub suites : List ℕ
  pub expanded : ℕ
  pub barred : ℕ

abbrev pub settings_of : Settings → SettingsValue
settings_of told = record {
  size = told.size;
  name = told.name.now;
  other = told.other.now;
  psk_key = told.psk_key.now;
  gpsk_key = told.gpsk_key.now;
  methods = told.methods;
  suites = told.suites;
  expanded = told.expanded;
  barred = told.barred;
}

-- these numbers or, if there are none, others
abbrev pub or_else : List ℕ → List ℕ → List ℕ
or_else [] others = others
or_else (number ∷ rest) others = number ∷ rest

-- the numbers of a field: those before its first 0
abbrev pub numbers_of : List ℕ → List ℕ
numbers_of [] = []
numbers_of (number ∷ rest) = if number == 0 then [] else number ∷ numbers_of rest

-- a method, if there is a key for it
abbrev pub kind_if : List ℕ → ℕ → List ℕ
kind_if [] kind = []
kind_if (octet ∷ rest) kind = kind ∷ []

-- the methods for which there is a key, EAP-GPSK first
unfoldable pub keyed_kinds : SettingsValue → List ℕ
keyed_kinds told = kind_if told.gpsk_key gpsk_kind ++ kind_if told.psk_key psk_kind

-- the methods of the field or, if it has none, those for which there is a key
unfoldable pub named_kinds : SettingsValue → List ℕ
named_kinds told = or_else (numbers_of told.methods) (keyed_kinds told)

-- the methods that there are
abbrev pub all_kinds : List ℕ
all_kinds = gpsk_kind ∷ psk_kind ∷ []

-- the methods of an end: if none is named, all
unfoldable pub kinds_of : SettingsValue → List ℕ
kinds_of told = or_else (named_kinds told) all_kinds

-- the method of an end that has one alone
abbrev pub first_kind : SettingsValue → ℕ
first_kind told = slice_index (kinds_of told) 0

-- the suites of EAP-GPSK
unfoldable pub suites_of : SettingsValue → List ℕ
suites_of told = or_else (numbers_of told.suites) (1 ∷ 2 ∷ [])

-- the octets of the key for a method
abbrev pub key_for : SettingsValue → ℕ → List ℕ
key_for told kind = if kind == psk_kind then told.psk_key else told.gpsk_key

-- a key of these octets, or none if there are none
abbrev pub key_or_none : List ℕ → Option (List ℕ)
key_or_none [] = None
key_or_none (octet ∷ rest) = Some (octet ∷ rest)

-- whether a field is set: it isn't 0
abbrev pub is_set : ℕ → Bool
is_set field = not (field == 0)

-- a server of this name alone, or any if it is empty
abbrev pub accepts_of : List ℕ → Accepts
accepts_of [] = Any
accepts_of (octet ∷ rest) = One (octet ∷ rest)

-- the settings of a peer
unfoldable pub peer_setup_of : SettingsValue → List ℕ → PeerSetup
peer_setup_of told nonce = record {
  name = told.name;
  accepts = accepts_of told.other;
  methods = kinds_of told;
  suites = suites_of told;
  psk47 = key_or_none told.psk_key;
  psk51 = key_or_none told.gpsk_key;
  nonce = nonce;
  expanded = is_set told.expanded;
}

-- the other end as a user of a method, with the key that both ends share
abbrev pub user_with : SettingsValue → ℕ → User
user_with told kind = record {
  name = told.other;
  kind = kind;
  psk = key_for told kind;
  barred = is_set told.barred;
}

-- the most users that settings give a server
abbrev pub max_others : ℕ
max_others = 2

-- the users of a server: for each method for which there is a key the one user, if there is one
unfoldable pub users_of : SettingsValue → List User
users_of told = if is_filled told.other then map (user_with told) (keyed_kinds told) else []

-- the settings of a server
unfoldable pub server_setup_of : SettingsValue → List ℕ → ServerSetup
server_setup_of told nonce = record {
  name = told.name;
  methods = kinds_of told;
  suites = suites_of told;
  users = users_of told;
  nonce = nonce;
  expanded = is_set told.expanded;
}

-- what a peer brings into its one method; what a server does
unfoldable pub credential_of : SettingsValue → Credential
credential_of told = record {
  id_p = told.name;
  accepts = accepts_of told.other;
  suites = suites_of told;
  psk = key_for told (first_kind told);
}

unfoldable pub side_of : SettingsValue → ServerSide
side_of told = record { id_s = told.name; suites = suites_of told }
