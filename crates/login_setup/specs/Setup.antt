-- When the settings of an end are sound: its methods, its suites and its keys.
use Rattle.std.specs.Prelude.{ℕ, List, [], length, Bool, true, ◌==◌, ◌&&◌, ◌||◌, not, if◌then◌else◌}
use Rattle.std.specs.Prelude.{nat_le, IsTrue, Option, None, is_some, IfSome, All}
use Rattle.std.specs.List.{list_all}
use Rattle.std.specs.Str.{bytes_eq}
use Rattle.octet_lists.specs.Among.{are_distinct, is_filled, psk_kind, gpsk_kind, expanded_kind}
use Rattle.octet_lists.specs.Among.{is_kind}
use Rattle.login_setup.specs.declared.setup.Accepts.{Accepts}
use Rattle.login_setup.specs.declared.setup.Accepts.TheVariants.{Any, One}
use Rattle.login_setup.specs.declared.setup.Later.{Later}
use Rattle.login_setup.specs.declared.setup.PeerSetup.{PeerSetup}
use Rattle.login_setup.specs.declared.setup.ServerSetup as declared
use Rattle.login_setup.specs.declared.users.User.{User}

-- the settings of a server, whatever the room for its users: contracts see their list
abbrev pub ServerSetup : Type 0
ServerSetup = declared.ServerSetup (List User)

-- whether these are Types of the two methods, each at most once
abbrev pub are_kinds : List ℕ → Bool
are_kinds kinds = list_all is_kind kinds && are_distinct kinds

-- whether a Type may be that of a method: 4 or more, and not 254, that of Expanded Types (RFC 3748
-- section 5)
abbrev pub is_method_kind : ℕ → Bool
is_method_kind kind = nat_le 4 kind && not (kind == expanded_kind)

-- whether these are Types of methods, of a maker's too, each at most once
abbrev pub are_method_kinds : List ℕ → Bool
are_method_kinds kinds = list_all is_method_kind kinds && are_distinct kinds

-- whether these are one or two of the suites 1 and 2, each at most once (RFC 5433 section 6)
abbrev pub are_suites : List ℕ → Bool
are_suites suites = is_filled suites && (list_all (λ suite.
    (suite == 1) || (suite == 2)) suites && are_distinct suites)

-- whether a key has the octets that the method requires: 16 for EAP-PSK, 32 to 64 for EAP-GPSK, at
-- most 64 for a method of a maker
abbrev pub is_valid_for : ℕ → List ℕ → Bool
is_valid_for kind key =
    if kind == psk_kind then length key == 16
    else if kind == gpsk_kind then nat_le 32 (length key) && nat_le (length key) 64
    else nat_le (length key) 64

-- whether a user's key has the octets that its method requires
abbrev pub has_valid_key : User → Bool
has_valid_key user = is_valid_for user.kind user.psk

-- whether the peer accepts a server of this name
abbrev pub accepts_name : Accepts → List ℕ → Bool
accepts_name Any name = true
accepts_name (One accepted) name = bytes_eq accepted name

-- no later conversations, as a scenario of version 1 has them
abbrev pub no_later : Later
no_later = record { version = 1; peer = []; server = [] }

-- the peer's key for a method
abbrev pub key_of : PeerSetup → ℕ → Option (List ℕ)
key_of setup kind =
    if kind == psk_kind then setup.psk47
    else if kind == gpsk_kind then setup.psk51
    else None

-- the settings of a peer are sound
pub record IsSoundPeer (setup : PeerSetup) : Type 0 where
  pub methods : IsTrue (are_method_kinds setup.methods)
  pub suites : IsTrue (are_suites setup.suites)
  pub psk47 : IfSome setup.psk47 (λ key. IsTrue (is_valid_for psk_kind key))
  pub psk51 : IfSome setup.psk51 (λ key. IsTrue (is_valid_for gpsk_kind key))

-- the settings of a server are sound
pub record IsSoundServer (setup : ServerSetup) : Type 0 where
  pub methods : IsTrue (are_method_kinds setup.methods)
  pub suites : IsTrue (are_suites setup.suites)
  pub kinds : All (λ user. IsTrue (is_method_kind user.kind)) setup.users
  pub keys : All (λ user. IsTrue (has_valid_key user)) setup.users

-- whether a peer has the key that a method takes of its settings; one of a maker brings its own
abbrev pub has_key : PeerSetup → ℕ → Bool
has_key setup kind = if is_kind kind then is_some (key_of setup kind) else true

-- a peer has a key for each of the two methods that it allows
abbrev pub has_keys : PeerSetup → Bool
has_keys setup = list_all (has_key setup) setup.methods

abbrev pub HasKeys : PeerSetup → Type 0
HasKeys setup = IsTrue (has_keys setup)
