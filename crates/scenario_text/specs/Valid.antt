-- What every setting that was read keeps: its number, its name or its nonce is within its limits.
use Rattle.std.specs.Prelude.{◌≡◌, ◌==◌, false, ◌≤◌, ◌<◌, length, IfSome, IsTrue, All, Option, ℕ}
use Rattle.std.specs.Prelude.{List}
use Rattle.octet_lists.specs.Among.{psk_kind, gpsk_kind, is_kind}
use Rattle.login_setup.specs.Setup.{are_kinds, are_suites, has_valid_key, is_valid_for, no_later}
use Rattle.login_setup.specs.Setup.{IsSoundPeer, IsSoundServer, HasKeys}
use Rattle.login_setup.specs.Users.{AreDistinct, max_users}
use Rattle.login_setup.specs.declared.users.User.{User}
use Rattle.login_setup.specs.declared.setup.Accepts.{Accepts}
use Rattle.login_setup.specs.declared.setup.Accepts.TheVariants.{Any, One}
use Rattle.login_setup.specs.declared.setup.Later.{Later}
use Rattle.login_setup.specs.declared.setup.PeerSetup.{PeerSetup}
use Rattle.login_setup.specs.Setup.{ServerSetup}
use Rattle.login_setup.specs.declared.setup.Setup.{Setup}
use Rattle.text_tables.specs.IsValidRow.{IsName}
use Rattle.scenario_text.specs.Reading.{ReadLine}
use Rattle.scenario_text.specs.Versions.{most_later}
use Rattle.scenario_text.specs.declared.entry.Setting.{Setting}
use Rattle.scenario_text.specs.declared.entry.Setting.TheVariants as setting
use Rattle.scenario_text.specs.Contents.{Entry}
use Rattle.scenario_text.specs.Contents as entry
use Rattle.scenario_text.specs.declared.entry.Entry as told
use Rattle.scenario_text.specs.declared.settings.GivenNonces.{GivenNonces}
use Rattle.scenario_text.specs.declared.settings.Settings.{Settings}
use Rattle.scenario_text.specs.declared.version.Version.{Version}
use Rattle.scenario_text.specs.Items.{Item}
use Rattle.scenario_text.specs.Items as item

-- the one name that is accepted, if it is one
abbrev pub AcceptsName : Accepts → Type 0
AcceptsName Any = Unit {0}
AcceptsName (One name) = IsName name

-- a user has a name, one of the two kinds, and a key that fits it
pub record IsValidUser (user : User) : Type 0 where
  pub name : IsName user.name
  pub kind : IsTrue (is_kind user.kind)
  pub psk : IsTrue (has_valid_key user)

abbrev pub IsNonce : List ℕ → Type 0
IsNonce nonce = length nonce ≡ 32

abbrev pub IsValidSetting : Setting → Type 0
IsValidSetting (setting.Mode m) = Unit {0}
IsValidSetting (setting.FirstId id) = id < 256
IsValidSetting (setting.MaxRetrans count) = count ≤ 10
IsValidSetting (setting.PeerName name) = IsName name
IsValidSetting (setting.PeerServer accepts) = AcceptsName accepts
IsValidSetting (setting.PeerMethods kinds) = IsTrue (are_kinds kinds)
IsValidSetting (setting.PeerSuites suites) = IsTrue (are_suites suites)
IsValidSetting (setting.PeerPsk47 key) = IsTrue (is_valid_for psk_kind key)
IsValidSetting (setting.PeerPsk51 key) = IsTrue (is_valid_for gpsk_kind key)
IsValidSetting (setting.PeerNonce nonce) = IsNonce nonce
IsValidSetting (setting.ServerName name) = IsName name
IsValidSetting (setting.ServerMethods kinds) = IsTrue (are_kinds kinds)
IsValidSetting (setting.ServerSuites suites) = IsTrue (are_suites suites)
IsValidSetting (setting.ServerNonce nonce) = IsNonce nonce
IsValidSetting (setting.User user) = IsValidUser user
IsValidSetting (setting.PeerExpanded expanded) = Unit {0}
IsValidSetting (setting.ServerExpanded expanded) = Unit {0}

abbrev pub IsValidEntry : Entry → Type 0
IsValidEntry (entry.Set v) = IsValidSetting v
IsValidEntry other = Unit {0}

-- the same of what a line contains
abbrev pub IsValidContent : told.Entry → Type 0
IsValidContent (told.TheVariants.Set v) = IsValidSetting v
IsValidContent other = Unit {0}

-- users that are few and distinct
pub record AreUsers (users : List User) : Type 0 where
  pub few : length users ≤ max_users
  pub distinct : AreDistinct users

pub record AreValidNonces (given : GivenNonces) : Type 0 where
  pub first : IsNonce given.first
  pub later : All IsNonce given.later

-- no more later nonces than the version has
abbrev pub AreFew : Version → Option GivenNonces → Type 0
AreFew version slot = IfSome slot (λ given. length given.later ≤ most_later version)

-- what comes on several lines
pub record IsConsistent (s : Settings) : Type 0 where
  pub users : AreUsers s.users
  pub peer_nonces : AreFew s.version s.peer_nonces
  pub server_nonces : AreFew s.version s.server_nonces

-- each setting that has come is valid
pub record AreValid (s : Settings) : Type 0 where
  pub first_id : IfSome s.first_id (λ id. id < 256)
  pub max_retrans : IfSome s.max_retrans (λ count. count ≤ 10)
  pub peer_name : IfSome s.peer_name IsName
  pub peer_server : IfSome s.peer_server AcceptsName
  pub peer_methods : IfSome s.peer_methods (λ kinds. IsTrue (are_kinds kinds))
  pub peer_suites : IfSome s.peer_suites (λ suites. IsTrue (are_suites suites))
  pub peer_psk47 : IfSome s.peer_psk47 (λ key. IsTrue (is_valid_for psk_kind key))
  pub peer_psk51 : IfSome s.peer_psk51 (λ key. IsTrue (is_valid_for gpsk_kind key))
  pub peer_nonces : IfSome s.peer_nonces AreValidNonces
  pub server_name : IfSome s.server_name IsName
  pub server_methods : IfSome s.server_methods (λ kinds. IsTrue (are_kinds kinds))
  pub server_suites : IfSome s.server_suites (λ suites. IsTrue (are_suites suites))
  pub server_nonces : IfSome s.server_nonces AreValidNonces
  pub users : All IsValidUser s.users
  pub kept : IsConsistent s

-- the settings of each end and of a run, within their limits
pub record IsValidPeer (peer : PeerSetup) : Type 0 where
  pub sound : IsSoundPeer peer
  pub methods : IsTrue (are_kinds peer.methods)
  pub keys : HasKeys peer
  pub name : IsName peer.name
  pub accepts : AcceptsName peer.accepts
  pub nonce : IsNonce peer.nonce

pub record IsValidServer (server : ServerSetup) : Type 0 where
  pub sound : IsSoundServer server
  pub methods : IsTrue (are_kinds server.methods)
  pub name : IsName server.name
  pub users : All IsValidUser server.users
  pub nonce : IsNonce server.nonce

pub record IsValidLater (later : Later) : Type 0 where
  pub peer : All IsNonce later.peer
  pub server : All IsNonce later.server
  -- but for the second version no end has a later conversation
  pub alone : (later.version == 2) ≡ false → later ≡ no_later

pub record IsValidSetup (setup : Setup) : Type 0 where
  pub first_id : setup.first_id < 256
  pub few_retrans : setup.max_retrans ≤ 10
  pub peer : IsValidPeer setup.peer
  pub server : IsValidServer setup.server
  pub later : IsValidLater setup.later

abbrev pub IsValidItem : Item → Type 0
IsValidItem (item.Ready setup) = IsValidSetup setup
IsValidItem other = Unit {0}

-- what a line says is valid, and the settings after it are
pub record IsValidReadLine (out : ReadLine) : Type 0 where
  pub item : IsValidItem out.item
  pub settings : AreValid out.after.settings
