-- What a scenario is, by all its lines: its settings, its events, and what reading it makes of
-- them.
use Rattle.std.specs.Prelude.{◌≡◌, ℕ, ◌≤◌, List, [], ◌∷◌, ◌++◌, length, map, filter, not, All}
use Rattle.std.specs.Prelude.{Option, Some, None, Bool, true, false, Result, Ok}
use Rattle.std.specs.List.{list_any}
use Rattle.login_setup.specs.Setup.{no_later, HasKeys}
use Rattle.login_setup.specs.declared.users.User.{User}
use Rattle.login_setup.specs.declared.setup.Mode.{Mode}
use Rattle.login_setup.specs.declared.setup.Accepts.{Accepts}
use Rattle.login_setup.specs.declared.setup.PeerSetup.{PeerSetup}
use Rattle.login_setup.specs.Setup.{ServerSetup}
use Rattle.login_setup.specs.declared.setup.Setup.{Setup}
use Rattle.login_setup.specs.declared.event.Event.{Event}
use Rattle.login_setup.specs.declared.event.Event.TheVariants as event
use Rattle.text_tables.specs.Words.{is_passed_over}
use Rattle.text_tables.specs.Fields.{◌>>=◌}
use Rattle.scenario_text.specs.Entries.{has_fault, meaning_by}
use Rattle.scenario_text.specs.Contents.{Set, Events, Happens, End}
use Rattle.scenario_text.specs.Reading.{Reading, no_settings, read_line, finish_of, both_suites}
use Rattle.scenario_text.specs.Valid.{AreUsers}
use Rattle.scenario_text.specs.Versions.{header, version_number, most_later}
use Rattle.scenario_text.specs.Items.{Item}
use Rattle.scenario_text.specs.Items as item
use Rattle.text_tables.specs.declared.fault.LineFault.{LineFault}
use Rattle.scenario_text.specs.declared.entry.Setting.{Setting}
use Rattle.scenario_text.specs.declared.entry.Setting.TheVariants as setting
use Rattle.text_tables.specs.declared.phase.Phase.TheVariants as phase
use Rattle.scenario_text.specs.declared.version.Version.{Version}
use Rattle.scenario_text.specs.declared.version.Version.TheVariants.{First}

-- the values of each setting, one for each line that gives it, in the order of the lines
pub record Values : Type 0 where
  pub mode : List Mode
  pub first_id : List ℕ
  pub max_retrans : List ℕ
  pub peer_name : List (List ℕ)
  pub peer_server : List Accepts
  pub peer_methods : List (List ℕ)
  pub peer_suites : List (List ℕ)
  pub peer_psk47 : List (List ℕ)
  pub peer_psk51 : List (List ℕ)
  pub peer_nonce : List (List ℕ)
  pub server_name : List (List ℕ)
  pub server_methods : List (List ℕ)
  pub server_suites : List (List ℕ)
  pub server_nonce : List (List ℕ)
  pub users : List User
  pub peer_expanded : List Bool
  pub server_expanded : List Bool

abbrev pub no_values : Values
no_values = record {
  mode = [];
  first_id = [];
  max_retrans = [];
  peer_name = [];
  peer_server = [];
  peer_methods = [];
  peer_suites = [];
  peer_psk47 = [];
  peer_psk51 = [];
  peer_nonce = [];
  server_name = [];
  server_methods = [];
  server_suites = [];
  server_nonce = [];
  users = [];
  peer_expanded = [];
  server_expanded = [];
}

abbrev pub with_value : Setting → Values → Values
with_value (setting.Mode v) rest = record rest { mode = v ∷ rest.mode }
with_value (setting.FirstId v) rest = record rest { first_id = v ∷ rest.first_id }
with_value (setting.MaxRetrans v) rest = record rest { max_retrans = v ∷ rest.max_retrans }
with_value (setting.PeerName v) rest = record rest { peer_name = v ∷ rest.peer_name }
with_value (setting.PeerServer v) rest = record rest { peer_server = v ∷ rest.peer_server }
with_value (setting.PeerMethods v) rest = record rest { peer_methods = v ∷ rest.peer_methods }
with_value (setting.PeerSuites v) rest = record rest { peer_suites = v ∷ rest.peer_suites }
with_value (setting.PeerPsk47 v) rest = record rest { peer_psk47 = v ∷ rest.peer_psk47 }
with_value (setting.PeerPsk51 v) rest = record rest { peer_psk51 = v ∷ rest.peer_psk51 }
with_value (setting.PeerNonce v) rest = record rest { peer_nonce = v ∷ rest.peer_nonce }
with_value (setting.ServerName v) rest = record rest { server_name = v ∷ rest.server_name }
with_value (setting.ServerMethods v) rest = record rest { server_methods = v ∷ rest.server_methods }
with_value (setting.ServerSuites v) rest = record rest { server_suites = v ∷ rest.server_suites }
with_value (setting.ServerNonce v) rest = record rest { server_nonce = v ∷ rest.server_nonce }
with_value (setting.User v) rest = record rest { users = v ∷ rest.users }
with_value (setting.PeerExpanded v) rest = record rest { peer_expanded = v ∷ rest.peer_expanded }
with_value (setting.ServerExpanded v)
    rest = record rest { server_expanded = v ∷ rest.server_expanded }

abbrev pub values_of : List Setting → Values
values_of [] = no_values
values_of (v ∷ rest) = with_value v (values_of rest)

-- a needed setting: exactly one line gives it
abbrev pub IsGiven : {A : Type 0} → List A → A → Type 0
IsGiven values value = values ≡ value ∷ []

-- a setting that has a default: one line gives it, or none
abbrev pub IsGivenOr : {A : Type 0} → A → List A → A → Type 0
IsGivenOr default [] value = value ≡ default
IsGivenOr default (given ∷ []) value = value ≡ given
IsGivenOr default (given ∷ again ∷ rest) value = ⊥

-- one that the run may lack
abbrev pub IsGivenOrNone : {A : Type 0} → List A → Option A → Type 0
IsGivenOrNone [] slot = slot ≡ None
IsGivenOrNone (given ∷ []) slot = slot ≡ Some given
IsGivenOrNone (given ∷ again ∷ rest) slot = ⊥

-- the nonces of an end, in the order of their lines: the first conversation's, and in the second
-- version at most 15 later ones
pub record AreNoncesOf (version : Version) (values : List (List ℕ)) (first : List ℕ)
    (later : List (List ℕ)) : Type 0 where
  pub given : values ≡ first ∷ later
  pub few : length later ≤ most_later version

-- the settings of each end and of a run are those that the lines give
pub record MakesPeer (version : Version) (v : Values) (later : List (List ℕ))
    (peer : PeerSetup) : Type 0 where
  pub name : IsGiven v.peer_name peer.name
  pub accepts : IsGiven v.peer_server peer.accepts
  pub methods : IsGiven v.peer_methods peer.methods
  pub suites : IsGivenOr both_suites v.peer_suites peer.suites
  pub psk47 : IsGivenOrNone v.peer_psk47 peer.psk47
  pub psk51 : IsGivenOrNone v.peer_psk51 peer.psk51
  pub keys : HasKeys peer
  pub nonces : AreNoncesOf version v.peer_nonce peer.nonce later
  pub expanded : IsGivenOr false v.peer_expanded peer.expanded

pub record MakesServer (version : Version) (v : Values) (later : List (List ℕ))
    (server : ServerSetup) : Type 0 where
  pub name : IsGiven v.server_name server.name
  pub methods : IsGiven v.server_methods server.methods
  pub suites : IsGivenOr both_suites v.server_suites server.suites
  pub nonces : AreNoncesOf version v.server_nonce server.nonce later
  pub users : v.users ≡ server.users
  pub distinct_users : AreUsers server.users
  pub expanded : IsGivenOr false v.server_expanded server.expanded

pub record MakesSetup (version : Version) (v : Values) (setup : Setup) : Type 0 where
  pub mode : IsGiven v.mode setup.mode
  pub first_id : IsGivenOr 0 v.first_id setup.first_id
  pub max_retrans : IsGivenOr 4 v.max_retrans setup.max_retrans
  pub peer : MakesPeer version v setup.later.peer setup.peer
  pub server : MakesServer version v setup.later.server setup.server
  pub number : setup.later.version ≡ version_number version

-- the lines that aren't ignored
abbrev pub lines_that_count : List (List ℕ) → List (List ℕ)
lines_that_count lines = filter (λ line. not (is_passed_over line)) lines

-- no fault of its own
abbrev pub IsFaultless : Version → List ℕ → Type 0
IsFaultless version line = (f : LineFault) → has_fault version line f ≡ false

-- a scenario: the header of a version, and then, but for lines that are ignored, settings, the line
-- `events`, events and the line `end`
pub record IsScenario (lines : List (List ℕ)) (setup : Setup) (events : List Event) : Type 0 where
  pub version : Version
  pub body : List (List ℕ)
  pub settings : List Setting
  pub begins : lines ≡ header version ∷ body
  pub faultless : All (IsFaultless version) (lines_that_count body)
  pub order : map (meaning_by version) (lines_that_count body)
      ≡ map Set settings ++ Events ∷ (map Happens events ++ End ∷ [])
  pub made : MakesSetup version (values_of settings) setup

-- what reading lines makes: the setup, if the line `events` came, and the events
pub record Script : Type 0 where
  pub setup : Option Setup
  pub events : List Event

abbrev pub no_script : Script
no_script = record { setup = None; events = [] }

abbrev pub with_item : Item → Script → Script
with_item item.Nothing s = s
with_item (item.Ready setup) s = record s { setup = Some setup }
with_item (item.Event e) s = record s { events = e ∷ s.events }
with_item item.End s = s

-- the lines read in their order up to the end of the input, or the first fault
unfoldable pub read_lines : Reading → List (List ℕ) → Result Script LineFault
read_lines r [] = finish_of r >>= λ done. Ok no_script
read_lines r (line ∷ rest) =
    read_line r line >>= λ x. read_lines x.after rest >>= λ s. Ok (with_item x.item s)

abbrev pub read_all : List (List ℕ) → Result Script LineFault
read_all lines = read_lines (record { phase = phase.Unread; settings = no_settings }) lines

-- what was read is that of a scenario
pub record IsScript (lines : List (List ℕ)) (script : Script) : Type 0 where
  pub setup : Setup
  pub whole : script.setup ≡ Some setup
  pub scenario : IsScenario lines setup script.events

-- lines are read without a fault exactly if they are a scenario, and then give its setup and its
-- events
pub record ScenariosAreRead : Type 0 where
  pub taken : (lines : List (List ℕ)) (setup : Setup) (events : List Event)
      → IsScenario lines setup events →
      read_all lines ≡ Ok (record { setup = Some setup; events = events })
  pub only : (lines : List (List ℕ)) (script : Script) → read_all lines ≡ Ok script
      → IsScript lines script

abbrev pub is_restart : Event → Bool
is_restart (event.Restart party) = true
is_restart e = false

-- each end has one conversation, no end reads Expanded Types, and none begins again
pub record IsAlone (setup : Setup) (events : List Event) : Type 0 where
  pub later : setup.later ≡ no_later
  pub peer : setup.peer.expanded ≡ false
  pub server : setup.server.expanded ≡ false
  pub no_restart : list_any is_restart events ≡ false

-- so it is in every scenario of the first version
abbrev pub FirstScenariosAreAlone : Type 0
FirstScenariosAreAlone =
    (lines : List (List ℕ)) (setup : Setup) (events : List Event)
    → (s : IsScenario lines setup events) → s.version ≡ First → IsAlone setup events
