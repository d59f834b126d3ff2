-- A scenario, line by line: what has been read, and what each line adds.
use Rattle.std.specs.Prelude.{ℕ, List, [], ◌∷◌, ◌++◌, length, nat_le, nat_lt, not, ◌&&◌, Bool}
use Rattle.std.specs.Prelude.{false, if◌then◌else◌, Option, Some, None, Result, Ok, Err, IsOk}
use Rattle.std.specs.Prelude.{ok_or, is_err, is_some, unwrap_or}
use Rattle.login_setup.specs.Setup.{has_keys}
use Rattle.login_setup.specs.Users.{user_of, max_users}
use Rattle.login_setup.specs.declared.setup.Later.{Later}
use Rattle.login_setup.specs.declared.setup.PeerSetup.{PeerSetup}
use Rattle.login_setup.specs.Setup.{ServerSetup}
use Rattle.login_setup.specs.declared.setup.Setup.{Setup}
use Rattle.login_setup.specs.declared.event.Event.{Event}
use Rattle.text_tables.specs.Fields.{◌>>=◌}
use Rattle.text_tables.specs.Phases as phases
use Rattle.text_tables.specs.Texts as texts
use Rattle.text_tables.specs.Users.{with_user}
use Rattle.scenario_text.specs.Entries.{item_of}
use Rattle.scenario_text.specs.Keywords.{row_of, keywords_in}
use Rattle.scenario_text.specs.declared.keyword.Keyword.{Keyword}
use Rattle.scenario_text.specs.declared.keyword.Keyword.TheVariants as key
use Rattle.text_tables.specs.declared.fault.LineFault.{LineFault}
use Rattle.text_tables.specs.declared.fault.LineFault.TheVariants as fault
use Rattle.scenario_text.specs.declared.entry.Setting.{Setting}
use Rattle.scenario_text.specs.declared.entry.Setting.TheVariants as setting
use Rattle.scenario_text.specs.Contents.{Entry}
use Rattle.scenario_text.specs.Contents as entry
use Rattle.scenario_text.specs.declared.settings.GivenNonces.{GivenNonces}
use Rattle.scenario_text.specs.declared.settings.Settings.{Settings}
use Rattle.scenario_text.specs.declared.version.Version.{Version}
use Rattle.scenario_text.specs.declared.version.Version.TheVariants as version
use Rattle.scenario_text.specs.Versions.{version_of, version_number, has_later, most_later}
use Rattle.scenario_text.specs.Items.{Item}
use Rattle.scenario_text.specs.Items as item
use Rattle.scenario_text.specs.declared.scenario.ItemKind as answer
use Rattle.text_tables.specs.declared.phase.Part.{Part}
use Rattle.text_tables.specs.declared.phase.Part.TheVariants as part
use Rattle.text_tables.specs.declared.phase.Phase.{Phase}
use Rattle.text_tables.specs.declared.phase.Phase.TheVariants as phase

-- no settings
abbrev pub no_settings : Settings
no_settings = record {
  version = version.First;
  mode = None;
  first_id = None;
  max_retrans = None;
  peer_name = None;
  peer_server = None;
  peer_methods = None;
  peer_suites = None;
  peer_psk47 = None;
  peer_psk51 = None;
  peer_nonces = None;
  peer_expanded = None;
  server_name = None;
  server_methods = None;
  server_suites = None;
  server_nonces = None;
  server_expanded = None;
  users = [];
}

-- none of a text of this version
abbrev pub settings_of_version : Version → Settings
settings_of_version v = record no_settings { version = v }

-- the nonces of an end with one more, the first or a later one, unless there are as many as the
-- version has
unfoldable pub with_later : Version → List (List ℕ) → List ℕ → List (List ℕ)
with_later v later nonce =
    if nat_lt (length later) (most_later v) then later ++ nonce ∷ [] else later

abbrev pub with_nonce : Version → Option GivenNonces → List ℕ → Option GivenNonces
with_nonce v None nonce = Some (record { first = nonce; later = [] })
with_nonce v (Some given) nonce = Some (record given { later = with_later v given.later nonce })

-- 16 nonces
abbrev pub is_full : Option GivenNonces → Bool
is_full None = false
is_full (Some given) = nat_le 15 (length given.later)

-- whether the setting has come before and may come once; the nonces may come again in the second
-- version
abbrev pub has_setting : Settings → Setting → Bool
has_setting s (setting.Mode v) = is_some s.mode
has_setting s (setting.FirstId v) = is_some s.first_id
has_setting s (setting.MaxRetrans v) = is_some s.max_retrans
has_setting s (setting.PeerName v) = is_some s.peer_name
has_setting s (setting.PeerServer v) = is_some s.peer_server
has_setting s (setting.PeerMethods v) = is_some s.peer_methods
has_setting s (setting.PeerSuites v) = is_some s.peer_suites
has_setting s (setting.PeerPsk47 v) = is_some s.peer_psk47
has_setting s (setting.PeerPsk51 v) = is_some s.peer_psk51
has_setting s (setting.PeerNonce v) = not (has_later s.version) && is_some s.peer_nonces
has_setting s (setting.ServerName v) = is_some s.server_name
has_setting s (setting.ServerMethods v) = is_some s.server_methods
has_setting s (setting.ServerSuites v) = is_some s.server_suites
has_setting s (setting.ServerNonce v) = not (has_later s.version) && is_some s.server_nonces
has_setting s (setting.User user) = is_some (user_of s.users user.name user.kind)
has_setting s (setting.PeerExpanded v) = is_some s.peer_expanded
has_setting s (setting.ServerExpanded v) = is_some s.server_expanded

-- the settings with one more
abbrev pub with_setting : Settings → Setting → Settings
with_setting s (setting.Mode v) = record s { mode = Some v }
with_setting s (setting.FirstId v) = record s { first_id = Some v }
with_setting s (setting.MaxRetrans v) = record s { max_retrans = Some v }
with_setting s (setting.PeerName v) = record s { peer_name = Some v }
with_setting s (setting.PeerServer v) = record s { peer_server = Some v }
with_setting s (setting.PeerMethods v) = record s { peer_methods = Some v }
with_setting s (setting.PeerSuites v) = record s { peer_suites = Some v }
with_setting s (setting.PeerPsk47 v) = record s { peer_psk47 = Some v }
with_setting s (setting.PeerPsk51 v) = record s { peer_psk51 = Some v }
with_setting s
    (setting.PeerNonce v) = record s { peer_nonces = with_nonce s.version s.peer_nonces v }
with_setting s (setting.ServerName v) = record s { server_name = Some v }
with_setting s (setting.ServerMethods v) = record s { server_methods = Some v }
with_setting s (setting.ServerSuites v) = record s { server_suites = Some v }
with_setting s
    (setting.ServerNonce v) = record s { server_nonces = with_nonce s.version s.server_nonces v }
with_setting s (setting.User user) = record s { users = with_user s.users user }
with_setting s (setting.PeerExpanded v) = record s { peer_expanded = Some v }
with_setting s (setting.ServerExpanded v) = record s { server_expanded = Some v }

-- a needed setting
abbrev pub given_or_missing : {A : Type 0} → Option A → Result A LineFault
given_or_missing slot = ok_or slot fault.Missing

-- both suites, which is the default
abbrev pub both_suites : List ℕ
both_suites = 1 ∷ 2 ∷ []

-- a peer needs a key for each method that it allows
abbrev pub keyed_or_missing : PeerSetup → Result PeerSetup LineFault
keyed_or_missing peer = if has_keys peer then Ok peer else Err fault.Missing

-- the settings of the peer, of the server, of the run, if none that is needed is missing
unfoldable pub peer_setup_of : Settings → Result PeerSetup LineFault
peer_setup_of s = do
  name ← given_or_missing s.peer_name
  accepts ← given_or_missing s.peer_server
  methods ← given_or_missing s.peer_methods
  nonces ← given_or_missing s.peer_nonces
  keyed_or_missing (record {
    name = name;
    accepts = accepts;
    methods = methods;
    suites = unwrap_or s.peer_suites both_suites;
    psk47 = s.peer_psk47;
    psk51 = s.peer_psk51;
    nonce = nonces.first;
    expanded = unwrap_or s.peer_expanded false;
  })

unfoldable pub server_setup_of : Settings → Result ServerSetup LineFault
server_setup_of s = do
  name ← given_or_missing s.server_name
  methods ← given_or_missing s.server_methods
  nonces ← given_or_missing s.server_nonces
  Ok (record {
    name = name;
    methods = methods;
    suites = unwrap_or s.server_suites both_suites;
    users = s.users;
    nonce = nonces.first;
    expanded = unwrap_or s.server_expanded false;
  })

-- the version, and the nonces of later conversations
abbrev pub later_nonces : Option GivenNonces → List (List ℕ)
later_nonces None = []
later_nonces (Some given) = given.later

abbrev pub later_of : Settings → Later
later_of s = record {
  version = version_number s.version;
  peer = later_nonces s.peer_nonces;
  server = later_nonces s.server_nonces;
}

unfoldable pub setup_of : Settings → Result Setup LineFault
setup_of s = do
  mode ← given_or_missing s.mode
  peer ← peer_setup_of s
  server ← server_setup_of s
  Ok (record {
    mode = mode;
    first_id = unwrap_or s.first_id 0;
    max_retrans = unwrap_or s.max_retrans 4;
    peer = peer;
    server = server;
    later = later_of s;
  })

-- what has been read of a scenario: how far it has come, and its settings
pub record Reading : Type 0 where
  pub phase : Phase
  pub settings : Settings

-- what a line says, and what has been read after it
abbrev pub ReadLine : Type 0
ReadLine = texts.ReadLine Item Reading

abbrev pub line_of : Item → Phase → Settings → ReadLine
line_of item phase settings = texts.line_of item (record { phase = phase; settings = settings })

-- the line `events`, if the settings are whole
abbrev pub ready : Result Setup LineFault → Item
ready (Ok setup) = item.Ready setup
ready (Err f) = item.Nothing

-- the answer of a reader, with what it has after and the event that it wrote, as what a line says
abbrev pub item_with : answer.ItemKind → Reading → Event → Item
item_with answer.TheVariants.Nothing after event = item.Nothing
item_with answer.TheVariants.Ready after event = ready (setup_of after.settings)
item_with answer.TheVariants.Event after event = item.Event event
item_with answer.TheVariants.End after event = item.End

-- the settings are whole if the answer says so
abbrev pub HasSetup : answer.ItemKind → Reading → Type 0
HasSetup answer.TheVariants.Ready after = IsOk (setup_of after.settings)
HasSetup other after = Unit {0}

-- line 1 is the header of a version
abbrev pub started_with : Option Version → Option Reading
started_with None = None
started_with (Some v) = Some (record { phase = phase.Settings; settings = settings_of_version v })

-- settings come before the line `events`, events and the line `end` after it
abbrev pub part_of : Entry → Part
part_of (entry.Set v) = part.Setting
part_of entry.Events = part.Opening
part_of (entry.Happens event) = part.Event
part_of entry.End = part.End

-- BadCount: a 17th user; in the second version a 17th nonce of an end
abbrev pub is_crowded : Settings → Keyword → Bool
is_crowded s key.User = nat_le max_users (length s.users)
is_crowded s key.PeerNonce = has_later s.version && is_full s.peer_nonces
is_crowded s key.ServerNonce = has_later s.version && is_full s.server_nonces
is_crowded s k = false

-- Repeated: a setting that came before
abbrev pub occurred_before : Settings → Entry → Bool
occurred_before s (entry.Set v) = has_setting s v
occurred_before s e = false

-- Missing: the line `events`, and a needed setting isn't there
abbrev pub is_missing : Settings → Entry → Bool
is_missing s entry.Events = is_err (setup_of s)
is_missing s e = false

-- what a line says and adds
abbrev pub line_of_entry : Phase → Settings → Entry → ReadLine
line_of_entry p s (entry.Set v) = line_of item.Nothing p (with_setting s v)
line_of_entry p s entry.Events = line_of (ready (setup_of s)) phase.Events s
line_of_entry p s (entry.Happens event) = line_of (item.Event event) p s
line_of_entry p s entry.End = line_of item.End phase.Ended s

abbrev pub scenario : texts.Table Keyword Entry Reading Item
scenario = record {
  keywords = λ r. keywords_in r.settings.version;
  none = key.End;
  entry = item_of;
  part = part_of;
  phase = λ r. r.phase;
  begun = λ r line. started_with (version_of line);
  nothing = item.Nothing;
  is_crowded = λ r. is_crowded r.settings;
  occurred_before = λ r. occurred_before r.settings;
  is_missing = λ r. is_missing r.settings;
  taken = λ r. line_of_entry r.phase r.settings;
}

-- what a line says and adds, or its first fault
unfoldable pub read_line : Reading → List ℕ → Result ReadLine LineFault
read_line r line = texts.read_line row_of scenario r line

-- the end of the input
abbrev pub finish_of : Reading → Result (Unit {0}) LineFault
finish_of r = phases.finish_of r.phase
