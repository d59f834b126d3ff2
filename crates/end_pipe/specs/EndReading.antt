-- An end's text: what has been read, and what each line adds.
use Rattle.std.specs.Prelude.{◌≡◌, ◌≤◌, ℕ, List, Bool, false, unwrap_or, Ok, if◌then◌else◌, codes}
use Rattle.std.specs.Prelude.{Option, Some, None, Result, IsOk, is_err}
use Rattle.std.specs.Str.{bytes_eq}
use Rattle.text_tables.specs.Phases as phases
use Rattle.text_tables.specs.Texts as texts
use Rattle.text_tables.specs.declared.fault.LineFault.{LineFault}
use Rattle.text_tables.specs.declared.phase.Part.{Part}
use Rattle.text_tables.specs.declared.phase.Part.TheVariants as part
use Rattle.text_tables.specs.declared.phase.Phase.{Phase}
use Rattle.text_tables.specs.declared.phase.Phase.TheVariants as phase
use Rattle.scenario_text.specs.Reading as scenario
use Rattle.scenario_text.specs.Reading.{no_settings, has_setting, with_setting, peer_setup_of}
use Rattle.scenario_text.specs.Reading.{server_setup_of}
use Rattle.scenario_text.specs.Valid.{IsValidSetting, IsValidPeer, IsValidServer}
use Rattle.login_setup.specs.declared.setup.PeerSetup.{PeerSetup}
use Rattle.login_setup.specs.Setup.{ServerSetup}
use Rattle.scenario_text.specs.declared.entry.Entry as told
use Rattle.scenario_text.specs.declared.scenario.ItemKind as answer
use Rattle.scenario_text.specs.declared.settings.Settings.{Settings}
use Rattle.end_pipe.specs.EndContents.{Entry, entry_of}
use Rattle.end_pipe.specs.EndContents as entry
use Rattle.end_pipe.specs.EndTable.{row_of, end_words}
use Rattle.end_pipe.specs.declared.input.EndInput.{EndInput}
use Rattle.end_pipe.specs.declared.reader.EndItem.{EndItem}
use Rattle.end_pipe.specs.declared.reader.EndItem.TheVariants as whole
use Rattle.end_pipe.specs.declared.table.EndWord.{EndWord}
use Rattle.end_pipe.specs.declared.table.EndWord.TheVariants as word
use Rattle.end_pipe.specs.declared.table.Role.{Role}
use Rattle.end_pipe.specs.declared.table.Role.TheVariants.{Peer, Server}

-- what a line says: nothing that happens; the line `events`, at which the settings are whole; an
-- input; the line `end`
pub data Item : Type 0 where
  Nothing : Item
  Ready : Item
  Input : EndInput → Item
  End : Item

-- what has been read of the text of an end: how far it has come, and its settings
pub record EndReading : Type 0 where
  pub role : Role
  pub phase : Phase
  pub settings : Settings

-- an end's text has one conversation, so one nonce: its settings are those of the first version, in
-- which none comes again
abbrev pub unread : Role → EndReading
unread role = record { role = role; phase = phase.Unread; settings = no_settings }

-- what a line says, and what has been read after it
abbrev pub ReadLine : Type 0
ReadLine = texts.ReadLine Item EndReading

abbrev pub line_of : Item → Role → Phase → Settings → ReadLine
line_of item role p s = texts.line_of item (record { role = role; phase = p; settings = s })

-- the answer of a reader, with the input that was written if it has one
abbrev pub item_with : answer.ItemKind → EndReading → EndInput → Item
item_with answer.TheVariants.Nothing after input = Nothing
item_with answer.TheVariants.Ready after input = Ready
item_with answer.TheVariants.Event after input = Input input
item_with answer.TheVariants.End after input = End

-- the same of an answer that has the settings
abbrev pub item_value : EndItem → Item
item_value whole.Nothing = Nothing
item_value (whole.ReadyPeer setup) = Ready
item_value (whole.ReadyServer setup first_id max_retrans) = Ready
item_value (whole.Line input) = Input input
item_value whole.End = End

-- the settings of the peer's text are these, each within its limits
pub record IsReadyPeer (setup : PeerSetup) (r : EndReading) : Type 0 where
  pub role : r.role ≡ Peer
  pub made : peer_setup_of r.settings ≡ Ok setup
  pub valid : IsValidPeer setup

-- those of the server's text, with the first Identifier and MaxRetrans (RFC 4137 section 5.1.2)
pub record IsReadyServer (setup : ServerSetup) (first_id max_retrans : ℕ)
    (r : EndReading) : Type 0 where
  pub role : r.role ≡ Server
  pub made : server_setup_of r.settings ≡ Ok setup
  pub valid : IsValidServer setup
  pub first : first_id ≡ unwrap_or r.settings.first_id 0
  pub retrans : max_retrans ≡ unwrap_or r.settings.max_retrans 4
  pub few : max_retrans ≤ 10

abbrev pub IsReady : EndItem → EndReading → Type 0
IsReady (whole.ReadyPeer setup) r = IsReadyPeer setup r
IsReady (whole.ReadyServer setup first_id max_retrans) r =
    IsReadyServer setup first_id max_retrans r
IsReady other r = Unit {0}

-- the text of the server or of the peer
abbrev pub role_of : Bool → Role
role_of server = if server then Server else Peer

-- a setting that the end needs isn't there
abbrev pub lacks_some : Role → Settings → Bool
lacks_some Server s = is_err (server_setup_of s)
lacks_some Peer s = is_err (peer_setup_of s)

-- the settings of the end are whole
abbrev pub AreWhole : Role → Settings → Type 0
AreWhole Server s = IsOk (server_setup_of s)
AreWhole Peer s = IsOk (peer_setup_of s)

-- if the answer says so
abbrev pub HasSetup : answer.ItemKind → EndReading → Type 0
HasSetup answer.TheVariants.Ready after = AreWhole after.role after.settings
HasSetup other after = Unit {0}

-- line 1
abbrev pub reading_after_header : Role → List ℕ → Option EndReading
reading_after_header role line =
    if bytes_eq line (codes "eap-end 1")
    then Some (record { role = role; phase = phase.Settings; settings = no_settings })
    else None

-- settings come before the line `events`, inputs and the line `end` after it
abbrev pub part_of : Entry → Part
part_of (entry.Set v) = part.Setting
part_of entry.Events = part.Opening
part_of (entry.Arrives input) = part.Event
part_of entry.End = part.End

-- BadCount: a 17th user
abbrev pub is_crowded : Settings → EndWord → Bool
is_crowded s (word.Setting keyword) = scenario.is_crowded s keyword
is_crowded s other = false

-- Repeated: a setting that came before
abbrev pub occurred_before : Settings → Entry → Bool
occurred_before s (entry.Set v) = has_setting s v
occurred_before s e = false

-- Missing: the line `events`, and a needed setting isn't there
abbrev pub is_missing : Role → Settings → Entry → Bool
is_missing role s entry.Events = lacks_some role s
is_missing role s e = false

-- what a line says and adds
abbrev pub line_of_entry : Role → Phase → Settings → Entry → ReadLine
line_of_entry role p s (entry.Set v) = line_of Nothing role p (with_setting s v)
line_of_entry role p s entry.Events = line_of Ready role phase.Events s
line_of_entry role p s (entry.Arrives input) = line_of (Input input) role p s
line_of_entry role p s entry.End = line_of End role phase.Ended s

abbrev pub end : texts.Table EndWord Entry EndReading Item
end = record {
  keywords = λ r. end_words r.role;
  none = word.End;
  entry = entry_of;
  part = part_of;
  phase = λ r. r.phase;
  begun = λ r. reading_after_header r.role;
  nothing = Nothing;
  is_crowded = λ r. is_crowded r.settings;
  occurred_before = λ r. occurred_before r.settings;
  is_missing = λ r. is_missing r.role r.settings;
  taken = λ r. line_of_entry r.role r.phase r.settings;
}

-- what a line says and adds, or its first fault
unfoldable pub read_line : EndReading → List ℕ → Result ReadLine LineFault
read_line r line = texts.read_line row_of end r line

-- the end of the input
abbrev pub finish_of : EndReading → Result (Unit {0}) LineFault
finish_of r = phases.finish_of r.phase

-- what a line contains is within its limits
abbrev pub IsValidContent : told.Entry → Type 0
IsValidContent (told.TheVariants.Set v) = IsValidSetting v
IsValidContent other = Unit {0}
