-- A capture: the table of its lines, what has been read, and what each line adds.
use Rattle.std.specs.Prelude.{◌≡◌, ℕ, List, [], ◌∷◌, length, nat_le, Bool, true, false}
use Rattle.std.specs.Prelude.{if◌then◌else◌, codes, Option, Some, None, Result, is_some, IsTrue}
use Rattle.std.specs.Str.{bytes_eq}
use Rattle.login_setup.specs.Setup.{has_valid_key}
use Rattle.login_setup.specs.Users.{user_of}
use Rattle.login_setup.specs.declared.users.User.{User}
use Rattle.text_tables.specs.Fields.{word_in, octets_of, kind_of}
use Rattle.text_tables.specs.Phases as phases
use Rattle.text_tables.specs.Rows.{Row, row}
use Rattle.text_tables.specs.Texts as texts
use Rattle.text_tables.specs.Users.{with_user}
use Rattle.text_tables.specs.declared.fault.LineFault.{LineFault}
use Rattle.text_tables.specs.declared.phase.Part.{Part}
use Rattle.text_tables.specs.declared.phase.Part.TheVariants as part
use Rattle.text_tables.specs.declared.phase.Phase.{Phase}
use Rattle.text_tables.specs.declared.phase.Phase.TheVariants as phase
use Rattle.text_tables.specs.declared.rows.Field.TheVariants.{Name, Kind, Key, Hex}
use Rattle.request_text.specs.declared.capture_line.CaptureWord.{CaptureWord}
use Rattle.request_text.specs.declared.capture_line.CaptureWord.TheVariants as word
use Rattle.request_text.specs.declared.capture_line.CaptureEntry.{CaptureEntry}
use Rattle.request_text.specs.declared.capture_line.CaptureEntry.TheVariants as entry
use Rattle.request_text.specs.declared.capture.CaptureItemKind.{CaptureItemKind}
use Rattle.request_text.specs.declared.capture.CaptureItemKind.TheVariants as item
use Rattle.request_text.specs.declared.capture.CaptureItem.{CaptureItem}
use Rattle.request_text.specs.declared.capture.CaptureItem.TheVariants as whole

-- each keyword, and what the words after it stand for
abbrev pub row_of : CaptureWord → Row
row_of word.User = row (codes "user") 3 (Name ∷ Kind ∷ Key 2 ∷ [])
row_of word.Packets = row (codes "packets") 0 []
row_of word.ToPeer = row (codes ">") 1 (Hex 0 2000 ∷ [])
row_of word.FromPeer = row (codes "<") 1 (Hex 0 2000 ∷ [])
row_of word.End = row (codes "end") 0 []

abbrev pub capture_words : List CaptureWord
capture_words = word.User ∷ word.Packets ∷ word.ToPeer ∷ word.FromPeer ∷ word.End ∷ []

-- what a keyword says with the words of its line; no user of a capture is barred
unfoldable pub entry_of : CaptureWord → List (List ℕ) → CaptureEntry
entry_of word.User ws =
    entry.User (record {
      name = word_in ws 1;
      kind = kind_of (word_in ws 2);
      psk = octets_of (word_in ws 3);
      barred = false;
    })
entry_of word.Packets ws = entry.Packets
entry_of word.ToPeer ws = entry.Packet true (octets_of (word_in ws 1))
entry_of word.FromPeer ws = entry.Packet false (octets_of (word_in ws 1))
entry_of word.End ws = entry.End

-- users come before the line `packets`, packets and the line `end` after it
abbrev pub part_of : CaptureEntry → Part
part_of (entry.User user) = part.Setting
part_of entry.Packets = part.Opening
part_of (entry.Packet to_peer octets) = part.Event
part_of entry.End = part.End

-- what has been read of a capture: how far it has come, and its users
pub record Capture : Type 0 where
  pub phase : Phase
  pub users : List User

-- what a line says, and what has been read after it
abbrev pub CaptureLine : Type 0
CaptureLine = texts.ReadLine CaptureItemKind Capture

abbrev pub line_of : CaptureItemKind → Phase → List User → CaptureLine
line_of item p users = texts.line_of item (record { phase = p; users = users })

-- line 1
abbrev pub reading_after_header : List ℕ → Option Capture
reading_after_header line = if bytes_eq line (codes "eap-capture 1")
    then Some (record { phase = phase.Settings; users = [] }) else None

-- BadCount: a 17th user
abbrev pub is_crowded : List User → CaptureWord → Bool
is_crowded users word.User = nat_le 16 (length users)
is_crowded users k = false

-- Repeated: a user whose name and method came before
abbrev pub occurred_before : List User → CaptureEntry → Bool
occurred_before users (entry.User user) = is_some (user_of users user.name user.kind)
occurred_before users e = false

-- what a line says and adds
abbrev pub line_of_entry : Phase → List User → CaptureEntry → CaptureLine
line_of_entry p users (entry.User user) = line_of item.Nothing p (with_user users user)
line_of_entry p users entry.Packets = line_of item.Ready phase.Events users
line_of_entry p users (entry.Packet to_peer octets) = line_of (item.Packet to_peer octets) p users
line_of_entry p users entry.End = line_of item.End phase.Ended users

abbrev pub capture : texts.Table CaptureWord CaptureEntry Capture CaptureItemKind
capture = record {
  keywords = λ c. capture_words;
  none = word.End;
  entry = entry_of;
  part = part_of;
  phase = λ c. c.phase;
  begun = λ c. reading_after_header;
  nothing = item.Nothing;
  is_crowded = λ c. is_crowded c.users;
  occurred_before = λ c. occurred_before c.users;
  is_missing = λ c e. false;
  taken = λ c. line_of_entry c.phase c.users;
}

-- what a line says and adds, or its first fault
unfoldable pub read_line : Capture → List ℕ → Result CaptureLine LineFault
read_line c line = texts.read_line row_of capture c line

-- the end of the input
abbrev pub finish_of : Capture → Result (Unit {0}) LineFault
finish_of c = phases.finish_of c.phase

-- a user has a key of its method's size
abbrev pub HasKey : CaptureEntry → Type 0
HasKey (entry.User user) = IsTrue (has_valid_key user)
HasKey other = Unit {0}

-- what a line says, but for the users
abbrev pub item_kind : CaptureItem → CaptureItemKind
item_kind whole.Nothing = item.Nothing
item_kind (whole.Ready users) = item.Ready
item_kind (whole.Packet to_peer octets) = item.Packet to_peer octets
item_kind whole.End = item.End

-- at the line `packets` it says these users
abbrev pub HasUsers : CaptureItem → List User → Type 0
HasUsers (whole.Ready told) users = told ≡ users
HasUsers other users = Unit {0}
