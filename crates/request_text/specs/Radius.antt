-- A text of RADIUS packets: the table of its lines, how far it has come, and what each line says.
use Rattle.std.specs.Prelude.{ℕ, List, [], ◌∷◌, Bool, true, false, if◌then◌else◌, codes, Option}
use Rattle.std.specs.Prelude.{Some, None, Result}
use Rattle.std.specs.Str.{bytes_eq}
use Rattle.octet_lists.specs.Sizes.{max_name, max_packet}
use Rattle.text_tables.specs.Fields.{word_in, number, octets_of}
use Rattle.text_tables.specs.Phases as phases
use Rattle.text_tables.specs.Rows.{Row, row}
use Rattle.text_tables.specs.Texts as texts
use Rattle.text_tables.specs.declared.fault.LineFault.{LineFault}
use Rattle.text_tables.specs.declared.phase.Part.{Part}
use Rattle.text_tables.specs.declared.phase.Part.TheVariants as part
use Rattle.text_tables.specs.declared.phase.Phase.{Phase}
use Rattle.text_tables.specs.declared.phase.Phase.TheVariants as phase
use Rattle.text_tables.specs.declared.rows.Field.TheVariants.{Choice, Number, Hex}
use Rattle.text_tables.specs.declared.rows.Choices.TheVariants as choices
use Rattle.request_text.specs.declared.radius.RadiusReader.{RadiusReader}
use Rattle.request_text.specs.declared.radius_line.RadiusWord.{RadiusWord}
use Rattle.request_text.specs.declared.radius_line.RadiusWord.TheVariants as word
use Rattle.request_text.specs.declared.radius_line.ReplyKind.{ReplyKind}
use Rattle.request_text.specs.declared.radius_line.ReplyKind.TheVariants as kind
use Rattle.request_text.specs.declared.radius_line.RadiusItem.{RadiusItem}
use Rattle.request_text.specs.declared.radius_line.RadiusItem.TheVariants as item

-- each keyword, and what the words after it stand for
abbrev pub row_of : RadiusWord → Row
row_of word.Secret = row (codes "secret") 1 (Hex 1 64 ∷ [])
row_of word.Request = row (codes "request") 5
    (Number 0 255 ∷ Hex 16 16 ∷ Hex 0 max_name ∷ Hex 0 64 ∷ Hex 1 max_packet ∷ [])
row_of word.Reply = row (codes "reply") 3 (Choice choices.Reply ∷ Hex 0 64 ∷ Hex 1 max_packet ∷ [])
row_of word.Read = row (codes "read") 1 (Hex 0 2000 ∷ [])
row_of word.End = row (codes "end") 0 []

abbrev pub radius_words : List RadiusWord
radius_words = word.Secret ∷ word.Request ∷ word.Reply ∷ word.Read ∷ word.End ∷ []

-- the kind of reply that a word names
abbrev pub reply_of : List ℕ → ReplyKind
reply_of name =
    if bytes_eq name (codes "accept") then kind.Accept
    else if bytes_eq name (codes "reject") then kind.Reject
    else kind.Challenge

-- what a keyword says with the words of its line
unfoldable pub item_of : RadiusWord → List (List ℕ) → RadiusItem
item_of word.Secret ws = item.Secret (octets_of (word_in ws 1))
item_of word.Request ws =
    item.Request (number (word_in ws 1)) (octets_of (word_in ws 2)) (octets_of (word_in ws 3))
    (octets_of (word_in ws 4)) (octets_of (word_in ws 5))
item_of word.Reply ws =
    item.Reply (reply_of (word_in ws 1)) (octets_of (word_in ws 2)) (octets_of (word_in ws 3))
item_of word.Read ws = item.Read (octets_of (word_in ws 1))
item_of word.End ws = item.End

-- the secret comes before requests, replies and packets, and the line `end` after it
abbrev pub part_of : RadiusItem → Part
part_of (item.Secret octets) = part.Opening
part_of item.End = part.End
part_of other = part.Event

-- what a line says, and how far the text has come after it
abbrev pub RadiusLine : Type 0
RadiusLine = texts.ReadLine RadiusItem RadiusReader

-- line 1
abbrev pub reading_after_header : List ℕ → Option RadiusReader
reading_after_header line =
    if bytes_eq line (codes "eap-radius 1") then Some (record { phase = phase.Settings }) else None

-- Repeated: a second secret
abbrev pub occurred_before : Phase → RadiusItem → Bool
occurred_before phase.Events (item.Secret octets) = true
occurred_before phase.Ended (item.Secret octets) = true
occurred_before p i = false

-- how far the text has come with what a line says
abbrev pub phase_after : Phase → RadiusItem → Phase
phase_after p (item.Secret octets) = phase.Events
phase_after p item.End = phase.Ended
phase_after p other = p

abbrev pub radius : texts.Table RadiusWord RadiusItem RadiusReader RadiusItem
radius = record {
  keywords = λ r. radius_words;
  none = word.End;
  entry = item_of;
  part = part_of;
  phase = λ r. r.phase;
  begun = λ r. reading_after_header;
  nothing = item.Nothing;
  is_crowded = λ r k. false;
  occurred_before = λ r. occurred_before r.phase;
  is_missing = λ r i. false;
  taken = λ r i. texts.line_of i (record { phase = phase_after r.phase i });
}

-- what a line says in a text that has come so far, or its first fault
unfoldable pub read_line : RadiusReader → List ℕ → Result RadiusLine LineFault
read_line r line = texts.read_line row_of radius r line

-- the end of the input
abbrev pub finish_of : RadiusReader → Result (Unit {0}) LineFault
finish_of r = phases.finish_of r.phase
