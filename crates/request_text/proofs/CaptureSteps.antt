-- What a line can say at each place of a capture, and how far the capture has come then.
use Rattle.std.proofs.Common.{◌≡◌, ℕ, Bool, true, false, cond, not, ◌&&◌, List, [], ◌∷◌, Some, None}
use Rattle.std.proofs.Common.{Ok, codes, refl, subst}
use Rattle.std.proofs.lemmas.Bool.{and_parts, or_parts, not-false}
use Rattle.std.specs.List.{slice_split, list_all, onto_first}
use Rattle.std.specs.Str.{bytes_eq}
use Rattle.login_setup.specs.declared.users.User.{User}
use Rattle.text_tables.specs.Words.{words, is_printable}
use Rattle.text_tables.specs.Fields.{word_in}
use Rattle.text_tables.specs.Phases.{may_occur}
use Rattle.text_tables.specs.Rows.{line_has}
use Rattle.text_tables.specs.Texts as texts
use Rattle.text_tables.specs.Texts.{entry_in, read_at, read_first_line, word_of}
use Rattle.text_tables.specs.Users.{with_user}
use Rattle.text_tables.specs.declared.fault.LineFault.TheVariants as fault
use Rattle.text_tables.specs.declared.phase.Phase.{Phase}
use Rattle.text_tables.specs.declared.phase.Phase.TheVariants as phase
use Rattle.text_tables.proofs.Reading as steps
use Rattle.text_tables.proofs.Reading.{Stepped, stepped}
use Rattle.request_text.specs.Captures.{Capture, CaptureLine, capture, capture_words, entry_of}
use Rattle.request_text.specs.Captures.{part_of, read_line, row_of, line_of, line_of_entry}
use Rattle.request_text.specs.declared.capture_line.CaptureWord.{CaptureWord}
use Rattle.request_text.specs.declared.capture_line.CaptureWord.TheVariants as word
use Rattle.request_text.specs.declared.capture_line.CaptureEntry.{CaptureEntry}
use Rattle.request_text.specs.declared.capture_line.CaptureEntry.TheVariants as entry
use Rattle.request_text.specs.declared.capture.CaptureItemKind.TheVariants as item

-- the header; a line that is passed over; a user with a printable name, or `packets`; a packet, or
-- `end`
pub data Follows (users : List User) : Phase → CaptureLine → Type 0 where
  Header : Follows users phase.Unread (line_of item.Nothing phase.Settings [])
  Passed : (p : Phase) → Follows users p (line_of item.Nothing p users)
  NewUser : (user : User) → is_printable user.name ≡ true
      → Follows users phase.Settings (line_of item.Nothing phase.Settings (with_user users user))
  AllUsers : Follows users phase.Settings (line_of item.Ready phase.Events users)
  NewPacket : (to_peer : Bool) (octets : List ℕ)
      → Follows users phase.Events (line_of (item.Packet to_peer octets) phase.Events users)
  AllPackets : Follows users phase.Events (line_of item.End phase.Ended users)

-- ---- the words of a printable line are printable

all_by : (a b : Bool) → a ≡ true → b ≡ true → (a && b) ≡ true
all_by true b h k = k
all_by false b h k = absurd cc

onto : (q : ℕ → Bool) (x : ℕ) (parts : List (List ℕ)) → q x ≡ true
    → list_all (list_all q) parts ≡ true → list_all (list_all q) (onto_first x parts) ≡ true
onto q x [] h k = all_by (q x && true) true (all_by (q x) true h refl) refl
onto q x (part ∷ rest) h k =
    let parts = and_parts (list_all q part) (list_all (list_all q) rest) k in
    all_by (q x && list_all q part) (list_all (list_all q) rest)
    (all_by (q x) (list_all q part) h parts.0) parts.1

by_cut : (q : ℕ → Bool) (cut : Bool) (x : ℕ) (parts : List (List ℕ)) → q x ≡ true
    → list_all (list_all q) parts ≡ true →
    list_all (list_all q) (cond cut ([] ∷ parts) (onto_first x parts)) ≡ true
by_cut q true x parts h k = k
by_cut q false x parts h k = onto q x parts h k

parts_pass : (q p : ℕ → Bool) (line : List ℕ) → list_all q line ≡ true
    → list_all (list_all q) (slice_split p line) ≡ true
parts_pass q p [] h = refl
parts_pass q p (x ∷ rest) h =
    let both = and_parts (q x) (list_all q rest) h in
    by_cut q (p x) x (slice_split p rest) both.0 (parts_pass q p rest both.1)

second_passes : (q : ℕ → Bool) (ws : List (List ℕ)) → list_all (list_all q) ws ≡ true
    → list_all q (word_in ws 1) ≡ true
second_passes q [] h = refl
second_passes q (first ∷ []) h = refl
second_passes q (first ∷ second ∷ rest) h =
    let behind = and_parts (list_all q first) (list_all (list_all q) (second ∷ rest)) h in
    (and_parts (list_all q second) (list_all (list_all q) rest) behind.1).0

name_printable : (line : List ℕ) → is_printable line ≡ true
    → is_printable (word_in (words line) 1) ≡ true
name_printable line h = second_passes _ (words line) (parts_pass _ _ line h)

-- ---- what a line says at its place

abbrev NamePrintable : CaptureEntry → Type 0
NamePrintable (entry.User user) = is_printable user.name ≡ true
NamePrintable other = Unit {0}

entry_printable : (k : CaptureWord) (line : List ℕ) → is_printable line ≡ true
    → NamePrintable (entry_of k (words line))
unfolding entry_of
entry_printable word.User line h = name_printable line h
entry_printable other line h = tt

accepted_follows : (p : Phase) (users : List User) (e : CaptureEntry)
    → may_occur p (part_of e) ≡ true → NamePrintable e → Follows users p (line_of_entry p users e)
accepted_follows phase.Settings users (entry.User user) m n = NewUser user n
accepted_follows phase.Settings users entry.Packets m n = AllUsers
accepted_follows phase.Events users (entry.Packet to_peer octets) m n = NewPacket to_peer octets
accepted_follows phase.Events users entry.End m n = AllPackets
accepted_follows other users e m n = absurd cc

-- a line without a fault is printable
printable_if : (line : List ℕ) → line_has row_of capture_words line fault.BadWord ≡ false
    → is_printable line ≡ true
unfolding line_has
printable_if line h = not-false (is_printable line) (or_parts (not (is_printable line)) _ h).0

module _ (c : Capture) (line : List ℕ) where
  stepped_follows : (out : CaptureLine) → Stepped row_of capture c line out
      → Follows c.users c.phase out
  stepped_follows _ (steps.Passed is) = Passed c.phase
  stepped_follows _ (steps.Entered k own may) =
      accepted_follows c.phase c.users (entry_in row_of capture c line) may.stands
      (entry_printable (word_of row_of capture c line) line (printable_if line (own fault.BadWord)))

  header_follows : (out : CaptureLine) (same : Bool) → read_first_line row_of capture (cond same
      (Some (record { phase = phase.Settings; users = [] })) None) ≡ Ok out
      → Follows c.users phase.Unread out
  header_follows out true e = let is : line_of item.Nothing phase.Settings [] ≡ out = cc in
      subst (Follows c.users phase.Unread) is Header
  header_follows out false e = absurd cc

  at_phase : (p : Phase) → c.phase ≡ p → (out : CaptureLine) → read_at row_of capture p c line
      ≡ Ok out → Follows c.users p out
  at_phase phase.Unread is out e = header_follows out (bytes_eq line (codes "eap-capture 1")) e
  at_phase other is out e = subst (λ p. Follows c.users p out) is
      (stepped_follows out (stepped row_of capture c line out e))

-- what a line without a fault says
pub line_follows : (c : Capture) (line : List ℕ) (out : CaptureLine) → read_line c line ≡ Ok out
    → Follows c.users c.phase out
unfolding read_line texts.read_line
line_follows c line out e = at_phase c line c.phase refl out e
