-- The faults of a line by the row that its keyword has in the text's table: one definition a fault.
use Rattle.std.specs.Prelude.{ℕ, ◌+◌, ◌-◌, List, [], ◌∷◌, length, Bool, false, ◌&&◌, ◌||◌, not}
use Rattle.std.specs.Prelude.{nat_lt, nat_le, if◌then◌else◌, codes, Option, Some, None, is_some}
use Rattle.std.specs.Prelude.{find, ok_or, Result, Ok, Err}
use Rattle.std.specs.List.{list_any}
use Rattle.std.specs.Str.{bytes_eq}
use Rattle.octet_lists.specs.Sizes.{max_name}
use Rattle.login_setup.specs.Setup.{is_valid_for}
use Rattle.text_tables.specs.Words.{words, is_printable}
use Rattle.text_tables.specs.Fields.{word_in, is_dash, spells_number, spells_octets, octets_of}
use Rattle.text_tables.specs.Fields.{spells_kind, kind_of, spells_suite}
use Rattle.text_tables.specs.declared.fault.LineFault.{LineFault}
use Rattle.text_tables.specs.declared.fault.LineFault.TheVariants as fault
use Rattle.text_tables.specs.declared.rows.Field.{Field}
use Rattle.text_tables.specs.declared.rows.Field.TheVariants as field
use Rattle.text_tables.specs.declared.rows.Choices.{Choices}
use Rattle.text_tables.specs.declared.rows.Choices.TheVariants as choices

-- a row: the keyword, how many words follow it at least, and what each stands for
pub record Row : Type 0 where
  pub word : List ℕ
  pub least : ℕ
  pub fields : List Field

abbrev pub row : List ℕ → ℕ → List Field → Row
row word least fields = record { word = word; least = least; fields = fields }

-- the words of each choice
abbrev pub choices_of : Choices → List (List ℕ)
choices_of choices.Mode = codes "alone" ∷ codes "through" ∷ []
choices_of choices.Port =
    codes "peer" ∷ codes "server" ∷ codes "pass-peer" ∷ codes "pass-server" ∷ []
choices_of choices.Timer = codes "server" ∷ codes "pass" ∷ []
choices_of choices.Party = codes "peer" ∷ codes "server" ∷ codes "pass" ∷ []
choices_of choices.Access = codes "allowed" ∷ codes "barred" ∷ []
choices_of choices.Reply = codes "accept" ∷ codes "reject" ∷ codes "challenge" ∷ []
choices_of choices.YesNo = codes "yes" ∷ codes "no" ∷ []

abbrev pub is_choice : Choices → List ℕ → Bool
is_choice c word = list_any (bytes_eq word) (choices_of c)

abbrev pub is_within : ℕ → ℕ → ℕ → Bool
is_within count low high = nat_le low count && nat_le count high

-- BadCount: fewer words than the keyword has at least, or more than it has fields
abbrev pub has_bad_count : ℕ → ℕ → ℕ → Bool
has_bad_count least most count = nat_le count least || nat_lt most (count - 1)

-- BadChoice: none of its choices
abbrev pub has_bad_choice : Field → ℕ → List (List ℕ) → Bool
has_bad_choice (field.Choice c) place ws = not (is_choice c (word_in ws place))
has_bad_choice other place ws = false

-- a method, or `-` with no word after it
abbrev pub is_kind_or_none : ℕ → List (List ℕ) → Bool
is_kind_or_none place ws =
    spells_kind (word_in ws place) || (is_dash (word_in ws place) && nat_le (length ws - 1) place)

-- BadNumber: no number in its range, no method, no ciphersuite
abbrev pub has_bad_number : Field → ℕ → List (List ℕ) → Bool
has_bad_number (field.Number low high) place ws = not (spells_number (word_in ws place) low high)
has_bad_number field.Kind place ws = not (spells_kind (word_in ws place))
has_bad_number field.KindOrNone place ws = not (is_kind_or_none place ws)
has_bad_number (field.OtherKind p) place ws = not (spells_kind (word_in ws place))
has_bad_number field.Suite place ws = not (spells_suite (word_in ws place))
has_bad_number (field.OtherSuite p) place ws = not (spells_suite (word_in ws place))
has_bad_number other place ws = false

-- BadHex: not an even number of hex digits, and not - for none
abbrev pub has_bad_hex : Field → ℕ → List (List ℕ) → Bool
has_bad_hex (field.Hex low high) place ws = not (spells_octets (word_in ws place))
has_bad_hex (field.Key p) place ws = not (spells_octets (word_in ws place))
has_bad_hex other place ws = false

-- BadSize: a name or octets of another length; a key of another than its method requires
abbrev pub has_bad_size : Field → ℕ → List (List ℕ) → Bool
has_bad_size field.Name place ws = not (is_within (length (word_in ws place)) 1 max_name)
has_bad_size (field.Hex low high) place ws =
    not (is_within (length (octets_of (word_in ws place))) low high)
has_bad_size (field.Key p) place ws =
    not (is_valid_for (kind_of (word_in ws p)) (octets_of (word_in ws place)))
has_bad_size other place ws = false

-- Repeated: the method or the ciphersuite of another word again
abbrev pub occurs_twice : Field → ℕ → List (List ℕ) → Bool
occurs_twice (field.OtherKind p) place ws = bytes_eq (word_in ws place) (word_in ws p)
occurs_twice (field.OtherSuite p) place ws = bytes_eq (word_in ws place) (word_in ws p)
occurs_twice other place ws = false

abbrev pub field_has : LineFault → Field → ℕ → List (List ℕ) → Bool
field_has fault.BadChoice f place ws = has_bad_choice f place ws
field_has fault.BadNumber f place ws = has_bad_number f place ws
field_has fault.BadHex f place ws = has_bad_hex f place ws
field_has fault.BadSize f place ws = has_bad_size f place ws
field_has fault.Repeated f place ws = occurs_twice f place ws
field_has other f place ws = false

abbrev pub word_has : LineFault → Field → ℕ → List (List ℕ) → Bool
word_has e f place ws = nat_lt place (length ws) && field_has e f place ws

-- one of the words that are there has the fault
abbrev pub any_has : LineFault → ℕ → List Field → List (List ℕ) → Bool
any_has e place [] ws = false
any_has e place (f ∷ rest) ws = word_has e f place ws || any_has e (place + 1) rest ws

-- the faults in their order
abbrev pub faults : List LineFault
faults =
    fault.NoHeader ∷ fault.BadWord ∷ fault.BadCount ∷ fault.BadChoice ∷ fault.BadNumber
    ∷ fault.BadHex ∷ fault.BadSize
    ∷ fault.Repeated ∷ fault.Missing ∷ fault.Order ∷ []

-- the words after a keyword have the fault
abbrev pub words_have : ℕ → List Field → List (List ℕ) → LineFault → Bool
words_have least fields ws fault.NoHeader = false
words_have least fields ws fault.BadWord = false
words_have least fields ws fault.BadCount = has_bad_count least (length fields) (length ws)
words_have least fields ws fault.BadChoice = any_has fault.BadChoice 1 fields ws
words_have least fields ws fault.BadNumber = any_has fault.BadNumber 1 fields ws
words_have least fields ws fault.BadHex = any_has fault.BadHex 1 fields ws
words_have least fields ws fault.BadSize = any_has fault.BadSize 1 fields ws
words_have least fields ws fault.Repeated = any_has fault.Repeated 1 fields ws
words_have least fields ws fault.Missing = false
words_have least fields ws fault.Order = false

unfoldable pub fault_of_words : ℕ → List Field → List (List ℕ) → Option LineFault
fault_of_words least fields ws = find (words_have least fields ws) faults

-- the value, unless there is a fault
abbrev pub unless : {A : Type 0} → Option LineFault → A → Result A LineFault
unless None value = Ok value
unless (Some e) value = Err e

-- a text's table: its keywords, each with its row
module _ {K : Type 0} (row : K → Row) (keywords : List K) where
  -- the keyword that the line begins with
  unfoldable pub keyword_in : List (List ℕ) → Option K
  keyword_in ws = find (λ k. bytes_eq (word_in ws 0) (row k).word) keywords

  -- or BadWord, also if an octet isn't printable
  unfoldable pub first_word : List ℕ → Result K LineFault
  first_word line =
      if is_printable line then ok_or (keyword_in (words line)) fault.BadWord else Err fault.BadWord

  abbrev pub row_has : Option K → List (List ℕ) → LineFault → Bool
  row_has None ws e = false
  row_has (Some k) ws e = words_have (row k).least (row k).fields ws e

  -- BadWord: an octet that isn't printable, or no keyword
  abbrev pub has_bad_word : List ℕ → Bool
  has_bad_word line = not (is_printable line) || not (is_some (keyword_in (words line)))

  -- the line has the fault
  unfoldable pub line_has : List ℕ → LineFault → Bool
  line_has line fault.NoHeader = false
  line_has line fault.BadWord = has_bad_word line
  line_has line e = row_has (keyword_in (words line)) (words line) e
