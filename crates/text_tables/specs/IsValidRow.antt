-- What the words of a line without a fault are.
use Rattle.std.specs.Prelude.{◌≡◌, ℕ, ◌+◌, ◌<◌, ◌≤◌, List, [], ◌∷◌, length, Bool, true, false}
use Rattle.std.specs.Prelude.{nat_le, IsTrue}
use Rattle.login_setup.specs.Setup.{is_valid_for}
use Rattle.std.specs.Str.{bytes_eq}
use Rattle.octet_lists.specs.Sizes.{max_name}
use Rattle.text_tables.specs.Fields.{word_in, number, spells_octets, octets_of, spells_kind}
use Rattle.text_tables.specs.Fields.{kind_of, spells_suite}
use Rattle.text_tables.specs.Rows.{Row, field_has, any_has, is_choice, is_kind_or_none}
use Rattle.text_tables.specs.declared.fault.LineFault.{LineFault}
use Rattle.text_tables.specs.declared.rows.Field.{Field}
use Rattle.text_tables.specs.declared.rows.Field.TheVariants as field

pub record IsNumber (low high : ℕ) (word : List ℕ) : Type 0 where
  pub least : low ≤ number word
  pub most : number word ≤ high

pub record IsHex (low high : ℕ) (word : List ℕ) : Type 0 where
  pub hex : IsTrue (spells_octets word)
  pub least : low ≤ length (octets_of word)
  pub most : length (octets_of word) ≤ high

pub record IsKey (kind : ℕ) (word : List ℕ) : Type 0 where
  pub hex : IsTrue (spells_octets word)
  pub fits : IsTrue (is_valid_for kind (octets_of word))

pub record IsName (name : List ℕ) : Type 0 where
  pub some : 1 ≤ length name
  pub few : length name ≤ max_name

-- one of two that aren't the same
pub record IsOther (spells : List ℕ → Bool) (word other : List ℕ) : Type 0 where
  pub spelled : IsTrue (spells word)
  pub differs : bytes_eq word other ≡ false

abbrev pub IsValidField : Field → ℕ → List (List ℕ) → Type 0
IsValidField (field.Choice c) place ws = IsTrue (is_choice c (word_in ws place))
IsValidField (field.Number low high) place ws = IsNumber low high (word_in ws place)
IsValidField field.Kind place ws = IsTrue (spells_kind (word_in ws place))
IsValidField field.KindOrNone place ws = IsTrue (is_kind_or_none place ws)
IsValidField (field.OtherKind p) place ws = IsOther spells_kind (word_in ws place) (word_in ws p)
IsValidField field.Suite place ws = IsTrue (spells_suite (word_in ws place))
IsValidField (field.OtherSuite p) place ws = IsOther spells_suite (word_in ws place) (word_in ws p)
IsValidField field.Name place ws = IsName (word_in ws place)
IsValidField (field.Hex low high) place ws = IsHex low high (word_in ws place)
IsValidField (field.Key p) place ws = IsKey (kind_of (word_in ws p)) (word_in ws place)

-- a word that may be left out fits if it is there
abbrev pub Where : Bool → Type 0 → Type 0 → Type 0
Where true there IsValidRow = IsValidRow
Where false there IsValidRow = there → IsValidRow

abbrev pub AreValidFields : ℕ → ℕ → List Field → List (List ℕ) → Type 0
AreValidFields least place [] ws = Unit {0}
AreValidFields least place (f ∷ rest) ws =
    Where (nat_le place least) (place < length ws) (IsValidField f place ws)
    × AreValidFields least (place + 1) rest ws

pub record IsValidRow (row : Row) (ws : List (List ℕ)) : Type 0 where
  pub least : row.least < length ws
  pub most : length ws ≤ length row.fields + 1
  pub fields : AreValidFields row.least 1 row.fields ws

-- none of the faults of a word, and of the words from a place on
abbrev pub IsFaultlessAt : Field → ℕ → List (List ℕ) → Type 0
IsFaultlessAt f place ws = (e : LineFault) → field_has e f place ws ≡ false

abbrev pub AreFaultless : List Field → ℕ → List (List ℕ) → Type 0
AreFaultless fields place ws = (e : LineFault) → any_has e place fields ws ≡ false
