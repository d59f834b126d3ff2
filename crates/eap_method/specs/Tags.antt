-- Records of the tags that an end makes and accepts.
use Rattle.std.specs.Prelude.{ℕ, List, [], Bool, ◌==◌, ◌&&◌}
use Rattle.std.specs.Str.{bytes_eq}
use Rattle.eap_method.specs.declared.tags.Label.{Label}
use Rattle.eap_method.specs.declared.tags.Label.TheVariants.{Ak, Tek, Sk}
use Rattle.eap_method.specs.declared.tags.TagRecord.{TagRecord}

abbrev pub label_number : Label → ℕ
label_number Ak = 0
label_number Tek = 1
label_number Sk = 2

-- whether two labels, two records are the same
abbrev pub same_label : Label → Label → Bool
same_label one other = label_number one == label_number other

abbrev pub same_tag : TagRecord → TagRecord → Bool
same_tag one other =
    (one.method == other.method)
    && (same_label one.label other.label && (bytes_eq one.psk other.psk
    && (bytes_eq one.octets other.octets && bytes_eq one.tag other.tag)))

-- whether a tag is under this shared key
abbrev pub is_under : List ℕ → TagRecord → Bool
is_under key tag = bytes_eq tag.psk key

-- those of a turn: of the tags accepted in the message received, and of those made for the message
-- sent
pub record Tags : Type 0 where
  pub accepted : List TagRecord
  pub made : List TagRecord

-- no records
abbrev pub no_tags : Tags
no_tags = record { accepted = []; made = [] }
