-- A tag's record is the same as itself, and records that are the same are under the same keys.
use Rattle.std.proofs.Common.{◌≡◌, ℕ, List, true, refl, ap}
use Rattle.std.specs.Prelude.{◌==◌}
use Rattle.std.specs.Str.{bytes_eq}
use Rattle.std.proofs.lemmas.Bool.{and_parts, and_from, eq-eqb}
use Rattle.std.proofs.lemmas.Slice.Eq.{bytes_eq-Decides}
use Rattle.eap_method.specs.declared.tags.TagRecord.{TagRecord}
use Rattle.eap_method.specs.Tags.{is_under, label_number, same_label, same_tag}

bytes_same : (octets : List ℕ) → bytes_eq octets octets ≡ true
bytes_same octets = (bytes_eq-Decides octets octets).1 refl

pub same_as_itself : (tag : TagRecord) → same_tag tag tag ≡ true
same_as_itself tag =
    and_from _ _ (eq-eqb tag.method tag.method refl)
    (and_from _ _ (eq-eqb (label_number tag.label) (label_number tag.label) refl)
    (and_from _ _ (bytes_same tag.psk) (and_from _ _ (bytes_same tag.octets) (bytes_same tag.tag))))

pub same_keys : (key : List ℕ) (one other : TagRecord) → same_tag one other ≡ true
    → is_under key one ≡ is_under key other
same_keys key one other same =
    let a = and_parts (one.method == other.method) _ same in
    let b = and_parts (same_label one.label other.label) _ a.1 in
    let psk = and_parts (bytes_eq one.psk other.psk) _ b.1 in
    ap (λ (own : List ℕ). bytes_eq own key) ((bytes_eq-Decides one.psk other.psk).0 psk.0)
