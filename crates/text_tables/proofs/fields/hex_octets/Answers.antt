-- One more pair of digits; and at the end less than a pair is left.
use Rattle.std.proofs.Common.{◌≡◌, ℕ, List, ◌+◌, ◌*◌, ◌/◌, ◌<◌, ◌≤◌, [], ◌∷◌, ◌++◌, length, drop}
use Rattle.std.proofs.Common.{arith, append_assoc, length-append, append-nil, ap, ◌∙◌}
use Rattle.text_tables.proofs.FieldLemmas.{octets_of_more, octets_of_all, octets_of_count}
use Rattle.text_tables.specs.Fields.{octets_of}
use Rattle.text_tables.proofs.fields.hex_octets.Goals as goal

room : (octets ds : List ℕ) (n i : ℕ) → length octets ≡ i → i < length ds / 2
    → length (octets_of ds) ≤ n → length octets < n
room octets ds n i e h k = omega (arith, octets_of_count ds)

pub loop-place-preserved : goal.loop-place-preserved
loop-place-preserved g c =
    let ds = c.args.digits.now in
    let i = c.loop-place.place in
    let octet = 16 * c.hex_digit-high.result + c.hex_digit-low.result in
    let rest = octets_of (drop (2 * (i + 1)) ds) in
    let more = octets_of_more ds (2 * i) (2 * (i + 1)) (omega arith) (omega arith) in
    let pushed : c.push.new.self ≡ c.loop-place.octets ++ octet ∷ [] =
    c.push.ensures.pushed (room c.loop-place.octets c.args.digits.now g.row.N i
    c.loop-place.invariant.count c.loop-place-test.true c.requires.bounded) in
    let joined : (c.loop-place.octets ++ octet ∷ []) ++ rest
    ≡ c.loop-place.octets ++ (octet ∷ rest) = append_assoc c.loop-place.octets (octet ∷ []) rest in
    record {
      count = omega (arith, ap length pushed ∙ length-append c.loop-place.octets (octet ∷ []));
      spelled = cc;
    }

pub returns : goal.returns
returns g c =
    let none = octets_of_all c.args.digits.now (2 * c.loop-place.place) (omega arith) in
    let empty = append-nil c.loop-place.octets in
    cc
