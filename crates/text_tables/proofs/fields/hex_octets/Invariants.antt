use Rattle.std.proofs.Common.{◌≡◌, ◌*◌, ◌++◌, length, drop}
use Rattle.text_tables.specs.Fields.{octets_of}
use Rattle.text_tables.proofs.fields.hex_octets.Given as goal

abbrev pub invariant-loop-place : goal.invariant-loop-place
invariant-loop-place g l = record {
  count : length l.octets ≡ l.place;
  spelled : l.octets ++ octets_of (drop (2 * l.place) l.digits) ≡ octets_of l.digits;
}
