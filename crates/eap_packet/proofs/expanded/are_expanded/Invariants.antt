use Rattle.std.proofs.Common.{◌≡◌, ◌%◌, length}
use Rattle.eap_packet.specs.Expanded.{are_expanded}
use Rattle.eap_packet.proofs.expanded.are_expanded.Given as goal

abbrev pub invariant-loop-entry : goal.invariant-loop-entry
invariant-loop-entry l = record {
  size : l.entry-iterator.size ≡ 8;
  whole : length l.entry-iterator.rest.now % 8 ≡ 0;
  same : are_expanded l.entry-iterator.rest.now ≡ are_expanded l.list;
}
