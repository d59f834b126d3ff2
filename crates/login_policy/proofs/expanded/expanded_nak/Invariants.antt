use Rattle.std.proofs.Common.{◌≡◌, ◌*◌, length, take}
use Rattle.login_policy.specs.Expanded.{nak_entries}
use Rattle.login_policy.proofs.expanded.expanded_nak.Given as goal

abbrev pub invariant-loop-kind : goal.invariant-loop-kind
invariant-loop-kind l = record {
  entries : l.list ≡ nak_entries (take l.kind-index l.kind-items);
  size : length l.list ≡ 8 * l.kind-index;
}
