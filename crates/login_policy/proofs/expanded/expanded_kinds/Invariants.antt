use Rattle.std.proofs.Common.{◌≡◌, ◌++◌, true}
use Rattle.login_setup.specs.Setup.{are_kinds}
use Rattle.login_policy.specs.Expanded.{kinds_in, expanded_kinds}
use Rattle.login_policy.proofs.expanded.expanded_kinds.Given as goal

abbrev pub invariant-loop-entry : goal.invariant-loop-entry
invariant-loop-entry l = record {
  size : l.entry-iterator.size ≡ 8;
  are : are_kinds l.kinds ≡ true;
  same : l.kinds ++ kinds_in l.kinds l.entry-iterator.rest.now ≡ expanded_kinds l.list;
}
