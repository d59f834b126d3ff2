use Rattle.std.proofs.Common.{◌≡◌}
use Rattle.login_policy.specs.Policy.{picked_suite}
use Rattle.login_policy.proofs.policy.pick_suite.Given as goal

abbrev pub invariant-loop-entry : goal.invariant-loop-entry
invariant-loop-entry l = record {
  size : l.entry-iterator.size ≡ 6;
  same : picked_suite l.allowed l.entry-iterator.rest.now ≡ picked_suite l.allowed l.list;
}
