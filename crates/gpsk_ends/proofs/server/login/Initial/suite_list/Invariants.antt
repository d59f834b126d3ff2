use Rattle.std.proofs.Common.{◌≡◌, ◌*◌, length, take}
use Rattle.eap_method.specs.GpskTags.{suite_list}
use Rattle.gpsk_ends.proofs.server.login.Initial.suite_list.Given as goal

abbrev pub invariant-loop-suite : goal.invariant-loop-suite
invariant-loop-suite l = record {
  entries : l.list ≡ suite_list (take l.suite-index l.suite-items);
  size : length l.list ≡ 6 * l.suite-index;
}
