-- Where no whole entry is left, all Types are found.
use Rattle.std.proofs.Common.{rules}
use Rattle.login_policy.proofs.Desiring.{all_found}
use Rattle.login_policy.proofs.expanded.expanded_kinds.Goals as goal

pub returns : goal.returns
returns c = all_found c.loop-entry.kinds c.loop-entry.entry-iterator.rest.now _
    c.loop-entry.invariant.same (search rules)
