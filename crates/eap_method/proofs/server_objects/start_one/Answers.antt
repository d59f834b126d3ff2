use Rattle.std.proofs.Common.{◌∙◌}
use Rattle.eap_method.specs.Server.{side_of}
use Rattle.eap_method.proofs.ServerViews.{begins, stays}
use Rattle.eap_method.proofs.server_objects.start_one.Goals as goal

pub begin-requires : goal.begin-requires
unfolding side_of
begin-requires g c = rw c.side_of.ensures.same c.requires

pub returns-then-proposes : goal.returns-then-proposes
returns-then-proposes g c = c.begin.ensures ∙ rw c.side_of.ensures.same (begins _ _ (cc))

pub returns-else-proposes : goal.returns-else-proposes
returns-else-proposes g c = stays _ _ (cc)
