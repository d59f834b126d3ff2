use Rattle.eap_method.proofs.ServerObjects.{started_methods}
use Rattle.eap_method.proofs.ServerViews.{started_views}
use Rattle.eap_method.proofs.Unnamed.{servers_started}
use Rattle.eap_method.proofs.server_objects.start_servers.Goals as goal

pub returns-clause-views : goal.returns-clause-views
returns-clause-views g c = rw c.start_each.ensures (started_views _ _)

pub returns-clause-methods : goal.returns-clause-methods
returns-clause-methods g c = rw c.start_each.ensures (started_methods _ _)

pub returns-clause-unnamed : goal.returns-clause-unnamed
returns-clause-unnamed g c = rw c.start_each.ensures (servers_started _ _)
