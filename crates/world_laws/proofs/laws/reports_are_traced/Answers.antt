use Rattle.world_laws.proofs.laws.reports_are_traced.Goals as goal
use Rattle.world_laws.proofs.Discards.{reports_are_traced}

pub returns : goal.returns
returns c = reports_are_traced
