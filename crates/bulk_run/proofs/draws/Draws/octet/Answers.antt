use Rattle.std.proofs.Common.{ap}
use Rattle.bulk_run.specs.Draws.{high_octet}
use Rattle.bulk_run.proofs.Drawing.{goes_on}
use Rattle.bulk_run.proofs.draws.Draws.octet.Goals as goal

pub returns-clause-state : goal.returns-clause-state
returns-clause-state c number place is = goes_on number place _ _ is c.go_on.ensures

pub returns-clause-octet : goal.returns-clause-octet
returns-clause-octet c number place is = ap high_octet (goes_on number place _ _ is c.go_on.ensures)
