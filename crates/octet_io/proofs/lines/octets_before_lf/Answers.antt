use Rattle.std.proofs.Common.{◌==◌, arith}
use Rattle.octet_io.proofs.LineLaws.{place_or_all}
use Rattle.octet_io.proofs.lines.octets_before_lf.Goals as goal

pub returns-clause-count : goal.returns-clause-count
returns-clause-count c = grind (arith, place_or_all (λ b. b == 10) c.args.octets.now)
