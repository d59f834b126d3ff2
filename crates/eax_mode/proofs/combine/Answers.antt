use Rattle.std.proofs.Common.{arith, sym, ◌∙◌}
use Rattle.eax_mode.proofs.Combining.{combined_nil, combined_all, combined_more}
use Rattle.eax_mode.proofs.combine.Goals as goal

pub octets-init : goal.octets-init
octets-init c = sym (combined_nil c.args.octets.now)

pub octets-preserved : goal.octets-preserved
octets-preserved c =
    combined_more c.args.octets.now c.args.block.now c.octets.octets c.octets.i (omega arith)
    (omega arith) c.octets.invariant

pub returns : goal.returns
returns c =
    c.octets.invariant ∙ combined_all c.args.octets.now c.args.block.now c.octets.i (omega arith)
