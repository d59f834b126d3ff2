use Rattle.aes_block.proofs.SlicedSteps.{substituted_state}
use Rattle.aes_block.proofs.sliced_rounds.sub_bytes.Goals as goal

pub returns : goal.returns
returns c = substituted_state c.args.words c.substitute.result c.substitute.ensures
