use Rattle.aes_block.proofs.SliceBits.{exchanged_x, exchanged_y}
use Rattle.aes_block.proofs.slices.exchange.Goals as goal

pub returns-clause-first : goal.returns-clause-first
returns-clause-first c = exchanged_y c.args.x c.args.y c.args.low c.args.by

pub returns-clause-second : goal.returns-clause-second
returns-clause-second c = λ place h. exchanged_x c.args.x c.args.y c.args.low c.args.by place
