use Rattle.aes_block.proofs.Columns.{words_added}
use Rattle.aes_block.proofs.by_tables.add.Goals as goal

pub returns : goal.returns
returns c = words_added c.args.state c.args.key
