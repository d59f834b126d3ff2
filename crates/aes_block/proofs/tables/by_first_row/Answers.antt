use Rattle.aes_block.proofs.WordTables.{get_or_FIRST_ROW}
use Rattle.aes_block.proofs.tables.by_first_row.Goals as goal

pub returns : goal.returns
returns c = get_or_FIRST_ROW c.args.octet c.requires
