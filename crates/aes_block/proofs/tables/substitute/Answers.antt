use Rattle.aes_block.proofs.Sbox.{get_or_S_BOX}
use Rattle.aes_block.proofs.tables.substitute.Goals as goal

pub returns : goal.returns
returns c = get_or_S_BOX c.args.octet c.requires
