use Rattle.std.proofs.Common.{ap, ◌∙◌}
use Rattle.aes_block.specs.Field.{sub_byte}
use Rattle.aes_block.specs.Words.{octet}
use Rattle.aes_block.proofs.WordTables.{last_column_is}
use Rattle.aes_block.proofs.tables.last_column.Goals as goal

pub returns : goal.returns
returns c =
    last_column_is (octet c.args.a 0) (octet c.args.b 1) (octet c.args.c 2) (octet c.args.d 3)
    _ _ _ _ c.word.result c.args.key (c.substitute.ensures ∙ ap sub_byte c.octet.ensures)
    (c.substitute-2.ensures ∙ ap sub_byte c.octet-2.ensures)
    (c.substitute-3.ensures ∙ ap sub_byte c.octet-3.ensures)
    (c.substitute-4.ensures ∙ ap sub_byte c.octet-4.ensures)
    c.word.ensures
