use Rattle.std.proofs.Common.{ap, ◌∙◌}
use Rattle.aes_block.specs.Field.{sub_byte}
use Rattle.aes_block.specs.Words.{octet, added}
use Rattle.aes_block.proofs.WordTables.{full_column_is}
use Rattle.aes_block.proofs.tables.full_column.Goals as goal

pub returns : goal.returns
returns c =
    full_column_is (octet c.args.a 0) (octet c.args.b 1) (octet c.args.c 2) (octet c.args.d 3)
    c.by_first_row.result c.by_second_row.result c.by_third_row.result
    c.by_fourth_row.result c.args.key
    (c.by_first_row.ensures ∙ ap (λ b. added 0 (sub_byte b)) c.octet.ensures)
    (c.by_second_row.ensures ∙ ap (λ b. added 3 (sub_byte b)) c.octet-2.ensures)
    (c.by_third_row.ensures ∙ ap (λ b. added 2 (sub_byte b)) c.octet-3.ensures)
    (c.by_fourth_row.ensures ∙ ap (λ b. added 1 (sub_byte b)) c.octet-4.ensures)
