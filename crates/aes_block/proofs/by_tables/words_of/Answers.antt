use Rattle.std.proofs.Common.{sym, ◌∙◌, rules}
use Rattle.aes_block.proofs.Sixteen.{spread}
use Rattle.aes_block.proofs.Columns.{from_columns}
use Rattle.aes_block.proofs.by_tables.words_of.Goals as goal

pub returns : goal.returns
returns c =
    from_columns c.word.result c.word-2.result c.word-3.result c.word-4.result _ _ _ _
    c.word.ensures c.word-2.ensures c.word-3.ensures c.word-4.ensures
    ∙ sym (spread c.args.block.now (search rules))
