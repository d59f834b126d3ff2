use Rattle.aes_block.proofs.Columns.{next_words_are}
use Rattle.aes_block.proofs.word_schedule.next_word_key.Goals as goal

pub returns : goal.returns
returns c = next_words_are c.args.key c.change.result c.args.round c.change.ensures
