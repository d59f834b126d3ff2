-- Words without a fault fit their row.
use Rattle.text_tables.proofs.Bounded.{fits}
use Rattle.text_tables.proofs.text.read_words.Goals as goal

pub entry_of-entry-requires : goal.entry_of-entry-requires
entry_of-entry-requires g c = fits _ _ cc
