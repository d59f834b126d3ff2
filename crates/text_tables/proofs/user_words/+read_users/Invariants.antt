use Rattle.std.proofs.Common.{length}
use Rattle.text_tables.proofs.user_words.+read_users.Given as goal

abbrev pub decreases-read_users : goal.decreases-read_users
decreases-read_users l = length l.words.now
