use Rattle.std.proofs.Common.{refl}
use Rattle.tag_book.specs.Book.{under}
use Rattle.tag_book.proofs.book.judge_tags_under.Goals as goal

pub loop-place-init : goal.loop-place-init
unfolding under
loop-place-init c = refl
