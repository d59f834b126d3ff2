use Rattle.std.proofs.Common.{◌≡◌, [], take, drop}
use Rattle.tag_book.specs.Book.{first_broken, under}
use Rattle.tag_book.proofs.book.judge_tags_under.Given as goal

abbrev pub invariant-loop-place : goal.invariant-loop-place
invariant-loop-place l = first_broken l.makers [] (under l.key l.book)
    ≡ first_broken l.makers (under l.key (take l.place l.book)) (under l.key (drop l.place l.book))
