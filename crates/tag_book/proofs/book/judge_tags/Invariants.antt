use Rattle.std.proofs.Common.{◌≡◌, [], take, drop}
use Rattle.tag_book.specs.Book.{first_broken}
use Rattle.tag_book.proofs.book.judge_tags.Given as goal

abbrev pub invariant-loop-place : goal.invariant-loop-place
invariant-loop-place l = first_broken l.makers [] l.book
    ≡ first_broken l.makers (take l.place l.book) (drop l.place l.book)
