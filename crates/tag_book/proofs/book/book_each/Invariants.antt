use Rattle.std.proofs.Common.{◌≡◌, ◌+◌, ◌≤◌, ◌++◌, map, take, vec_len, vec_capacity}
use Rattle.tag_book.specs.Book.{entry}
use Rattle.tag_book.proofs.book.book_each.Given as goal

abbrev pub invariant-loop-tag : goal.invariant-loop-tag
invariant-loop-tag l = record {
  items : l.book.items
      ≡ l.initial.book.items ++ map (entry l.event l.end l.used) (take l.tag-index l.tags);
  len : vec_len l.book ≡ vec_len l.initial.book + l.tag-index;
  capacity : vec_capacity l.initial.book ≤ vec_capacity l.book;
}
