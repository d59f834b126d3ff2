use Rattle.joined_laws.proofs.BookDetermined.{book_is_determined}
use Rattle.joined_laws.proofs.laws.book_is_determined.Goals as goal

pub returns : goal.returns
returns c = book_is_determined
