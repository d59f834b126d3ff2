-- The session that a handle lends to a call.
use Rattle.std.specs.Borrow.{Lends, MutBor, Fml}
use Rattle.tuvaddri_c.specs.declared.handle.TuvEnd.{TuvEnd}
use Rattle.tuvaddri_c.specs.declared.session.Session.{Session}
use Rattle.tuvaddri_c.specs.contracts.handle.TuvEnd as handle
use Rattle.tuvaddri_c.specs.contracts.session.Session as session

-- the handle with another session
abbrev pub with_session : TuvEnd → Session → TuvEnd
with_session e s = record e { value = s }

-- the handle ends with the last session behind r
abbrev pub BorrowsSession : MutBor TuvEnd → MutBor Session → Fml
BorrowsSession e r = Lends handle.the_row session.the_row e r (with_session e.now)
