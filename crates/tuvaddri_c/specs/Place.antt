-- What a place for a handle owns.
use Rattle.std.specs.Prelude.{Option, None, Some}
use Rattle.std.specs.Box.Ownership.{box_owns}
use mir.Syntax.{Ty}
use base.Fml.{Fml, ftrue}
use denote.RawPtr.{Ptr}
use Rattle.tuvaddri_c.specs.contracts.session.Session.{the_row}
use Rattle.tuvaddri_c.specs.declared.session.Session.{Session}

-- a session at this address, and the right to give its block back; or nothing
abbrev pub owns_if : (Ty → Ptr → Fml) → Ptr → Option Session → Fml
owns_if gives_back at (Some session) = box_owns gives_back the_row at session
owns_if gives_back at None = ftrue
