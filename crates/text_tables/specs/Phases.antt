-- How far a text has come, and which lines may come next.
use Rattle.std.specs.Prelude.{Bool, true, false, Result, Ok, Err}
use Rattle.text_tables.specs.declared.fault.LineFault.{LineFault}
use Rattle.text_tables.specs.declared.fault.LineFault.TheVariants as fault
use Rattle.text_tables.specs.declared.phase.Part.{Part}
use Rattle.text_tables.specs.declared.phase.Part.TheVariants as part
use Rattle.text_tables.specs.declared.phase.Phase.{Phase}
use Rattle.text_tables.specs.declared.phase.Phase.TheVariants as phase

-- settings come before the line that opens the events, events and the line `end` after it
abbrev pub may_occur : Phase → Part → Bool
may_occur phase.Settings part.Setting = true
may_occur phase.Settings part.Opening = true
may_occur phase.Events part.Event = true
may_occur phase.Events part.End = true
may_occur p other = false

-- the end of the input: nothing was read, or the line `end` was not
abbrev pub finish_of : Phase → Result (Unit {0}) LineFault
finish_of phase.Unread = Err fault.NoHeader
finish_of phase.Ended = Ok tt
finish_of other = Err fault.Missing
