-- What a line of a scenario contains after its header.
use Rattle.login_setup.specs.declared.event.Event.{Event}
use Rattle.scenario_text.specs.declared.entry.Setting.{Setting}
use Rattle.scenario_text.specs.declared.entry.Entry as told

-- a setting, the line `events`, an event, the line `end`
pub data Entry : Type 0 where
  Set : Setting → Entry
  Events : Entry
  Happens : Event → Entry
  End : Entry

-- what a line contains, with the event that was written if it has one
abbrev pub entry_with : told.Entry → Event → Entry
entry_with (told.TheVariants.Set v) event = Set v
entry_with told.TheVariants.Events event = Events
entry_with told.TheVariants.Happens event = Happens event
entry_with told.TheVariants.End event = End
