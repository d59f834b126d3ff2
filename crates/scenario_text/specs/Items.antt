-- What a line of a scenario says.
use Rattle.login_setup.specs.declared.setup.Setup.{Setup}
use Rattle.login_setup.specs.declared.event.Event as event
use Rattle.scenario_text.specs.declared.scenario.Item as answer

-- nothing that happens; the line `events`, which makes the settings whole; an event; the line `end`
pub data Item : Type 0 where
  Nothing : Item
  Ready : Setup → Item
  Event : event.Event → Item
  End : Item

-- what a line says, by a reader's answer
abbrev pub item_value : answer.Item → Item
item_value answer.TheVariants.Nothing = Nothing
item_value (answer.TheVariants.Ready setup) = Ready setup
item_value (answer.TheVariants.Event happens) = Event happens
item_value answer.TheVariants.End = End
