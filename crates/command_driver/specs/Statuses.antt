-- The numbers of the statuses.
use Rattle.std.specs.Prelude.{ℕ}
use Rattle.command_driver.specs.declared.status.Status.{Status}
use Rattle.command_driver.specs.declared.status.Status.TheVariants as status

abbrev pub number_of : Status → ℕ
number_of status.Done = 0
number_of status.Usage = 1
number_of status.Refused = 2
number_of status.ReadFault = 3
number_of status.WriteFault = 4
number_of status.Memory = 5
number_of status.TooMuch = 6
number_of status.Findings = 7
