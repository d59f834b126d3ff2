-- The exit status of the program.
use Rattle.std.specs.Prelude.{ℕ, Result, Ok, Err}
use Rattle.std.specs.declared.io.ErrorKind.{ErrorKind}
use Rattle.std.specs.declared.io.ErrorKind.TheVariants as kind
use Rattle.command_driver.specs.Statuses.{number_of}
use Rattle.command_driver.specs.declared.status.Status.{Status}
use Rattle.command_driver.specs.declared.status.Status.TheVariants as status

-- if words were answered: an error comes only for want of memory
abbrev pub exit_number_of : {E : Type 0} → Result Status E → ℕ
exit_number_of (Ok s) = number_of s
exit_number_of (Err error) = number_of status.Memory

-- if words could not be read
abbrev pub failure_number_of : ErrorKind → ℕ
failure_number_of kind.OutOfMemory = number_of status.Memory
failure_number_of _ = 8
