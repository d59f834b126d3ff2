-- The variables of a server, whatever the room for its users: contracts see their list.
use Rattle.std.specs.Prelude.{List}
use Rattle.login_setup.specs.declared.users.User.{User}
use Rattle.server_machine.specs.declared.variables.ServerVariables as declared

abbrev pub ServerVariables : Type 0
ServerVariables = declared.ServerVariables (List User)
