-- The users that a text gives.
use Rattle.std.specs.Prelude.{List, [], ◌∷◌, ◌++◌, length, nat_lt, not, ◌&&◌, if◌then◌else◌}
use Rattle.std.specs.Prelude.{is_some}
use Rattle.login_setup.specs.Users.{user_of}
use Rattle.login_setup.specs.declared.users.User.{User}

-- the users with one more, unless 16 are there or one of them has its name and kind
unfoldable pub with_user : List User → User → List User
with_user users user =
    if nat_lt (length users) 16 && not (is_some (user_of users user.name user.kind))
    then users ++ user ∷ [] else users
