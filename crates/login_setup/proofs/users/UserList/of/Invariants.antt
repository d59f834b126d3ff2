use Rattle.std.proofs.Common.{◌≡◌, take}
use Rattle.login_setup.proofs.users.UserList.of.Given as goal

abbrev pub invariant-loop-user : goal.invariant-loop-user
invariant-loop-user g l = l.copied.items ≡ take l.user-index l.users
