use Rattle.std.proofs.Common.{◌≡◌, None, ◌++◌, ◌∷◌, [], arith}
use Rattle.login_setup.specs.Users.{user_of, AreUsers}
use Rattle.login_setup.proofs.UserLists.{AreUsers_push, none_copied}
use Rattle.login_setup.proofs.users.UserList.add.Goals as goal

pub invariant_of-self : goal.invariant_of-self
invariant_of-self g c =
    let none = none_copied c.find.result c.is_some.result c.is_some.ensures c.if-is_some.false in
    let absent : user_of c.self.inside.list.items c.args.user.name c.args.user.kind ≡ None = cc in
    let pushed : AreUsers (c.self.inside.list.items ++ c.args.user ∷ []) =
    AreUsers_push c.self.inside.list.items c.args.user c.self.invariant absent (grind arith) in
    rw c.push.ensures.items pushed
