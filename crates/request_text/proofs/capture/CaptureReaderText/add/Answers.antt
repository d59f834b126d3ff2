-- The users with one more have keys of their methods' sizes.
use Rattle.std.proofs.Common.{All, IsTrue, sym, subst}
use Rattle.login_setup.specs.Setup.{has_valid_key}
use Rattle.login_setup.specs.declared.users.User.{User}
use Rattle.text_tables.proofs.Adding.{with_user_all}
use Rattle.request_text.proofs.capture.CaptureReaderText.add.Goals as goal

pub invariant_of-self : goal.invariant_of-self
invariant_of-self c =
    let HasItsKey : User → Type 0 = λ user. IsTrue (has_valid_key user) in
    subst (All HasItsKey) (sym c.add_user.ensures) (with_user_all HasItsKey c.self.inside.users
    c.in-User.user c.self.invariant (rw c.in-User.is at c.requires.valid))
