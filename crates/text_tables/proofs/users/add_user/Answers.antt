-- A call that adds a user adds it exactly where there is room.
use Rattle.text_tables.proofs.Adding.{with_user_is}
use Rattle.text_tables.proofs.users.add_user.Goals as goal

pub returns : goal.returns
returns c = with_user_is c.args.users.now c.add.new.self c.args.user c.add.ensures.added
    c.add.ensures.unchanged
