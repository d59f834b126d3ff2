use Rattle.psk_ends.proofs.UserKeys.{key_of_user}
use Rattle.psk_ends.proofs.server.psk3.find.Goals as goal

pub check-requires-clause-key : goal.check-requires-clause-key
check-requires-clause-key c = key_of_user c.args.users.now c.args.psk2.now.id_p.now
    c.in-Some.user.now c.in-Some.ensures c.requires.keys
