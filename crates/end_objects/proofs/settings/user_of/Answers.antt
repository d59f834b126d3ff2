-- A key that there is fits its method.
use Rattle.std.proofs.Common.{arith}
use Rattle.end_objects.specs.Settings.{settings_of}
use Rattle.end_objects.proofs.Taken.{user_key_is_valid, user_key_size}
use Rattle.end_objects.proofs.settings.user_of.Goals as goal

pub of-requires-2 : goal.of-requires-2
of-requires-2 c = let size = user_key_size (settings_of c.args.settings.now)
    c.args.kind c.requires.other c.requires.keyed in grind (arith, size)

pub returns-clause-key : goal.returns-clause-key
returns-clause-key c = user_key_is_valid (settings_of c.args.settings.now)
    c.args.kind c.requires.other c.requires.keyed
