-- The name has the size of one in settings that aren't refused, and the setup made of them is
-- sound.
use Rattle.std.proofs.Common.{rules, arith}
use Rattle.end_objects.specs.Settings.{settings_of, server_setup_of}
use Rattle.end_objects.proofs.Taken.{server_name, alone_is_sound}
use Rattle.end_objects.proofs.settings.server_alone.Goals as goal

pub of-requires : goal.of-requires
of-requires c = let size = server_name (settings_of c.args.settings.now) c.requires.accepted in
    grind (arith, size)

pub returns-clause-computed : goal.returns-clause-computed
unfolding server_setup_of
returns-clause-computed c = search rules

pub returns-clause-sound : goal.returns-clause-sound
returns-clause-sound c = rw (returns-clause-computed c)
    (alone_is_sound (settings_of c.args.settings.now) c.args.nonce.now c.requires.accepted)
