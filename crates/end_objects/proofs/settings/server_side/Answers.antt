-- The name has the size of one in settings that aren't refused.
use Rattle.std.proofs.Common.{arith}
use Rattle.end_objects.specs.Settings.{settings_of}
use Rattle.end_objects.proofs.Taken.{server_name}
use Rattle.end_objects.proofs.settings.server_side.Goals as goal

pub of-requires : goal.of-requires
of-requires c = let size = server_name (settings_of c.args.settings.now) c.requires.accepted in
    grind (arith, size)
