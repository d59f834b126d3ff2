-- The sizes and the key are those of settings that aren't refused.
use Rattle.std.proofs.Common.{arith}
use Rattle.end_objects.specs.Settings.{settings_of, first_kind}
use Rattle.end_objects.proofs.Taken.{peer_name, peer_other, peer_key, first_key_is_valid}
use Rattle.end_objects.proofs.settings.credential.Goals as goal

pub of-requires : goal.of-requires
of-requires c = let size = peer_name (settings_of c.args.settings.now) c.requires.accepted in
    grind (arith, size)

pub accepts-requires : goal.accepts-requires
accepts-requires c = peer_other (settings_of c.args.settings.now) c.requires.accepted

pub of-requires-2 : goal.of-requires-2
of-requires-2 c = let told = settings_of c.args.settings.now in
    let size = peer_key told c.requires.accepted (first_kind told) in grind (arith, size)

pub returns-clause-key : goal.returns-clause-key
returns-clause-key c = let fits =
    first_key_is_valid (settings_of c.args.settings.now) c.requires.accepted in grind (arith, fits)
