-- The sizes are those of settings that aren't refused, and the setup made of them is sound.
use Rattle.octet_lists.specs.Among.{psk_kind, gpsk_kind}
use Rattle.end_objects.specs.Settings.{settings_of}
use Rattle.end_objects.proofs.Taken.{peer_name, peer_other, peer_key, peer_is_sound, peer_has_keys}
use Rattle.end_objects.proofs.settings.peer_setup.Goals as goal

pub peer_setup_from-requires-clause-name : goal.peer_setup_from-requires-clause-name
peer_setup_from-requires-clause-name c =
    peer_name (settings_of c.args.settings.now) c.requires.accepted

pub peer_setup_from-requires-clause-other : goal.peer_setup_from-requires-clause-other
peer_setup_from-requires-clause-other c =
    peer_other (settings_of c.args.settings.now) c.requires.accepted

pub peer_setup_from-requires-clause-psk : goal.peer_setup_from-requires-clause-psk
peer_setup_from-requires-clause-psk c =
    peer_key (settings_of c.args.settings.now) c.requires.accepted psk_kind

pub peer_setup_from-requires-clause-gpsk : goal.peer_setup_from-requires-clause-gpsk
peer_setup_from-requires-clause-gpsk c =
    peer_key (settings_of c.args.settings.now) c.requires.accepted gpsk_kind

pub returns-clause-sound : goal.returns-clause-sound
returns-clause-sound c = rw c.peer_setup_from.ensures
    (peer_is_sound (settings_of c.args.settings.now) c.args.nonce.now c.requires.accepted)

pub returns-clause-keys : goal.returns-clause-keys
returns-clause-keys c = rw c.peer_setup_from.ensures
    (peer_has_keys (settings_of c.args.settings.now) c.args.nonce.now c.requires.accepted)
