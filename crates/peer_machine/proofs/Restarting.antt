-- The settings with another nonce are sound.
use Rattle.std.proofs.Common.{List, ℕ}
use Rattle.login_setup.specs.Setup.{IsSoundPeer}
use Rattle.login_setup.specs.declared.setup.PeerSetup.{PeerSetup}
use Rattle.login_setup.proofs.Sound.{peer_with_nonce}
use Rattle.peer_machine.specs.PeerTable.{setup_with_nonce}

pub still_sound : (setup : PeerSetup) (nonce : List ℕ) → IsSoundPeer setup
    → IsSoundPeer (setup_with_nonce setup nonce)
still_sound = peer_with_nonce
