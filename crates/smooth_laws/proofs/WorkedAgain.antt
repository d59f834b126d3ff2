-- Worked values of the definitions: a world that has just begun, nonces that are left, restarts of
-- all parties.
use Rattle.std.proofs.Common.{[], ◌∷◌, false, refl}
use Rattle.std.specs.Prelude.{replicate}
use Rattle.login_setup.specs.declared.event.Event.TheVariants.{Restart}
use Rattle.login_setup.specs.declared.setup.Mode.{Mode}
use Rattle.login_setup.specs.declared.setup.Mode.TheVariants.{Alone, Through}
use Rattle.login_setup.specs.declared.setup.Party.TheVariants.{Peer, Pass, Server}
use Rattle.login_setup.specs.declared.setup.Setup.{Setup}
use Rattle.eap_world.specs.World.{run_after, world_start}
use Rattle.smooth_laws.specs.Again.{HasJustStarted}
use Rattle.smooth_laws.specs.Restarts.{StartAnew, HaveNext, peer_server, pass_server_peer}
use Rattle.smooth_laws.proofs.Worked.{both, example_setup}
use Rattle.world_laws.specs.Runs.{run_of}

-- after its start each world has just begun, so that the law of the first login is one of these
first_starts : (setup : Setup) → HasJustStarted setup (run_of setup [])
first_starts setup = record { parties = refl; before = []; sent = refl }

-- each end has one nonce left
again_setup : Mode → Setup
again_setup runs = record (example_setup runs both both) {
  later = record { version = 2; peer = replicate 32 18 ∷ []; server = replicate 32 19 ∷ [] };
}

have_next : (runs : Mode) → HaveNext (again_setup runs) []
unfolding run_after world_start again_setup
have_next runs = record {
  peer = record { nonce = replicate 32 18; heard = false };
  peer_more = [];
  peer_left = refl;
  server = record { nonce = replicate 32 19; heard = false };
  server_more = [];
  server_left = refl;
}

alone_anew : StartAnew Alone (Restart Peer ∷ Restart Server ∷ [])
alone_anew = peer_server

through_anew : StartAnew Through (Restart Pass ∷ Restart Server ∷ Restart Peer ∷ [])
through_anew = pass_server_peer
