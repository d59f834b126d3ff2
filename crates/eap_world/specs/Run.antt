-- The run of a setup, and how a start or an event goes on with it.
use Rattle.std.specs.Prelude.{◌≡◌, List, [], ◌∷◌, ◌++◌}
use Rattle.login_setup.specs.declared.event.Event.{Event}
use Rattle.login_setup.specs.declared.setup.Setup.{Setup}
use Rattle.eap_method.specs.Peer.{PeerShown, PeerViews}
use Rattle.eap_method.specs.Server.{ServerShown, ServerViews}
use Rattle.eap_world.specs.World.{WorldNow, WorldValue, now_of, initial_world, world_start}
use Rattle.eap_world.specs.World.{run_after}

-- the world after the run of these events
abbrev pub run_of : Setup → PeerViews → ServerViews → List Event → WorldNow
run_of setup peer server events =
    run_after (world_start (initial_world setup peer server)).after events

-- what a start, or an event, does to a world of a run: it goes on with the run
module _ {P S : Type 0} (peer_shown : P → PeerShown) (server_shown : S → ServerShown) where
  abbrev pub StartsRun : WorldValue P S → WorldValue P S → Type 0
  StartsRun before after = (setup : Setup) (peer : PeerViews) (server : ServerViews)
      → now_of peer_shown server_shown before ≡ initial_world setup peer server
      → now_of peer_shown server_shown after ≡ run_of setup peer server []

  abbrev pub HasContinued : Event → WorldValue P S → WorldValue P S → Type 0
  HasContinued event before after =
      (setup : Setup) (peer : PeerViews) (server : ServerViews) (events : List Event)
      → now_of peer_shown server_shown before ≡ run_of setup peer server events
      → now_of peer_shown server_shown after ≡ run_of setup peer server (events ++ (event ∷ []))
