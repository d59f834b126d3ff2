-- An event that is skipped changes nothing but the number of events.
use Rattle.std.proofs.Common.{refl}
use Rattle.std.specs.Prelude.{IsSome}
use Rattle.world_laws.specs.Laws.{CountsAlone, SkipsChangeNothing}
use Rattle.eap_world.specs.World.{WorldNow, WorldOutcome, to_pass, to_peer, to_server, world_step}
use Rattle.world_laws.proofs.Acting.{Steps, skips, calls, peer_restarts, server_restarts}
use Rattle.world_laws.proofs.Acting.{step_steps}

steps_keep : (w : WorldNow) (out : WorldOutcome) → Steps w out → IsSome out.told.skip
    → CountsAlone w out
steps_keep w _ (skips skip) is_skip = record {
  parties = refl;
  sent = refl;
  book = refl;
  conversations = refl;
  held = refl;
  events = refl;
  deliveries = refl;
  discards = refl;
  nobody = refl;
  nowhere = refl;
  nothing = refl;
  unnamed = refl;
}
steps_keep w _ (calls (to_peer input) later same) is_skip = cc is_skip
steps_keep w _ (calls (to_server input) later same) is_skip = cc is_skip
steps_keep w _ (calls (to_pass input) later same) is_skip = cc is_skip
steps_keep w _ (peer_restarts one left next) is_skip = cc is_skip
steps_keep w _ (server_restarts one left next) is_skip = cc is_skip

pub skips_change_nothing : SkipsChangeNothing
skips_change_nothing w e = steps_keep w (world_step w e) (step_steps w e)
