-- The run goes on event by event.
use Rattle.std.proofs.Common.{◌≡◌, List, [], ◌∷◌, ◌++◌, Result, Ok, Err, IfOk, MatchResult, refl}
use Rattle.std.proofs.Common.{sym, ap, ◌∙◌}
use Rattle.login_setup.specs.declared.event.Event.{Event}
use Rattle.login_setup.specs.declared.setup.Setup.{Setup}
use Rattle.eap_method.specs.Peer.{PeerViews}
use Rattle.eap_method.specs.Server.{ServerViews}
use Rattle.eap_world.specs.Run.{run_of}
use Rattle.eap_world.specs.World.{WorldNow, WorldOutcome, world_outcome, initial_world, world_start}
use Rattle.eap_world.specs.World.{world_step, run_after}
use Rattle.eap_world.specs.declared.told.Brief.{Brief}

one_more : (w : WorldNow) (events : List Event) (e : Event)
    → (world_step (run_after w events) e).after ≡ run_after w (events ++ (e ∷ []))
unfolding run_after
one_more w [] e = refl
one_more w (first ∷ rest) e = one_more (world_step w first).after rest e

no_events : (setup : Setup) (peer : PeerViews) (server : ServerViews)
    → (world_start (initial_world setup peer server)).after ≡ run_of setup peer server []
unfolding run_after
no_events setup peer server = refl

module _ {E : Type 0} (before after : WorldNow) (same : Type 0) where
  -- a world that was made and has started
  pub run_starts : (result : Result Brief E)
      → MatchResult result (λ told. world_start before ≡ world_outcome told after) (λ error. same)
      → IfOk result (λ told. (setup : Setup) (peer : PeerViews) (server : ServerViews)
      → before ≡ initial_world setup peer server → after ≡ run_of setup peer server [])
  run_starts (Err error) h = tt
  run_starts (Ok told) h = λ setup peer server made.
      sym (ap (λ (out : WorldOutcome). out.after) h)
      ∙ (ap (λ (w : WorldNow). (world_start w).after) made ∙ no_events setup peer server)

  -- a world of a run that has taken an event
  pub run_continues : (e : Event) (result : Result Brief E)
      → MatchResult result (λ told. world_step before e ≡ world_outcome told after) (λ error. same)
      → IfOk result (λ told. (setup : Setup) (peer : PeerViews)
      (server : ServerViews) (events : List Event) → before ≡ run_of setup peer server events
      → after ≡ run_of setup peer server (events ++ (e ∷ [])))
  run_continues e (Err error) h = tt
  run_continues e (Ok told) h = λ setup peer server events is.
      sym (ap (λ (out : WorldOutcome). out.after) h)
      ∙ (ap (λ (w : WorldNow). (world_step w e).after) is
      ∙ one_more (world_start (initial_world setup peer server)).after events e)
