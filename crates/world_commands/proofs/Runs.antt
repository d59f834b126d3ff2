-- Facts on runs.
use Rattle.std.proofs.Common.{◌≡◌, ◌≤◌, ℕ, ◌+◌, List, [], ◌∷◌, ◌++◌, length, Option, Some, None}
use Rattle.std.proofs.Common.{true, refl, sym, ap, arith, length-append}
use Rattle.login_setup.specs.declared.event.Event.{Event}
use Rattle.login_setup.specs.declared.setup.Port.{Port}
use Rattle.login_setup.specs.declared.setup.Setup.{Setup}
use Rattle.eap_world.specs.World.{Action, Called, Skipped, WorldNow, WorldOutcome, counts_after}
use Rattle.eap_world.specs.World.{sent_to, sent_by, act_of_call, start_call, act}
use Rattle.eap_world.specs.World.{world_start, world_step, world_outcome, run_after}
use Rattle.eap_world.specs.declared.told.Counts.{Counts}
use Rattle.eap_world.specs.declared.told.Brief.{Brief}
use Rattle.world_laws.specs.Runs.{initial_world, run_of}

counted_events : (c : Counts) (a : Action) → (counts_after c a).events ≡ c.events + 1
counted_events c (Skipped skip) = refl
counted_events c (Called did) = refl

-- each event counts
pub world_step_events : (w : WorldNow) (e : Event) → (world_step w e).after.counts.events
    ≡ w.counts.events + 1
unfolding world_step
world_step_events w e = counted_events w.counts (act w.parties w.conversations w.sent e).action

-- a world that has started, or taken an event, is one that has started
pub start_starts : (w after : WorldNow) (told : Brief) → world_start w ≡ world_outcome told after
    → after.started ≡ true
unfolding world_start
start_starts w after told e = sym (ap (λ (out : WorldOutcome). out.after.started) e)

pub step_starts : (w after : WorldNow) (e : Event) (told : Brief)
    → world_step w e ≡ world_outcome told after → after.started ≡ true
unfolding world_step
step_starts w after e told same = sym (ap (λ (out : WorldOutcome). out.after.started) same)

-- ---- a start and each event send one packet at most

one_sent : (port : Port) (octets : Option (List ℕ)) → length (sent_to port octets) ≤ 1
one_sent port None = omega arith
one_sent port (Some octets) = omega arith

one_by : (a : Action) → length (sent_by a) ≤ 1
one_by (Skipped skip) = omega arith
one_by (Called did) = one_sent did.port did.step.sent

more_sent : (w : WorldNow) (a : Action) (most : ℕ) → length w.sent ≤ most
    → length (w.sent ++ sent_by a) ≤ most + 1
more_sent w a most h = omega (arith, h, one_by a, length-append w.sent (sent_by a))

step_sends : (w : WorldNow) (e : Event) → length w.sent ≤ w.counts.events + 1
    → length (world_step w e).after.sent ≤ (world_step w e).after.counts.events + 1
unfolding world_step
step_sends w e h =
    let out = act w.parties w.conversations w.sent e in
    let counts = counted_events w.counts out.action in
    let few = more_sent w out.action (w.counts.events + 1) h in
    omega (arith, counts, few)

run_sends : (w : WorldNow) (events : List Event) → length w.sent ≤ w.counts.events + 1
    → length (run_after w events).sent ≤ (run_after w events).counts.events + 1
unfolding run_after
run_sends w [] h = h
run_sends w (e ∷ rest) h = run_sends (world_step w e).after rest (step_sends w e h)

start_sends : (setup : Setup) → length (world_start (initial_world setup)).after.sent
    ≤ (world_start (initial_world setup)).after.counts.events + 1
unfolding world_start
start_sends setup =
    one_by (act_of_call (initial_world setup).parties (start_call setup.mode)).action

pub few_packets : (setup : Setup) (events : List Event) → length (run_of setup events).sent
    ≤ (run_of setup events).counts.events + 1
few_packets setup events =
    run_sends (world_start (initial_world setup)).after events (start_sends setup)
