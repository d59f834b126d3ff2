-- What the start and a step of a world leave.
use Rattle.std.proofs.Common.{◌≡◌, ◌≤◌, ℕ, ◌+◌, List, [], ◌∷◌, ◌++◌, length, true, false, Bool}
use Rattle.std.proofs.Common.{Option, Some, None, refl, subst, arith, is_some}
use Rattle.std.proofs.lemmas.List.{length-append}
use Rattle.login_setup.specs.declared.event.Event.{Event}
use Rattle.login_setup.specs.declared.setup.Port.{Port}
use Rattle.eap_world.specs.Sent.{Sent}
use Rattle.eap_world.specs.World.{WorldNow, WorldOutcome, Action, Skipped, Called, act, act_of_call}
use Rattle.eap_world.specs.World.{counts_after}
use Rattle.eap_world.specs.World.{sent_packet, one_if, sent_by, sent_to, start_call, told_of}
use Rattle.eap_world.specs.World.{world_outcome, world_start, world_step}
use Rattle.eap_world.specs.declared.told.Counts.{Counts}
use Rattle.eap_world.specs.declared.told.Named.{Named}
use Rattle.eap_world.specs.declared.told.Brief.{Brief}
use Rattle.bulk_run.specs.RunningEnd.{AreFew, sent_after}

none_more : (sent : List Sent) → length (sent ++ []) ≡ length sent
none_more sent = let e = length-append {A = Sent} sent [] in omega (arith, e)

-- how many packets were sent then
sent_one : (sent : List Sent) (port : Port) (octets : Option (List ℕ))
    → length (sent ++ sent_to port octets)
    ≡ sent_after (length sent) (sent_packet (length sent + 1) port octets)
sent_one sent port None = none_more sent
sent_one sent port (Some octets) = length-append sent (record { port = port; octets = octets } ∷ [])

sent_more : (sent : List Sent) (event : ℕ) (named : Option Named) (action : Action)
    → length (sent ++ sent_by action)
    ≡ sent_after (length sent) (told_of event (length sent + 1) named action).sent
sent_more sent event named (Skipped skip) = none_more sent
sent_more sent event named (Called did) = sent_one sent did.port did.step.sent

-- one event more, at most one delivery more and one discard more
one_at_most : (b : Bool) (n most : ℕ) → n ≤ most → n + one_if b ≤ most + 1
one_at_most true n most h = omega arith
one_at_most false n most h = omega arith

counts_more : (counts : Counts) (action : Action) (most : ℕ) → AreFew counts most
    → AreFew (counts_after counts action) (most + 1)
counts_more counts (Skipped skip) most few = record {
  events = let h = few.events in omega (arith, h);
  deliveries = let h = few.deliveries in omega (arith, h);
  discards = let h = few.discards in omega (arith, h);
}
counts_more counts (Called did) most few = record {
  events = let h = few.events in omega (arith, h);
  deliveries = one_at_most did.is_delivery counts.deliveries most few.deliveries;
  discards = one_at_most (is_some did.step.cause) counts.discards most few.discards;
}

-- what a step leaves
pub record Stepped (before : WorldNow) (told : Brief) (after : WorldNow) : Type 0 where
  pub started : after.started ≡ true
  pub packets : length after.sent ≡ sent_after (length before.sent) told.sent
  pub few : (most : ℕ) → AreFew before.counts most → AreFew after.counts (most + 1)

stepped_by : (before : WorldNow) (event : Event)
    → Stepped before (world_step before event).told (world_step before event).after
unfolding world_step
stepped_by before event = record {
  started = refl;
  packets =
      sent_more before.sent _ _ (act before.parties before.conversations before.sent event).action;
  few = counts_more before.counts
      (act before.parties before.conversations before.sent event).action;
}

pub stepped : (before : WorldNow) (event : Event) (told : Brief) (after : WorldNow)
    → world_step before event ≡ world_outcome told after → Stepped before told after
stepped before event told after is =
    subst (λ (out : WorldOutcome). Stepped before out.told out.after) is (stepped_by before event)

-- what the start leaves of a world in which nothing was sent
pub record Started (before : WorldNow) (told : Brief) (after : WorldNow) : Type 0 where
  pub started : after.started ≡ true
  pub packets : length after.sent ≡ sent_after (length before.sent) told.sent
  pub counts : after.counts ≡ before.counts

started_by : (before : WorldNow)
    → Started before (world_start before).told (world_start before).after
unfolding world_start
started_by before = record {
  started = refl;
  packets = sent_more before.sent _ _
      (act_of_call before.parties (start_call before.parties.mode)).action;
  counts = refl;
}

pub started : (before : WorldNow) (told : Brief) (after : WorldNow)
    → world_start before ≡ world_outcome told after → Started before told after
started before told after is =
    subst (λ (out : WorldOutcome). Started before out.told out.after) is (started_by before)
