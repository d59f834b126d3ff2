-- Smooth logins after restarts: if both ends, and through the pass-through all three parties, have
-- just begun again, a smooth login succeeds as the first one does, whatever was sent, booked and
-- counted before.
use Rattle.std.specs.Prelude.{◌≡◌, ◌-◌, ◌≤◌, List, [], ◌++◌, length, take, true, false}
use Rattle.login_setup.specs.declared.event.Event.{Event}
use Rattle.login_setup.specs.declared.setup.Setup.{Setup}
use Rattle.world_laws.specs.Whole.{IsWhole}
use Rattle.tag_book.specs.Book.{tags_verdict}
use Rattle.eap_world.specs.declared.verdict.Verdict.TheVariants.{Agree}
use Rattle.eap_world.specs.Judgement.{is_success, verdict_of}
use Rattle.eap_world.specs.Sent.{Sent}
use Rattle.eap_world.specs.World.{WorldNow, run_after}
use Rattle.smooth_laws.specs.Smooth.{EndsCompatible, HasShortNames, event_bound, deliveries}
use Rattle.world_laws.specs.Runs.{run_of}

-- the parties are as after the start of a run of these settings, whose nonces are those of the
-- present conversations, and what was sent last asks for the identity; whatever else the world has
pub record HasJustStarted (setup : Setup) (w : WorldNow) : Type 0 where
  pub parties : w.parties ≡ (run_of setup []).parties
  pub before : List Sent
  pub sent : w.sent ≡ before ++ (run_of setup []).sent

-- both ends have succeeded in the conversations in which they were at a moment before: since then
-- no delivery was discarded and no conversation has begun, the tags are as honest as they were, and
-- the ends agree
pub record IsLoggedInSince (since w : WorldNow) : Type 0 where
  pub peer : is_success w.parties.peer.vars.state ≡ true
  pub server : is_success w.parties.server.vars.state ≡ true
  pub none_discarded : w.counts.discards ≡ since.counts.discards
  pub tags : tags_verdict w.book ≡ tags_verdict since.book
  pub agree : verdict_of w ≡ Agree
  pub begun : w.conversations.begun ≡ since.conversations.begun
  pub fresh : w.conversations.fresh ≡ since.conversations.fresh

-- the login has succeeded after the first `bound` deliveries, and not before; no further one
-- changes that
pub record SucceedsAgain (setup : Setup) (w : WorldNow) (events : List Event) : Type 0 where
  pub not_before : is_success (run_after w
      (take (event_bound setup - 1) events)).parties.peer.vars.state ≡ false
  pub in_time : IsLoggedInSince w (run_after w (take (event_bound setup) events))
  pub stays : IsLoggedInSince w (run_after w events)

-- the last packet, and those sent after it, are delivered, each once and in order
abbrev pub AreNextInOrder : WorldNow → List Event → Type 0
AreNextInOrder w events = events ≡ deliveries (length w.sent) (length events)

-- from any world whose parties have just begun a smooth login of at least `bound` deliveries
-- succeeds
abbrev pub SmoothLoginsSucceedAgain : Type 0
SmoothLoginsSucceedAgain =
    (setup : Setup) (w : WorldNow) (events : List Event) → IsWhole setup → HasShortNames setup
    → EndsCompatible setup → HasJustStarted setup w →
    AreNextInOrder w events → event_bound setup ≤ length events → SucceedsAgain setup w events
