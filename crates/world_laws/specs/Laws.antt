-- Laws of both ends over events.
use Rattle.std.specs.Prelude.{◌≡◌, ◌+◌, List, [], length, true, None, IsSome}
use Rattle.login_setup.specs.declared.event.Event.{Event}
use Rattle.login_setup.specs.declared.setup.Party.{Party}
use Rattle.login_setup.specs.declared.setup.Setup.{Setup}
use Rattle.tag_book.specs.Book.{tags_verdict, tags_verdict_either}
use Rattle.tag_book.specs.declared.book.TagsVerdict.TheVariants.{Honest}
use Rattle.tag_book.specs.declared.book.Entry.{Entry}
use Rattle.eap_world.specs.declared.world.HasReported.{HasReported}
use Rattle.eap_world.specs.World.{WorldNow, WorldOutcome, Parties, has_reported, report_of}
use Rattle.eap_world.specs.World.{world_start, world_step, run_after}
use Rattle.world_laws.specs.Runs.{initial_world, run_of}

-- a report that an end has was reported
pub record HasTracedReports (held : HasReported) (parties : Parties) : Type 0 where
  pub each : (party : Party) → IsSome (report_of parties party) → has_reported held party ≡ true

-- no variable and no view of a method changed at either end, nothing was sent, and nothing was
-- written into the book; if each report that an end has was reported, none is reported now
pub record PreservesBothEnds (before after : WorldNow) : Type 0 where
  pub parties : after.parties ≡ before.parties
  pub sent : after.sent ≡ before.sent
  pub book : after.book ≡ before.book
  pub held : HasTracedReports before.held before.parties → after.held ≡ before.held

-- an event that is discarded changes nothing but the counts
abbrev pub DiscardsChangeNothing : Type 0
DiscardsChangeNothing = (w : WorldNow) (e : Event) → IsSome (world_step w e).told.cause
    → PreservesBothEnds w (world_step w e).after

-- nothing but the number of events changed: no party, nothing sent, nothing in the book, no report
-- seen, no other count, no conversation; and the result says that no party acted, entered a state,
-- sent a packet or showed a report
pub record CountsAlone (before : WorldNow) (out : WorldOutcome) : Type 0 where
  pub parties : out.after.parties ≡ before.parties
  pub sent : out.after.sent ≡ before.sent
  pub book : out.after.book ≡ before.book
  pub conversations : out.after.conversations ≡ before.conversations
  pub held : out.after.held ≡ before.held
  pub events : out.after.counts.events ≡ before.counts.events + 1
  pub deliveries : out.after.counts.deliveries ≡ before.counts.deliveries
  pub discards : out.after.counts.discards ≡ before.counts.discards
  pub nobody : out.told.party ≡ None
  pub nowhere : out.told.path ≡ []
  pub nothing : out.told.sent ≡ None
  pub unnamed : out.told.named ≡ None

-- an event that is skipped changes nothing but the number of events
abbrev pub SkipsChangeNothing : Type 0
SkipsChangeNothing =
    (w : WorldNow) (e : Event) → IsSome (world_step w e).told.skip → CountsAlone w (world_step w e)

-- in every run each report that an end has was reported
abbrev pub ReportsAreTraced : Type 0
ReportsAreTraced =
    (setup : Setup) (events : List Event) → (let last = run_after
    (world_start (initial_world setup)).after events in HasTracedReports last.held last.parties)

-- a book that is honest by the other end's tags alone is honest by those of either end
abbrev pub HonestOfEither : Type 0
HonestOfEither =
    (book : List Entry) → tags_verdict book ≡ Honest → tags_verdict_either book ≡ Honest

-- an end that has no later nonces never begins a second conversation
abbrev pub StartsOnce : Type 0
StartsOnce = (setup : Setup) (events : List Event) → setup.later.peer ≡ [] → setup.later.server ≡ []
    → length (run_of setup events).conversations.begun ≡ 2
