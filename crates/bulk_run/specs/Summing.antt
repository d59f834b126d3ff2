-- The summary of the conversations of a number.
use Rattle.std.specs.Prelude.{◌≡◌, ◌≤◌, ℕ, zero, suc, ◌+◌, ◌*◌, ◌%◌, ◌==◌, List, Bool, true, false}
use Rattle.std.specs.Prelude.{if◌then◌else◌}
use Rattle.login_setup.specs.declared.event.Event.{Event}
use Rattle.login_setup.specs.declared.setup.Setup.{Setup}
use Rattle.tag_book.specs.Book.{tags_verdict}
use Rattle.eap_world.specs.Judgement.{verdict_of}
use Rattle.eap_world.specs.World.{WorldNow, one_if}
use Rattle.tag_book.specs.declared.book.TagsVerdict.{TagsVerdict}
use Rattle.tag_book.specs.declared.book.TagsVerdict.TheVariants as tags
use Rattle.eap_world.specs.declared.verdict.Verdict.{Verdict}
use Rattle.eap_world.specs.declared.verdict.Verdict.TheVariants as verdict
use Rattle.bulk_run.specs.Conversation.{setup_at, deliveries, chances}
use Rattle.bulk_run.specs.declared.summary.Summary.{Summary}
use Rattle.world_laws.specs.Runs.{run_of}

-- over an odd number the first packets are delivered in order, over an even one drawn octets choose
-- the events
abbrev pub is_even : ℕ → Bool
is_even number = number % 2 == 0

-- how many octets a conversation draws: two for each of its 40 turns if the number is even, and 96
-- before them for its settings
abbrev pub drawn_for_events : ℕ → ℕ
drawn_for_events number = if is_even number then 80 else 0

abbrev pub drawn_each : ℕ → ℕ
drawn_each number = 96 + drawn_for_events number

-- the events of a conversation, for which octets are drawn after a place
abbrev pub events_of : Setup → ℕ → ℕ → List Event
events_of setup number place =
    if is_even number then chances setup number place 40 else deliveries 7

-- the end of the run of the conversation that begins after a place
unfoldable pub ended_at : ℕ → ℕ → WorldNow
ended_at number place =
    run_of (setup_at number place) (events_of (setup_at number place) number (place + 96))

-- what one conversation counts
abbrev pub is_agree : Verdict → Bool
is_agree v = elim v [ verdict.Agree ↦ true | _ ↦ false ]

abbrev pub is_unfinished : Verdict → Bool
is_unfinished v = elim v [ verdict.Unfinished ↦ true | _ ↦ false ]

abbrev pub is_apart : Verdict → Bool
is_apart v = elim v [ verdict.Apart ↦ true | _ ↦ false ]

abbrev pub is_broken : TagsVerdict → Bool
is_broken t = elim t [ tags.Honest ↦ false | tags.Broken event ↦ true ]

unfoldable pub counts_of : WorldNow → Summary
counts_of w = record {
  conversations = 1;
  agree = one_if (is_agree (verdict_of w));
  unfinished = one_if (is_unfinished (verdict_of w));
  apart = one_if (is_apart (verdict_of w));
  broken = one_if (is_broken (tags_verdict w.book));
  deliveries = w.counts.deliveries;
  discards = w.counts.discards;
}

abbrev pub nothing_counted : Summary
nothing_counted = record {
  conversations = 0;
  agree = 0;
  unfinished = 0;
  apart = 0;
  broken = 0;
  deliveries = 0;
  discards = 0;
}

abbrev pub plus : Summary → Summary → Summary
plus one other = record {
  conversations = one.conversations + other.conversations;
  agree = one.agree + other.agree;
  unfinished = one.unfinished + other.unfinished;
  apart = one.apart + other.apart;
  broken = one.broken + other.broken;
  deliveries = one.deliveries + other.deliveries;
  discards = one.discards + other.discards;
}

-- the sum over so many conversations, each of which begins where the one before has stopped drawing
unfoldable pub summary_of : ℕ → ℕ → Summary
summary_of number zero = nothing_counted
summary_of number (suc k) =
    plus (summary_of number k) (counts_of (ended_at number (k * drawn_each number)))

-- what is counted is small
pub record IsAtMost (s : Summary) (most : ℕ) : Type 0 where
  pub conversations : s.conversations ≤ most
  pub agree : s.agree ≤ most
  pub unfinished : s.unfinished ≤ most
  pub apart : s.apart ≤ most
  pub broken : s.broken ≤ most
  pub deliveries : s.deliveries ≤ most
  pub discards : s.discards ≤ most

-- a conversation ends in one of three ways, and ends that are apart have a broken tag
pub record CountsWell (s : Summary) : Type 0 where
  pub all : s.agree + (s.unfinished + s.apart) ≡ s.conversations
  pub apart_is_broken : s.apart ≤ s.broken

-- so it is with each conversation, and with their sum
pub record BrokenWhereApart : Type 0 where
  pub each : (number place : ℕ) → CountsWell (counts_of (ended_at number place))
  pub sum : (number count : ℕ) → CountsWell (summary_of number count)
  pub count : (number count : ℕ) → (summary_of number count).conversations ≡ count
