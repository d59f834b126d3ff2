-- What holds of the run of every scenario: whatever is delivered, lost, repeated, reordered,
-- altered, injected or restarted, two ends that both succeed agree, if each accepted tag was made
-- earlier by the other end and no end has begun again or nonces are fresh. The trace says both.
use Rattle.std.specs.Prelude.{◌≡◌, ◌≤◌, ◌⊎◌, ℕ, ◌+◌, List, ◌++◌, length, Option, Some, codes}
use Rattle.login_setup.specs.declared.event.Event.{Event}
use Rattle.login_setup.specs.declared.setup.Mode.TheVariants.{Through}
use Rattle.login_setup.specs.declared.setup.Setup.{Setup}
use Rattle.login_laws.specs.Agreement.{AgreesWhereHonest, TheirsWhereHonest}
use Rattle.world_laws.specs.Few.{HasFewTags}
use Rattle.login_laws.specs.Alone.{ImpliedByOne}
use Rattle.tag_book.specs.Book.{tags_verdict, tags_verdict_either}
use Rattle.tag_book.specs.declared.book.TagsVerdict.TheVariants.{Honest}
use Rattle.world_laws.specs.EachConversation.{peer_conversations, server_conversations}
use Rattle.login_laws.specs.Matching.{AreAll, Match}
use Rattle.world_laws.specs.Passing.{Carries, IsAlone}
use Rattle.login_laws.specs.PresentUnderKey.{AgreesUnder, ImpliedUnder}
use Rattle.login_laws.specs.PskReflected.{AgreesReflected}
use Rattle.world_laws.specs.SingleSteps.{IsLawful}
use Rattle.login_laws.specs.UnderKey.{MatchUnder}
use Rattle.eap_world.specs.World.{WorldNow, world_step}
use Rattle.answer_text.specs.Lines.{HasLine}
use Rattle.world_commands.specs.Scenario.{scenario_of}
use Rattle.command_driver.specs.declared.status.Status.{Status}
use Rattle.command_driver.specs.declared.status.Status.TheVariants.{Done}
use Rattle.world_laws.specs.Runs.{run_of}

-- after the events: two ends that both succeed agree, and what they report is their own, over tags
-- and nonces as the laws require; so do they over tags that came back to their maker, if the peer
-- has succeeded by EAP-PSK; what one end's success implies by itself; the conversations of both
-- ends match, past and present, and they are all; so do those of one user, whatever the server's
-- other users do, if the tags under that user's key are honest; what the pass-through sends is
-- determined by what came to it alone, and came to it; a book whose tags are honest is honest of
-- either end, and it is small; at most one packet more was sent than there were events; the next
-- step is lawful
pub record PreservesAgreed (setup : Setup) (events : List Event) (w : WorldNow) : Type 0 where
  pub of_either : tags_verdict w.book ≡ Honest → tags_verdict_either w.book ≡ Honest
  pub agrees : AgreesWhereHonest w
  pub theirs : TheirsWhereHonest setup w
  pub reflected : AgreesReflected setup w
  pub tells : ImpliedByOne setup w (peer_conversations setup events)
      (server_conversations setup events)
  pub matching : Match w (peer_conversations setup events) (server_conversations setup events)
  pub under_key : (kind : ℕ) → MatchUnder setup kind w (peer_conversations setup
      events) (server_conversations setup events)
  pub agrees_under_key : (kind : ℕ) → AgreesUnder setup kind w
  pub tells_under_key : (kind : ℕ) → ImpliedUnder setup kind w (peer_conversations setup
      events) (server_conversations setup events)
  pub all : AreAll setup w (peer_conversations setup events) (server_conversations setup events)
  pub pass : setup.mode ≡ Through → IsAlone setup events
  pub carries : setup.mode ≡ Through → Carries setup events
  pub few_tags : HasFewTags w.conversations.begun w.book
  pub few_packets : length w.sent ≤ w.counts.events + 1
  pub lawful : (e : Event) → IsLawful w e (world_step w e)

-- so it is after the events of the scenario that an input is
abbrev pub HonestEndsAgree : List ℕ → Type 0
HonestEndsAgree octets =
    (setup : Setup) → (scenario_of octets).setup ≡ Some setup
    → (let events = (scenario_of octets).events in
    PreservesAgreed setup events (run_of setup events))

-- the text says that nonces are fresh, or nothing of them, as when no end can begin again
abbrev pub ShowsFresh : List ℕ → Type 0
ShowsFresh text =
    HasLine (codes "fresh yes") text ⊎ ((word : List ℕ) → HasLine (codes "fresh " ++ word) text → ⊥)

-- the text doesn't say both that all tags are honest and that the ends are apart, if it says so
abbrev pub NeverBoth : List ℕ → Type 0
NeverBoth text =
    HasLine (codes "tags honest") text → HasLine (codes "result apart") text → ShowsFresh text → ⊥

-- so it is with what was written, if the status is 0
pub record WritesNeverBoth (s : Status) (before now : Option (List ℕ)) : Type 0 where
  pub holds : s ≡ Done → (old text : List ℕ) → before ≡ Some old → now ≡ Some (old ++ text)
      → NeverBoth text
