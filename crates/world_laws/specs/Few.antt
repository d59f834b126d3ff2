-- A run sends few packets, and its book has few tags.
use Rattle.std.specs.Prelude.{◌≤◌, ◌+◌, ◌*◌, List, length}
use Rattle.login_setup.specs.declared.event.Event.{Event}
use Rattle.login_setup.specs.declared.setup.Setup.{Setup}
use Rattle.tag_book.specs.declared.book.End.{End}
use Rattle.tag_book.specs.declared.book.Entry.{Entry}
use Rattle.tag_book.specs.declared.book.Use.{Use}
use Rattle.eap_world.specs.declared.conversations.ConversationStart.{ConversationStart}
use Rattle.eap_world.specs.Conversations.{initiated_by}
use Rattle.method_laws.specs.Records.{tags_by}
use Rattle.world_laws.specs.Runs.{run_of}

-- on the whole at most two tags of each end and use for each of its conversations, so at most four
-- a conversation
pub record HasFewTags (begun : List ConversationStart) (book : List Entry) : Type 0 where
  pub each : (end : End) (how : Use) → length (tags_by end how book) ≤ 2 * initiated_by end begun
  pub all : length book ≤ 4 * length begun

-- the book stays small however many events there are
abbrev pub FewTags : Type 0
FewTags = (setup : Setup) (events : List Event)
    → (let w = run_of setup events in HasFewTags w.conversations.begun w.book)

-- a run of so many events sends at most one packet more
abbrev pub FewPackets : Type 0
FewPackets =
    (setup : Setup) (events : List Event) → length (run_of setup events).sent ≤ length events + 1
