-- The conversations of each end in a run, in their order, each as far as it went.
use Rattle.std.specs.Prelude.{ℕ, List, [], ◌∷◌, ◌++◌, Bool, nat_lt, length, drop, if◌then◌else◌}
use Rattle.std.specs.Prelude.{Option, Some}
use Rattle.login_setup.specs.declared.event.Event.{Event}
use Rattle.login_setup.specs.declared.setup.Setup.{Setup}
use Rattle.eap_method.specs.declared.tags.TagRecord.{TagRecord}
use Rattle.peer_machine.specs.PeerTable.{PeerNow}
use Rattle.server_machine.specs.ServerTable.{ServerNow}
use Rattle.tag_book.specs.Book.{same_end}
use Rattle.eap_world.specs.Conversations.{initiated_by}
use Rattle.method_laws.specs.ByMethod.{peer_foreign, server_foreign}
use Rattle.method_laws.specs.Records.{tags_by}
use Rattle.eap_world.specs.World.{WorldNow, world_start, world_step}
use Rattle.tag_book.specs.declared.book.End.{End}
use Rattle.tag_book.specs.declared.book.End.TheVariants as end
use Rattle.tag_book.specs.declared.book.Use.TheVariants.{Accepted, Made}
use Rattle.eap_world.specs.declared.conversations.ConversationStart.{ConversationStart}
use Rattle.world_laws.specs.Runs.{initial_world}

-- a conversation of an end: the end's state in it, or when it began the next one, and the tags that
-- it accepted and made in it, in their order
pub record Conversation (N : Type 0) : Type 0 where
  pub now : N
  pub accepted : List TagRecord
  pub made : List TagRecord

abbrev pub OfPeer : Type 0
OfPeer = Conversation PeerNow

abbrev pub OfServer : Type 0
OfServer = Conversation ServerNow

-- whether an end has begun another conversation from the one moment to the other
abbrev pub starts_another : End → WorldNow → WorldNow → Bool
starts_another of before after =
    nat_lt (initiated_by of before.conversations.begun) (initiated_by of after.conversations.begun)

-- the present conversation of an end, which began when the book had so many entries
abbrev pub present_one : {N : Type 0} → (WorldNow → N) → End → WorldNow → ℕ → Conversation N
present_one at of w from =
    let entries = drop from w.book in record {
      now = at w;
      accepted = tags_by of Accepted entries;
      made = tags_by of Made entries;
    }

-- its conversations from the present one on, if the world comes to these moments
unfoldable pub conversations_along : {N : Type 0} → (WorldNow → N) → End → WorldNow → ℕ
    → List WorldNow → List (Conversation N)
conversations_along at of w from [] = present_one at of w from ∷ []
conversations_along at of w from (next ∷ rest) =
    if starts_another of w next
    then present_one at of w from ∷ conversations_along at of next (length w.book) rest
    else conversations_along at of next from rest

-- the moments of a run: the world after each of these events
unfoldable pub moments : WorldNow → List Event → List WorldNow
moments w [] = []
moments w (e ∷ rest) = let next = (world_step w e).after in next ∷ moments next rest

abbrev pub peer_at : WorldNow → PeerNow
peer_at w = w.parties.peer

abbrev pub server_at : WorldNow → ServerNow
server_at w = w.parties.server

-- all conversations of the peer, and of the server, from the start of both on
abbrev pub peer_along : WorldNow → List WorldNow → List OfPeer
peer_along w later = conversations_along peer_at end.Peer w 0 later

abbrev pub server_along : WorldNow → List WorldNow → List OfServer
server_along w later = conversations_along server_at end.Server w 0 later

-- in the run of these events
abbrev pub peer_conversations : Setup → List Event → List OfPeer
peer_conversations setup events =
    let begun = (world_start (initial_world setup)).after in peer_along begun (moments begun events)

abbrev pub server_conversations : Setup → List Event → List OfServer
server_conversations setup events = let begun = (world_start (initial_world setup)).after in
    server_along begun (moments begun events)

-- the nonce of a conversation, and the first octets of the other end's that it has
abbrev pub peer_nonce : OfPeer → List ℕ
peer_nonce p = p.now.vars.setup.nonce

abbrev pub server_nonce : OfServer → List ℕ
server_nonce s = s.now.vars.setup.nonce

abbrev pub peer_knows_nonce : OfPeer → Option (List ℕ)
peer_knows_nonce p = peer_foreign p.now.vars.selected p.now.views

abbrev pub server_knows_nonce : OfServer → Option (List ℕ)
server_knows_nonce s = server_foreign s.now.vars.current s.now.views

-- ---- one of these; two of these, the one before the other

pub data IsOneOf {A : Type 0} (x : A) : List A → Type 0 where
  here : (rest : List A) → IsOneOf x (x ∷ rest)
  later : (other : A) (rest : List A) → IsOneOf x rest → IsOneOf x (other ∷ rest)

pub data AreTwoOf {A : Type 0} (x y : A) : List A → Type 0 where
  first : (rest : List A) → IsOneOf y rest → AreTwoOf x y (x ∷ rest)
  behind : (other : A) (rest : List A) → AreTwoOf x y rest → AreTwoOf x y (other ∷ rest)

-- ---- of all of them, in order

unfoldable pub all_accepted : {N : Type 0} → List (Conversation N) → List TagRecord
all_accepted [] = []
all_accepted (k ∷ rest) = k.accepted ++ all_accepted rest

unfoldable pub all_produced : {N : Type 0} → List (Conversation N) → List TagRecord
all_produced [] = []
all_produced (k ∷ rest) = k.made ++ all_produced rest

-- the end's state in the last one
unfoldable pub last_now : {N : Type 0} → Option N → List (Conversation N) → Option N
last_now o [] = o
last_now o (k ∷ rest) = last_now (Some k.now) rest

-- the nonces with which an end has begun conversations
unfoldable pub nonces_of : End → List ConversationStart → List (List ℕ)
nonces_of of [] = []
nonces_of of (b ∷ rest) =
    if same_end b.end of then b.nonce ∷ nonces_of of rest else nonces_of of rest
