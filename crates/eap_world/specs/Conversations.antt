-- The conversations of both ends: the nonces that are still to be used, those with which a
-- conversation has begun, and whether each was fresh.
use Rattle.std.specs.Prelude.{ℕ, ◌+◌, List, [], ◌∷◌, ◌++◌, length, take, map, Bool, false, ◌&&◌}
use Rattle.std.specs.Prelude.{◌||◌, not, if◌then◌else◌, Option, Some, None}
use Rattle.std.specs.Str.{bytes_eq}
use Rattle.std.specs.List.{list_any}
use Rattle.login_setup.specs.declared.setup.Later.{Later}
use Rattle.login_setup.specs.declared.setup.Setup.{Setup}
use Rattle.tag_book.specs.Book.{same_end}
use Rattle.tag_book.specs.declared.book.End.{End}
use Rattle.tag_book.specs.declared.book.End.TheVariants as end
use Rattle.eap_world.specs.declared.conversations.ConversationStart.{ConversationStart}
use Rattle.eap_world.specs.declared.conversations.Waiting.{Waiting}

-- the first sixteen octets of a nonce: all that a method takes of it whose random numbers have
-- sixteen octets (RFC 4764 section 3.2)
abbrev pub front : List ℕ → List ℕ
front nonce = take 16 nonce

-- whether octets occur in others, one after the other
unfoldable pub occurs_in : List ℕ → List ℕ → Bool
occurs_in part [] = bytes_eq [] part
occurs_in part (x ∷ rest) = bytes_eq (take (length part) (x ∷ rest)) part || occurs_in part rest

-- the nonces that each end still has, in their order; the conversations that have begun, in theirs;
-- and whether each of these began with a fresh nonce
pub record Conversations : Type 0 where
  pub peer_left : List Waiting
  pub server_left : List Waiting
  pub begun : List ConversationStart
  pub fresh : Bool

-- a nonce that is still to be used, and has occurred in no delivery
abbrev pub waiting : List ℕ → Waiting
waiting nonce = record { nonce = nonce; heard = false }

-- a conversation that began in this event, at this end, with this nonce
abbrev pub beginning : ℕ → End → List ℕ → ConversationStart
beginning event end nonce = record { event = event; end = end; nonce = nonce }

-- octets are delivered to some party: a nonce whose prefix occurs in them isn't fresh any more
abbrev pub hears : List ℕ → Waiting → Waiting
hears octets
    one = record { nonce = one.nonce; heard = one.heard || occurs_in (front one.nonce) octets }

abbrev pub delivered_by : List ℕ → Conversations → Conversations
delivered_by octets all = record all {
  peer_left = map (hears octets) all.peer_left;
  server_left = map (hears octets) all.server_left;
}

-- whether a conversation has begun with a nonce of this prefix
abbrev pub is_used : List ConversationStart → List ℕ → Bool
is_used all nonce = list_any (λ (b : ConversationStart). bytes_eq (front b.nonce) (front nonce)) all

abbrev pub is_new : List ConversationStart → Waiting → Bool
is_new all one = not one.heard && not (is_used all one.nonce)

-- an end begins a conversation with the nonce
abbrev pub begins : ℕ → End → Waiting → Conversations → Conversations
begins event end one all =
    record all {
      begun = all.begun ++ beginning event end one.nonce ∷ [];
      fresh = all.fresh && is_new all.begun one;
    }

-- with the next of its nonces, if it has one
abbrev pub peer_initiates : ℕ → Conversations → List Waiting → Conversations
peer_initiates event all [] = all
peer_initiates event all (one ∷ left) = begins event end.Peer one (record all { peer_left = left })

abbrev pub server_initiates : ℕ → Conversations → List Waiting → Conversations
server_initiates event all [] = all
server_initiates event all (one ∷ left) =
    begins event end.Server one (record all { server_left = left })

-- the nonce with which an end would begin
abbrev pub next_nonce : List Waiting → Option (List ℕ)
next_nonce [] = None
next_nonce (one ∷ left) = Some one.nonce

-- at the start both ends begin with the first nonces of their settings
abbrev pub conversations_from : List ℕ → List ℕ → Later → Conversations
conversations_from peer server later = record {
  peer_left = map waiting later.peer;
  server_left = map waiting later.server;
  begun = beginning 0 end.Peer peer ∷ beginning 0 end.Server server ∷ [];
  fresh = not (bytes_eq (front peer) (front server));
}

abbrev pub initial_conversations : Setup → Conversations
initial_conversations setup = conversations_from setup.peer.nonce setup.server.nonce setup.later

-- the event in which the present conversation of an end has begun
unfoldable pub since_from : ℕ → End → List ConversationStart → ℕ
since_from last end [] = last
since_from last end (b ∷ rest) = since_from (if same_end b.end end then b.event else last) end rest

abbrev pub since_of : End → List ConversationStart → ℕ
since_of end all = since_from 0 end all

-- whether an end has begun a conversation with this nonce
abbrev pub has_initiated : End → List ℕ → List ConversationStart → Bool
has_initiated end nonce all =
    list_any (λ (b : ConversationStart). same_end b.end end && bytes_eq b.nonce nonce) all

-- how many conversations an end has begun
abbrev pub one_of : End → ConversationStart → ℕ
one_of end b = if same_end b.end end then 1 else 0

unfoldable pub initiated_by : End → List ConversationStart → ℕ
initiated_by end [] = 0
initiated_by end (b ∷ rest) = one_of end b + initiated_by end rest
