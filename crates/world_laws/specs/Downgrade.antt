-- Downgrade by a Nak: a server is at another method that the peer allows than the first such one of
-- its order only if it took a Nak, which the peer sends in answer to no Request for a method that
-- it allows.
use Rattle.std.specs.Prelude.{◌≡◌, ℕ, List, ◌∷◌, ◌++◌, Bool, true, false, ◌==◌, ◌&&◌, ◌||◌}
use Rattle.std.specs.Prelude.{if◌then◌else◌, Option, Some, None, Result, Ok, find, slice_index}
use Rattle.std.specs.List.{list_any}
use Rattle.login_setup.specs.declared.event.Event.{Event}
use Rattle.login_setup.specs.declared.setup.Party.TheVariants as party
use Rattle.login_setup.specs.declared.setup.Setup.{Setup}
use Rattle.login_setup.specs.declared.setup.PeerSetup.{PeerSetup}
use Rattle.octet_lists.specs.Among.{expanded_kind, is_among, nak_kind}
use Rattle.eap_packet.specs.declared.cause.Cause.{Cause}
use Rattle.eap_packet.specs.Expanded.{inner_kind, is_wrapped}
use Rattle.eap_packet.specs.Fault.{packet_of, type_of}
use Rattle.eap_packet.specs.Packet.{PacketValue, request}
use Rattle.eap_packet.specs.declared.state.State.{State}
use Rattle.eap_packet.specs.declared.state.State.TheVariants as state
use Rattle.tag_book.specs.declared.book.End.TheVariants as end
use Rattle.eap_world.specs.Conversations.{initiated_by}
use Rattle.eap_world.specs.World.{WorldNow, world_step}
use Rattle.eap_world.specs.Sent.{Sent}
use Rattle.world_laws.specs.Whole.{IsWhole}
use Rattle.world_laws.specs.SingleSteps.{Sends, delivered_in, is_again}
use Rattle.world_laws.specs.Runs.{run_of}

-- NAK of the server's table (RFC 4137 section 5)
abbrev pub is_nak_state : State → Bool
is_nak_state s = elim s [ state.Nak ↦ true | _ ↦ false ]

-- octets are those of a Nak, or of an Expanded Nak, by their Types (RFC 3748 sections 5.3.1 and
-- 5.3.2)
abbrev pub is_nak : List ℕ → Bool
is_nak octets = (type_of octets
    == nak_kind) || ((type_of octets == expanded_kind) && (slice_index octets 11 == nak_kind))

-- the Type that octets ask for, if they begin with a Request, as an end reads them that reads
-- Expanded Types, or as one that doesn't
abbrev pub asked_kind : Bool → Result PacketValue Cause → Option ℕ
asked_kind expanded (Ok (request id kind body)) =
    Some (if expanded && is_wrapped kind body then inner_kind body else kind)
asked_kind expanded packet = None

abbrev pub asks_for : Bool → List ℕ → Option ℕ
asks_for expanded octets = asked_kind expanded (packet_of octets)

-- they ask for a Type that the peer doesn't allow
pub record IsRefused (setup : PeerSetup) (octets : List ℕ) : Type 0 where
  pub kind : ℕ
  pub asked : asks_for setup.expanded octets ≡ Some kind
  pub barred : is_among setup.methods kind ≡ false

-- each Nak that the peer sends anew answers such a Request
abbrev pub NaksRefuse : Type 0
NaksRefuse = (setup : Setup) (events : List Event) (e : Event) (packet : Sent)
    → (let w = run_of setup events in
    Sends w (world_step w e) party.Peer packet → list_any is_again (world_step w e).told.path
    ≡ false → is_nak packet.octets ≡ true
    → IsRefused setup.peer (delivered_in w.sent e))

-- in this event the server takes a Nak that is delivered to it
pub record TakesNak (w : WorldNow) (e : Event) : Type 0 where
  pub by_server : (world_step w e).told.party ≡ Some party.Server
  pub is_taken : list_any is_nak_state (world_step w e).told.path ≡ true
  pub nak : is_nak (delivered_in w.sent e) ≡ true

-- the server's current method is one that the peer allows, and not the first such one of the
-- server's order
pub record IsPassedOver (setup : Setup) (w : WorldNow) : Type 0 where
  pub first : ℕ
  pub is_first : find (is_among setup.peer.methods) setup.server.methods ≡ Some first
  pub other : ℕ
  pub allowed : is_among setup.peer.methods other ≡ true
  pub apart : other ≡ first → ⊥
  pub current : w.parties.server.vars.current ≡ Some other

-- in an event of a run the server took a Nak, in the conversation in which it still is; and
-- wherever the peer sends the same octets, anew, it answers a Request of a Type that it doesn't
-- allow
pub record WasRefused (setup : Setup) (events : List Event) : Type 0 where
  pub before : List Event
  pub taken : Event
  pub after : List Event
  pub parts : events ≡ before ++ taken ∷ after
  pub takes : TakesNak (run_of setup before) taken
  pub present : initiated_by end.Server (run_of setup events).conversations.begun
      ≡ initiated_by end.Server (run_of setup before).conversations.begun
  pub no_answer : (earlier : List Event) (e : Event) (packet : Sent)
      → (let w = run_of setup earlier in
      Sends w (world_step w e) party.Peer packet
      → list_any is_again (world_step w e).told.path ≡ false
      → packet.octets ≡ delivered_in (run_of setup before).sent taken
      → IsRefused setup.peer (delivered_in w.sent e))

abbrev pub DowngradesNeedNaks : Type 0
DowngradesNeedNaks = (setup : Setup) (events : List Event) → IsWhole setup
    → IsPassedOver setup (run_of setup events) → WasRefused setup events
