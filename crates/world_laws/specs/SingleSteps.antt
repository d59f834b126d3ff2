-- Laws on single steps of a run. They are about octets, packets sent, the book, paths and states
-- alone, and no other variable, so that they check the tables of RFC 4137 from outside.
use Rattle.std.specs.Prelude.{◌≡◌, ◌≤◌, ℕ, ◌+◌, ◌%◌, List, [], ◌∷◌, ◌++◌, length, take, Bool, true}
use Rattle.std.specs.Prelude.{false, Some, slice_index}
use Rattle.std.specs.List.{list_any}
use Rattle.login_setup.specs.declared.event.Event.{Event}
use Rattle.login_setup.specs.declared.event.Event.TheVariants as event
use Rattle.login_setup.specs.declared.setup.Mode.TheVariants as mode
use Rattle.login_setup.specs.declared.setup.Party.{Party}
use Rattle.login_setup.specs.declared.setup.Party.TheVariants as party
use Rattle.login_setup.specs.declared.setup.Port.TheVariants as port
use Rattle.login_setup.specs.declared.setup.Setup.{Setup}
use Rattle.eap_packet.specs.Fault.{code_of}
use Rattle.eap_packet.specs.declared.state.State.{State}
use Rattle.eap_packet.specs.declared.state.State.TheVariants as state
use Rattle.eap_method.specs.Steps.{is_end}
use Rattle.pass_through.specs.PassTable.{is_over}
use Rattle.tag_book.specs.declared.book.End.{End}
use Rattle.tag_book.specs.declared.book.End.TheVariants as end
use Rattle.tag_book.specs.declared.book.Use.TheVariants.{Accepted}
use Rattle.eap_world.specs.Judgement.{is_success}
use Rattle.world_laws.specs.EndInvariants.{present_tags}
use Rattle.eap_world.specs.Sent.{Sent, last_to, packet_numbered}
use Rattle.eap_world.specs.World.{Parties, WorldNow, WorldOutcome, alteration, octets_of, state_of}
use Rattle.eap_world.specs.World.{world_step}
use Rattle.world_laws.specs.Runs.{run_of}

-- the Identifier (RFC 3748 section 4)
abbrev pub identifier_of : List ℕ → ℕ
identifier_of octets = slice_index octets 1

-- the octets that an event delivers to its party
abbrev pub delivered_in : List Sent → Event → List ℕ
delivered_in sent (event.Deliver n) = octets_of (packet_numbered sent n)
delivered_in sent (event.Alter n place mask) =
    alteration (octets_of (packet_numbered sent n)) place mask
delivered_in sent (event.Cut n keep) = take keep (octets_of (packet_numbered sent n))
delivered_in sent (event.Inject port octets) = octets
delivered_in sent _ = []

-- octets are delivered to a party
abbrev pub is_delivery_of : Event → Bool
is_delivery_of (event.Deliver n) = true
is_delivery_of (event.Alter n place mask) = true
is_delivery_of (event.Cut n keep) = true
is_delivery_of (event.Inject port octets) = true
is_delivery_of _ = false

-- a party begins a new conversation
abbrev pub is_restart : Event → Bool
is_restart (event.Restart party) = true
is_restart _ = false

-- in an event this party acted and sent this packet
pub record Sends (w : WorldNow) (out : WorldOutcome) (of : Party) (packet : Sent) : Type 0 where
  pub acts : out.told.party ≡ Some of
  pub adds : out.after.sent ≡ w.sent ++ packet ∷ []

-- a Response with the Identifier of what came
pub record AnswersIt (came answer : List ℕ) : Type 0 where
  pub is_response : code_of answer ≡ 2
  pub same : identifier_of answer ≡ identifier_of came

-- RETRANSMIT and RETRANSMIT2
abbrev pub is_again : State → Bool
is_again s = elim s [ state.Retransmit ↦ true | state.Retransmit2 ↦ true | _ ↦ false ]

-- the Identifier after that of the last packet that was sent to the peer
pub record CountsOn (sent : List Sent) (octets : List ℕ) : Type 0 where
  pub last : List ℕ
  pub is_last : last_to port.Peer sent ≡ Some last
  pub next : identifier_of octets ≡ (identifier_of last + 1) % 256

-- whether a party in this state has ended
abbrev pub has_ended : Party → State → Bool
has_ended party.Peer s = is_end s
has_ended party.Pass s = is_over s
has_ended party.Server s = is_end s

-- the states of the two ends
abbrev pub end_state : Parties → End → State
end_state parties end.Peer = parties.peer.vars.state
end_state parties end.Server = parties.server.vars.state

-- what holds of each step from a world of a run to the result of an event
pub record IsLawful (w : WorldNow) (e : Event) (out : WorldOutcome) : Type 0 where
  -- what the peer sends is a Response with the Identifier of what was delivered to it
  pub answers : (packet : Sent) → Sends w out party.Peer packet
      → AnswersIt (delivered_in w.sent e) packet.octets
  -- what is sent again is the last packet to the same port
  pub repeats : (of : Party) (packet : Sent) → Sends w out of packet
      → list_any is_again out.told.path ≡ true
      → last_to packet.port w.sent ≡ Some packet.octets
  -- in mode alone a Request that the server sends in a delivery has the next Identifier
  pub counts : w.parties.mode ≡ mode.Alone → is_delivery_of e ≡ true → (packet : Sent)
      → Sends w out party.Server packet
      → code_of packet.octets ≡ 1 → CountsOn w.sent packet.octets
  -- a party that has ended sends nothing, unless it begins again
  pub silent : is_restart e ≡ false → (of : Party) (s : State) → state_of w.parties of ≡ Some s
      → has_ended of s ≡ true → (packet : Sent) → Sends w out of packet → ⊥
  -- an end in SUCCESS has accepted a tag in its present conversation
  pub accepted : (of : End) → is_success (end_state out.after.parties of) ≡ true
      → 1 ≤ length (present_tags of Accepted out.after)

-- each step of a run is lawful
abbrev pub StepsAreLawful : Type 0
StepsAreLawful = (setup : Setup) (events : List Event) (e : Event)
    → (let w = run_of setup events in IsLawful w e (world_step w e))
