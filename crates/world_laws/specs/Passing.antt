-- What comes to the pass-through in a run, and what it sends: it learns nothing but what is
-- delivered to it, and its inputs determine what it sends.
use Rattle.std.specs.Prelude.{◌≡◌, ℕ, List, [], ◌∷◌, ◌++◌, All, map, take, Option, Some, None}
use Rattle.login_setup.specs.declared.event.Event.{Event}
use Rattle.login_setup.specs.declared.event.Event.TheVariants as event
use Rattle.login_setup.specs.declared.setup.Mode.TheVariants as mode
use Rattle.login_setup.specs.declared.setup.Party.{Party}
use Rattle.login_setup.specs.declared.setup.Party.TheVariants as party
use Rattle.login_setup.specs.declared.setup.Port.{Port}
use Rattle.login_setup.specs.declared.setup.Port.TheVariants as port
use Rattle.login_setup.specs.declared.setup.Setup.{Setup}
use Rattle.pass_through.specs.Inputs.{PassInput, from_peer, from_backend}
use Rattle.pass_through.specs.PassTable.{initial_pass}
use Rattle.pass_through.specs.Runs.{IsCarried, SentOn, pass_after, pass_sends}
use Rattle.eap_world.specs.Sent.{Sent, packet_numbered}
use Rattle.eap_world.specs.World.{Acted, Action, Call, Called, Skipped, WorldNow, act, alteration}
use Rattle.eap_world.specs.World.{call_of, act_of_call, first_skip, pass_octets, pass_port, sent_by}
use Rattle.eap_world.specs.World.{skip_table, start_call, to_pass, to_peer, to_server, world_start}
use Rattle.eap_world.specs.World.{world_step}
use Rattle.eap_world.specs.declared.told.Skip.{Skip}
use Rattle.world_laws.specs.Runs.{initial_world, run_of}

-- ---- read off a run

-- what comes to the pass-through in a call
abbrev pub received_by : Call → List PassInput
received_by (to_pass input) = input ∷ []
received_by (to_peer input) = []
received_by (to_server input) = []

-- in an event
abbrev pub received_unless : Option Skip → Option Call → List PassInput
received_unless (Some skip) call = []
received_unless None None = []
received_unless None (Some call) = received_by call

abbrev pub received_in : WorldNow → Event → List PassInput
received_in w e = received_unless (first_skip (skip_table w.parties w.conversations w.sent e))
    (call_of w.conversations w.sent e)

unfoldable pub received_after : WorldNow → List Event → List PassInput
received_after w [] = []
received_after w (e ∷ rest) = received_in w e ++ received_after (world_step w e).after rest

-- in the run of these events: its start, octets from either side, the ends of its timer, that the
-- server is lost or has nothing to ask, and its restarts
abbrev pub received_by_pass : Setup → List Event → List PassInput
received_by_pass setup events = received_by (start_call setup.mode) ++ received_after (world_start
    (initial_world setup)).after events

-- what the pass-through sends in what is done
abbrev pub if_pass : Party → List Sent → List Sent
if_pass party.Peer sent = []
if_pass party.Server sent = []
if_pass party.Pass sent = sent

abbrev pub passed_by : Action → List Sent
passed_by (Skipped skip) = []
passed_by (Called did) = if_pass did.party (sent_by (Called did))

unfoldable pub passed_after : WorldNow → List Event → List Sent
passed_after w [] = []
passed_after w (e ∷ rest) = passed_by (act w.parties w.conversations w.sent
    e).action ++ passed_after (world_step w e).after rest

abbrev pub start_act : Setup → Acted
start_act setup = act_of_call (initial_world setup).parties (start_call setup.mode)

-- in the run of these events, with the port to which each packet goes
abbrev pub sent_by_pass : Setup → List Event → List Sent
sent_by_pass setup events = passed_by (start_act setup).action ++ passed_after (world_start
    (initial_world setup)).after events

-- the packets of a run to the ports of both ends: all that the ends can get of it
abbrev pub if_to_end : Port → Sent → List Sent → List Sent
if_to_end port.Peer packet rest = packet ∷ rest
if_to_end port.Server packet rest = packet ∷ rest
if_to_end port.PassPeer packet rest = rest
if_to_end port.PassServer packet rest = rest

unfoldable pub to_ends : List Sent → List Sent
to_ends [] = []
to_ends (packet ∷ rest) = if_to_end packet.port packet (to_ends rest)

-- ---- the pass-through alone

-- a packet that it sent, at the port of the end to which it goes
abbrev pub at_port : SentOn → Sent
at_port packet = record { port = pass_port packet.to; octets = packet.octets }

-- its state after a run, and what it sent, which is all that is sent to an end, are determined by
-- what came to it alone, from its first Identifier and MaxRetrans
pub record IsAlone (setup : Setup) (events : List Event) : Type 0 where
  pub vars : (run_of setup events).parties.pass
      ≡ pass_after (initial_pass setup.first_id setup.max_retrans) (received_by_pass setup events)
  pub sent : sent_by_pass setup events ≡ map at_port (pass_sends
      (initial_pass setup.first_id setup.max_retrans) (received_by_pass setup events))
  pub to_both : to_ends (run_of setup events).sent ≡ sent_by_pass setup events

abbrev pub PassIsAlone : Type 0
PassIsAlone =
    (setup : Setup) (events : List Event) → setup.mode ≡ mode.Through → IsAlone setup events

-- ---- it learns nothing

-- two runs that the pass-through can't distinguish: it has the same state after both, and has sent
-- the same
pub record AreAlike (one other : Setup) (events others : List Event) : Type 0 where
  pub vars : (run_of one events).parties.pass ≡ (run_of other others).parties.pass
  pub sent : sent_by_pass one events ≡ sent_by_pass other others

-- two runs in which the same came to it, whatever the keys, names, nonces, methods, users and
-- policies of both ends, and whatever else happens in them
abbrev pub PassLearnsNothing : Type 0
PassLearnsNothing =
    (one other : Setup) (events others : List Event) → one.mode ≡ mode.Through
    → other.mode ≡ mode.Through
    → one.first_id ≡ other.first_id → one.max_retrans ≡ other.max_retrans
    → received_by_pass one events ≡ received_by_pass other others → AreAlike one other events others

-- ---- the origin of its packets

-- a packet of the pass-through that came to it so, at the port to which it goes
pub data IsPassedOn (first_id : ℕ) (came : List PassInput) : Sent → Type 0 where
  passed : (packet : SentOn) (is : IsCarried first_id came packet)
      → IsPassedOn first_id came (at_port packet)

-- each packet that it sends is its Identity Request, or came to it from the other side and goes on
-- without its padding
abbrev pub Carries : Setup → List Event → Type 0
Carries setup events =
    All (IsPassedOn setup.first_id (received_by_pass setup events)) (sent_by_pass setup events)

abbrev pub PassCarries : Type 0
PassCarries =
    (setup : Setup) (events : List Event) → setup.mode ≡ mode.Through → Carries setup events

-- octets that an event delivers at a port, if these packets were sent before it: those of a packet
-- that was sent to it, as they are, altered or cut; or those that are injected
pub data IsDelivered (sent : List Sent) : Event → Port → List ℕ → Type 0 where
  delivered : (n : ℕ) (packet : Sent) (is : packet_numbered sent n ≡ Some packet)
      → IsDelivered sent (event.Deliver n) packet.port packet.octets
  delivered_altered : (n place mask : ℕ) (packet : Sent) (is : packet_numbered sent n ≡ Some packet)
      → IsDelivered sent (event.Alter n place mask) packet.port
      (alteration packet.octets place mask)
  delivered_cut : (n keep : ℕ) (packet : Sent) (is : packet_numbered sent n ≡ Some packet)
      → IsDelivered sent (event.Cut n keep) packet.port (take keep packet.octets)
  injected : (to : Port) (octets : List ℕ) → IsDelivered sent (event.Inject to octets) to octets

-- an input of the pass-through carries no octets but such
pub data IsOfEvent (sent : List Sent) (e : Event) : PassInput → Type 0 where
  of_peer : (octets : List ℕ) (is : IsDelivered sent e port.PassPeer octets)
      → IsOfEvent sent e (from_peer octets)
  of_server : (octets : List ℕ) (is : IsDelivered sent e port.PassServer octets)
      → IsOfEvent sent e (from_backend octets)
  silent : (input : PassInput) (none : pass_octets input ≡ None) → IsOfEvent sent e input

abbrev pub PassIsDelivered : Type 0
PassIsDelivered = (w : WorldNow) (e : Event) → All (IsOfEvent w.sent e) (received_in w e)
