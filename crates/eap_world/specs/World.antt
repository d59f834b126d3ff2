-- Both ends over events, alone or with a pass-through between them: what was sent, the book of
-- tags, what each event does, and the run.
use Rattle.std.specs.Prelude.{◌≡◌, ◌≤◌, ℕ, ◌+◌, ◌*◌, List, [], ◌∷◌, ◌++◌, length, take, drop, Bool}
use Rattle.std.specs.Prelude.{true, false, not, nat_lt, nat_le, if◌then◌else◌, Option, Some, None}
use Rattle.std.specs.Prelude.{slice_index, bit_xor, is_some, is_none, map, option_map}
use Rattle.login_setup.specs.declared.setup.Setup.{Setup}
use Rattle.login_setup.specs.declared.setup.Mode.{Mode}
use Rattle.login_setup.specs.declared.setup.Mode.TheVariants as mode
use Rattle.login_setup.specs.declared.setup.Port.{Port}
use Rattle.login_setup.specs.declared.setup.Port.TheVariants as port
use Rattle.login_setup.specs.declared.setup.Party.{Party}
use Rattle.login_setup.specs.declared.setup.Party.TheVariants as party
use Rattle.login_setup.specs.declared.event.Event.{Event}
use Rattle.login_setup.specs.declared.event.Event.TheVariants as event
use Rattle.eap_packet.specs.declared.state.State.{State}
use Rattle.eap_method.specs.Peer.{PeerShown, PeerViews, have_each, peer_kinds}
use Rattle.eap_method.specs.Server.{ServerShown, server_kinds, ServerViews}
use Rattle.eap_method.specs.Steps.{Step, step_with, is_end}
use Rattle.eap_method.specs.Tags.{Tags, no_tags}
use Rattle.eap_method.specs.Unnamed.{PreservesPeers, PreservesServers}
use Rattle.eap_method.specs.declared.values.Report.{Report}
use Rattle.peer_machine.specs.Inputs as peer_inputs
use Rattle.peer_machine.specs.Inputs.{PeerInput, peer_accepts}
use Rattle.peer_machine.specs.PeerTable as peers
use Rattle.peer_machine.specs.PeerTable.{PeerValue, PeerNow, initial_peer, peer_reports}
use Rattle.server_machine.specs.Inputs as server_inputs
use Rattle.server_machine.specs.Inputs.{ServerInput, server_accepts}
use Rattle.server_machine.specs.ServerTable as servers
use Rattle.server_machine.specs.ServerTable.{ServerValue, ServerNow, initial_server, server_reports}
use Rattle.server_machine.specs.ServerTable.{is_ready, is_started}
use Rattle.server_machine.specs.declared.variables.Role.{Role}
use Rattle.server_machine.specs.declared.variables.Role.TheVariants as role
use Rattle.server_machine.specs.Variables.{ServerVariables}
use Rattle.pass_through.specs.Inputs as pass_inputs
use Rattle.pass_through.specs.Inputs.{PassInput, pass_accepts}
use Rattle.pass_through.specs.PassTable as passes
use Rattle.pass_through.specs.PassTable.{Side, PassStep, initial_pass, is_over, has_timer}
use Rattle.pass_through.specs.PassTable.{is_aaa_idle}
use Rattle.pass_through.specs.declared.variables.PassVariables.{PassVariables}
use Rattle.tag_book.specs.Book.{entries_of}
use Rattle.eap_world.specs.Conversations.{Conversations, initial_conversations, delivered_by}
use Rattle.eap_world.specs.Conversations.{peer_initiates, server_initiates}
use Rattle.eap_world.specs.Sent.{Sent, packet_numbered}
use Rattle.eap_world.specs.declared.act.Action as brief_action
use Rattle.eap_world.specs.declared.act.Action.TheVariants as brief
use Rattle.eap_world.specs.declared.act.CallResult as brief_did
use Rattle.eap_world.specs.declared.act.Machines.{Machines}
use Rattle.tag_book.specs.declared.book.Entry.{Entry}
use Rattle.eap_world.specs.declared.conversations.Waiting.{Waiting}
use Rattle.tag_book.specs.declared.book.End.{End}
use Rattle.tag_book.specs.declared.book.End.TheVariants as end
use Rattle.eap_world.specs.declared.told.Counts.{Counts}
use Rattle.eap_world.specs.declared.told.Named.{Named}
use Rattle.eap_world.specs.declared.told.SentNumber.{SentNumber}
use Rattle.eap_world.specs.declared.told.Brief.{Brief}
use Rattle.eap_world.specs.declared.told.SentPacket.{SentPacket}
use Rattle.eap_world.specs.declared.told.Told.{Told}
use Rattle.eap_world.specs.declared.told.Skip.{Skip}
use Rattle.eap_world.specs.declared.told.Skip.TheVariants.{NoParty, Unsent, Place, Ended, NoTimer}
use Rattle.eap_world.specs.declared.told.Skip.TheVariants.{NoNonce}
use Rattle.eap_world.specs.declared.world.HasReported.{HasReported}

-- a world as its fields show it: its mode, its machines, the packets sent so far in order and how
-- many octets are stored for them, the book of tags, the counts, which ends have had a report in
-- their present conversations, the conversations, the version of the scenario's text, and whether
-- the world has started
pub record WorldValue (P S : Type 0) : Type 0 where
  pub mode : Mode
  pub peer : PeerValue P
  pub server : ServerValue S
  pub pass : PassVariables
  pub sent : List Sent
  pub stored : ℕ
  pub book : List Entry
  pub counts : Counts
  pub held : HasReported
  pub conversations : Conversations
  pub version : ℕ
  pub started : Bool

-- in which mode the parties run, and what they are, if the objects show their methods and views; in
-- mode alone nothing comes to the pass-through
pub record Parties : Type 0 where
  pub mode : Mode
  pub peer : PeerNow
  pub server : ServerNow
  pub pass : PassVariables

-- the same of a whole world
pub record WorldNow : Type 0 where
  pub parties : Parties
  pub sent : List Sent
  pub book : List Entry
  pub counts : Counts
  pub held : HasReported
  pub conversations : Conversations
  pub version : ℕ
  pub started : Bool

abbrev pub parties_of : {P S : Type 0} → (P → PeerShown) → (S → ServerShown)
    → Machines P S → Parties
parties_of peer_shown server_shown m =
    record {
      mode = m.mode;
      peer = peers.now_of peer_shown m.peer;
      server = servers.now_of server_shown m.server;
      pass = m.pass;
    }

-- what a world is, if the objects show their methods and views
abbrev pub now_of : {P S : Type 0} → (P → PeerShown) → (S → ServerShown) → WorldValue P S → WorldNow
now_of peer_shown server_shown w = record {
  parties = record {
    mode = w.mode;
    peer = peers.now_of peer_shown w.peer;
    server = servers.now_of server_shown w.server;
    pass = w.pass;
  };
  sent = w.sent;
  book = w.book;
  counts = w.counts;
  held = w.held;
  conversations = w.conversations;
  version = w.version;
  started = w.started;
}

-- the objects of both ends, which name these methods, are of the same methods before and after, and
-- those of methods that aren't named are as they were
pub record PreservesObjects {P S : Type 0} (peer_shown : P → PeerShown)
    (server_shown : S → ServerShown) (peer_named server_named : List ℕ)
    (peer : List P) (server : List S) (peer_after : List P) (server_after : List S) : Type 0 where
  pub peer_preserved : PreservesPeers peer_named (map peer_shown peer) (map peer_shown peer_after)
  pub server_preserved : PreservesServers server_named (map server_shown server)
      (map server_shown server_after)

abbrev pub PreservesAllObjects : {P S : Type 0} → (P → PeerShown) → (S → ServerShown)
    → WorldValue P S → WorldValue P S → Type 0
PreservesAllObjects peer_shown server_shown before after =
    PreservesObjects peer_shown server_shown before.peer.vars.setup.methods
    before.server.vars.setup.methods before.peer.methods before.server.methods after.peer.methods
    after.server.methods

-- the machines run in the same mode before and after, over the same objects, and their settings
-- name the same methods
pub record RunAlike {P S : Type 0} (peer_shown : P → PeerShown) (server_shown : S → ServerShown)
    (before after : Machines P S) : Type 0 where
  pub mode : after.mode ≡ before.mode
  pub kept : PreservesObjects peer_shown server_shown before.peer.vars.setup.methods
      before.server.vars.setup.methods before.peer.methods before.server.methods after.peer.methods
      after.server.methods
  pub peer_named : after.peer.vars.setup.methods ≡ before.peer.vars.setup.methods
  pub server_named : after.server.vars.setup.methods ≡ before.server.vars.setup.methods

-- the settings of both ends name the same methods before and after
pub record NamesAlike {P S : Type 0} (before after : WorldValue P S) : Type 0 where
  pub peer_named : after.peer.vars.setup.methods ≡ before.peer.vars.setup.methods
  pub server_named : after.server.vars.setup.methods ≡ before.server.vars.setup.methods

-- each method that an end's settings name has an object
pub record HaveObjects {P S : Type 0} (peer_shown : P → PeerShown) (server_shown : S → ServerShown)
    (of_peer : PeerValue P) (of_server : ServerValue S) : Type 0 where
  pub peer : have_each (peer_kinds (map peer_shown of_peer.methods)) of_peer.vars.setup.methods
      ≡ true
  pub server : have_each (server_kinds
      (map server_shown of_server.methods)) of_server.vars.setup.methods ≡ true

abbrev pub HasObjects : {P S : Type 0} → (P → PeerShown) → (S → ServerShown)
    → WorldValue P S → Type 0
HasObjects peer_shown server_shown w = HaveObjects peer_shown server_shown w.peer w.server

-- the server answers by itself, or behind the pass-through
abbrev pub role_in : Mode → Role
role_in mode.Alone = role.StandAlone
role_in mode.Through = role.Backend

-- the world before its start, of ends that have these objects
abbrev pub initial_world : Setup → PeerViews → ServerViews → WorldNow
initial_world setup peer server = record {
  parties = record {
    mode = setup.mode;
    peer = initial_peer setup.peer peer;
    server =
        initial_server (role_in setup.mode) setup.server server setup.first_id setup.max_retrans;
    pass = initial_pass setup.first_id setup.max_retrans;
  };
  sent = [];
  book = [];
  counts = record { events = 0; deliveries = 0; discards = 0 };
  held = record { peer = false; server = false };
  conversations = initial_conversations setup;
  version = setup.later.version;
  started = false;
}

-- the state of a party, and what it reports; the pass-through is there in its mode alone, and
-- reports nothing
abbrev pub pass_state : Mode → PassVariables → Option State
pass_state mode.Alone pass = None
pass_state mode.Through pass = Some pass.state

abbrev pub state_of : Parties → Party → Option State
state_of parties party.Peer = Some parties.peer.vars.state
state_of parties party.Pass = pass_state parties.mode parties.pass
state_of parties party.Server = Some parties.server.vars.state

abbrev pub report_of : Parties → Party → Option Report
report_of parties party.Peer = peer_reports parties.peer
report_of parties party.Pass = None
report_of parties party.Server = server_reports parties.server

-- the port to which a party's packets go: from end to end alone, through the pass-through else.
-- What the pass-through sends of its own goes to the peer
abbrev pub port_to : Party → Mode → Port
port_to party.Peer mode.Alone = port.Server
port_to party.Peer mode.Through = port.PassPeer
port_to party.Server mode.Alone = port.Peer
port_to party.Server mode.Through = port.PassServer
port_to party.Pass mode = port.Peer

-- nobody is at a port: the pass-through's two are there in its mode alone
abbrev pub is_absent : Mode → Port → Bool
is_absent mode.Through port = false
is_absent mode.Alone port.Peer = false
is_absent mode.Alone port.Server = false
is_absent mode.Alone port.PassPeer = true
is_absent mode.Alone port.PassServer = true

-- ---- an event is skipped, or is a call of one party

-- a call of one party, with what comes to it
pub data Call : Type 0 where
  to_peer : PeerInput → Call
  to_server : ServerInput → Call
  to_pass : PassInput → Call

abbrev pub is_delivery : Call → Bool
is_delivery (to_peer (peer_inputs.octets octets)) = true
is_delivery (to_server (server_inputs.octets octets)) = true
is_delivery (to_pass (pass_inputs.from_peer octets)) = true
is_delivery (to_pass (pass_inputs.from_backend octets)) = true
is_delivery _ = false

abbrev pub octets_of : Option Sent → List ℕ
octets_of None = []
octets_of (Some packet) = packet.octets

-- the octets with the one at a place combined with a mask by exclusive or
abbrev pub alteration : List ℕ → ℕ → ℕ → List ℕ
alteration octets place mask =
    take place octets ++ bit_xor (slice_index octets place) mask ∷ drop (place + 1) octets

-- nobody is at the port of a packet
abbrev pub is_undeliverable : Mode → Option Sent → Bool
is_undeliverable mode None = false
is_undeliverable mode (Some packet) = is_absent mode packet.port

-- the skips that an event may come to, in their order, each with its condition
abbrev pub packet_skips : Mode → Option Sent → Bool → List (Bool × Skip)
packet_skips mode packet is_misplaced =
    (is_undeliverable mode packet, NoParty) ∷ (is_none packet, Unsent) ∷ (is_misplaced, Place) ∷ []

abbrev pub is_alone : Mode → Bool
is_alone mode.Alone = true
is_alone mode.Through = false

-- an input of the pass-through in this state, which has a place if a test holds
abbrev pub pass_skips : Mode → State → Bool → List (Bool × Skip)
pass_skips runs state is_placed =
    (is_alone runs, NoParty) ∷ (is_over state, Ended) ∷ (not is_placed, NoTimer) ∷ []

abbrev pub timer_skips : Parties → Party → List (Bool × Skip)
timer_skips parties party.Peer = (is_end parties.peer.vars.state, Ended) ∷ (true, NoTimer) ∷ []
timer_skips parties party.Pass =
    pass_skips parties.mode parties.pass.state (has_timer parties.pass.state)
timer_skips parties party.Server =
    (is_end parties.server.vars.state, Ended) ∷ (not (is_alone parties.mode), NoTimer) ∷ []

-- of the server behind it: it is lost, or has nothing to ask
abbrev pub aaa_skips : Parties → List (Bool × Skip)
aaa_skips parties = pass_skips parties.mode parties.pass.state (is_aaa_idle parties.pass.state)

-- an end begins a new conversation if it has a nonce left, the pass-through if it is there
abbrev pub has_none : List Waiting → Bool
has_none [] = true
has_none (one ∷ left) = false

abbrev pub restart_skips : Parties → Conversations → Party → List (Bool × Skip)
restart_skips parties conversations party.Peer = (has_none conversations.peer_left, NoNonce) ∷ []
restart_skips parties conversations party.Pass = (is_alone parties.mode, NoParty) ∷ []
restart_skips parties conversations party.Server =
    (has_none conversations.server_left, NoNonce) ∷ []

abbrev pub skip_table : Parties → Conversations → List Sent → Event → List (Bool × Skip)
skip_table parties conversations sent (event.Deliver n) =
    packet_skips parties.mode (packet_numbered sent n) false
skip_table parties conversations sent (event.Alter n place mask) =
    let packet = packet_numbered sent n in
    packet_skips parties.mode packet (nat_le (length (octets_of packet)) place)
skip_table parties conversations sent (event.Cut n keep) =
    let packet = packet_numbered sent n in
    packet_skips parties.mode packet (nat_lt (length (octets_of packet)) keep)
skip_table parties conversations sent (event.Inject port octets) =
    (is_absent parties.mode port, NoParty) ∷ []
skip_table parties conversations sent (event.Timeout party) = timer_skips parties party
skip_table parties conversations sent event.AaaTimeout = aaa_skips parties
skip_table parties conversations sent event.AaaNoReq = aaa_skips parties
skip_table parties conversations sent (event.Restart party) =
    restart_skips parties conversations party
skip_table parties conversations sent _ = (is_end parties.peer.vars.state, Ended) ∷ []

-- the first skip whose condition holds
abbrev pub first_skip : List (Bool × Skip) → Option Skip
first_skip [] = None
first_skip ((test, skip) ∷ rest) = if test then Some skip else first_skip rest

-- the call that an event is if none of them holds; None if nobody is to be called
abbrev pub call_at : Port → List ℕ → Call
call_at port.Peer octets = to_peer (peer_inputs.octets octets)
call_at port.Server octets = to_server (server_inputs.octets octets)
call_at port.PassPeer octets = to_pass (pass_inputs.from_peer octets)
call_at port.PassServer octets = to_pass (pass_inputs.from_backend octets)

abbrev pub call_with : Option Sent → List ℕ → Option Call
call_with None octets = None
call_with (Some packet) octets = Some (call_at packet.port octets)

abbrev pub timer_call : Party → Call
timer_call party.Pass = to_pass pass_inputs.timeout
timer_call _ = to_server server_inputs.timeout

abbrev pub lower_layer_call : Event → Option Call
lower_layer_call event.Idle = Some (to_peer peer_inputs.idle)
lower_layer_call event.AltAccept = Some (to_peer peer_inputs.alt_accept)
lower_layer_call event.AltReject = Some (to_peer peer_inputs.alt_reject)
lower_layer_call _ = None

-- an end begins with the next of its nonces
abbrev pub next_call : (List ℕ → Call) → List Waiting → Option Call
next_call make [] = None
next_call make (one ∷ left) = Some (make one.nonce)

abbrev pub restart_call : Conversations → Party → Option Call
restart_call conversations party.Peer =
    next_call (λ nonce. to_peer (peer_inputs.restart nonce)) conversations.peer_left
restart_call conversations party.Pass = Some (to_pass pass_inputs.restart)
restart_call conversations party.Server =
    next_call (λ nonce. to_server (server_inputs.restart nonce)) conversations.server_left

abbrev pub call_of : Conversations → List Sent → Event → Option Call
call_of conversations sent (event.Deliver n) =
    let packet = packet_numbered sent n in call_with packet (octets_of packet)
call_of conversations sent (event.Alter n place mask) = let packet = packet_numbered sent n in
    call_with packet (alteration (octets_of packet) place mask)
call_of conversations sent (event.Cut n keep) =
    let packet = packet_numbered sent n in call_with packet (take keep (octets_of packet))
call_of conversations sent (event.Inject port octets) = Some (call_at port octets)
call_of conversations sent (event.Timeout party) = Some (timer_call party)
call_of conversations sent event.AaaTimeout = Some (to_pass pass_inputs.aaa_timeout)
call_of conversations sent event.AaaNoReq = Some (to_pass pass_inputs.aaa_noreq)
call_of conversations sent (event.Restart party) = restart_call conversations party
call_of conversations sent e = lower_layer_call e

-- what a call of a party did, with what it wrote: the party, whether octets were delivered to it,
-- the port to which what it sends goes, and its step
pub record CallResult : Type 0 where
  pub party : Party
  pub is_delivery : Bool
  pub port : Port
  pub step : Step

-- the result of an event: it was skipped, or a party was called
pub data Action : Type 0 where
  Skipped : Skip → Action
  Called : CallResult → Action

-- the action of a call that answers so, with the packet and the records that it wrote
abbrev pub did_with : brief_did.CallResult → List ℕ → Tags → CallResult
did_with did packet tags =
    record {
      party = did.party;
      is_delivery = did.is_delivery;
      port = did.port;
      step = step_with did.step packet tags;
    }

abbrev pub action_with : brief_action.Action → List ℕ → Tags → Action
action_with (brief.Skipped skip) packet tags = Skipped skip
action_with (brief.Called did) packet tags = Called (did_with did packet tags)

-- what a start or an event does to the parties: what was done, and the parties after it
pub record Acted : Type 0 where
  pub action : Action
  pub after : Parties

abbrev pub act_with : Action → Parties → Acted
act_with action after = record { action = action; after = after }

abbrev pub act_of_skip : Parties → Skip → Acted
act_of_skip parties skip = act_with (Skipped skip) parties

-- what a call did that answers so, with what it wrote into the machines after it
abbrev pub acted_with : {P S : Type 0} → (P → PeerShown) → (S → ServerShown) → brief_action.Action
    → Machines P S → Acted
acted_with peer_shown server_shown action after =
    act_with (action_with action after.packet after.tags) (parties_of peer_shown server_shown after)

abbrev pub did_at : Party → Port → Bool → Step → CallResult
did_at party port is_delivery
    step = record { party = party; is_delivery = is_delivery; port = port; step = step }

abbrev pub did_by : Mode → Party → Bool → Step → CallResult
did_by mode party is_delivery step = did_at party (port_to party mode) is_delivery step

-- what the pass-through does, whose packets go to the end on a side of it
abbrev pub pass_port : Side → Port
pass_port passes.Peer = port.Peer
pass_port passes.Server = port.Server

abbrev pub did_pass : PassInput → PassStep → CallResult
did_pass input step =
    did_at party.Pass (pass_port step.to) (is_delivery (to_pass input))
    (record { path = step.path; cause = step.cause; sent = step.sent; tags = no_tags })

abbrev pub act_of_call : Parties → Call → Acted
act_of_call parties (to_peer input) =
    let out = peer_accepts parties.peer input in
    act_with (Called (did_by parties.mode party.Peer (is_delivery (to_peer input)) out.step))
    (record parties { peer = out.after })
act_of_call parties (to_server input) =
    let out = server_accepts parties.server input in
    act_with (Called (did_by parties.mode party.Server (is_delivery (to_server input)) out.step))
    (record parties { server = out.after })
act_of_call parties (to_pass input) =
    let out = pass_accepts parties.pass input in
    act_with (Called (did_pass input out.step)) (record parties { pass = out.after })

abbrev pub called_unless : Parties → Option Skip → Option Call → Acted
called_unless parties (Some skip) call = act_of_skip parties skip
called_unless parties None None = act_of_skip parties NoParty
called_unless parties None (Some call) = act_of_call parties call

-- what an event does to the parties, if these conversations have begun and these packets were sent
-- before it
unfoldable pub act : Parties → Conversations → List Sent → Event → Acted
act parties conversations sent e =
    called_unless parties (first_skip (skip_table parties conversations sent e))
    (call_of conversations sent e)

-- ---- what a call does to the conversations: nonces are searched for in octets that are delivered,
-- and an end that begins a new one takes the next of its nonces; in the event of this number

abbrev pub delivered_in_call : Conversations → Option (List ℕ) → Conversations
delivered_in_call conversations None = conversations
delivered_in_call conversations (Some octets) = delivered_by octets conversations

-- the octets that a call delivers to its party
abbrev pub peer_octets : PeerInput → Option (List ℕ)
peer_octets (peer_inputs.octets octets) = Some octets
peer_octets _ = None

abbrev pub server_octets : ServerInput → Option (List ℕ)
server_octets (server_inputs.octets octets) = Some octets
server_octets _ = None

abbrev pub pass_octets : PassInput → Option (List ℕ)
pass_octets (pass_inputs.from_peer octets) = Some octets
pass_octets (pass_inputs.from_backend octets) = Some octets
pass_octets _ = None

abbrev pub call_octets : Call → Option (List ℕ)
call_octets (to_peer input) = peer_octets input
call_octets (to_server input) = server_octets input
call_octets (to_pass input) = pass_octets input

abbrev pub conversations_after : ℕ → Conversations → Call → Conversations
conversations_after event conversations (to_peer (peer_inputs.restart nonce)) =
    peer_initiates event conversations conversations.peer_left
conversations_after event conversations (to_server (server_inputs.restart nonce)) =
    server_initiates event conversations conversations.server_left
conversations_after event conversations call = delivered_in_call conversations (call_octets call)

abbrev pub conversed_unless : ℕ → Conversations → Option Skip → Option Call → Conversations
conversed_unless event conversations (Some skip) call = conversations
conversed_unless event conversations None None = conversations
conversed_unless event conversations None (Some call) = conversations_after event conversations call

-- of an event
unfoldable pub conversed_by : ℕ → Parties → Conversations → List Sent → Event → Conversations
conversed_by event parties conversations sent e =
    conversed_unless event conversations (first_skip (skip_table parties conversations sent e))
    (call_of conversations sent e)

-- ---- how the machines do it

-- they answer so, this is what was done and what the parties are after it, and these are the
-- conversations then; they run alike before and after
pub record Does {P S : Type 0} (peer_shown : P → PeerShown) (server_shown : S → ServerShown)
    (before : Machines P S) (action : brief_action.Action)
    (after : Machines P S) (out : Acted) (conversations : Conversations) : Type 0 where
  pub acts : out ≡ acted_with peer_shown server_shown action after
  pub heard : after.conversations ≡ conversations
  pub alike : RunAlike peer_shown server_shown before after

-- a call that is made if nothing skips it
abbrev pub DoesCall : {P S : Type 0} → (P → PeerShown) → (S → ServerShown) → Machines P S
    → brief_action.Action → Machines P S
    → Option Skip → Option Call → Type 0
DoesCall peer_shown server_shown before action after skip call =
    Does peer_shown server_shown before action after
    (called_unless (parties_of peer_shown server_shown before) skip call)
    (conversed_unless before.event before.conversations skip call)

-- ---- what is read off an action

-- what it sends
abbrev pub sent_to : Port → Option (List ℕ) → List Sent
sent_to port None = []
sent_to port (Some octets) = record { port = port; octets = octets } ∷ []

abbrev pub sent_by : Action → List Sent
sent_by (Skipped skip) = []
sent_by (Called did) = sent_to did.port did.step.sent

-- what it writes into the book; only the ends make and accept tags
abbrev pub end_of : Party → Option End
end_of party.Peer = Some end.Peer
end_of party.Pass = None
end_of party.Server = Some end.Server

abbrev pub booked_of : ℕ → Option End → Tags → List Entry
booked_of event None tags = []
booked_of event (Some end) tags = entries_of event end tags

abbrev pub booked_by : ℕ → Action → List Entry
booked_by event (Skipped skip) = []
booked_by event (Called did) = booked_of event (end_of did.party) did.step.tags

-- the counts with one more event, which is a delivery or not, and discarded or not
abbrev pub one_if : Bool → ℕ
one_if b = if b then 1 else 0

abbrev pub counts_after : Counts → Action → Counts
counts_after c (Skipped skip) = record c { events = c.events + 1 }
counts_after c (Called did) = record {
  events = c.events + 1;
  deliveries = c.deliveries + one_if did.is_delivery;
  discards = c.discards + one_if (is_some did.step.cause);
}

-- the report that the end which acted has for the first time, and which ends have then had one
abbrev pub named_as : Party → Report → Named
named_as party report = record { party = party; report = report }

abbrev pub first_report : Bool → Party → Option Report → Option Named
first_report was party report = if was then None else option_map (named_as party) report

abbrev pub has_reported : HasReported → Party → Bool
has_reported held party.Peer = held.peer
has_reported held party.Pass = false
has_reported held party.Server = held.server

abbrev pub named_by : HasReported → Parties → Action → Option Named
named_by held after (Skipped skip) = None
named_by held after (Called did) =
    first_report (has_reported held did.party) did.party (report_of after did.party)

abbrev pub held_by : HasReported → Party → HasReported
held_by held party.Peer = record held { peer = true }
held_by held party.Pass = held
held_by held party.Server = record held { server = true }

abbrev pub reported_after : HasReported → Option Named → HasReported
reported_after held None = held
reported_after held (Some named) = held_by held named.party

-- an end that begins a new conversation has no report in it yet
abbrev pub reported_anew : HasReported → Call → HasReported
reported_anew held (to_peer (peer_inputs.restart nonce)) = record held { peer = false }
reported_anew held (to_server (server_inputs.restart nonce)) = record held { server = false }
reported_anew held call = held

abbrev pub reported_unless : HasReported → Option Skip → Option Call → HasReported
reported_unless held (Some skip) call = held
reported_unless held None None = held
reported_unless held None (Some call) = reported_anew held call

-- just before an event
unfoldable pub reported_before : HasReported → Parties → Conversations → List Sent → Event
    → HasReported
reported_before held parties conversations sent e =
    reported_unless held (first_skip (skip_table parties conversations sent e))
    (call_of conversations sent e)

-- its result: the number of its event, that of the packet it sends, and a first report
abbrev pub sent_packet : ℕ → Port → Option (List ℕ) → Option SentNumber
sent_packet number port None = None
sent_packet number port (Some octets) = Some (record { number = number; port = port })

abbrev pub told_of : ℕ → ℕ → Option Named → Action → Brief
told_of event number named (Skipped skip) =
    record {
      event = event;
      party = None;
      path = [];
      cause = None;
      skip = Some skip;
      sent = None;
      named = None;
    }
told_of event number named (Called did) = record {
  event = event;
  party = Some did.party;
  path = did.step.path;
  cause = did.step.cause;
  skip = None;
  sent = sent_packet number did.port did.step.sent;
  named = named;
}

-- the result of an action that left the machines so, and which ends have then had a report
abbrev pub result_with : {P S : Type 0} → (P → PeerShown) → (S → ServerShown) → HasReported
    → Machines P S → ℕ → ℕ → Action → Brief
result_with peer_shown server_shown held after event number action =
    told_of event number (named_by held (parties_of peer_shown server_shown after) action) action

abbrev pub reported_with : {P S : Type 0} → (P → PeerShown) → (S → ServerShown) → HasReported
    → Machines P S → Action → HasReported
reported_with peer_shown server_shown held after action =
    reported_after held (named_by held (parties_of peer_shown server_shown after) action)

-- the result of a start or an event, and the world after it
pub record WorldOutcome : Type 0 where
  pub told : Brief
  pub after : WorldNow

abbrev pub world_outcome : Brief → WorldNow → WorldOutcome
world_outcome told after = record { told = told; after = after }

-- the call returns this result, and leaves the world after it
abbrev pub IsResult : {P S : Type 0} → (P → PeerShown) → (S → ServerShown) → WorldOutcome → Brief
    → WorldValue P S → Type 0
IsResult peer_shown server_shown out told after =
    out ≡ world_outcome told (now_of peer_shown server_shown after)

-- the world after the parties have acted as the event of this number, with these counts, if these
-- ends had had a report and the conversations are these; it has started
abbrev pub world_acted : WorldNow → ℕ → Counts → HasReported → Conversations → Acted → WorldOutcome
world_acted w event counts held conversations out =
    let named = named_by held out.after out.action in
    world_outcome (told_of event (length w.sent + 1) named out.action)
    (record {
      parties = out.after;
      sent = w.sent ++ sent_by out.action;
      book = w.book ++ booked_by event out.action;
      counts = counts;
      held = reported_after held named;
      conversations = conversations;
      version = w.version;
      started = true;
    })

-- the start: the server, or the pass-through, asks for the identity; it is event 0
abbrev pub start_call : Mode → Call
start_call mode.Alone = to_server server_inputs.start
start_call mode.Through = to_pass pass_inputs.start

unfoldable pub world_start : WorldNow → WorldOutcome
world_start w = world_acted w 0 w.counts w.held w.conversations
    (act_of_call w.parties (start_call w.parties.mode))

-- the next event
unfoldable pub world_step : WorldNow → Event → WorldOutcome
world_step w e =
    let event = w.counts.events + 1 in
    let out = act w.parties w.conversations w.sent e in
    world_acted w event (counts_after w.counts out.action)
    (reported_before w.held w.parties w.conversations w.sent e)
    (conversed_by event w.parties w.conversations w.sent e) out

-- the run: the start, and then the events in order
unfoldable pub run_after : WorldNow → List Event → WorldNow
run_after w [] = w
run_after w (e ∷ rest) = run_after (world_step w e).after rest

-- the result of each of the events
unfoldable pub outcomes_after : WorldNow → List Event → List WorldOutcome
outcomes_after w [] = []
outcomes_after w (e ∷ rest) = world_step w e ∷ outcomes_after (world_step w e).after rest

-- the octets of the packet of a number
abbrev pub octets_numbered : List Sent → ℕ → Option (List ℕ)
octets_numbered sent n = option_map (λ (packet : Sent). packet.octets) (packet_numbered sent n)

-- the octets of the packet that is reported, among those sent so far; none if none is
abbrev pub octets_of_sent : List Sent → Option SentNumber → List ℕ
octets_of_sent sent None = []
octets_of_sent sent (Some packet) = octets_of (packet_numbered sent packet.number)

-- a result that has its packet: without its octets, and these
abbrev pub number_of : SentPacket → SentNumber
number_of sent = record { number = sent.number; port = sent.port }

abbrev pub brief_of : Told → Brief
brief_of told = record {
  event = told.event;
  party = told.party;
  path = told.path;
  cause = told.cause;
  skip = told.skip;
  sent = option_map number_of told.sent;
  named = told.named;
}

abbrev pub packet_octets : Option SentPacket → List ℕ
packet_octets None = []
packet_octets (Some sent) = sent.packet

abbrev pub if_sent : Option SentNumber → List ℕ → List ℕ
if_sent None octets = []
if_sent (Some sent) octets = octets

abbrev pub result_octets : WorldOutcome → List ℕ
result_octets out = octets_of_sent out.after.sent out.told.sent

-- what holds of the server in a world that has started: it has the role of the mode, and octets may
-- come to it
pub record IsServing (mode : Mode) (server : ServerVariables) : Type 0 where
  pub role : server.role ≡ role_in mode
  pub ready : is_ready server ≡ true

-- what holds in every world: it has sent at most one packet an event and one more, has booked at
-- most four tags for each of these, counts no more deliveries and discards than events, and whoever
-- asks for the identity starts with it
pub record IsInRange (mode : Mode) (server : ServerVariables) (pass : PassVariables)
    (sent : List Sent) (book : List Entry) (counts : Counts)
    (started : Bool) : Type 0 where
  pub few_events : counts.events ≤ 1000000
  pub few_sent : length sent ≤ counts.events + one_if started
  pub few_booked : length book ≤ 4 * (counts.events + one_if started)
  pub few_deliveries : counts.deliveries ≤ counts.events
  pub few_discards : counts.discards ≤ counts.events
  pub unstarted : started ≡ false → is_started server ≡ false
  pub waits : started ≡ false → passes.is_started pass.state ≡ false
  pub role : server.role ≡ role_in mode
  pub ready : started ≡ true → is_ready server ≡ true
