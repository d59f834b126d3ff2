-- Each step of a run is lawful.
use Rattle.std.proofs.Common.{◌≡◌, ◌≤◌, ℕ, ◌+◌, List, [], ◌∷◌, ◌++◌, length, Bool, true, false}
use Rattle.std.proofs.Common.{Option, Some, None, refl, sym, ap, subst, ◌∙◌, append-nil}
use Rattle.std.specs.Prelude.{◌||◌, ◌%◌, not}
use Rattle.std.specs.List.{list_any}
use Rattle.std.proofs.lemmas.Bool.{false≢true, or_right}
use Rattle.login_setup.specs.declared.event.Event.{Event}
use Rattle.login_setup.specs.declared.event.Event.TheVariants as event
use Rattle.login_setup.specs.declared.setup.Mode.{Mode}
use Rattle.login_setup.specs.declared.setup.Mode.TheVariants as mode
use Rattle.login_setup.specs.declared.setup.Party.{Party}
use Rattle.login_setup.specs.declared.setup.Party.TheVariants as party
use Rattle.login_setup.specs.declared.setup.Port.{Port}
use Rattle.login_setup.specs.declared.setup.Port.TheVariants as port
use Rattle.login_setup.specs.declared.setup.Setup.{Setup}
use Rattle.eap_packet.specs.Fault.{code_of}
use Rattle.eap_packet.specs.declared.state.State.{State}
use Rattle.eap_method.specs.Steps.{is_end}
use Rattle.peer_machine.specs.PeerTable as peers
use Rattle.peer_machine.specs.Inputs as peer_inputs
use Rattle.peer_machine.specs.Inputs.{PeerInput, peer_accepts}
use Rattle.server_machine.specs.Inputs as server_inputs
use Rattle.server_machine.specs.Inputs.{ServerInput, server_accepts}
use Rattle.server_machine.specs.ServerTable as servers
use Rattle.server_machine.specs.ServerTable.{is_backend, is_started, server_start}
use Rattle.server_machine.specs.declared.variables.Role.{Role}
use Rattle.server_machine.specs.declared.variables.Role.TheVariants as role
use Rattle.server_machine.proofs.Starting.{stays_as_it_is}
use Rattle.pass_through.specs.Inputs.{PassInput, pass_accepts}
use Rattle.pass_through.specs.PassTable.{Side, is_over}
use Rattle.eap_world.specs.Judgement.{is_success}
use Rattle.eap_world.specs.Conversations.{Conversations}
use Rattle.eap_world.specs.Sent.{Sent, last_to, packet_numbered}
use Rattle.world_laws.specs.SingleSteps.{identifier_of, delivered_in, is_delivery_of, is_restart}
use Rattle.world_laws.specs.SingleSteps.{Sends, AnswersIt, is_again, CountsOn, has_ended, end_state}
use Rattle.world_laws.specs.SingleSteps.{StepsAreLawful}
use Rattle.eap_world.specs.World.{Call, Parties, WorldNow, WorldOutcome, act, call_at, call_of}
use Rattle.eap_world.specs.World.{call_with, act_of_call, called_unless, conversations_after}
use Rattle.eap_world.specs.World.{conversed_by, conversed_unless, first_skip, port_to}
use Rattle.eap_world.specs.World.{reported_anew, reported_before, reported_unless, is_alone}
use Rattle.eap_world.specs.World.{is_delivery, pass_port, pass_state, restart_call, restart_skips}
use Rattle.eap_world.specs.World.{role_in, run_after, sent_to, skip_table, act_of_skip, start_call}
use Rattle.eap_world.specs.World.{state_of, timer_call, timer_skips, to_pass, to_peer, to_server}
use Rattle.eap_world.specs.World.{world_start, world_step}
use Rattle.tag_book.specs.declared.book.End.{End}
use Rattle.tag_book.specs.declared.book.End.TheVariants as end
use Rattle.tag_book.specs.declared.book.Use.TheVariants.{Accepted}
use Rattle.eap_world.specs.declared.told.Skip.{Skip}
use Rattle.world_laws.specs.EndInvariants.{BothInvariants, present_tags}
use Rattle.world_laws.proofs.Acting.{counted_acted, next_is, restart_is, some_call, step_steps}
use Rattle.method_laws.proofs.AsksByMethod.{peer_accepted, server_accepted}
use Rattle.world_laws.proofs.EndInvariants.{InvariantSoFar, start_invariant, step_invariant}
use Rattle.method_laws.proofs.OneMethod.{some_same}
use Rattle.method_laws.proofs.Succeeding.{peer_succeeds, server_succeeds}
use Rattle.world_laws.proofs.LastSent.{IsFitting, HaveSent, call_has_sent, is_first_line}
use Rattle.world_laws.proofs.LastSent.{starts_pass}
use Rattle.world_laws.proofs.PassSpeaks as passing
use Rattle.world_laws.proofs.PassSpeaks.{PassSpeaks, pass_speaks}
use Rattle.world_laws.proofs.PeerSpeaks as peering
use Rattle.world_laws.proofs.PeerSpeaks.{PeerSpeaks, peer_speaks}
use Rattle.world_laws.proofs.ServerSpeaks as serving
use Rattle.world_laws.proofs.ServerSpeaks.{ServerSpeaks, server_speaks}
use Rattle.world_laws.specs.Runs.{initial_world, run_of}
use Rattle.world_laws.proofs.PeerPreserves.{peer_initiates}
use Rattle.world_laws.proofs.ServerPreserves.{server_initiates}
use Rattle.world_laws.proofs.EndTags.{peer_success, peer_tags, server_success, server_tags}

-- ---- a step is a skip, or a call that the event is

pub data StepOf (w : WorldNow) (e : Event) : WorldOutcome → Type 0 where
  is_skipped : (skip : Skip)
      → StepOf w e (counted_acted w w.held w.conversations (act_of_skip w.parties skip))
  is_called : (call : Call)
      (unskipped : first_skip (skip_table w.parties w.conversations w.sent e) ≡ None)
      (is_call : call_of w.conversations w.sent e ≡ Some call)
      → StepOf w e (counted_acted w (reported_anew w.held call)
      (conversations_after (w.counts.events + 1) w.conversations call) (act_of_call w.parties call))

unless_of : (w : WorldNow) (e : Event) (skip : Option Skip) (call : Option Call)
    → first_skip (skip_table w.parties w.conversations w.sent e) ≡ skip
    → call_of w.conversations w.sent e ≡ call
    → StepOf w e
    (counted_acted w (reported_unless w.held skip call) (conversed_unless (w.counts.events + 1)
    w.conversations skip call) (called_unless w.parties skip call))
unless_of w e (Some skip) call skip_is call_is = is_skipped skip
unless_of w e None None skip_is call_is = is_skipped _
unless_of w e None (Some call) skip_is call_is = is_called call skip_is call_is

pub step_of : (w : WorldNow) (e : Event) → StepOf w e (world_step w e)
unfolding act conversed_by reported_before world_step
step_of w e = unless_of w e (first_skip (skip_table w.parties w.conversations w.sent e))
    (call_of w.conversations w.sent e) refl refl

-- ---- what is handed in, and which timer ends

at_peer : (to : Port) (octets bytes : List ℕ)
    → call_at to octets ≡ to_peer (peer_inputs.octets bytes) → bytes ≡ octets
at_peer port.Peer octets bytes e = cc
at_peer port.Server octets bytes e = cc e
at_peer port.PassPeer octets bytes e = cc e
at_peer port.PassServer octets bytes e = cc e

with_peer : (packet : Option Sent) (octets bytes : List ℕ)
    → call_with packet octets ≡ Some (to_peer (peer_inputs.octets bytes)) → bytes ≡ octets
with_peer None octets bytes e = cc e
with_peer (Some packet) octets bytes e = at_peer packet.port octets bytes (some_call _ _ e)

timer_peer : (of : Party) (bytes : List ℕ) {A : Type 0}
    → timer_call of ≡ to_peer (peer_inputs.octets bytes) → A
timer_peer party.Peer bytes e = absurd cc
timer_peer party.Pass bytes e = absurd cc
timer_peer party.Server bytes e = absurd cc

pub passed_to_peer : (conversations : Conversations) (sent : List Sent) (e : Event) (bytes : List ℕ)
    → call_of conversations sent e ≡ Some (to_peer (peer_inputs.octets bytes))
    → bytes ≡ delivered_in sent e
passed_to_peer conversations sent (event.Deliver n) bytes is =
    with_peer (packet_numbered sent n) _ bytes is
passed_to_peer conversations sent (event.Alter n place mask) bytes is =
    with_peer (packet_numbered sent n) _ bytes is
passed_to_peer conversations sent (event.Cut n keep) bytes is =
    with_peer (packet_numbered sent n) _ bytes is
passed_to_peer conversations sent (event.Inject to octets) bytes is =
    at_peer to octets bytes (some_call _ _ is)
passed_to_peer conversations sent (event.Timeout of) bytes is =
    timer_peer of bytes (some_call _ _ is)
passed_to_peer conversations sent event.AaaTimeout bytes is = cc is
passed_to_peer conversations sent event.AaaNoReq bytes is = cc is
passed_to_peer conversations sent event.Idle bytes is = cc is
passed_to_peer conversations sent event.AltAccept bytes is = cc is
passed_to_peer conversations sent event.AltReject bytes is = cc is
passed_to_peer conversations sent (event.Restart of) bytes is =
    restart_is (λ (call : Call). call ≡ to_peer (peer_inputs.octets bytes) → bytes ≡ [])
    (λ nonce same. cc same) (λ same. cc same) (λ nonce same. cc same)
    conversations of _ is refl

at_timer : (to : Port) (octets : List ℕ) {A : Type 0}
    → call_at to octets ≡ to_server server_inputs.timeout → A
at_timer port.Peer octets e = absurd cc
at_timer port.Server octets e = absurd cc
at_timer port.PassPeer octets e = absurd cc
at_timer port.PassServer octets e = absurd cc

with_timer : (packet : Option Sent) (octets : List ℕ) {A : Type 0}
    → call_with packet octets ≡ Some (to_server server_inputs.timeout) → A
with_timer None octets e = absurd cc
with_timer (Some packet) octets e = at_timer packet.port octets (some_call _ _ e)

-- the server's timer ends in mode alone
only_alone : (m : Mode) (over : Bool) (one other : Skip)
    → first_skip ((over, one) ∷ (not (is_alone m), other) ∷ []) ≡ None → m ≡ mode.Alone
only_alone mode.Alone over one other e = refl
only_alone mode.Through true one other e = cc e
only_alone mode.Through false one other e = cc e

never : (over : Bool) (one other : Skip) {A : Type 0}
    → first_skip ((over, one) ∷ (true, other) ∷ []) ≡ None → A
never true one other e = absurd cc
never false one other e = absurd cc

timer_is : (parties : Parties) (of : Party) → first_skip (timer_skips parties of) ≡ None
    → timer_call of ≡ to_server server_inputs.timeout
    → parties.mode ≡ mode.Alone
timer_is parties party.Peer unskipped is = never _ _ _ unskipped
timer_is parties party.Pass unskipped is = absurd cc
timer_is parties party.Server unskipped is = only_alone parties.mode _ _ _ unskipped

server_timer : (parties : Parties) (conversations : Conversations) (sent : List Sent) (e : Event)
    → first_skip (skip_table parties conversations sent e) ≡ None
    → call_of conversations sent e ≡ Some (to_server server_inputs.timeout)
    → parties.mode ≡ mode.Alone
server_timer parties conversations sent (event.Deliver n) unskipped is =
    with_timer (packet_numbered sent n) _ is
server_timer parties conversations sent (event.Alter n place mask) unskipped is =
    with_timer (packet_numbered sent n) _ is
server_timer parties conversations sent (event.Cut n keep) unskipped is =
    with_timer (packet_numbered sent n) _ is
server_timer parties conversations sent (event.Inject to octets) unskipped is =
    at_timer to octets (some_call _ _ is)
server_timer parties conversations sent (event.Timeout of) unskipped is =
    timer_is parties of unskipped (some_call _ _ is)
server_timer parties conversations sent event.AaaTimeout unskipped is = absurd cc
server_timer parties conversations sent event.AaaNoReq unskipped is = absurd cc
server_timer parties conversations sent event.Idle unskipped is = absurd cc
server_timer parties conversations sent event.AltAccept unskipped is = absurd cc
server_timer parties conversations sent event.AltReject unskipped is = absurd cc
server_timer parties conversations sent (event.Restart of) unskipped is =
    restart_is (λ (call : Call). call ≡ to_server server_inputs.timeout → parties.mode ≡ mode.Alone)
    (λ nonce same. cc same) (λ same. cc same) (λ nonce same. cc same) conversations of _ is refl

-- a call in which a party starts, or begins anew
abbrev is_start : Call → Bool
is_start (to_peer (peer_inputs.restart nonce)) = true
is_start (to_server server_inputs.start) = true
is_start (to_server (server_inputs.restart nonce)) = true
is_start (to_pass input) = is_first_line input
is_start call = false

-- ---- what is added to those sent

pub cancel : (xs a b : List Sent) → xs ++ a ≡ xs ++ b → a ≡ b
cancel [] a b e = e
cancel (x ∷ xs) a b e = cancel xs a b cc

pub record IsSent (to : Port) (octets : Option (List ℕ)) (packet : Sent) : Type 0 where
  pub sent : octets ≡ Some packet.octets
  pub port : packet.port ≡ to

pub one_sent : (to : Port) (octets : Option (List ℕ)) (packet : Sent)
    → sent_to to octets ≡ packet ∷ [] → IsSent to octets packet
one_sent to None packet e = cc e
one_sent to (Some octets) packet e =
    let one : Sent = record { port = to; octets = octets } in
    let same : one ≡ packet = cc in
    record {
      sent = ap (λ (p : Sent). Some p.octets) same;
      port = ap (λ (p : Sent). p.port) (sym same);
    }

unsent_none : {A : Type 0} (octets : Option (List ℕ)) (packet : List ℕ) → octets ≡ None
    → octets ≡ Some packet → A
unsent_none octets packet none some = absurd cc

sent_same : (octets : Option (List ℕ)) (one other : List ℕ) → octets ≡ Some one
    → octets ≡ Some other → one ≡ other
sent_same octets one other is is_other = cc

-- ---- what holds in every run

-- the server's role is that of the mode, and alone it has started
pub record ConversationStart (parties : Parties) : Type 0 where
  pub role : parties.server.vars.role ≡ role_in parties.mode
  pub begun : parties.mode ≡ mode.Alone → is_started parties.server.vars ≡ true

pub record Holds (setup : Setup) (w : WorldNow) : Type 0 where
  pub so : InvariantSoFar setup w
  pub said : HaveSent w.parties w.sent
  pub begun : ConversationStart w.parties

-- a server to which octets may come has started, unless it is a backend
alone_started : (backend begun : Bool) → backend ≡ false → (backend || begun) ≡ true → begun ≡ true
alone_started true begun alone ready = cc alone
alone_started false begun alone ready = ready

-- the role of a backend
abbrev is_backend_role : Role → Bool
is_backend_role of = elim of [ role.Backend ↦ true | role.StandAlone ↦ false ]

call_started : (parties : Parties) (call : Call) → ConversationStart parties
    → ConversationStart (act_of_call parties call).after
call_started parties (to_peer input) was = record { role = was.role; begun = was.begun }
call_started parties (to_server input) was =
    let before = parties.server.vars in
    let same = stays_as_it_is parties.server input in
    let of_mode = same.role ∙ was.role in
    record {
      role = of_mode;
      begun = λ alone.
          alone_started _ _ (ap is_backend_role (of_mode ∙ ap role_in alone))
          (same.ready (or_right (is_backend before) (is_started before) (was.begun alone)));
    }
call_started parties (to_pass input) was = record { role = was.role; begun = was.begun }

matches_unstarted : (parties : Parties) (call : Call) → is_start call ≡ false
    → IsFitting parties call
matches_unstarted parties (to_peer input) later alone = refl
matches_unstarted parties (to_server input) later alone = refl
matches_unstarted parties (to_pass input) later alone = later

at_start : (to : Port) (octets : List ℕ) → is_start (call_at to octets) ≡ false
at_start port.Peer octets = refl
at_start port.Server octets = refl
at_start port.PassPeer octets = refl
at_start port.PassServer octets = refl

with_start : (packet : Option Sent) (octets : List ℕ) (call : Call)
    → call_with packet octets ≡ Some call → is_start call ≡ false
with_start None octets call e = cc e
with_start (Some packet) octets call e =
    subst (λ (c : Call). is_start c ≡ false) (some_call _ _ e) (at_start packet.port octets)

timer_start : (of : Party) → is_start (timer_call of) ≡ false
timer_start party.Peer = refl
timer_start party.Pass = refl
timer_start party.Server = refl

other_start : (one call : Call) → is_start one ≡ false → Some one ≡ Some call
    → is_start call ≡ false
other_start one call later e = subst (λ (c : Call). is_start c ≡ false) (some_call _ _ e) later

-- octets come in a delivery alone
at_delivery : (to : Port) (octets : List ℕ) → is_delivery (call_at to octets) ≡ true
at_delivery port.Peer octets = refl
at_delivery port.Server octets = refl
at_delivery port.PassPeer octets = refl
at_delivery port.PassServer octets = refl

this_delivery : (to : Port) (octets : List ℕ) (call : Call) → Some (call_at to octets) ≡ Some call
    → is_delivery call ≡ true
this_delivery to octets call e =
    subst (λ (c : Call). is_delivery c ≡ true) (some_call _ _ e) (at_delivery to octets)

with_delivery : (packet : Option Sent) (octets : List ℕ) (call : Call)
    → call_with packet octets ≡ Some call → is_delivery call ≡ true
with_delivery None octets call e = cc e
with_delivery (Some packet) octets call e = this_delivery packet.port octets call e

of_delivery : (conversations : Conversations) (sent : List Sent) (e : Event) (call : Call)
    → is_delivery_of e ≡ true
    → call_of conversations sent e ≡ Some call → is_delivery call ≡ true
of_delivery conversations sent (event.Deliver n) call delivered is =
    with_delivery (packet_numbered sent n) _ call is
of_delivery conversations sent (event.Alter n place mask) call delivered is =
    with_delivery (packet_numbered sent n) _ call is
of_delivery conversations sent (event.Cut n keep) call delivered is =
    with_delivery (packet_numbered sent n) _ call is
of_delivery conversations sent (event.Inject to octets) call delivered is =
    this_delivery to octets call is
of_delivery conversations sent e call delivered is = absurd (false≢true delivered)

-- no event starts a party but a restart
of_start : (conversations : Conversations) (sent : List Sent) (e : Event) (call : Call)
    → is_restart e ≡ false
    → call_of conversations sent e ≡ Some call → is_start call ≡ false
of_start conversations sent (event.Deliver n) call goes_on is =
    with_start (packet_numbered sent n) _ call is
of_start conversations sent (event.Alter n place mask) call goes_on is =
    with_start (packet_numbered sent n) _ call is
of_start conversations sent (event.Cut n keep) call goes_on is =
    with_start (packet_numbered sent n) _ call is
of_start conversations sent (event.Inject to octets) call goes_on is =
    other_start _ call (at_start to octets) is
of_start conversations sent (event.Timeout of) call goes_on is =
    other_start _ call (timer_start of) is
of_start conversations sent event.AaaTimeout call goes_on is = other_start _ call refl is
of_start conversations sent event.AaaNoReq call goes_on is = other_start _ call refl is
of_start conversations sent event.Idle call goes_on is = other_start _ call refl is
of_start conversations sent event.AltAccept call goes_on is = other_start _ call refl is
of_start conversations sent event.AltReject call goes_on is = other_start _ call refl is
of_start conversations sent (event.Restart of) call goes_on is = cc goes_on

not_alone : (m : Mode) (skip : Skip) → m ≡ mode.Alone
    → first_skip ((is_alone m, skip) ∷ []) ≡ None → ⊥
not_alone mode.Alone skip alone unskipped = cc unskipped
not_alone mode.Through skip alone unskipped = cc alone

restart_matches : (parties : Parties) (conversations : Conversations) (of : Party) (call : Call)
    → first_skip (restart_skips parties conversations of) ≡ None
    → restart_call conversations of ≡ Some call → IsFitting parties call
restart_matches parties conversations party.Peer call unskipped is =
    next_is (IsFitting parties) (λ nonce. to_peer (peer_inputs.restart nonce)) (λ nonce alone. refl)
    conversations.peer_left call is
restart_matches parties conversations party.Pass call unskipped is =
    λ alone. absurd (not_alone parties.mode _ alone unskipped)
restart_matches parties conversations party.Server call unskipped is =
    next_is (IsFitting parties) (λ nonce. to_server (server_inputs.restart nonce))
    (λ nonce alone. refl) conversations.server_left call is

event_matches : (parties : Parties) (conversations : Conversations) (sent : List Sent) (e : Event)
    (call : Call)
    → first_skip (skip_table parties conversations sent e) ≡ None
    → call_of conversations sent e ≡ Some call → IsFitting parties call
event_matches parties conversations sent (event.Restart of) call unskipped is =
    restart_matches parties conversations of call unskipped is
event_matches parties conversations sent e call unskipped is =
    matches_unstarted parties call (of_start conversations sent e call refl is)

step_satisfies : (setup : Setup) (w : WorldNow) (e : Event) (out : WorldOutcome) → StepOf w e out
    → InvariantSoFar setup out.after → Holds setup w
    → Holds setup out.after
step_satisfies setup w e _ (is_skipped skip) so holds =
    record { so = so; said = rw (append-nil w.sent) holds.said; begun = holds.begun }
step_satisfies setup w e _ (is_called call unskipped is_call) so holds = record {
  so = so;
  said = (let stand = holds.so.both in
      call_has_sent w.parties w.sent holds.said call (event_matches w.parties w.conversations w.sent
      e call unskipped is_call) stand.peer_invariant.objects stand.server_invariant.objects);
  begun = call_started w.parties call holds.begun;
}

run_satisfies : (setup : Setup) (w : WorldNow) (events : List Event) → Holds setup w
    → Holds setup (run_after w events)
unfolding run_after
run_satisfies setup w [] holds = holds
run_satisfies setup w (e ∷ rest) holds =
    run_satisfies setup (world_step w e).after rest
    (step_satisfies setup w e (world_step w e) (step_of w e)
    (step_invariant setup w (world_step w e) (step_steps w e) holds.so) holds)

start_matches : (m : Mode) → m ≡ mode.Alone → starts_pass (start_call m) ≡ false
start_matches mode.Alone alone = refl
start_matches mode.Through alone = cc alone

initial_has_sent : (setup : Setup) → (let w = initial_world setup in HaveSent w.parties w.sent)
initial_has_sent setup = record {
  peer = λ id e. cc e;
  server = λ begun going. absurd (false≢true begun);
  pass = λ through goes. absurd (false≢true goes.begun);
  rests = λ alone. refl;
}

start_started : (setup : Setup) (m : Mode) → setup.mode ≡ m
    → ConversationStart (act_of_call (initial_world setup).parties (start_call m)).after
unfolding server_start
start_started setup mode.Alone is = record { role = refl; begun = λ alone. refl }
start_started setup mode.Through is = record {
  role = refl;
  begun = λ alone. absurd (let both : mode.Alone ≡ mode.Through = sym alone ∙ is in cc);
}

start_satisfies : (setup : Setup) → Holds setup (world_start (initial_world setup)).after
unfolding world_start
start_satisfies setup = record {
  so = start_invariant setup;
  said = call_has_sent (initial_world setup).parties [] (initial_has_sent setup)
      (start_call setup.mode) (start_matches setup.mode)
      (peer_initiates setup.peer).objects
      (server_initiates (role_in setup.mode) setup.server setup.first_id setup.max_retrans).objects;
  begun = start_started setup setup.mode refl;
}

pub every_run_satisfies : (setup : Setup) (events : List Event) → Holds setup (run_of setup events)
every_run_satisfies setup events =
    run_satisfies setup (world_start (initial_world setup)).after events (start_satisfies setup)

-- ---- the laws

some_state : (one other : State) → Some one ≡ Some other → one ≡ other
some_state one other e = cc

no_party : {A : Type 0} (of : Party) → ◌≡◌ {A = Option Party} None (Some of) → A
no_party of e = absurd cc

module _ (setup : Setup) (w : WorldNow) (e : Event) (holds : Holds setup w) where
  peer_answers : (input : PeerInput) (packet : Sent)
      → (let out = peer_accepts w.parties.peer input in
      PeerSpeaks w.parties.peer input out → call_of w.conversations w.sent e ≡ Some (to_peer input)
      → out.step.sent ≡ Some packet.octets
      → AnswersIt (delivered_in w.sent e) packet.octets)
  peer_answers input packet (peering.rests _ _ unsent same_id same) is_call sent =
      unsent_none _ _ unsent sent
  peer_answers _ packet (peering.answers bytes answer _ is going is_sent new last_id last)
      is_call sent =
      let same : answer ≡ packet.octets = sent_same _ _ _ is_sent sent in
      let came : bytes ≡ delivered_in w.sent e =
      passed_to_peer w.conversations w.sent e bytes is_call in
      record {
        is_response = ap code_of (sym same) ∙ is.code;
        same = ap identifier_of (sym same) ∙ (is.same ∙ ap identifier_of came);
      }
  peer_answers _ packet (peering.repeats bytes _ was_last going is_sent same_id same) is_call sent =
      let same_octets : w.parties.peer.vars.last_response ≡ packet.octets =
      sent_same _ _ _ is_sent sent in
      let came : bytes ≡ delivered_in w.sent e =
      passed_to_peer w.conversations w.sent e bytes is_call in
      let was = holds.said.peer (identifier_of bytes) was_last in
      record {
        is_response = ap code_of (sym same_octets) ∙ was.is.code;
        same = ap identifier_of (sym same_octets) ∙ (was.is.same ∙ ap identifier_of came);
      }
  peer_answers _ packet (peering.begins nonce _ unsent none) is_call sent =
      unsent_none _ _ unsent sent

  answers_law : (out : WorldOutcome) → StepOf w e out → (packet : Sent)
      → Sends w out party.Peer packet → AnswersIt (delivered_in w.sent e) packet.octets
  answers_law _ (is_skipped skip) packet sends = no_party _ sends.acts
  answers_law _ (is_called (to_peer input) unskipped is_call) packet sends =
      let is = one_sent _ _ packet (cancel w.sent _ _ sends.adds) in
      peer_answers input packet
      (peer_speaks w.parties.peer holds.so.both.peer_invariant.objects input)
      is_call is.sent
  answers_law _ (is_called (to_server input) unskipped is_call) packet sends =
      absurd (let other = sends.acts in cc other)
  answers_law _ (is_called (to_pass input) unskipped is_call) packet sends =
      absurd (let other = sends.acts in cc other)

  -- what is sent again
  peer_again : (input : PeerInput) (octets : List ℕ)
      → (let out = peer_accepts w.parties.peer input in
      PeerSpeaks w.parties.peer input out → list_any is_again out.step.path ≡ true
      → out.step.sent ≡ Some octets
      → last_to (port_to party.Peer w.parties.mode) w.sent ≡ Some octets)
  peer_again input octets (peering.rests _ _ unsent same_id same) again sent =
      unsent_none _ _ unsent sent
  peer_again _ octets (peering.answers bytes answer _ is going is_sent new last_id last)
      again sent = absurd (false≢true (sym new ∙ again))
  peer_again _ octets (peering.repeats bytes _ was_last going is_sent same_id same) again sent =
      (holds.said.peer (identifier_of bytes) was_last).is_last ∙ (sym is_sent ∙ sent)
  peer_again _ octets (peering.begins nonce _ unsent none) again sent = unsent_none _ _ unsent sent

  server_again : (input : ServerInput) (octets : List ℕ)
      → (let out = server_accepts w.parties.server input in
      ServerSpeaks w.parties.server input out
      → (input ≡ server_inputs.timeout → w.parties.mode ≡ mode.Alone)
      → list_any is_again out.step.path ≡ true → out.step.sent ≡ Some octets
      → last_to (port_to party.Server w.parties.mode) w.sent ≡ Some octets)
  server_again input octets (serving.rests unsent same_state same_id same) alone again sent =
      unsent_none _ _ unsent sent
  server_again input octets (serving.asks packet id is going is_sent new current last follows)
      alone again sent = absurd (false≢true (sym new ∙ again))
  server_again input octets (serving.repeats is_timer_input going is_sent same_state same_id same)
      alone again sent =
      (holds.said.server (holds.begun.begun (alone is_timer_input)) going).is_last
      ∙ (sym is_sent ∙ sent)
  server_again input octets (serving.ends going over new each) alone again sent =
      absurd (false≢true (sym new ∙ again))
  server_again input octets (serving.gives_up going over unsent) alone again sent =
      unsent_none _ _ unsent sent
  server_again input octets (serving.awaits nonce is_restart unsent unstarted) alone again sent =
      unsent_none _ _ unsent sent
  server_again input octets (serving.begins nonce is_restart packet id is is_sent new current last)
      alone again sent = absurd (false≢true (sym new ∙ again))

  pass_again : (input : PassInput) (octets : List ℕ) (m : Mode) → w.parties.mode ≡ m
      → (let out = pass_accepts w.parties.pass input in
      PassSpeaks w.parties.pass input out → list_any is_again out.step.path ≡ true
      → out.step.sent ≡ Some octets
      → last_to (pass_port out.step.to) w.sent ≡ Some octets)
  pass_again input octets m is_mode (passing.rests unsent same was still) again sent =
      unsent_none _ _ unsent sent
  pass_again input octets m is_mode (passing.onwards to goes new same) again sent =
      absurd (false≢true (sym new ∙ again))
  pass_again input octets m is_mode (passing.asks packet to going is_sent new last begins)
      again sent = absurd (false≢true (sym new ∙ again))
  pass_again input octets m is_mode (passing.starts_anew is_restart packet to is_sent new last)
      again sent = absurd (false≢true (sym new ∙ again))
  pass_again input octets mode.Alone alone (passing.repeats to goes is_sent same) again sent =
      absurd (false≢true (sym (holds.said.rests alone) ∙ goes.begun))
  pass_again input octets mode.Through through (passing.repeats to goes is_sent same) again sent =
      ap (λ (s : Side). last_to (pass_port s) w.sent) to
      ∙ (holds.said.pass through goes ∙ (sym is_sent ∙ sent))

  repeats_law : (out : WorldOutcome) → StepOf w e out → (of : Party) (packet : Sent)
      → Sends w out of packet → list_any is_again out.told.path ≡ true
      → last_to packet.port w.sent ≡ Some packet.octets
  repeats_law _ (is_skipped skip) of packet sends again = no_party _ sends.acts
  repeats_law _ (is_called (to_peer input) unskipped is_call) of packet sends again =
      let is = one_sent _ _ packet (cancel w.sent _ _ sends.adds) in
      ap (λ (to : Port). last_to to w.sent) is.port ∙ peer_again input packet.octets (peer_speaks
      w.parties.peer holds.so.both.peer_invariant.objects input) again is.sent
  repeats_law _ (is_called (to_server input) unskipped is_call) of packet sends again =
      let is = one_sent _ _ packet (cancel w.sent _ _ sends.adds) in
      ap (λ (to : Port). last_to to w.sent) is.port
      ∙ server_again input packet.octets
      (server_speaks w.parties.server holds.so.both.server_invariant.objects input)
      (λ same. server_timer w.parties w.conversations w.sent e unskipped
      (is_call ∙ ap (λ (i : ServerInput). Some (to_server i)) same)) again is.sent
  repeats_law _ (is_called (to_pass input) unskipped is_call) of packet sends again =
      let is = one_sent _ _ packet (cancel w.sent _ _ sends.adds) in
      ap (λ (to : Port). last_to to w.sent) is.port
      ∙ pass_again input packet.octets w.parties.mode refl (pass_speaks w.parties.pass input)
      again is.sent

  -- the next Identifier
  server_counts : (input : ServerInput) (octets : List ℕ)
      → (let out = server_accepts w.parties.server input in
      ServerSpeaks w.parties.server input out → w.parties.mode ≡ mode.Alone
      → is_delivery (to_server input) ≡ true
      → out.step.sent ≡ Some octets → code_of octets ≡ 1 → CountsOn w.sent octets)
  server_counts input octets (serving.rests unsent same_state same_id same)
      alone delivered sent is_request = unsent_none _ _ unsent sent
  server_counts input octets (serving.asks packet id is going is_sent new current last follows)
      alone delivered sent is_request =
      let after = follows (ap is_backend_role (holds.begun.role ∙ ap role_in alone))
      (λ same.
      false≢true (sym (ap (λ (i : ServerInput). is_delivery (to_server i)) same) ∙ delivered)) in
      let was = holds.said.server (holds.begun.begun alone) going in
      let same_octets : packet ≡ octets = sent_same _ _ _ is_sent sent in
      let before : was.id ≡ after.before = some_same _ _ (sym was.is_id ∙ after.was) in
      record {
        last = w.parties.server.vars.last_request;
        is_last =
            ap (λ (m : Mode). last_to (port_to party.Server m) w.sent) (sym alone) ∙ was.is_last;
        next = ap identifier_of (sym same_octets)
            ∙ (is.same
            ∙ (after.next ∙ ap (λ (n : ℕ). (n + 1) % 256) (sym before ∙ sym was.is.same)));
      }
  server_counts input octets (serving.repeats is_timer_input going is_sent same_state same_id same)
      alone delivered sent is_request =
      absurd (false≢true (sym (ap (λ (i : ServerInput). is_delivery (to_server i)) is_timer_input)
      ∙ delivered))
  server_counts input octets (serving.ends going over new each) alone delivered sent is_request =
      absurd ((each octets sent).code is_request)
  server_counts input octets (serving.gives_up going over unsent) alone delivered sent is_request =
      unsent_none _ _ unsent sent
  server_counts input octets (serving.awaits nonce is_restart_input unsent unstarted)
      alone delivered sent is_request = unsent_none _ _ unsent sent
  server_counts input octets (serving.begins nonce is_restart_input packet id is is_sent new current
      last) alone delivered sent is_request =
      absurd (false≢true (sym (ap (λ (i : ServerInput). is_delivery (to_server i)) is_restart_input)
      ∙ delivered))

  counts_law : (out : WorldOutcome) → StepOf w e out → w.parties.mode ≡ mode.Alone
      → is_delivery_of e ≡ true → (packet : Sent)
      → Sends w out party.Server packet → code_of packet.octets ≡ 1 → CountsOn w.sent packet.octets
  counts_law _ (is_skipped skip) alone delivered packet sends is_request = no_party _ sends.acts
  counts_law _ (is_called (to_peer input) unskipped is_call)
      alone delivered packet sends is_request = absurd (let other = sends.acts in cc other)
  counts_law _ (is_called (to_server input) unskipped is_call)
      alone delivered packet sends is_request =
      let is = one_sent _ _ packet (cancel w.sent _ _ sends.adds) in
      server_counts input packet.octets
      (server_speaks w.parties.server holds.so.both.server_invariant.objects input) alone
      (of_delivery w.conversations w.sent e (to_server input) delivered is_call)
      is.sent is_request
  counts_law _ (is_called (to_pass input) unskipped is_call)
      alone delivered packet sends is_request = absurd (let other = sends.acts in cc other)

  -- the end
  peer_silent : (input : PeerInput) (octets : List ℕ)
      → (let out = peer_accepts w.parties.peer input in
      PeerSpeaks w.parties.peer input out → is_end w.parties.peer.vars.state ≡ true
      → out.step.sent ≡ Some octets → ⊥)
  peer_silent input octets (peering.rests _ _ unsent same_id same) over sent =
      unsent_none _ _ unsent sent
  peer_silent _ octets (peering.answers bytes answer _ is going is_sent new last_id last)
      over sent = false≢true (sym going ∙ over)
  peer_silent _ octets (peering.repeats bytes _ was_last going is_sent same_id same) over sent =
      false≢true (sym going ∙ over)
  peer_silent _ octets (peering.begins nonce _ unsent none) over sent = unsent_none _ _ unsent sent

  server_silent : (input : ServerInput) (octets : List ℕ)
      → (let out = server_accepts w.parties.server input in
      ServerSpeaks w.parties.server input out → is_start (to_server input) ≡ false
      → is_end w.parties.server.vars.state ≡ true
      → out.step.sent ≡ Some octets → ⊥)
  server_silent input octets (serving.rests unsent same_state same_id same) later over sent =
      unsent_none _ _ unsent sent
  server_silent input octets (serving.asks packet id is going is_sent new current last follows)
      later over sent = false≢true (sym going ∙ over)
  server_silent input octets (serving.repeats is_timer_input going is_sent same_state same_id same)
      later over sent = false≢true (sym going ∙ over)
  server_silent input octets (serving.ends going done new each) later over sent =
      false≢true (sym going ∙ over)
  server_silent input octets (serving.gives_up going done unsent) later over sent =
      unsent_none _ _ unsent sent
  server_silent input octets (serving.awaits nonce is_restart_input unsent unstarted)
      later over sent = unsent_none _ _ unsent sent
  server_silent input octets (serving.begins nonce is_restart_input packet id is is_sent new current
      last) later over sent =
      false≢true (sym later ∙ ap (λ (i : ServerInput). is_start (to_server i)) is_restart_input)

  pass_silent : (input : PassInput) (octets : List ℕ)
      → (let out = pass_accepts w.parties.pass input in
      PassSpeaks w.parties.pass input out → is_first_line input ≡ false
      → is_over w.parties.pass.state ≡ true
      → out.step.sent ≡ Some octets → ⊥)
  pass_silent input octets (passing.rests unsent same was still) later over sent =
      unsent_none _ _ unsent sent
  pass_silent input octets (passing.onwards to goes new same) later over sent =
      false≢true (sym goes.going ∙ over)
  pass_silent input octets (passing.asks packet to going is_sent new last begins) later over sent =
      false≢true (sym going ∙ over)
  pass_silent input octets (passing.repeats to goes is_sent same) later over sent =
      false≢true (sym goes.going ∙ over)
  pass_silent input octets (passing.starts_anew is_restart_input packet to is_sent new last)
      later over sent = false≢true (sym later ∙ ap is_first_line is_restart_input)

  pass_over : (m : Mode) (s : State) → pass_state m w.parties.pass ≡ Some s → is_over s ≡ true
      → is_over w.parties.pass.state ≡ true
  pass_over mode.Alone s stands over = cc stands
  pass_over mode.Through s stands over = ap is_over (some_state _ _ stands) ∙ over

  silent_law : (out : WorldOutcome) → StepOf w e out → is_restart e ≡ false
      → (of : Party) (s : State) → state_of w.parties of ≡ Some s → has_ended of s ≡ true
      → (packet : Sent) → Sends w out of packet → ⊥
  silent_law _ (is_skipped skip) goes_on of s stands over packet sends = no_party _ sends.acts
  silent_law _ (is_called (to_peer input) unskipped is_call)
      goes_on party.Peer s stands over packet sends =
      let is = one_sent _ _ packet (cancel w.sent _ _ sends.adds) in
      peer_silent input packet.octets
      (peer_speaks w.parties.peer holds.so.both.peer_invariant.objects
      input) (ap is_end (some_state _ _ stands) ∙ over) is.sent
  silent_law _ (is_called (to_peer input) unskipped is_call)
      goes_on party.Pass s stands over packet sends = let other = sends.acts in cc other
  silent_law _ (is_called (to_peer input) unskipped is_call)
      goes_on party.Server s stands over packet sends = let other = sends.acts in cc other
  silent_law _ (is_called (to_server input) unskipped is_call)
      goes_on party.Peer s stands over packet sends = let other = sends.acts in cc other
  silent_law _ (is_called (to_server input) unskipped is_call)
      goes_on party.Pass s stands over packet sends = let other = sends.acts in cc other
  silent_law _ (is_called (to_server input) unskipped is_call)
      goes_on party.Server s stands over packet sends =
      let is = one_sent _ _ packet (cancel w.sent _ _ sends.adds) in
      server_silent input packet.octets (server_speaks
      w.parties.server holds.so.both.server_invariant.objects input)
      (of_start w.conversations w.sent e
      (to_server input) goes_on is_call) (ap is_end (some_state _ _ stands) ∙ over) is.sent
  silent_law _ (is_called (to_pass input) unskipped is_call)
      goes_on party.Peer s stands over packet sends = let other = sends.acts in cc other
  silent_law _ (is_called (to_pass input) unskipped is_call)
      goes_on party.Pass s stands over packet sends =
      let is = one_sent _ _ packet (cancel w.sent _ _ sends.adds) in
      pass_silent input packet.octets (pass_speaks w.parties.pass input) (of_start w.conversations
      w.sent e (to_pass input) goes_on is_call) (pass_over w.parties.mode s stands over) is.sent
  silent_law _ (is_called (to_pass input) unskipped is_call)
      goes_on party.Server s stands over packet sends = let other = sends.acts in cc other

-- an end in SUCCESS has accepted a tag
one_at_least : (setup : Setup) (w : WorldNow) → BothInvariants setup w → (of : End)
    → is_success (end_state w.parties of) ≡ true
    → 1 ≤ length (present_tags of Accepted w)
one_at_least setup w both end.Peer sure =
    let own = peers.setup_with_nonce setup.peer w.parties.peer.vars.setup.nonce in
    peer_accepted own _ _ _ _ (peer_succeeds own _ _ _ _ (peer_tags both.peer_invariant)
    (peer_success both.peer_invariant sure))
one_at_least setup w both end.Server sure =
    let own = servers.setup_with_nonce setup.server w.parties.server.vars.setup.nonce in
    server_accepted own _ _ _ _ (server_succeeds own _ _ _ _ (server_tags both.server_invariant)
    (server_success both.server_invariant sure))

pub steps_are_lawful : StepsAreLawful
steps_are_lawful setup events e =
    let w = run_of setup events in
    let holds = every_run_satisfies setup events in
    let step = step_of w e in
    let so = step_invariant setup w (world_step w e) (step_steps w e) holds.so in
    record {
      answers = answers_law setup w e holds _ step;
      repeats = repeats_law setup w e holds _ step;
      counts = counts_law setup w e holds _ step;
      silent = silent_law setup w e holds _ step;
      accepted = one_at_least setup _ so.both;
    }
