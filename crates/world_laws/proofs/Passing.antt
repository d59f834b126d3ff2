-- The pass-through in a run is the pass-through alone over what comes to it, which is what was sent
-- or injected.
use Rattle.std.proofs.Common.{◌≡◌, ℕ, List, [], ◌∷◌, ◌++◌, All, map, take, Option, Some, None, refl}
use Rattle.std.proofs.Common.{sym, ap, subst, ◌∙◌, append_assoc, append-nil}
use Rattle.std.proofs.lemmas.List.Elements.{All-nil, All-cons, All-head, All-tail}
use Rattle.login_setup.specs.declared.event.Event.{Event}
use Rattle.login_setup.specs.declared.event.Event.TheVariants as event
use Rattle.login_setup.specs.declared.setup.Mode.TheVariants as mode
use Rattle.login_setup.specs.declared.setup.Party.{Party}
use Rattle.login_setup.specs.declared.setup.Party.TheVariants as party
use Rattle.login_setup.specs.declared.setup.Port.{Port}
use Rattle.login_setup.specs.declared.setup.Port.TheVariants as port
use Rattle.login_setup.specs.declared.setup.Setup.{Setup}
use Rattle.pass_through.specs.Inputs.{PassInput, pass_accepts}
use Rattle.pass_through.specs.PassTable.{Side, initial_pass}
use Rattle.pass_through.specs.PassTable as passes
use Rattle.pass_through.specs.Runs.{IsCarried, SentOn, pass_after, pass_sends, sent_on}
use Rattle.pass_through.specs.declared.variables.PassVariables.{PassVariables}
use Rattle.pass_through.proofs.Running.{carries_only_received}
use Rattle.eap_world.specs.Conversations.{Conversations}
use Rattle.world_laws.specs.Passing.{IsDelivered, IsOfEvent, IsPassedOn, PassCarries, PassIsAlone}
use Rattle.world_laws.specs.Passing.{PassIsDelivered, PassLearnsNothing, at_port, received_after}
use Rattle.world_laws.specs.Passing.{received_by, received_in, received_by_pass, received_unless}
use Rattle.world_laws.specs.Passing.{delivered, delivered_altered, delivered_cut, if_to_end}
use Rattle.world_laws.specs.Passing.{injected, of_peer, of_server, passed, passed_after, passed_by}
use Rattle.world_laws.specs.Passing.{sent_by_pass, silent, to_ends}
use Rattle.eap_world.specs.Sent.{Sent, packet_numbered}
use Rattle.eap_world.specs.World.{Acted, Call, Parties, WorldNow, act, alteration, call_at, call_of}
use Rattle.eap_world.specs.World.{call_with, act_of_call, called_unless, first_skip, next_call}
use Rattle.eap_world.specs.World.{octets_of, pass_port, restart_call, run_after, sent_by, sent_to}
use Rattle.eap_world.specs.World.{skip_table, start_call, timer_call, to_pass, to_peer, to_server}
use Rattle.eap_world.specs.World.{world_start, world_step}
use Rattle.eap_world.specs.declared.conversations.Waiting.{Waiting}
use Rattle.eap_world.specs.declared.told.Skip.{Skip}
use Rattle.world_laws.specs.Runs.{initial_world}

-- ---- one event

-- what comes to the pass-through, and what is done, where the parties stood so
record Does (parties : Parties) (came : List PassInput) (out : Acted) : Type 0 where
  pub runs : out.after.mode ≡ parties.mode
  pub vars : out.after.pass ≡ pass_after parties.pass came
  pub sent : passed_by out.action ≡ map at_port (pass_sends parties.pass came)

at_its_port : (to : Side) (sent : Option (List ℕ))
    → sent_to (pass_port to) sent ≡ map at_port (sent_on to sent ++ [])
at_its_port to None = refl
at_its_port to (Some octets) = refl

called_does : (parties : Parties) (call : Call)
    → Does parties (received_by call) (act_of_call parties call)
unfolding pass_after pass_sends
called_does parties (to_peer input) = record { runs = refl; vars = refl; sent = refl }
called_does parties (to_server input) = record { runs = refl; vars = refl; sent = refl }
called_does parties (to_pass input) =
    let step = (pass_accepts parties.pass input).step in
    record { runs = refl; vars = refl; sent = at_its_port step.to step.sent }

unless_does : (parties : Parties) (skip : Option Skip) (call : Option Call)
    → Does parties (received_unless skip call) (called_unless parties skip call)
unfolding pass_after pass_sends
unless_does parties (Some skip) call = record { runs = refl; vars = refl; sent = refl }
unless_does parties None None = record { runs = refl; vars = refl; sent = refl }
unless_does parties None (Some call) = called_does parties call

act_does : (w : WorldNow) (e : Event)
    → Does w.parties (received_in w e) (act w.parties w.conversations w.sent e)
unfolding act
act_does w e = unless_does w.parties (first_skip (skip_table w.parties w.conversations w.sent e))
    (call_of w.conversations w.sent e)

-- ---- the run

map_more : (one other : List SentOn)
    → map at_port (one ++ other) ≡ map at_port one ++ map at_port other
map_more [] other = refl
map_more (packet ∷ rest) other = ap (λ (l : List Sent). at_port packet ∷ l) (map_more rest other)

sends_more : (vars : PassVariables) (one other : List PassInput)
    → pass_sends vars (one ++ other) ≡ pass_sends vars one ++ pass_sends (pass_after vars one) other
unfolding pass_after pass_sends
sends_more vars [] other = refl
sends_more vars (input ∷ rest) other =
    let out = pass_accepts vars input in
    let now = sent_on out.step.to out.step.sent in
    ap (λ (l : List SentOn). now ++ l) (sends_more out.after rest other)
    ∙ sym (append_assoc now (pass_sends out.after rest)
    (pass_sends (pass_after out.after rest) other))

after_more : (vars : PassVariables) (one other : List PassInput)
    → pass_after vars (one ++ other) ≡ pass_after (pass_after vars one) other
unfolding pass_after
after_more vars [] other = refl
after_more vars (input ∷ rest) other = after_more (pass_accepts vars input).after rest other

record Proceed (vars : PassVariables) (came : List PassInput) (sent : List Sent)
    (last : PassVariables) : Type 0 where
  pub last_is : last ≡ pass_after vars came
  pub sent_is : sent ≡ map at_port (pass_sends vars came)

joined : (vars next last : PassVariables) (came later : List PassInput) (sent more : List Sent)
    → next ≡ pass_after vars came
    → sent ≡ map at_port (pass_sends vars came) → Proceed next later more last
    → Proceed vars (came ++ later) (sent ++ more) last
joined vars next last came later sent more next_is sent_is g =
    let all_sent = ap (map at_port) (sends_more vars came later)
    ∙ map_more (pass_sends vars came) (pass_sends (pass_after vars came) later) in
    record {
      last_is = g.last_is ∙ (ap (λ (v : PassVariables). pass_after v later) next_is
          ∙ sym (after_more vars came later));
      sent_is = ap (λ (l : List Sent). l ++ more) sent_is
          ∙ (ap (λ (l : List Sent). map at_port (pass_sends vars came) ++ l)
          (g.sent_is ∙ ap (λ (v : PassVariables). map at_port (pass_sends v later)) next_is)
          ∙ sym all_sent);
    }

goes : (w : WorldNow) (events : List Event) → Proceed w.parties.pass (received_after w
    events) (passed_after w events) (run_after w events).parties.pass
unfolding run_after received_after passed_after pass_after pass_sends world_step
goes w [] = record { last_is = refl; sent_is = refl }
goes w (e ∷ rest) =
    let d = act_does w e in
    joined w.parties.pass _ _ (received_in w e) (received_after (world_step w e).after rest)
    _ _ d.vars d.sent (goes (world_step w e).after rest)

run_proceeds : (setup : Setup) (events : List Event)
    → Proceed (initial_pass setup.first_id setup.max_retrans) (received_by_pass setup events)
    (sent_by_pass setup events)
    (run_after (world_start (initial_world setup)).after events).parties.pass
unfolding world_start
run_proceeds setup events =
    let d = called_does (initial_world setup).parties (start_call setup.mode) in
    joined (initial_pass setup.first_id setup.max_retrans) _ _ (received_by (start_call setup.mode))
    _ _ _ d.vars d.sent (goes (world_start (initial_world setup)).after events)

-- ---- by ports

ends_more : (one other : List Sent) → to_ends (one ++ other) ≡ to_ends one ++ to_ends other
unfolding to_ends
ends_more [] other = refl
ends_more (packet ∷ rest) other = ap (if_to_end packet.port packet) (ends_more rest other)
    ∙ by_port packet.port packet (to_ends rest) (to_ends other)
  where
    by_port : (to : Port) (packet : Sent) (xs ys : List Sent)
        → if_to_end to packet (xs ++ ys) ≡ if_to_end to packet xs ++ ys
    by_port port.Peer packet xs ys = refl
    by_port port.Server packet xs ys = refl
    by_port port.PassPeer packet xs ys = refl
    by_port port.PassServer packet xs ys = refl

-- in mode through what an end sends goes to the pass-through, and what that sends to an end
to_the_pass : (sent : Option (List ℕ)) → to_ends (sent_to port.PassPeer sent) ≡ []
unfolding to_ends
to_the_pass None = refl
to_the_pass (Some octets) = refl

to_the_other : (sent : Option (List ℕ)) → to_ends (sent_to port.PassServer sent) ≡ []
unfolding to_ends
to_the_other None = refl
to_the_other (Some octets) = refl

to_an_end : (to : Side) (sent : Option (List ℕ)) → to_ends (sent_to (pass_port to) sent)
    ≡ sent_to (pass_port to) sent
unfolding to_ends
to_an_end passes.Peer None = refl
to_an_end passes.Peer (Some octets) = refl
to_an_end passes.Server None = refl
to_an_end passes.Server (Some octets) = refl

called_ends : (parties : Parties) (call : Call) → parties.mode ≡ mode.Through
    → to_ends (sent_by (act_of_call parties call).action)
    ≡ passed_by (act_of_call parties call).action
called_ends parties (to_peer input) through = rw through (to_the_pass _)
called_ends parties (to_server input) through = rw through (to_the_other _)
called_ends parties (to_pass input) through =
    to_an_end (pass_accepts parties.pass input).step.to (pass_accepts parties.pass input).step.sent

unless_ends : (parties : Parties) (skip : Option Skip) (call : Option Call)
    → parties.mode ≡ mode.Through
    → to_ends (sent_by (called_unless parties skip call).action)
    ≡ passed_by (called_unless parties skip call).action
unfolding to_ends
unless_ends parties (Some skip) call through = refl
unless_ends parties None None through = refl
unless_ends parties None (Some call) through = called_ends parties call through

act_ends : (w : WorldNow) (e : Event) → w.parties.mode ≡ mode.Through
    → (let out = act w.parties w.conversations w.sent e in
    to_ends (sent_by out.action) ≡ passed_by out.action)
unfolding act
act_ends w e through =
    unless_ends w.parties (first_skip (skip_table w.parties w.conversations w.sent e))
    (call_of w.conversations w.sent e) through

one_more : (sent new passing later : List Sent) → to_ends new ≡ passing
    → to_ends (sent ++ new) ++ later ≡ to_ends sent ++ (passing ++ later)
one_more sent new passing later same =
    ap (λ (l : List Sent). l ++ later) (ends_more sent new
    ∙ ap (λ (l : List Sent). to_ends sent ++ l) same) ∙ append_assoc (to_ends sent) passing later

ends_go : (w : WorldNow) (events : List Event) → w.parties.mode ≡ mode.Through
    → to_ends (run_after w events).sent ≡ to_ends w.sent ++ passed_after w events
unfolding run_after passed_after world_step
ends_go w [] through = sym (append-nil (to_ends w.sent))
ends_go w (e ∷ rest) through =
    let d = act_does w e in
    ends_go (world_step w e).after rest (d.runs ∙ through)
    ∙ one_more w.sent (sent_by (act w.parties w.conversations w.sent e).action) _
    (passed_after (world_step w e).after rest) (act_ends w e through)

run_to_ends : (setup : Setup) (events : List Event) → setup.mode ≡ mode.Through
    → to_ends (run_after (world_start (initial_world setup)).after events).sent
    ≡ sent_by_pass setup events
unfolding world_start to_ends
run_to_ends setup events through =
    let made = (initial_world setup).parties in
    let d = called_does made (start_call setup.mode) in
    ends_go (world_start (initial_world setup)).after events (d.runs ∙ through)
    ∙ ap (λ (l : List Sent). l ++ passed_after (world_start (initial_world setup)).after events)
    (called_ends made (start_call setup.mode) through)

pub pass_is_alone : PassIsAlone
pass_is_alone setup events through =
    let g = run_proceeds setup events in
    record { vars = g.last_is; sent = g.sent_is; to_both = run_to_ends setup events through }

-- ---- two runs

-- In a run the pass-through is as its table makes it of its inputs alone, from its first Identifier
-- and MaxRetrans, and so is what it sent (`run_proceeds`). Of two runs with the same inputs both
-- are the same.
pub pass_learns_nothing : PassLearnsNothing
pass_learns_nothing one other events others through too same_id same_max same_came =
    let a = run_proceeds one events in
    let b = run_proceeds other others in
    let made : initial_pass one.first_id one.max_retrans
    ≡ initial_pass other.first_id other.max_retrans = rw (same_id, same_max) refl in
    record {
      vars = a.last_is ∙ (ap (λ (v : PassVariables). pass_after v
          (received_by_pass one events)) made ∙ (ap (pass_after _) same_came ∙ sym b.last_is));
      sent = a.sent_is
          ∙ (ap (λ (v : PassVariables). map at_port (pass_sends v (received_by_pass one events)))
          made
          ∙ (ap (λ (came : List PassInput). map at_port (pass_sends
          (initial_pass other.first_id other.max_retrans) came)) same_came ∙ sym b.sent_is));
    }

-- ---- whence its packets come

all_passed : (first_id : ℕ) (came : List PassInput) (packets : List SentOn)
    → All (IsCarried first_id came) packets
    → All (IsPassedOn first_id came) (map at_port packets)
all_passed first_id came [] all = All-nil (IsPassedOn first_id came)
all_passed first_id came (packet ∷ rest) all =
    All-cons (IsPassedOn first_id came) (at_port packet) (map at_port rest)
    (passed packet (All-head (IsCarried first_id came) packet rest all))
    (all_passed first_id came rest (All-tail (IsCarried first_id came) packet rest all))

-- What the pass-through sent is what its table sends on its inputs alone (`run_proceeds`). Each
-- packet of that is its Identity Request, or one of the inputs without its padding, as
-- `carries_only_received` says of every list of inputs.
pub pass_carries : PassCarries
pass_carries setup events through =
    subst (All (IsPassedOn setup.first_id (received_by_pass setup events)))
    (sym (run_proceeds setup events).sent_is)
    (all_passed setup.first_id (received_by_pass setup events) _
    (carries_only_received setup.first_id setup.max_retrans (received_by_pass setup events)))

-- ---- whence its inputs come

module _ (sent : List Sent) (e : Event) where
  abbrev OfEvent : PassInput → Type 0
  OfEvent input = IsOfEvent sent e input

  -- a call brings nothing else to the pass-through
  record EventYields (call : Call) : Type 0 where
    pub all : All OfEvent (received_by call)

  causes_none : (call : Call) → received_by call ≡ [] → EventYields call
  causes_none call none = record { all = subst (All OfEvent) (sym none) (All-nil OfEvent) }

  causes_one : (input : PassInput) → OfEvent input → EventYields (to_pass input)
  causes_one input is = record { all = All-cons OfEvent input [] is (All-nil OfEvent) }

  at_causes : (to : Port) (octets : List ℕ) → IsDelivered sent e to octets
      → EventYields (call_at to octets)
  at_causes port.Peer octets is = causes_none _ refl
  at_causes port.Server octets is = causes_none _ refl
  at_causes port.PassPeer octets is = causes_one _ (of_peer octets is)
  at_causes port.PassServer octets is = causes_one _ (of_server octets is)

  -- none, or this call
  record MayCause (call : Option Call) : Type 0 where
    pub all : All OfEvent (received_unless None call)

  may_none : MayCause None
  may_none = record { all = All-nil OfEvent }

  may_cause : (call : Call) → EventYields call → MayCause (Some call)
  may_cause call b = record { all = b.all }

  with_causes : (packet : Option Sent) (octets : List ℕ)
      → ((one : Sent) → packet ≡ Some one → IsDelivered sent e one.port octets)
      → MayCause (call_with packet octets)
  with_causes None octets is = may_none
  with_causes (Some packet) octets is = may_cause _ (at_causes packet.port octets (is packet refl))

  timer_causes : (of : Party) → EventYields (timer_call of)
  timer_causes party.Peer = causes_none _ refl
  timer_causes party.Pass = causes_one _ (silent _ refl)
  timer_causes party.Server = causes_none _ refl

  next_causes : (make : List ℕ → Call) → ((nonce : List ℕ) → received_by (make nonce) ≡ [])
      → (left : List Waiting) → MayCause (next_call make left)
  next_causes make none [] = may_none
  next_causes make none (one ∷ left) = may_cause _ (causes_none _ (none one.nonce))

  restart_causes : (conversations : Conversations) (of : Party)
      → MayCause (restart_call conversations of)
  restart_causes conversations party.Peer = next_causes _ (λ nonce. refl) conversations.peer_left
  restart_causes conversations party.Pass = may_cause _ (causes_one _ (silent _ refl))
  restart_causes conversations party.Server =
      next_causes _ (λ nonce. refl) conversations.server_left

-- the octets of a packet that was sent
of_packet : (sent : List Sent) (e : Event) (packet : Option Sent) (make : List ℕ → List ℕ)
    → ((one : Sent) → packet ≡ Some one → IsDelivered sent e one.port (make one.octets))
    → (one : Sent) → packet ≡ Some one → IsDelivered sent e one.port (make (octets_of packet))
of_packet sent e packet make each one is = rw is (each one is)

event_causes : (conversations : Conversations) (sent : List Sent) (e : Event)
    → MayCause sent e (call_of conversations sent e)
event_causes conversations sent (event.Deliver n) =
    with_causes sent _ (packet_numbered sent n) _
    (of_packet sent _ _ (λ (o : List ℕ). o) (λ one is. delivered n one is))
event_causes conversations sent (event.Alter n place mask) =
    with_causes sent _ (packet_numbered sent n) _ (of_packet sent _ _
    (λ (o : List ℕ). alteration o place mask) (λ one is. delivered_altered n place mask one is))
event_causes conversations sent (event.Cut n keep) =
    with_causes sent _ (packet_numbered sent n) _
    (of_packet sent _ _ (λ (o : List ℕ). take keep o) (λ one is. delivered_cut n keep one is))
event_causes conversations sent (event.Inject to octets) =
    may_cause sent _ _ (at_causes sent _ to octets (injected to octets))
event_causes conversations sent (event.Timeout of) = may_cause sent _ _ (timer_causes sent _ of)
event_causes conversations sent event.AaaTimeout =
    may_cause sent _ _ (causes_one sent _ _ (silent _ refl))
event_causes conversations sent event.AaaNoReq =
    may_cause sent _ _ (causes_one sent _ _ (silent _ refl))
event_causes conversations sent event.Idle = may_cause sent _ _ (causes_none sent _ _ refl)
event_causes conversations sent event.AltAccept = may_cause sent _ _ (causes_none sent _ _ refl)
event_causes conversations sent event.AltReject = may_cause sent _ _ (causes_none sent _ _ refl)
event_causes conversations sent (event.Restart of) = restart_causes sent _ conversations of

unless_causes : (sent : List Sent) (e : Event) (skip : Option Skip) (call : Option Call)
    → MayCause sent e call → All (IsOfEvent sent e) (received_unless skip call)
unless_causes sent e (Some skip) call m = All-nil (IsOfEvent sent e)
unless_causes sent e None call m = m.all

pub pass_is_delivered : PassIsDelivered
pass_is_delivered w e =
    unless_causes w.sent e (first_skip (skip_table w.parties w.conversations w.sent e))
    (call_of w.conversations w.sent e) (event_causes w.conversations w.sent e)
