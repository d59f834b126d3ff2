-- An event is skipped, or is a call of one party.
use Rattle.std.proofs.Common.{◌≡◌, ℕ, ◌+◌, Bool, true, false, List, [], ◌∷◌, length, Option, Some}
use Rattle.std.proofs.Common.{None, refl, sym, ap, subst, ◌∙◌, append-nil}
use Rattle.std.proofs.lemmas.Bool.{false≢true}
use Rattle.login_setup.specs.declared.event.Event.{Event}
use Rattle.login_setup.specs.declared.event.Event.TheVariants as event
use Rattle.login_setup.specs.declared.setup.Port.{Port}
use Rattle.login_setup.specs.declared.setup.Port.TheVariants as port
use Rattle.login_setup.specs.declared.setup.Party.{Party}
use Rattle.login_setup.specs.declared.setup.Party.TheVariants as party
use Rattle.peer_machine.specs.Inputs as peer_inputs
use Rattle.peer_machine.specs.Inputs.{PeerInput}
use Rattle.server_machine.specs.Inputs as server_inputs
use Rattle.server_machine.specs.Inputs.{ServerInput, start}
use Rattle.pass_through.specs.Inputs as pass_inputs
use Rattle.eap_world.specs.Conversations.{Conversations, begins, peer_initiates, server_initiates}
use Rattle.eap_world.specs.World.{Acted, Call, Skipped, WorldNow, WorldOutcome, act, call_at}
use Rattle.eap_world.specs.World.{call_octets, call_of, call_with, act_of_call, called_unless}
use Rattle.eap_world.specs.World.{conversations_after, conversed_by, conversed_unless, counts_after}
use Rattle.eap_world.specs.World.{first_skip, delivered_in_call, reported_anew, reported_before}
use Rattle.eap_world.specs.World.{reported_unless, next_call, restart_call, run_after, skip_table}
use Rattle.eap_world.specs.World.{act_of_skip, timer_call, to_pass, to_peer, to_server, told_of}
use Rattle.eap_world.specs.World.{world_acted, world_outcome, world_step}
use Rattle.eap_world.specs.Sent.{Sent, packet_numbered}
use Rattle.tag_book.specs.declared.book.End.TheVariants as end
use Rattle.eap_world.specs.declared.conversations.Waiting.{Waiting}
use Rattle.eap_world.specs.declared.told.Skip.{Skip}
use Rattle.eap_world.specs.declared.world.HasReported.{HasReported}

-- what comes of the next event: what the parties did, where these ends had held a report and the
-- conversations are these
abbrev pub counted_acted : WorldNow → HasReported → Conversations → Acted → WorldOutcome
counted_acted w held conversations out =
    world_acted w (w.counts.events + 1) (counts_after w.counts out.action) held conversations out

-- a call in which an end begins a new conversation
abbrev pub starts_anew : Call → Bool
starts_anew (to_peer (peer_inputs.restart nonce)) = true
starts_anew (to_server (server_inputs.restart nonce)) = true
starts_anew call = false

-- nothing but the count of events changes, or a party is called: none starts the server, and an end
-- that begins a new conversation does so with the next of its nonces
pub data Steps (w : WorldNow) : WorldOutcome → Type 0 where
  skips : (skip : Skip) → Steps w (world_outcome
      (told_of (w.counts.events + 1) (length w.sent + 1) None (Skipped skip))
      (record w { counts = record w.counts { events = w.counts.events + 1 }; started = true }))
  calls : (call : Call) (later : call ≡ to_server start → ⊥) (same : starts_anew call ≡ false)
      → Steps w (counted_acted w w.held (delivered_in_call w.conversations (call_octets call))
      (act_of_call w.parties call))
  peer_restarts : (one : Waiting) (left : List Waiting)
      (next : w.conversations.peer_left ≡ one ∷ left)
      → Steps w
      (counted_acted w (record w.held { peer = false })
      (begins (w.counts.events + 1) end.Peer one (record w.conversations { peer_left = left }))
      (act_of_call w.parties (to_peer (peer_inputs.restart one.nonce))))
  server_restarts : (one : Waiting) (left : List Waiting)
      (next : w.conversations.server_left ≡ one ∷ left)
      → Steps w
      (counted_acted w (record w.held { server = false })
      (begins (w.counts.events + 1) end.Server one (record w.conversations { server_left = left }))
      (act_of_call w.parties (to_server (server_inputs.restart one.nonce))))

-- ---- the call that an event is

pub some_call : (one other : Call) → Some one ≡ Some other → one ≡ other
some_call one other e = cc

-- what holds of each call of a restart holds of the one that comes of it
module _ (P : Call → Type 0) where
  pub next_is : (make : List ℕ → Call) → ((nonce : List ℕ) → P (make nonce))
      → (left : List Waiting) (call : Call) → next_call make left ≡ Some call → P call
  next_is make each [] call e = cc e
  next_is make each (one ∷ left) call e = subst P (some_call _ _ e) (each one.nonce)

  pub restart_is : ((nonce : List ℕ) → P (to_peer (peer_inputs.restart nonce)))
      → P (to_pass pass_inputs.restart)
      → ((nonce : List ℕ) → P (to_server (server_inputs.restart nonce)))
      → (conversations : Conversations) (of : Party) (call : Call)
      → restart_call conversations of ≡ Some call → P call
  restart_is peer pass server conversations party.Peer call e =
      next_is (λ nonce. to_peer (peer_inputs.restart nonce)) peer conversations.peer_left call e
  restart_is peer pass server conversations party.Pass call e = subst P (some_call _ _ e) pass
  restart_is peer pass server conversations party.Server call e = next_is
      (λ nonce. to_server (server_inputs.restart nonce)) server conversations.server_left call e

-- an end that begins a new conversation has this nonce left
pub data IsNext (conversations : Conversations) : Call → Type 0 where
  goes_on : (call : Call) (later : call ≡ to_server start → ⊥) (same : starts_anew call ≡ false)
      → IsNext conversations call
  peer_next : (one : Waiting) (left : List Waiting) (next : conversations.peer_left ≡ one ∷ left)
      → IsNext conversations (to_peer (peer_inputs.restart one.nonce))
  server_next : (one : Waiting) (left : List Waiting)
      (next : conversations.server_left ≡ one ∷ left)
      → IsNext conversations (to_server (server_inputs.restart one.nonce))

module _ (conversations : Conversations) where
  at_next : (to : Port) (octets : List ℕ) → IsNext conversations (call_at to octets)
  at_next port.Peer octets = goes_on _ (λ e. cc e) refl
  at_next port.Server octets = goes_on _ (λ e. cc e) refl
  at_next port.PassPeer octets = goes_on _ (λ e. cc e) refl
  at_next port.PassServer octets = goes_on _ (λ e. cc e) refl

  with_next : (packet : Option Sent) (octets : List ℕ) (call : Call)
      → call_with packet octets ≡ Some call → IsNext conversations call
  with_next None octets call e = cc e
  with_next (Some packet) octets call e =
      subst (IsNext conversations) (some_call _ _ e) (at_next packet.port octets)

  timer_next : (of : Party) → IsNext conversations (timer_call of)
  timer_next party.Peer = goes_on _ (λ e. cc e) refl
  timer_next party.Pass = goes_on _ (λ e. cc e) refl
  timer_next party.Server = goes_on _ (λ e. cc e) refl

  this_next : (one call : Call) → IsNext conversations one → Some one ≡ Some call
      → IsNext conversations call
  this_next one call next e = subst (IsNext conversations) (some_call _ _ e) next

  peer_left_next : (left : List Waiting) (call : Call) → conversations.peer_left ≡ left
      → next_call (λ nonce. to_peer (peer_inputs.restart nonce)) left ≡ Some call
      → IsNext conversations call
  peer_left_next [] call is e = cc e
  peer_left_next (one ∷ left) call is e = this_next _ call (peer_next one left is) e

  server_left_next : (left : List Waiting) (call : Call) → conversations.server_left ≡ left
      → next_call (λ nonce. to_server (server_inputs.restart nonce)) left ≡ Some call
      → IsNext conversations call
  server_left_next [] call is e = cc e
  server_left_next (one ∷ left) call is e = this_next _ call (server_next one left is) e

  restart_next : (of : Party) (call : Call) → restart_call conversations of ≡ Some call
      → IsNext conversations call
  restart_next party.Peer call e = peer_left_next conversations.peer_left call refl e
  restart_next party.Pass call e = this_next _ call (goes_on _ (λ e. cc e) refl) e
  restart_next party.Server call e = server_left_next conversations.server_left call refl e

  pub of_next : (sent : List Sent) (e : Event) (call : Call)
      → call_of conversations sent e ≡ Some call → IsNext conversations call
  of_next sent (event.Deliver n) call is = with_next (packet_numbered sent n) _ call is
  of_next sent (event.Alter n place mask) call is = with_next (packet_numbered sent n) _ call is
  of_next sent (event.Cut n keep) call is = with_next (packet_numbered sent n) _ call is
  of_next sent (event.Inject to octets) call is = this_next _ call (at_next to octets) is
  of_next sent (event.Timeout of) call is = this_next _ call (timer_next of) is
  of_next sent event.AaaTimeout call is = this_next _ call (goes_on _ (λ e. cc e) refl) is
  of_next sent event.AaaNoReq call is = this_next _ call (goes_on _ (λ e. cc e) refl) is
  of_next sent event.Idle call is = this_next _ call (goes_on _ (λ e. cc e) refl) is
  of_next sent event.AltAccept call is = this_next _ call (goes_on _ (λ e. cc e) refl) is
  of_next sent event.AltReject call is = this_next _ call (goes_on _ (λ e. cc e) refl) is
  of_next sent (event.Restart of) call is = restart_next of call is

-- ---- the step

module _ (w : WorldNow) where
  -- what comes of a call
  abbrev CallSteps : Call → Type 0
  CallSteps call = Steps w (counted_acted w (reported_anew w.held call)
      (conversations_after (w.counts.events + 1) w.conversations call) (act_of_call w.parties call))

  on_steps : (call : Call) → (call ≡ to_server start → ⊥) → starts_anew call ≡ false
      → CallSteps call
  on_steps (to_peer (peer_inputs.octets bytes)) later same = calls _ later same
  on_steps (to_peer peer_inputs.idle) later same = calls _ later same
  on_steps (to_peer peer_inputs.alt_accept) later same = calls _ later same
  on_steps (to_peer peer_inputs.alt_reject) later same = calls _ later same
  on_steps (to_peer (peer_inputs.restart nonce)) later same = cc same
  on_steps (to_server server_inputs.start) later same = absurd (later refl)
  on_steps (to_server server_inputs.timeout) later same = calls _ later same
  on_steps (to_server (server_inputs.octets bytes)) later same = calls _ later same
  on_steps (to_server (server_inputs.restart nonce)) later same = cc same
  on_steps (to_pass input) later same = calls _ later same

  call_steps : (call : Call) → IsNext w.conversations call → CallSteps call
  call_steps call (goes_on _ later same) = on_steps call later same
  call_steps _ (peer_next one left next) =
      subst
      (λ (all : List Waiting). Steps w
      (counted_acted w (record w.held { peer = false })
      (peer_initiates (w.counts.events + 1) w.conversations all)
      (act_of_call w.parties (to_peer (peer_inputs.restart one.nonce)))))
      (sym next) (peer_restarts one left next)
  call_steps _ (server_next one left next) =
      subst
      (λ (all : List Waiting). Steps w
      (counted_acted w (record w.held { server = false })
      (server_initiates (w.counts.events + 1) w.conversations all)
      (act_of_call w.parties (to_server (server_inputs.restart one.nonce)))))
      (sym next) (server_restarts one left next)

  skip_steps : (skip : Skip)
      → Steps w (counted_acted w w.held w.conversations (act_of_skip w.parties skip))
  skip_steps skip = rw (append-nil w.sent, append-nil w.book) (skips skip)

  unless_steps : (skip : Option Skip) (call : Option Call)
      → ((one : Call) → call ≡ Some one → IsNext w.conversations one)
      → Steps w (counted_acted w (reported_unless w.held skip call) (conversed_unless
      (w.counts.events + 1) w.conversations skip call) (called_unless w.parties skip call))
  unless_steps (Some skip) call next = skip_steps skip
  unless_steps None None next = skip_steps _
  unless_steps None (Some call) next = call_steps call (next call refl)

pub step_steps : (w : WorldNow) (e : Event) → Steps w (world_step w e)
unfolding act conversed_by reported_before world_step
step_steps w e =
    unless_steps w (first_skip (skip_table w.parties w.conversations w.sent e))
    (call_of w.conversations w.sent e) (of_next w.conversations w.sent e)

-- what each step keeps holds after every run
module _ (P : WorldNow → Type 0) (each : (w : WorldNow) (out : WorldOutcome) → Steps w out → P w
    → P out.after) where
  pub run_preserves : (w : WorldNow) (events : List Event) → P w → P (run_after w events)
  unfolding run_after
  run_preserves w [] holds = holds
  run_preserves w (e ∷ rest) holds =
      run_preserves (world_step w e).after rest (each w (world_step w e) (step_steps w e) holds)

-- ---- what a call that goes on leaves

-- an input that begins no new conversation
pub peer_same : (input : PeerInput) → starts_anew (to_peer input) ≡ false → (nonce : List ℕ)
    → input ≡ peer_inputs.restart nonce → ⊥
peer_same input same nonce e =
    false≢true (sym same ∙ ap (λ (i : PeerInput). starts_anew (to_peer i)) e)

pub server_same : (input : ServerInput) → starts_anew (to_server input) ≡ false → (nonce : List ℕ)
    → input ≡ server_inputs.restart nonce → ⊥
server_same input same nonce e =
    false≢true (sym same ∙ ap (λ (i : ServerInput). starts_anew (to_server i)) e)

-- octets that are heard begin none
pub still_started : (conversations : Conversations) (octets : Option (List ℕ))
    → (delivered_in_call conversations octets).begun ≡ conversations.begun
still_started conversations None = refl
still_started conversations (Some octets) = refl
