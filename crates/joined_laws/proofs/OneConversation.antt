-- Over an interleaving no end of the world begins a second conversation.
use Rattle.std.proofs.Common.{◌≡◌, ℕ, ◌+◌, List, [], ◌∷◌, length, true, map, Option, Some, None}
use Rattle.std.proofs.Common.{refl, ◌∙◌, ap}
use Rattle.std.proofs.lemmas.Bool.{and_parts}
use Rattle.std.specs.List.{list_all}
use Rattle.login_setup.specs.declared.event.Event.{Event}
use Rattle.login_setup.specs.declared.event.Event.TheVariants as event
use Rattle.login_setup.specs.declared.setup.Party.TheVariants as party
use Rattle.login_setup.specs.declared.setup.Port.TheVariants as port
use Rattle.login_setup.specs.declared.setup.Setup.{Setup}
use Rattle.peer_machine.specs.Inputs as peer_inputs
use Rattle.server_machine.specs.Inputs as server_inputs
use Rattle.eap_world.specs.Conversations.{Conversations}
use Rattle.eap_world.specs.World as world
use Rattle.eap_world.specs.World.{Call, WorldNow, call_of, conversations_after, conversed_by}
use Rattle.eap_world.specs.World.{conversed_unless, first_skip, run_after, skip_table, world_start}
use Rattle.eap_world.specs.World.{world_step}
use Rattle.eap_world.specs.declared.conversations.ConversationStart.{ConversationStart}
use Rattle.eap_world.specs.declared.told.Skip.{Skip}
use Rattle.joined_laws.specs.Joined.{Arrives, event_of, is_input, to_peer, to_server, world_of}
use Rattle.end_pipe.specs.declared.input.EndInput.TheVariants as inputs
use Rattle.world_laws.specs.Runs.{initial_world}

unless_started : (number : ℕ) (all : Conversations) (skip : Option Skip) (call : Call)
    → (conversations_after number all call).begun ≡ all.begun
    → (conversed_unless number all skip (Some call)).begun ≡ all.begun
unless_started number all (Some skip) call same = refl
unless_started number all None call same = same

module _ (w : WorldNow) where
  -- an event that is such a call
  step_started : (e : Event) (call : Call) → call_of w.conversations w.sent e ≡ Some call
      → (conversations_after (w.counts.events + 1) w.conversations call).begun
      ≡ w.conversations.begun
      → (world_step w e).after.conversations.begun ≡ w.conversations.begun
  unfolding conversed_by world_step
  step_started e call is same =
      rw is (unless_started (w.counts.events + 1) w.conversations
      (first_skip (skip_table w.parties w.conversations w.sent e)) call same)

  -- an input is one
  input_started : (input : Arrives) → is_input input ≡ true
      → (world_step w (event_of input)).after.conversations.begun ≡ w.conversations.begun
  input_started (to_peer (inputs.Octets octets)) fits = step_started (event.Inject port.Peer octets)
      (world.to_peer (peer_inputs.octets octets)) refl refl
  input_started (to_peer inputs.Idle) fits =
      step_started event.Idle (world.to_peer peer_inputs.idle) refl refl
  input_started (to_peer inputs.AltAccept) fits =
      step_started event.AltAccept (world.to_peer peer_inputs.alt_accept) refl refl
  input_started (to_peer inputs.AltReject) fits =
      step_started event.AltReject (world.to_peer peer_inputs.alt_reject) refl refl
  input_started (to_peer inputs.Timeout) fits = absurd cc
  input_started (to_server (inputs.Octets octets)) fits =
      step_started (event.Inject port.Server octets)
      (world.to_server (server_inputs.octets octets)) refl refl
  input_started (to_server inputs.Timeout) fits =
      step_started (event.Timeout party.Server) (world.to_server server_inputs.timeout) refl refl
  input_started (to_server other) fits = absurd cc

pub run_started : (w : WorldNow) (list : List Arrives) → list_all is_input list ≡ true
    → (run_after w (map event_of list)).conversations.begun ≡ w.conversations.begun
unfolding run_after
run_started w [] fit = refl
run_started w (input ∷ rest) fit =
    let parts = and_parts (is_input input) (list_all is_input rest) fit in
    run_started (world_step w (event_of input)).after rest parts.1 ∙ input_started w input parts.0

start_started : (setup : Setup)
    → length (world_start (initial_world setup)).after.conversations.begun ≡ 2
unfolding world_start
start_started setup = refl

pub start_once : (setup : Setup) (list : List Arrives) → list_all is_input list ≡ true
    → length (world_of setup list).conversations.begun ≡ 2
start_once setup list fit =
    ap (λ (all : List ConversationStart). length all) (run_started
    (world_start (initial_world setup)).after list fit) ∙ start_started setup
