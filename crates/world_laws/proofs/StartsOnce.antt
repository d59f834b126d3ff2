-- An end that has no later nonces never begins a second conversation.
use Rattle.std.proofs.Common.{◌≡◌, ℕ, List, [], ◌∷◌, length, map, Option, Some, None, refl, ap}
use Rattle.world_laws.specs.Laws.{StartsOnce}
use Rattle.eap_world.specs.Conversations.{Conversations, hears, waiting}
use Rattle.eap_world.specs.World.{WorldNow, WorldOutcome, call_octets, delivered_in_call}
use Rattle.eap_world.specs.World.{world_start}
use Rattle.eap_world.specs.declared.conversations.Waiting.{Waiting}
use Rattle.login_setup.specs.declared.setup.Setup.{Setup}
use Rattle.world_laws.proofs.Acting.{Steps, calls, peer_restarts, run_preserves, server_restarts}
use Rattle.world_laws.proofs.Acting.{skips}
use Rattle.world_laws.specs.Runs.{initial_world}

-- no end has a nonce left, and each has begun one conversation
record HaveNoMore (all : Conversations) : Type 0 where
  pub peer : all.peer_left ≡ []
  pub server : all.server_left ≡ []
  pub begun : length all.begun ≡ 2

received_no_more : (all : Conversations) (came : Option (List ℕ)) → HaveNoMore all
    → HaveNoMore (delivered_in_call all came)
received_no_more all None h = h
received_no_more all (Some octets) h = record {
  peer = ap (map (hears octets)) h.peer;
  server = ap (map (hears octets)) h.server;
  begun = h.begun;
}

not_left : {A : Type 0} (one : Waiting) (left all : List Waiting) → all ≡ [] → all ≡ one ∷ left → A
not_left one left all none some = absurd cc

step_no_more : (w : WorldNow) (out : WorldOutcome) → Steps w out → HaveNoMore w.conversations
    → HaveNoMore out.after.conversations
step_no_more w _ (skips skip) h = h
step_no_more w _ (calls call later same) h = received_no_more w.conversations (call_octets call) h
step_no_more w _ (peer_restarts one left next) h =
    not_left one left w.conversations.peer_left h.peer next
step_no_more w _ (server_restarts one left next) h =
    not_left one left w.conversations.server_left h.server next

start_no_more : (setup : Setup) → setup.later.peer ≡ [] → setup.later.server ≡ []
    → HaveNoMore (world_start (initial_world setup)).after.conversations
unfolding world_start
start_no_more setup peer server =
    record { peer = ap (map waiting) peer; server = ap (map waiting) server; begun = refl }

pub starts_once : StartsOnce
starts_once setup events peer server =
    (run_preserves (λ (w : WorldNow). HaveNoMore w.conversations) step_no_more
    (world_start (initial_world setup)).after events (start_no_more setup peer server)).begun
