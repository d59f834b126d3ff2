-- Freshness of a run, by what came to the parties and by the nonces with which conversations began.
use Rattle.std.specs.Prelude.{◌≡◌, ◌↔◌, ℕ, List, [], ◌∷◌, ◌++◌, Bool, true, false, Option, Some}
use Rattle.std.specs.Prelude.{None}
use Rattle.std.specs.List.{list_any}
use Rattle.std.specs.Str.{bytes_eq}
use Rattle.login_setup.specs.declared.event.Event.{Event}
use Rattle.login_setup.specs.declared.setup.Setup.{Setup}
use Rattle.peer_machine.specs.Inputs as peer_inputs
use Rattle.server_machine.specs.Inputs as server_inputs
use Rattle.eap_world.specs.Conversations.{front, occurs_in}
use Rattle.eap_world.specs.World.{Call, WorldNow, call_octets, call_of, first_skip, skip_table}
use Rattle.eap_world.specs.World.{to_peer, to_server, world_start, world_step}
use Rattle.eap_world.specs.declared.told.Skip.{Skip}
use Rattle.world_laws.specs.Runs.{initial_world, run_of}

-- octets were delivered to some party; an end began a conversation with a nonce
pub data Happening : Type 0 where
  came : List ℕ → Happening
  began : List ℕ → Happening

-- what was delivered has the prefix of a nonce in it, or that conversation has a nonce of the same
-- prefix
abbrev pub clashes : List ℕ → Happening → Bool
clashes nonce (came octets) = occurs_in (front nonce) octets
clashes nonce (began other) = bytes_eq (front other) (front nonce)

-- each conversation began with a nonce that clashes with nothing before it
pub record IsFresh (all : List Happening) : Type 0 where
  pub each : (before after : List Happening) (nonce : List ℕ) → all ≡ before ++ began nonce ∷ after
      → list_any (clashes nonce) before ≡ false

-- what happens in a call
abbrev pub received_of : Option (List ℕ) → List Happening
received_of None = []
received_of (Some octets) = came octets ∷ []

abbrev pub happens_at : Call → List Happening
happens_at (to_peer (peer_inputs.restart nonce)) = began nonce ∷ []
happens_at (to_server (server_inputs.restart nonce)) = began nonce ∷ []
happens_at call = received_of (call_octets call)

-- in an event
abbrev pub happens_unless : Option Skip → Option Call → List Happening
happens_unless (Some skip) call = []
happens_unless None None = []
happens_unless None (Some call) = happens_at call

abbrev pub happens_in : WorldNow → Event → List Happening
happens_in w e = happens_unless (first_skip (skip_table w.parties w.conversations w.sent e))
    (call_of w.conversations w.sent e)

-- in a run
unfoldable pub history_after : WorldNow → List Event → List Happening
history_after w [] = []
history_after w (e ∷ rest) = happens_in w e ++ history_after (world_step w e).after rest

abbrev pub history_of : Setup → List Event → List Happening
history_of setup events = began setup.peer.nonce ∷ began setup.server.nonce
    ∷ history_after (world_start (initial_world setup)).after events

-- the world says so
abbrev pub FreshnessIsExact : Type 0
FreshnessIsExact = (setup : Setup) (events : List Event)
    → ((run_of setup events).conversations.fresh ≡ true) ↔ IsFresh (history_of setup events)
