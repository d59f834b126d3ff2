-- A conversation: its settings and its events, from the octets that are drawn after a place.
use Rattle.std.specs.Prelude.{ℕ, zero, suc, ◌+◌, ◌*◌, ◌%◌, ◌==◌, List, [], ◌∷◌, ◌++◌, length, false}
use Rattle.std.specs.Prelude.{if◌then◌else◌, Option, Some, None, codes}
use Rattle.login_setup.specs.declared.event.Event.{Event}
use Rattle.login_setup.specs.declared.event.Event.TheVariants.{Deliver, Alter, Timeout}
use Rattle.login_setup.specs.declared.setup.Party.TheVariants as party
use Rattle.login_setup.specs.declared.setup.PeerSetup.{PeerSetup}
use Rattle.login_setup.specs.Setup.{ServerSetup}
use Rattle.login_setup.specs.declared.setup.Setup.{Setup}
use Rattle.login_setup.specs.declared.users.User.{User}
use Rattle.octet_lists.specs.Among.{gpsk_kind}
use Rattle.login_setup.specs.Plain.{plain_peer, plain_server, plain_setup}
use Rattle.eap_world.specs.Sent.{Sent, packet_numbered}
use Rattle.eap_world.specs.World.{octets_of}
use Rattle.bulk_run.specs.Draws.{octet_at, octets_after}
use Rattle.world_laws.specs.Runs.{run_of}

-- the method that both ends allow
abbrev pub login_methods : List ℕ
login_methods = gpsk_kind ∷ []

-- alice logs in at the server srv by EAP-GPSK, with these nonces and this key (RFC 5433)
abbrev pub alice : List ℕ → List ℕ → PeerSetup
alice nonce key = record plain_peer { methods = login_methods; psk51 = Some key; nonce = nonce }

-- as the server knows her
abbrev pub known_with : List ℕ → User
known_with key = record { name = codes "alice"; kind = gpsk_kind; psk = key; barred = false }

-- the server, which knows her alone
abbrev pub srv : List ℕ → List ℕ → ServerSetup
srv nonce key = record plain_server {
  methods = login_methods;
  users = known_with key ∷ [];
  nonce = nonce;
}

abbrev pub setup_with : List ℕ → List ℕ → List ℕ → Setup
setup_with peer_nonce server_nonce
    key = record plain_setup { peer = alice peer_nonce key; server = srv server_nonce key }

-- the settings of the conversation that begins after a place: 32 octets for each nonce and 32 for
-- the key
unfoldable pub setup_at : ℕ → ℕ → Setup
setup_at number place =
    setup_with (octets_after number place 32) (octets_after number (place + 32) 32)
    (octets_after number (place + 64) 32)

-- packets 1, 2 and on, so many of them, each comes to its port once
unfoldable pub deliveries : ℕ → List Event
deliveries zero = []
deliveries (suc n) = deliveries n ++ Deliver (suc n) ∷ []

-- the event that two octets choose if so many packets were sent, the last of which has a length
abbrev pub choice : ℕ → ℕ → ℕ → ℕ → Option Event
choice packets size v u =
    if v % 8 == 0 then Some (Timeout party.Server)
    else if v % 8 == 1 then Some (Deliver (1 + u % packets))
    else if v % 8 == 2 then Some (Alter packets (u % size) 1)
    else if v % 8 == 3 then None
    else Some (Deliver packets)

unfoldable pub chosen : List Sent → ℕ → ℕ → Option Event
chosen sent v u = choice (length sent) (length (octets_of (packet_numbered sent (length sent)))) v u

abbrev pub with_event : List Event → Option Event → List Event
with_event events None = events
with_event events (Some event) = events ++ event ∷ []

-- the events of so many turns, of which each draws two octets: they choose by the packets that were
-- sent in the run of the events before
unfoldable pub chances : Setup → ℕ → ℕ → ℕ → List Event
chances setup number place zero = []
chances setup number place (suc turns) =
    let before = chances setup number place turns in
    with_event before (chosen (run_of setup before).sent (octet_at number (place + 2 * turns + 1))
    (octet_at number (place + 2 * turns + 2)))
