-- Logins after restarts: in any run in which both ends have a nonce left, and each party then
-- begins again, a smooth login succeeds as the first does.
use Rattle.std.specs.Prelude.{◌≡◌, ◌≤◌, ℕ, List, [], ◌∷◌, ◌++◌, length, Bool, ◌&&◌, not}
use Rattle.std.specs.Str.{bytes_eq}
use Rattle.login_setup.specs.declared.event.Event.{Event}
use Rattle.login_setup.specs.declared.event.Event.TheVariants.{Restart}
use Rattle.login_setup.specs.declared.setup.Mode.{Mode}
use Rattle.login_setup.specs.declared.setup.Mode.TheVariants.{Alone, Through}
use Rattle.login_setup.specs.declared.setup.Party.TheVariants.{Peer, Pass, Server}
use Rattle.login_setup.specs.declared.setup.Setup.{Setup}
use Rattle.world_laws.specs.Whole.{IsWhole}
use Rattle.eap_world.specs.World.{WorldNow, run_after}
use Rattle.eap_world.specs.Conversations.{front, is_new}
use Rattle.eap_world.specs.declared.conversations.ConversationStart.{ConversationStart}
use Rattle.eap_world.specs.declared.conversations.Waiting.{Waiting}
use Rattle.peer_machine.specs.PeerTable as peers
use Rattle.server_machine.specs.ServerTable as servers
use Rattle.smooth_laws.specs.Again.{AreNextInOrder, HasJustStarted, SucceedsAgain}
use Rattle.smooth_laws.specs.Smooth.{AreInOrder, EndsCompatible, HasShortNames, IsLoggedIn}
use Rattle.smooth_laws.specs.Smooth.{event_bound}
use Rattle.world_laws.specs.Runs.{run_of}

-- the settings with these nonces
abbrev pub with_nonces : Setup → List ℕ → List ℕ → Setup
with_nonces setup peer server = record setup {
  peer = peers.setup_with_nonce setup.peer peer;
  server = servers.setup_with_nonce setup.server server;
}

-- each party begins again once, in any order
pub data StartAnew : Mode → List Event → Type 0 where
  peer_server : StartAnew Alone (Restart Peer ∷ Restart Server ∷ [])
  server_peer : StartAnew Alone (Restart Server ∷ Restart Peer ∷ [])
  peer_server_pass : StartAnew Through (Restart Peer ∷ Restart Server ∷ Restart Pass ∷ [])
  peer_pass_server : StartAnew Through (Restart Peer ∷ Restart Pass ∷ Restart Server ∷ [])
  server_peer_pass : StartAnew Through (Restart Server ∷ Restart Peer ∷ Restart Pass ∷ [])
  server_pass_peer : StartAnew Through (Restart Server ∷ Restart Pass ∷ Restart Peer ∷ [])
  pass_peer_server : StartAnew Through (Restart Pass ∷ Restart Peer ∷ Restart Server ∷ [])
  pass_server_peer : StartAnew Through (Restart Pass ∷ Restart Server ∷ Restart Peer ∷ [])

-- each end has a nonce left after these events, and these are the next ones
pub record HaveNext (setup : Setup) (events : List Event) : Type 0 where
  pub peer : Waiting
  pub peer_more : List Waiting
  pub peer_left : (run_of setup events).conversations.peer_left ≡ peer ∷ peer_more
  pub server : Waiting
  pub server_more : List Waiting
  pub server_left : (run_of setup events).conversations.server_left ≡ server ∷ server_more

-- whether both nonces are fresh: each is new after these conversations, and their first sixteen
-- octets differ
abbrev pub are_new : List ConversationStart → Waiting → Waiting → Bool
are_new begun peer server = is_new begun peer && (is_new begun server && not (bytes_eq
    (front peer.nonce) (front server.nonce)))

-- the parties have just begun, with the nonces, and nothing was booked or discarded since; nonces
-- are fresh if they were and both of these are
pub record HasRestarted (setup : Setup) (peer server : Waiting) (before w : WorldNow) : Type 0 where
  pub begun : HasJustStarted (with_nonces setup peer.nonce server.nonce) w
  pub book : w.book ≡ before.book
  pub discards : w.counts.discards ≡ before.counts.discards
  pub fresh : w.conversations.fresh
      ≡ (before.conversations.fresh && are_new before.conversations.begun peer server)

-- then the parties have just begun, with these nonces
abbrev pub RestartsStartAnew : Type 0
RestartsStartAnew =
    (setup : Setup) (events restarts : List Event) → IsWhole setup → (next : HaveNext setup events)
    → StartAnew setup.mode restarts →
    HasRestarted setup next.peer next.server (run_of setup events)
    (run_after (run_of setup events) restarts)

-- and a smooth login of at least `bound` deliveries succeeds
abbrev pub LoginsAfterRestartsSucceed : Type 0
LoginsAfterRestartsSucceed =
    (setup : Setup) (events restarts smooth : List Event) → IsWhole setup → HasShortNames setup
    → EndsCompatible setup →
    HaveNext setup events → StartAnew setup.mode restarts →
    AreNextInOrder (run_after (run_of setup events) restarts) smooth
    → event_bound setup ≤ length smooth →
    SucceedsAgain setup (run_after (run_of setup events) restarts) smooth

-- smooth logins one after the other: the first, and behind each the restarts of all parties and the
-- next; and whether each of them had fresh nonces
pub data AreLogins (setup : Setup) : Bool → List Event → Type 0 where
  first_login : (smooth : List Event) (in_order : AreInOrder smooth)
      (enough : event_bound setup ≤ length smooth)
      → AreLogins setup (not (bytes_eq (front setup.peer.nonce) (front setup.server.nonce))) smooth
  next_login : (fresh : Bool) (events restarts smooth : List Event)
      (before : AreLogins setup fresh events) (next : HaveNext setup events)
      (anew : StartAnew setup.mode restarts)
      (in_order : AreNextInOrder (run_after (run_of setup events) restarts) smooth)
      (enough : event_bound setup ≤ length smooth)
      → AreLogins setup (fresh && are_new (run_of setup
      events).conversations.begun next.peer next.server) (events ++ (restarts ++ smooth))

-- both ends are in SUCCESS in their present conversations and agree; no delivery was ever
-- discarded, all tags are honest, and `fresh` says whether nonces are fresh
pub record AreLoggedIn (fresh : Bool) (w : WorldNow) : Type 0 where
  pub last : IsLoggedIn w
  pub told : w.conversations.fresh ≡ fresh

-- so it is after each of them
abbrev pub LoginsSucceed : Type 0
LoginsSucceed =
    (setup : Setup) (fresh : Bool) (events : List Event) → IsWhole setup → HasShortNames setup
    → EndsCompatible setup → AreLogins setup fresh events →
    AreLoggedIn fresh (run_of setup events)
