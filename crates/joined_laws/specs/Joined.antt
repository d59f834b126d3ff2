-- Both ends, each alone over its own inputs, and the world over an interleaving of them.
use Rattle.std.specs.Prelude.{◌≡◌, ℕ, ◌+◌, List, [], ◌∷◌, ◌++◌, map, Bool, true}
use Rattle.std.specs.List.{list_all}
use Rattle.eap_method.specs.BothPeers as both_peers
use Rattle.eap_method.specs.BothServers as both_servers
use Rattle.login_setup.specs.declared.event.Event.{Event}
use Rattle.login_setup.specs.declared.event.Event.TheVariants as event
use Rattle.login_setup.specs.declared.setup.Mode.TheVariants as mode
use Rattle.login_setup.specs.declared.setup.Party.TheVariants as party
use Rattle.login_setup.specs.declared.setup.Port.{Port}
use Rattle.login_setup.specs.declared.setup.Port.TheVariants as port
use Rattle.login_setup.specs.declared.setup.Setup.{Setup}
use Rattle.peer_machine.specs.PeerTable.{PeerNow, peer_reports}
use Rattle.server_machine.specs.ServerTable.{ServerNow, server_reports}
use Rattle.login_laws.specs.Agreement.{AreTheirs}
use Rattle.world_laws.specs.Whole.{IsWhole}
use Rattle.tag_book.specs.Book.{entries_of, tags_verdict_either}
use Rattle.eap_world.specs.Judgement.{is_success, agreement_of}
use Rattle.tag_book.specs.declared.book.End.TheVariants as end
use Rattle.tag_book.specs.declared.book.Entry.{Entry}
use Rattle.tag_book.specs.declared.book.TagsVerdict.TheVariants.{Honest}
use Rattle.eap_world.specs.World.{WorldNow}
use Rattle.end_pipe.specs.EndRun.{EndNow, end_after, started_peer, peer_step, started_server}
use Rattle.end_pipe.specs.EndRun.{server_step}
use Rattle.end_pipe.specs.Inputs.{is_of_peer, is_of_server}
use Rattle.end_pipe.specs.declared.input.EndInput.{EndInput}
use Rattle.end_pipe.specs.declared.input.EndInput.TheVariants as inputs
use Rattle.world_laws.specs.Runs.{run_of}

-- what comes to one of both ends
pub data Arrives : Type 0 where
  to_peer : EndInput → Arrives
  to_server : EndInput → Arrives

-- whether it is an input of that end
abbrev pub is_input : Arrives → Bool
is_input (to_peer input) = is_of_peer input
is_input (to_server input) = is_of_server input

-- the event that it is: octets are injected at the end's port; a timer and the lower layer have
-- events of their own
abbrev pub event_at : Port → EndInput → Event
event_at port (inputs.Octets octets) = event.Inject port octets
event_at port inputs.Timeout = event.Timeout party.Server
event_at port inputs.Idle = event.Idle
event_at port inputs.AltAccept = event.AltAccept
event_at port inputs.AltReject = event.AltReject

abbrev pub event_of : Arrives → Event
event_of (to_peer input) = event_at port.Peer input
event_of (to_server input) = event_at port.Server input

-- the inputs of each end, in their order
abbrev pub peer_first : Arrives → List EndInput → List EndInput
peer_first (to_peer input) rest = input ∷ rest
peer_first (to_server input) rest = rest

abbrev pub server_first : Arrives → List EndInput → List EndInput
server_first (to_peer input) rest = rest
server_first (to_server input) rest = input ∷ rest

unfoldable pub peers_of : List Arrives → List EndInput
peers_of [] = []
peers_of (first ∷ rest) = peer_first first (peers_of rest)

unfoldable pub servers_of : List Arrives → List EndInput
servers_of [] = []
servers_of (first ∷ rest) = server_first first (servers_of rest)

-- each end alone after its inputs
abbrev pub peer_alone : Setup → List Arrives → PeerNow
peer_alone setup list = (end_after peer_step
    (started_peer setup.peer (both_peers.both_of setup.peer.methods)) (peers_of list)).now

abbrev pub server_alone : Setup → List Arrives → ServerNow
server_alone setup list =
    (end_after server_step (started_server setup.server (both_servers.both_of setup.server.methods)
    setup.first_id setup.max_retrans) (servers_of list)).now

-- the world over the events
abbrev pub world_of : Setup → List Arrives → WorldNow
world_of setup list = run_of setup (map event_of list)

-- each end of the world has the variables and views that it has alone
pub record AreEnds (setup : Setup) (list : List Arrives) (w : WorldNow) : Type 0 where
  pub peer : w.parties.peer ≡ peer_alone setup list
  pub server : w.parties.server ≡ server_alone setup list

-- every list of what comes to both ends is an interleaving of their inputs, and each of its
-- prefixes is one
abbrev pub InterleavingsAreRuns : Type 0
InterleavingsAreRuns =
    (setup : Setup) (list : List Arrives) → setup.mode ≡ mode.Alone → list_all is_input list ≡ true
    → AreEnds setup list (world_of setup list)

-- the tags of both ends at their inputs, in the order of the interleaving, each with its input's
-- number and its end
unfoldable pub interleaved_book : ℕ → EndNow PeerNow → EndNow ServerNow → List Arrives → List Entry
interleaved_book number p s [] = []
interleaved_book number p s (to_peer input ∷ rest) =
    let out = peer_step p input in entries_of (number
    + 1) end.Peer out.told.step.tags ++ interleaved_book (number + 1) out.after s rest
interleaved_book number p s (to_server input ∷ rest) =
    let out = server_step s input in entries_of (number
    + 1) end.Server out.told.step.tags ++ interleaved_book (number + 1) p out.after rest

-- these are the book of the world
abbrev pub BookIsDetermined : Type 0
BookIsDetermined =
    (setup : Setup) (list : List Arrives) → setup.mode ≡ mode.Alone → list_all is_input list ≡ true
    → (world_of setup list).book ≡ interleaved_book 0 (started_peer setup.peer
    (both_peers.both_of setup.peer.methods)) (started_server setup.server
    (both_servers.both_of setup.server.methods) setup.first_id setup.max_retrans) list

-- both ends are in SUCCESS
abbrev pub HaveSucceeded : PeerNow → ServerNow → Type 0
HaveSucceeded peer server =
    (is_success peer.vars.state ≡ true) × (is_success server.vars.state ≡ true)

-- both have a report, and the same, which both policies allow
abbrev pub ReportTheSame : PeerNow → ServerNow → Type 0
ReportTheSame peer server = agreement_of peer.vars.setup server.vars.setup (peer_reports
    peer) (server_reports server) ≡ true

-- both report the same, and what they report is their own: names, user, key and suite
pub record EndsAgree (setup : Setup) (peer : PeerNow) (server : ServerNow) : Type 0 where
  pub same : ReportTheSame peer server
  pub theirs : AreTheirs setup peer server

-- if each tag that one of them accepted was made earlier by either of them, two ends that have
-- succeeded agree
abbrev pub JoinedEndsAgree : Type 0
JoinedEndsAgree =
    (setup : Setup) (list : List Arrives) → setup.mode ≡ mode.Alone → IsWhole setup
    → list_all is_input list ≡ true
    → tags_verdict_either (world_of setup list).book ≡ Honest
    → HaveSucceeded (peer_alone setup list) (server_alone setup list)
    → EndsAgree setup (peer_alone setup list) (server_alone setup list)
