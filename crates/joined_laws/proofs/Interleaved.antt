-- The world over an interleaving is each end over its own inputs.
use Rattle.std.proofs.Common.{◌≡◌, List, [], ◌∷◌, Bool, true, false, map, Some, refl, sym, ap, ◌∙◌}
use Rattle.std.proofs.Common.{cond, Option}
use Rattle.std.proofs.lemmas.Bool.{and_parts}
use Rattle.std.specs.List.{list_all}
use Rattle.eap_method.specs.BothPeers as both_peers
use Rattle.eap_method.specs.BothServers as both_servers
use Rattle.login_setup.specs.declared.setup.Mode.TheVariants as mode
use Rattle.login_setup.specs.declared.setup.Setup.{Setup}
use Rattle.eap_method.specs.Steps.{is_end}
use Rattle.eap_method.specs.declared.values.Report.{Report}
use Rattle.peer_machine.specs.Inputs as peer_inputs
use Rattle.peer_machine.specs.Inputs.{PeerInput, peer_accepts}
use Rattle.peer_machine.specs.PeerTable.{PeerNow}
use Rattle.server_machine.specs.Inputs as server_inputs
use Rattle.server_machine.specs.Inputs.{server_accepts}
use Rattle.server_machine.specs.ServerTable.{ServerNow}
use Rattle.eap_world.specs.Conversations.{Conversations}
use Rattle.eap_world.specs.Sent.{Sent}
use Rattle.eap_world.specs.World as world
use Rattle.eap_world.specs.World.{Parties, WorldNow, act, called_unless, first_skip, run_after}
use Rattle.eap_world.specs.World.{world_start, world_step}
use Rattle.eap_world.specs.declared.told.Skip.TheVariants.{Ended, NoTimer}
use Rattle.end_pipe.specs.EndRun.{EndNow, Moved, MachineTable, end_after, end_step}
use Rattle.end_pipe.specs.EndRun.{goes as end_goes, peer_answers, started_peer, peer_step}
use Rattle.end_pipe.specs.EndRun.{peer_table, skips, server_answers, started_server, server_starts}
use Rattle.end_pipe.specs.EndRun.{server_step, server_table}
use Rattle.end_pipe.specs.Inputs.{is_skipped, peer_input, server_input}
use Rattle.joined_laws.specs.Joined.{Arrives, InterleavingsAreRuns, event_of, is_input, peers_of}
use Rattle.joined_laws.specs.Joined.{servers_of, to_peer, to_server}
use Rattle.end_pipe.specs.declared.input.EndInput.{EndInput}
use Rattle.end_pipe.specs.declared.input.EndInput.TheVariants as inputs
use Rattle.world_laws.specs.Runs.{initial_world}

-- what an input makes of the variables and views of an end
abbrev pub peer_moved : PeerNow → EndInput → PeerNow
peer_moved now input =
    cond (is_skipped now.vars.state input) now (peer_answers now (peer_input input)).after

abbrev pub server_moved : ServerNow → EndInput → ServerNow
server_moved now input =
    cond (is_skipped now.vars.state input) now (server_answers now (server_input input)).after

moved_by : {N : Type 0} (reports : N → Option Report) (e : EndNow N) (out : Moved N)
    (skipped : Bool)
    → (cond skipped (skips e) (end_goes reports e.held out)).after.now
    ≡ cond skipped e.now out.after
moved_by reports e out true = refl
moved_by reports e out false = refl

pub moves : {N : Type 0} (table : MachineTable N) (e : EndNow N) (input : EndInput)
    → (end_step table e input).after.now
    ≡ cond (is_skipped (table.state e.now) input) e.now (table.moves e.now input).after
unfolding end_step
moves table e input =
    moved_by table.reports e (table.moves e.now input) (is_skipped (table.state e.now) input)

-- what comes to one end makes that of it, and nothing of the other
abbrev pub peer_next : Arrives → PeerNow → PeerNow
peer_next (to_peer input) now = peer_moved now input
peer_next (to_server input) now = now

abbrev pub server_next : Arrives → ServerNow → ServerNow
server_next (to_peer input) now = now
server_next (to_server input) now = server_moved now input

pub record Next (input : Arrives) (before after : Parties) : Type 0 where
  pub alone : after.mode ≡ mode.Alone
  pub peer : after.peer ≡ peer_next input before.peer
  pub server : after.server ≡ server_next input before.server

record NextPeer (before : Parties) (now : PeerNow) (after : Parties) : Type 0 where
  pub alone : after.mode ≡ mode.Alone
  pub peer : after.peer ≡ now
  pub server : after.server ≡ before.server

record NextServer (before : Parties) (now : ServerNow) (after : Parties) : Type 0 where
  pub alone : after.mode ≡ mode.Alone
  pub peer : after.peer ≡ before.peer
  pub server : after.server ≡ now

-- a report of the lower layer
report_acts : (parties : Parties) (input : PeerInput) → parties.mode ≡ mode.Alone → (over : Bool)
    → NextPeer parties (cond over parties.peer (peer_accepts parties.peer input).after)
    (called_unless parties (first_skip ((over, Ended) ∷ [])) (Some (world.to_peer input))).after
report_acts parties input alone true = record { alone = alone; peer = refl; server = refl }
report_acts parties input alone false = record { alone = alone; peer = refl; server = refl }

-- the end of the timer
timer_acts : (parties : Parties) → parties.mode ≡ mode.Alone → (over : Bool)
    → NextServer parties
    (cond over parties.server (server_accepts parties.server server_inputs.timeout).after)
    (called_unless parties (first_skip ((over, Ended) ∷ (false, NoTimer) ∷ []))
    (Some (world.to_server server_inputs.timeout))).after
timer_acts parties alone true = record { alone = alone; peer = refl; server = refl }
timer_acts parties alone false = record { alone = alone; peer = refl; server = refl }

by_peer : (parties after : Parties) (input : EndInput)
    → NextPeer parties (peer_moved parties.peer input) after → Next (to_peer input) parties after
by_peer parties after input n = record { alone = n.alone; peer = n.peer; server = n.server }

by_server : (parties after : Parties) (input : EndInput) → NextServer parties (server_moved
    parties.server input) after → Next (to_server input) parties after
by_server parties after input n = record { alone = n.alone; peer = n.peer; server = n.server }

pub acts_so : (parties : Parties) (conversations : Conversations) (sent : List Sent)
    (input : Arrives) → parties.mode ≡ mode.Alone → is_input input ≡ true
    → Next input parties (act parties conversations sent (event_of input)).after
unfolding act
acts_so parties conversations sent (to_peer (inputs.Octets octets)) alone fits =
    rw alone (record { alone = refl; peer = refl; server = refl })
acts_so parties conversations sent (to_peer inputs.Idle) alone fits =
    by_peer parties _ inputs.Idle
    (report_acts parties peer_inputs.idle alone (is_end parties.peer.vars.state))
acts_so parties conversations sent (to_peer inputs.AltAccept) alone fits =
    by_peer parties _ inputs.AltAccept
    (report_acts parties peer_inputs.alt_accept alone (is_end parties.peer.vars.state))
acts_so parties conversations sent (to_peer inputs.AltReject) alone fits =
    by_peer parties _ inputs.AltReject
    (report_acts parties peer_inputs.alt_reject alone (is_end parties.peer.vars.state))
acts_so parties conversations sent (to_peer inputs.Timeout) alone fits = absurd cc
acts_so parties conversations sent (to_server (inputs.Octets octets)) alone fits =
    rw alone (record { alone = refl; peer = refl; server = refl })
acts_so parties conversations sent (to_server inputs.Timeout) alone fits =
    by_server parties _ inputs.Timeout
    (rw alone (timer_acts _ refl (is_end parties.server.vars.state)))
acts_so parties conversations sent (to_server other) alone fits = absurd cc

-- the run from a world on whose ends are these
record Proceed (p : EndNow PeerNow) (s : EndNow ServerNow) (list : List Arrives)
    (last : WorldNow) : Type 0 where
  pub peer : last.parties.peer ≡ (end_after peer_step p (peers_of list)).now
  pub server : last.parties.server ≡ (end_after server_step s (servers_of list)).now

goes : (w : WorldNow) (p : EndNow PeerNow) (s : EndNow ServerNow) (list : List Arrives)
    → w.parties.mode ≡ mode.Alone
    → w.parties.peer ≡ p.now → w.parties.server ≡ s.now → list_all is_input list ≡ true
    → Proceed p s list (run_after w (map event_of list))
unfolding run_after world_step end_after peers_of servers_of
goes w p s [] alone peer server fit = record { peer = peer; server = server }
goes w p s (to_peer input ∷ rest) alone peer server fit =
    let parts = and_parts (is_input (to_peer input)) (list_all is_input rest) fit in
    let n = acts_so w.parties w.conversations w.sent (to_peer input) alone parts.0 in
    let moved =
    n.peer ∙ (ap (λ (now : PeerNow). peer_moved now input) peer ∙ sym (moves peer_table p input)) in
    let g = goes (world_step w (event_of (to_peer input))).after
    (peer_step p input).after s rest n.alone moved (n.server ∙ server) parts.1 in
    record { peer = g.peer; server = g.server }
goes w p s (to_server input ∷ rest) alone peer server fit =
    let parts = and_parts (is_input (to_server input)) (list_all is_input rest) fit in
    let n = acts_so w.parties w.conversations w.sent (to_server input) alone parts.0 in
    let moved = n.server ∙ (ap (λ (now : ServerNow). server_moved now input) server
    ∙ sym (moves server_table s input)) in
    let g = goes (world_step w (event_of (to_server input))).after p
    (server_step s input).after rest n.alone (n.peer ∙ peer) moved parts.1 in
    record { peer = g.peer; server = g.server }

pub record ConversationStart (setup : Setup) (w : WorldNow) : Type 0 where
  pub alone : w.parties.mode ≡ mode.Alone
  pub peer : w.parties.peer ≡ (started_peer setup.peer (both_peers.both_of setup.peer.methods)).now
  pub server : w.parties.server ≡ (started_server setup.server
      (both_servers.both_of setup.server.methods) setup.first_id setup.max_retrans).now

pub begun : (setup : Setup) → setup.mode ≡ mode.Alone
    → ConversationStart setup (world_start (initial_world setup)).after
unfolding world_start server_starts
begun setup alone = rw alone (record { alone = refl; peer = refl; server = refl })

pub interleavings_are_runs : InterleavingsAreRuns
interleavings_are_runs setup list alone fit =
    let b = begun setup alone in
    let g =
    goes (world_start (initial_world setup)).after (started_peer setup.peer (both_peers.both_of
    setup.peer.methods)) (started_server setup.server (both_servers.both_of setup.server.methods)
    setup.first_id setup.max_retrans) list b.alone b.peer b.server fit in
    record { peer = g.peer; server = g.server }
