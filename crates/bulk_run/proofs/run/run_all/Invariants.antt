use Rattle.std.proofs.Common.{◌≡◌, ◌*◌, map, true}
use Rattle.eap_method.specs.BothPeers as both_peers
use Rattle.eap_method.specs.BothServers as both_servers
use Rattle.eap_method.specs.Peer.{peer_kinds, have_each}
use Rattle.eap_method.specs.Server.{server_kinds}
use Rattle.bulk_run.specs.Conversation.{login_methods}
use Rattle.bulk_run.specs.Draws.{state_at}
use Rattle.bulk_run.specs.Summing.{IsAtMost, drawn_each, summary_of}
use Rattle.bulk_run.proofs.run.run_all.Given as goal

abbrev pub invariant-loop : goal.invariant-loop
invariant-loop g l = record {
  stands : l.draws.state ≡ state_at l.number (l.counter * drawn_each l.number);
  sum : l.summary ≡ summary_of l.number l.counter;
  small : IsAtMost l.summary (40 * l.counter);
  peer : have_each (peer_kinds (map g.P.PeerMethod.peer_shown l.methods.peer.items)) login_methods
      ≡ true;
  server : have_each (server_kinds
      (map g.S.ServerMethod.server_shown l.methods.server.items)) login_methods ≡ true;
  both_peers : both_peers.are_both (map g.P.PeerMethod.peer_shown l.methods.peer.items) ≡ true;
  both_servers : both_servers.are_both (map g.S.ServerMethod.server_shown l.methods.server.items)
      ≡ true;
}
