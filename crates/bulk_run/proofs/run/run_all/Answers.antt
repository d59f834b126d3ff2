use Rattle.std.proofs.Common.{◌+◌, ◌*◌, map, ap, ◌∙◌, arith}
use Rattle.std.specs.List.{list_all}
use Rattle.eap_method.specs.BothPeers as both_peers
use Rattle.eap_method.specs.BothServers as both_servers
use Rattle.eap_method.specs.Peer as peers
use Rattle.eap_method.specs.Peer.{have_each}
use Rattle.eap_method.specs.Server as servers
use Rattle.bulk_run.specs.Conversation.{login_methods}
use Rattle.bulk_run.specs.ObjectMethods.{ObjectMethods}
use Rattle.bulk_run.specs.Summing.{drawn_each}
use Rattle.bulk_run.proofs.Conversing.{none_summed, one_summed, nothing_small, at_most_more}
use Rattle.bulk_run.proofs.Conversing.{next_place}
use Rattle.bulk_run.proofs.Drawing.{same_place}
use Rattle.bulk_run.proofs.run.run_all.Goals as goal

pub loop-init : goal.loop-init
loop-init g c = record {
  stands =
      same_place c.args.number 0 (0 * drawn_each c.args.number) _ c.new-draws.ensures (omega arith);
  sum = none_summed c.args.number _ c.new-summary.ensures;
  small = nothing_small _ c.new-summary.ensures;
  peer = c.requires.peer_objects;
  server = c.requires.server_objects;
  both_peers = c.requires.both_peers;
  both_servers = c.requires.both_servers;
}

pub loop-preserved : goal.loop-preserved
loop-preserved g c =
    let number = c.args.number in
    let count = c.loop.counter in
    let each = drawn_each number in
    record {
      stands = same_place number (count * each + each) ((count + 1) * each) _
          (c.in_ok-methods.ensures.state (count * each) c.loop.invariant.stands)
          (next_place each count);
      sum = c.plus-summary.ensures.value
          ∙ one_summed number count _ _ c.loop.invariant.sum
          (c.in_ok-methods.ensures.counts (count * each) c.loop.invariant.stands);
      small = at_most_more _ (40 * count + 40) (40 * (count + 1))
          (c.plus-summary.ensures.small (40 * count) c.loop.invariant.small) (omega arith);
      peer = ap (λ (k : ObjectMethods). have_each (map peers.kind_of k.peer)
          login_methods) c.in_ok-methods.ensures.methods ∙ c.loop.invariant.peer;
      server = ap (λ (k : ObjectMethods). have_each (map servers.kind_of k.server)
          login_methods) c.in_ok-methods.ensures.methods ∙ c.loop.invariant.server;
      both_peers = ap (λ (k : ObjectMethods). list_all both_peers.is_one
          k.peer) c.in_ok-methods.ensures.methods ∙ c.loop.invariant.both_peers;
      both_servers = ap (λ (k : ObjectMethods). list_all both_servers.is_one
          k.server) c.in_ok-methods.ensures.methods ∙ c.loop.invariant.both_servers;
    }
