use Rattle.std.proofs.Common.{◌+◌, map, ap, ◌∙◌, arith}
use Rattle.login_setup.specs.declared.setup.PeerSetup.{PeerSetup}
use Rattle.eap_method.specs.Peer.{peer_kinds, have_each}
use Rattle.eap_method.specs.Server.{server_kinds}
use Rattle.world_laws.proofs.Standard.{starts_as_run}
use Rattle.bulk_run.specs.Summing.{counts_of, drawn_each, drawn_for_events}
use Rattle.bulk_run.proofs.Conversing.{setup_is, server_is, is_ended}
use Rattle.bulk_run.proofs.Drawing.{same_place}
use Rattle.bulk_run.proofs.conversation.converse.Goals as goal

pub returns-clause-counts : goal.returns-clause-counts
returns-clause-counts g c place is =
    let number = c.args.number in
    let second = c.octets-peer_nonce.ensures.state number place is in
    let third = same_place number (place + 32 + 32) (place + 64) _
    (c.octets-server_nonce.ensures.state number (place + 32) second) (omega arith) in
    let last = same_place number (place + 64 + 32) (place + 96) _
    (c.octets-key.ensures.state number (place + 64) third) (omega arith) in
    let setup =
    setup_is number place c.alice.result _ _ _ _ _
    (c.octets-peer_nonce.ensures.octets number place is)
    (c.octets-server_nonce.ensures.octets number (place + 32) second)
    (c.octets-key.ensures.octets number (place + 64) third) c.alice.ensures
    (server_is _ _ _ _ _ _ _ _ c.of.ensures c.of-2.ensures c.of-3.ensures c.new-users.ensures
    c.user.ensures c.add.ensures.added) c.none.ensures
    in
    let peers = map g.P.PeerMethod.peer_shown c.args.methods.peer.items in
    let servers = map g.S.ServerMethod.server_shown c.args.methods.server.items in
    let begun =
    starts_as_run _ peers servers _ c.new-world.ensures.initial
    c.requires.both_peers (ap (λ (p : PeerSetup).
    have_each (peer_kinds peers) p.methods) c.alice.ensures ∙ c.requires.peer_objects)
    c.requires.both_servers
    (ap (have_each (server_kinds servers)) c.of-2.ensures ∙ c.requires.server_objects)
    in
    c.of-4.ensures.value ∙ ap counts_of (is_ended number place _ _ setup
    (c.in_ok-talk.ensures.run _ (place + 96) begun last))

pub returns-clause-state : goal.returns-clause-state
returns-clause-state g c place is =
    let number = c.args.number in
    let second = c.octets-peer_nonce.ensures.state number place is in
    let third = c.octets-server_nonce.ensures.state number (place + 32) second in
    let last = c.octets-key.ensures.state number (place + 32 + 32) third in
    same_place number (place + 32 + 32 + 32 + drawn_for_events number) (place + drawn_each number) _
    (c.in_ok-talk.ensures.state (place + 32 + 32 + 32) last) (omega arith)
