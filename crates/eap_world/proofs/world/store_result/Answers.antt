use Rattle.std.proofs.Common.{◌≡◌, ℕ, ◌+◌, length, None, ap, ◌∙◌}
use Rattle.eap_world.proofs.Implying.{reported_named}
use Rattle.eap_world.specs.World.{Called, did_with, first_report, has_reported, parties_of}
use Rattle.eap_world.specs.World.{report_of, told_of}
use Rattle.eap_world.proofs.world.store_result.Goals as goal

pub returns-clause-reported : goal.returns-clause-reported
returns-clause-reported g c =
    let did = did_with c.in-Called.did c.args.machines.now.packet c.args.machines.now.tags in
    let said = c.tell-told.ensures.reported c.in-Called.did.is_delivery c.args.machines.now.packet
    c.args.machines.now.tags in
    let number : c.next_number-number.result ≡ length c.args.sent.now.packets + 1 =
    c.next_number-number.ensures ∙ ap (λ (n : ℕ). n + 1) c.len.ensures in
    let is : c.tell-told.result ≡ told_of c.args.event (length c.args.sent.now.packets
    + 1) None (Called did) = search (said, number) in
    let named : c.store_first_report.new.named
    ≡ first_report (has_reported c.args.held.now did.party) did.party
    (report_of (parties_of g.P.PeerMethod.peer_shown g.S.ServerMethod.server_shown
    c.args.machines.now) did.party) = search in
    rw c.in-Called.is (reported_named c.tell-told.result c.args.event
    (length c.args.sent.now.packets + 1) did c.store_first_report.new.named _ is named)
