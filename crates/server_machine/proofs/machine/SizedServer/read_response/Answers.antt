use Rattle.std.proofs.Common.{map, refl, ap, ◌∙◌, sym}
use Rattle.eap_packet.specs.Expanded.{is_bad_expanded}
use Rattle.eap_packet.specs.Packet.{value_with}
use Rattle.eap_packet.specs.declared.packet.Code.{Code}
use Rattle.server_machine.specs.ServerTable.{ServerValue, now_of}
use Rattle.server_machine.proofs.Wrapping.{response_is_read}
use Rattle.server_machine.proofs.machine.SizedServer.read_response.Goals as goal
use Rattle.server_machine.proofs.machine.SizedServer.read_response.Goals.{then-has_form}
use Rattle.server_machine.proofs.machine.SizedServer.read_response.Goals.{else-has_form}

pub returns-after-has_form-clause-step : goal.returns-after-has_form-clause-step
returns-after-has_form-clause-step g c =
    let shown = g.M.ServerMethod.server_shown in
    let inside = c.self-else-is_bad_expanded.inside in
    let after = c.self-else-is_bad_expanded-2.inside in
    let before : ServerValue _ = record { vars = inside.vars; methods = inside.methods.items } in
    let view = c.args.view.now in
    let delivered = c.deliver_plain-step in
    let forms = c.write_if_accepted-has_form.ensures c.args.octets.now in
    let is_response = ap (λ (code : Code).
    is_bad_expanded (value_with code view.id view.kind view.body.now)) c.requires.response in
    rw (← c.self-else-is_bad_expanded.view_is)
    (response_is_read (now_of shown before)
    c.args.octets.now view.id view.kind view.body.now c.if-has_form.taken.now
    delivered.new.packet c.wrap_sent.new.packet delivered.result delivered.new.tags after.vars
    c.wrap_sent.new.vars (map shown after.methods.items)
    (sym is_response ∙ (sym c.is_bad_expanded.ensures ∙ c.if-is_bad_expanded.false))
    (elim c.if-has_form.branch [
      | then-has_form w ↦ rw (w.taken-is, w.as_slice-taken.ensures.same)
          (rw w.if-has_form.true at forms)
      | else-has_form w ↦ rw w.taken-is (rw w.if-has_form.false at forms)
    ])
    (rw (← c.self-else-is_bad_expanded.view_is, ← c.self-else-is_bad_expanded-2.view_is)
    at delivered.ensures.step) (λ views. c.wrap_sent.ensures.step delivered.result
    delivered.new.tags views refl) c.wrap_sent.ensures.setup)
