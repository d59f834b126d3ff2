-- What is left of the packet before its MAC.
use Rattle.std.proofs.Common.{◌∙◌, ◌-◌, length, take, ap, arith}
use Rattle.gpsk_messages.specs.Message.{message_of}
use Rattle.gpsk_ends.proofs.MacLaws.{IsFront, mac_length_bounded, is_front}
use Rattle.gpsk_ends.proofs.sealing.write_front.Goals as goal

pub overflow_sub-len : goal.overflow_sub-len
overflow_sub-len c =
    let message = message_of c.args.view.now in
    let packet = c.write_gpsk_into.new.packet in
    omega (
      arith,
      mac_length_bounded c.args.code c.args.id c.args.suite message packet c.requires.typed
          c.requires.mac c.write_gpsk_into.ensures,
    )

is_cut : (c : goal.After-truncate)
    → IsFront c.args.code c.args.id c.args.suite (message_of c.args.view.now) c.truncate.new.self
is_cut c =
    let packet = c.write_gpsk_into.new.packet in
    is_front c.args.code c.args.id c.args.suite (message_of c.args.view.now)
    packet c.truncate.new.self c.requires.typed c.requires.mac
    c.write_gpsk_into.ensures
    (c.truncate.ensures ∙ ap (λ n. take (n - c.ks.result) packet) c.len.ensures.count
    ∙ ap (λ n. take (length packet - n) packet) c.ks.ensures)

pub returns-clause-prefix : goal.returns-clause-prefix
returns-clause-prefix c = (is_cut c).begins

pub returns-clause-covered : goal.returns-clause-covered
returns-clause-covered c = (is_cut c).covered

pub returns-clause-sealed : goal.returns-clause-sealed
returns-clause-sealed c = (is_cut c).sealed
