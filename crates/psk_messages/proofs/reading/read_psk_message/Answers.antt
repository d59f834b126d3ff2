-- The answer by the relation, as each octet fits.
use Rattle.std.proofs.Common.{◌<◌, arith}
use Rattle.std.proofs.lemmas.List.Elements.{All-from_get_or}
use Rattle.psk_messages.proofs.Grammar.{encoding_if_received, none_if_refused}
use Rattle.psk_messages.proofs.reading.read_psk_message.Goals as goal

pub returns-clause-spelled : goal.returns-clause-spelled
returns-clause-spelled c =
    let octets = c.args.body.now in
    let small = All-from_get_or (λ b. b < 256) octets 0 (λ i _. omega (arith, c.type_inv.body i)) in
    encoding_if_received c.read_shape.result octets small c.read_shape.ensures.message

pub returns-clause-refused : goal.returns-clause-refused
returns-clause-refused c =
    none_if_refused c.read_shape.result c.args.body.now c.read_shape.ensures.message
