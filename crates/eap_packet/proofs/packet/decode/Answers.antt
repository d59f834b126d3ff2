-- What is read is a packet and the first Length octets are its spelling, as no cause applies and
-- each octet fits.
use Rattle.std.proofs.Common.{◌<◌, ap, ◌∙◌, sym, subst, arith}
use Rattle.std.proofs.lemmas.List.Elements.{All-from_get_or}
use Rattle.eap_packet.specs.Packet.{spelled, IsPacket}
use Rattle.eap_packet.specs.Fault.{code_of}
use Rattle.eap_packet.proofs.Faults.{starts_if_none}
use Rattle.eap_packet.proofs.Fronts.{encoding_front}
use Rattle.eap_packet.proofs.Grammar.{fields_are_packet}
use Rattle.eap_packet.proofs.packet.decode.Goals as goal

pub returns-in-None-clause-sound : goal.returns-in-None-clause-sound
returns-in-None-clause-sound c =
    let octets = c.args.octets.now in
    let small =
    All-from_get_or (λ b. b < 256) octets 0 (λ i _. omega (arith, c.type_inv.octets i)) in
    subst IsPacket (sym c.view_of.ensures.value)
    (fields_are_packet (code_of octets) octets small (starts_if_none octets cc))

pub returns-in-None-clause-whole : goal.returns-in-None-clause-whole
returns-in-None-clause-whole c =
    let octets = c.args.octets.now in
    let small =
    All-from_get_or (λ b. b < 256) octets 0 (λ i _. omega (arith, c.type_inv.octets i)) in
    c.view_of.ensures.whole ∙ encoding_front octets small (starts_if_none octets cc)
    ∙ ap spelled (sym c.view_of.ensures.value)
