-- What is read is a packet that carries EAP, as no cause applies and each octet fits.
use Rattle.std.proofs.Common.{◌<◌, arith}
use Rattle.std.proofs.lemmas.List.Elements.{All-from_get_or}
use Rattle.radius_carry.specs.Fault.{value_of, packet_at}
use Rattle.radius_carry.proofs.Causes.{starts_if_none, head_if_faultless}
use Rattle.radius_carry.proofs.Fronts.{radius_if_starts}
use Rattle.radius_carry.proofs.reading.read_radius.Goals as goal

pub view_of-requires : goal.view_of-requires
view_of-requires c =
    let head = head_if_faultless c.args.octets.now cc in
    record { known = head.known; head = head.low; whole = head.whole }

pub returns-in-None-clause-sound : goal.returns-in-None-clause-sound
unfolding value_of packet_at
returns-in-None-clause-sound c =
    let octets = c.args.octets.now in
    let small =
    All-from_get_or (λ b. b < 256) octets 0 (λ i _. omega (arith, c.type_inv.octets i)) in
    rw (
      c.view_of.ensures.kind,
      c.view_of.ensures.id,
      c.view_of.ensures.authenticator,
      c.view_of.ensures.attributes,
      c.view_of.ensures.whole,
    )
    (radius_if_starts octets small (starts_if_none octets cc))
