use Rattle.std.proofs.Common.{◌≡◌, ◌+◌, rules, Err, arith}
use Rattle.eapol_capture.proofs.Dividing.{stops_more, two_parts}
use Rattle.eapol_capture.proofs.reader.PcapReader.read_body.Goals as goal

pub returns-in_err-read_part-clause-part : goal.returns-in_err-read_part-clause-part
returns-in_err-read_part-clause-part g c =
    let same : c.from_residual.result ≡ Err c.in_err-read_part.field-0.0 = search rules in
    rw same
    (stops_more c.in_err-read_part.field-0.0 4 (4 + c.args.size)
    c.args.self.now c.read_part.new.self (g.S.Source.shown.octets c.args.source.now)
    (g.S.Source.shown.octets c.read_part.new.source)
    (omega arith) c.in_err-read_part.ensures.part)

pub returns-clause-part : goal.returns-clause-part
returns-clause-part g c =
    two_parts c.read_part-2.result c.args.size c.args.self.now c.read_part.new.self
    c.read_part-2.new.self (g.S.Source.shown.octets c.args.source.now) (g.S.Source.shown.octets
    c.read_part.new.source) (g.S.Source.shown.octets c.read_part-2.new.source)
    c.in_ok-read_part.ensures.part c.read_part-2.ensures.part
