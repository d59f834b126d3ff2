use Rattle.std.proofs.Common.{◌≡◌, rules, Err}
use Rattle.eapol_capture.proofs.Dividing.{header_stops, header_judged}
use Rattle.eapol_capture.proofs.Waiting.{header_waits, header_heads}
use Rattle.eapol_capture.proofs.reader.PcapReader.read_header.Goals as goal

pub returns-in_err-read_part-clause-contents : goal.returns-in_err-read_part-clause-contents
returns-in_err-read_part-clause-contents g c =
    let same : c.from_residual.result ≡ Err c.in_err-read_part.field-0.0 = search rules in
    let called = c.in_err-read_part.ensures in
    rw same
    (header_stops c.args.self.now c.read_part.new.self (g.S.Source.shown.octets c.args.source.now)
    (g.S.Source.shown.octets c.read_part.new.source) c.in_err-read_part.field-0.0
    c.requires.header c.requires.bounded called.bounded called.part)

pub returns-clause-contents : goal.returns-clause-contents
returns-clause-contents g c =
    let called = c.in_ok-read_part.ensures in
    header_judged c.judge.result c.args.self.now c.read_part.new.self c.judge.new.self
    (g.S.Source.shown.octets c.args.source.now) (g.S.Source.shown.octets c.read_part.new.source)
    c.requires.header c.requires.bounded called.bounded called.part c.judge.ensures.judged
    c.judge.ensures.stored

pub returns-in_err-read_part-clause-header : goal.returns-in_err-read_part-clause-header
returns-in_err-read_part-clause-header g c =
    let same : c.from_residual.result ≡ Err c.in_err-read_part.field-0.0 = search rules in
    let called = c.in_err-read_part.ensures in
    rw same
    (header_waits c.in_err-read_part.field-0.0 c.args.self.now c.read_part.new.self
    (g.S.Source.shown.octets c.args.source.now) (g.S.Source.shown.octets c.read_part.new.source)
    c.requires.header c.requires.bounded called.bounded called.part)

pub returns-clause-header : goal.returns-clause-header
returns-clause-header g c =
    header_heads c.judge.result c.args.self.now c.read_part.new.self c.judge.new.self
    (g.S.Source.shown.octets c.args.source.now) (g.S.Source.shown.octets c.read_part.new.source)
    c.in_ok-read_part.ensures.part c.judge.ensures.judged c.judge.ensures.stored
