use Rattle.std.proofs.Common.{◌≡◌, ◌≤◌, ◌<◌, ◌∙◌, length, rules, Err, Ok, Some, ap, arith}
use Rattle.eapol_capture.specs.Files.{max_frame}
use Rattle.eapol_capture.proofs.Dividing.{begins, records_end, length_stops, stops_take, bad_size}
use Rattle.eapol_capture.proofs.Dividing.{frame_divides, frame_takes}
use Rattle.eapol_capture.proofs.Waiting.{look_waits, length_waits, frame_waits}
use Rattle.eapol_capture.proofs.reader.PcapReader.read_frame.Goals as goal

pub returns-then-not-branch-clause-contents : goal.returns-then-not-branch-clause-contents
returns-then-not-branch-clause-contents g c =
    let called = c.in_ok-has_more.ensures in
    let none = ap Ok c.if-not-branch.true in
    records_end c.args.self.now c.has_more.new.self (g.S.Source.shown.octets c.args.source.now)
    (g.S.Source.shown.octets c.has_more.new.source) c.args.order
    c.requires.order called.left (called.none_pending none) (called.none_left none)

pub returns-in_err-size-clause-contents : goal.returns-in_err-size-clause-contents
returns-in_err-size-clause-contents g c =
    let same : c.from_residual-in_err-size.result ≡ Err c.in_err-size.field-0.0 = search rules in
    let looked = c.in_ok-has_more.ensures in
    let called = c.in_err-size.ensures in
    let some : 0 < length c.has_more.new.self.held = looked.some (ap Ok c.if-not-branch.false) in
    let order : c.read_length.new.self.order ≡ Some c.args.order =
    called.preserves.order ∙ looked.preserves.order ∙ c.requires.order in
    rw same
    (length_stops c.args.self.now c.has_more.new.self c.read_length.new.self
    (g.S.Source.shown.octets c.args.source.now) (g.S.Source.shown.octets c.has_more.new.source)
    (g.S.Source.shown.octets c.read_length.new.source) c.args.order c.in_err-size.field-0.0
    c.requires.order c.requires.bounded called.bounded looked.left looked.consumed some order
    called.part)

pub returns-in_err-size-clause-consumes : goal.returns-in_err-size-clause-consumes
returns-in_err-size-clause-consumes g c =
    let same : c.from_residual-in_err-size.result ≡ Err c.in_err-size.field-0.0 = search rules in
    let looked = c.in_ok-has_more.ensures in
    let called = c.in_err-size.ensures in
    let grows : c.args.self.now.taken ≤ c.read_length.new.self.taken =
    omega (arith, looked.consumed, called.grows) in
    rw same
    (stops_take c.in_err-size.field-0.0 12 c.has_more.new.self c.read_length.new.self
    (g.S.Source.shown.octets c.has_more.new.source)
    (g.S.Source.shown.octets c.read_length.new.source) called.part grows)

pub returns-then-size-gt-MAX_FRAME-clause-contents :
    goal.returns-then-size-gt-MAX_FRAME-clause-contents
returns-then-size-gt-MAX_FRAME-clause-contents g c =
    let looked = c.in_ok-has_more.ensures in
    let called = c.in_ok-size.ensures in
    let begun =
    begins c.args.order c.in_ok-size.size c.args.self.now c.has_more.new.self c.read_length.new.self
    (g.S.Source.shown.octets c.args.source.now) (g.S.Source.shown.octets c.has_more.new.source)
    (g.S.Source.shown.octets c.read_length.new.source) c.requires.order looked.left looked.consumed
    looked.pending called.part called.length called.bounded in
    let long : max_frame < c.in_ok-size.size = omega arith in
    bad_size c.args.order c.in_ok-size.size c.args.self.now c.read_length.new.self
    (g.S.Source.shown.octets c.args.source.now)
    (g.S.Source.shown.octets c.read_length.new.source) begun long

pub returns-clause-contents : goal.returns-clause-contents
returns-clause-contents g c =
    let looked = c.in_ok-has_more.ensures in
    let called = c.in_ok-size.ensures in
    let begun =
    begins c.args.order c.in_ok-size.size c.args.self.now c.has_more.new.self c.read_length.new.self
    (g.S.Source.shown.octets c.args.source.now) (g.S.Source.shown.octets c.has_more.new.source)
    (g.S.Source.shown.octets c.read_length.new.source) c.requires.order looked.left looked.consumed
    looked.pending called.part called.length called.bounded in
    let short : c.in_ok-size.size ≤ max_frame = omega arith in
    let body = c.read_body.ensures in
    let order : c.read_body.new.self.order ≡ Some c.args.order =
    body.preserves.order ∙ called.preserves.order ∙ looked.preserves.order ∙ c.requires.order in
    frame_divides c.read_body.result c.args.order c.in_ok-size.size c.args.self.now
    c.read_length.new.self c.read_body.new.self
    (g.S.Source.shown.octets c.args.source.now) (g.S.Source.shown.octets c.read_length.new.source)
    (g.S.Source.shown.octets c.read_body.new.source) begun short order body.bounded body.part

pub returns-clause-consumes : goal.returns-clause-consumes
returns-clause-consumes g c =
    let looked = c.in_ok-has_more.ensures in
    let called = c.in_ok-size.ensures in
    let begun =
    begins c.args.order c.in_ok-size.size c.args.self.now c.has_more.new.self c.read_length.new.self
    (g.S.Source.shown.octets c.args.source.now) (g.S.Source.shown.octets c.has_more.new.source)
    (g.S.Source.shown.octets c.read_length.new.source) c.requires.order looked.left looked.consumed
    looked.pending called.part called.length called.bounded in
    let body = c.read_body.ensures in
    frame_takes c.read_body.result c.args.order c.in_ok-size.size c.args.self.now
    c.read_length.new.self c.read_body.new.self
    (g.S.Source.shown.octets c.args.source.now) (g.S.Source.shown.octets c.read_length.new.source)
    (g.S.Source.shown.octets c.read_body.new.source) begun body.grows body.part

pub returns-in_err-has_more-clause-waits : goal.returns-in_err-has_more-clause-waits
returns-in_err-has_more-clause-waits g c =
    let same : c.from_residual.result ≡ Err c.in_err-has_more.field-0.0 = search rules in
    rw same
    (look_waits c.in_err-has_more.field-0.0 c.args.self.now c.has_more.new.self
    (g.S.Source.shown.octets c.args.source.now) c.args.order
    c.requires.order c.in_err-has_more.ensures.consumed c.in_err-has_more.ensures.spent)

pub returns-in_err-size-clause-waits : goal.returns-in_err-size-clause-waits
returns-in_err-size-clause-waits g c =
    let same : c.from_residual-in_err-size.result ≡ Err c.in_err-size.field-0.0 = search rules in
    let looked = c.in_ok-has_more.ensures in
    let called = c.in_err-size.ensures in
    rw same
    (length_waits c.in_err-size.field-0.0 c.args.self.now c.has_more.new.self c.read_length.new.self
    (g.S.Source.shown.octets c.args.source.now) (g.S.Source.shown.octets c.has_more.new.source)
    (g.S.Source.shown.octets c.read_length.new.source) c.args.order
    c.requires.order c.requires.bounded called.bounded looked.left looked.consumed looked.pending
    called.part)

pub returns-clause-waits : goal.returns-clause-waits
returns-clause-waits g c =
    let looked = c.in_ok-has_more.ensures in
    let called = c.in_ok-size.ensures in
    let begun =
    begins c.args.order c.in_ok-size.size c.args.self.now c.has_more.new.self c.read_length.new.self
    (g.S.Source.shown.octets c.args.source.now) (g.S.Source.shown.octets c.has_more.new.source)
    (g.S.Source.shown.octets c.read_length.new.source) c.requires.order looked.left looked.consumed
    looked.pending called.part called.length called.bounded in
    let short : c.in_ok-size.size ≤ max_frame = omega arith in
    let body = c.read_body.ensures in
    frame_waits c.read_body.result c.args.order c.in_ok-size.size c.args.self.now
    c.read_length.new.self c.read_body.new.self
    (g.S.Source.shown.octets c.args.source.now) (g.S.Source.shown.octets c.read_length.new.source)
    (g.S.Source.shown.octets c.read_body.new.source) begun short body.bounded body.part
