use Rattle.std.proofs.Common.{◌≡◌, ◌+◌, ◌-◌, arith, length-take}
use Rattle.eapol_capture.specs.Files.{max_stored}
use Rattle.eapol_capture.proofs.PassDelivery.{Looks, ConsumesSome, in_part, more_part}
use Rattle.eapol_capture.proofs.reader.PcapReader.read_part.Goals as goal

pub loop-missing-init : goal.loop-missing-init
loop-missing-init g c =
    in_part c.args.count c.args.self.now c.drop_frame.new.self
    (g.S.Source.shown.octets c.args.source.now) (g.S.Source.shown.faults c.args.source.now)
    c.drop_frame.ensures c.requires.bounded

pub loop-missing-preserved : goal.loop-missing-preserved
loop-missing-preserved g c =
    let before = c.args.self.now in
    let now = c.loop-missing.self in
    let mid = c.has_more.new.self in
    let after = c.consume_pending-handed.new.self in
    let n = c.consume_pending-handed.result in
    let looks : Looks now mid (g.S.Source.shown.octets c.loop-missing.source)
    (g.S.Source.shown.octets c.has_more.new.source) =
    record {
      keeps = c.has_more.ensures.preserves;
      taken = c.has_more.ensures.consumed;
      frame = c.has_more.ensures.frame;
      octets = c.in_ok-has_more.ensures.left;
      held = c.in_ok-has_more.ensures.pending;
    } in
    let t = c.consume_pending-handed.ensures in
    let takes : ConsumesSome n mid after =
    record {
      keeps = t.preserves;
      there = t.there;
      taken = t.consumed;
      held = t.pending;
      kept = t.stored;
      bounded = t.bounded;
    } in
    let fewer : c.loop-missing.missing - n + n ≡ c.loop-missing.missing = omega arith in
    more_part c.args.count c.loop-missing.missing n (c.loop-missing.missing - n)
    before now mid after (g.S.Source.shown.octets c.args.source.now)
    (g.S.Source.shown.octets c.loop-missing.source) (g.S.Source.shown.octets c.has_more.new.source)
    (g.S.Source.shown.faults c.args.source.now) (g.S.Source.shown.faults c.loop-missing.source)
    (g.S.Source.shown.faults c.has_more.new.source)
    c.loop-missing.invariant looks takes fewer c.in_ok-has_more.ensures.read

pub returns-clause-size : goal.returns-clause-size
returns-clause-size g c =
    let p = c.loop-missing.invariant in
    let none : c.loop-missing.missing ≡ 0 = omega arith in
    rw p.kept (omega (arith, length-take max_stored p.part, p.all))
