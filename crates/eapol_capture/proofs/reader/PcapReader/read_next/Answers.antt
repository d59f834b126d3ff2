use Rattle.std.proofs.Common.{◌≡◌, None}
use Rattle.eapol_capture.specs.Parts.{answer_of}
use Rattle.eapol_capture.proofs.Dividing.{fails_divides, fails_takes, fails_exhausts}
use Rattle.eapol_capture.proofs.Waiting.{waits_behind}
use Rattle.eapol_capture.proofs.reader.PcapReader.read_next.Goals as goal

pub returns-in-Err-clause-contents : goal.returns-in-Err-clause-contents
returns-in-Err-clause-contents g c =
    fails_divides c.in-Err.answer _ _ _ _ c.in-Err.ensures.order c.in-Err.ensures.contents

pub returns-in-Err-clause-consumes : goal.returns-in-Err-clause-consumes
returns-in-Err-clause-consumes g c =
    fails_takes c.in-Err.answer _ _ _ _ c.in-Err.ensures.contents c.in-Err.ensures.grows

pub returns-in-Err-clause-exhausted : goal.returns-in-Err-clause-exhausted
returns-in-Err-clause-exhausted g c = fails_exhausts c.in-Err.answer _ _ _ c.in-Err.ensures.contents

pub returns-in-Ok-clause-waits : goal.returns-in-Ok-clause-waits
returns-in-Ok-clause-waits g c =
    let none : c.args.self.now.order ≡ None = cc in
    waits_behind (answer_of c.read_frame-in-Ok.result)
    c.in-Ok.order c.args.self.now c.read_header.new.self c.read_frame-in-Ok.new.self
    (g.S.Source.shown.octets c.args.source.now) (g.S.Source.shown.octets c.read_header.new.source)
    none c.in-Ok.ensures.bounded c.in-Ok.ensures.header c.read_frame-in-Ok.ensures.waits
