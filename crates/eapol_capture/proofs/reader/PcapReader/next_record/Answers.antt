-- Numbering the record that was begun hands out nothing.
use Rattle.std.proofs.Common.{◌≡◌, ap}
use Rattle.eapol_capture.specs.Parts.{answer_of}
use Rattle.eapol_capture.specs.Reading.{Reading}
use Rattle.eapol_capture.proofs.Waiting.{waits_settled}
use Rattle.eapol_capture.proofs.reader.PcapReader.next_record.Goals as goal
use Rattle.eapol_capture.proofs.reader.PcapReader.next_record.Goals.{in-Ok, in-Err}

pub returns-clause-waits : goal.returns-clause-waits
returns-clause-waits g c =
    let same : c.match-read_next.answer ≡ answer_of c.read_next.result =
    elim c.match-read_next.branch [
      | in-Ok w ↦ rw w.in-Ok.is w.answer-is
      | in-Err w ↦ rw w.in-Err.is w.answer-is
    ] in
    rw same
    (waits_settled (answer_of c.read_next.result) c.args.self.now c.read_next.new.self
    c.settle.new.self (g.S.Source.shown.octets c.args.source.now)
    (ap (λ (r : Reading). r.taken) c.settle.ensures) c.read_next.ensures.waits)
