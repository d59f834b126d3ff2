use Rattle.eapol_capture.proofs.PassDelivery.{InPart}
use Rattle.eapol_capture.proofs.reader.PcapReader.read_part.Given as goal

abbrev pub invariant-loop-missing : goal.invariant-loop-missing
invariant-loop-missing g l =
    InPart l.count l.missing l.fn.self l.self (g.S.Source.shown.octets l.fn.source)
    (g.S.Source.shown.octets l.source) (g.S.Source.shown.faults l.fn.source)
    (g.S.Source.shown.faults l.source)

abbrev pub decreases-loop-missing : goal.decreases-loop-missing
decreases-loop-missing g l = l.missing
