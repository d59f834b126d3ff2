use Rattle.std.proofs.Common.{◌≡◌, ◌≤◌, ◌++◌, ◌-◌, length, take, min, arith}
use Rattle.eapol_capture.specs.Files.{max_stored}
use Rattle.eapol_capture.proofs.PassDelivery.{kept_part}
use Rattle.eapol_capture.proofs.reader.PcapReader.consume_pending.Goals as goal

pub returns-clause-stored : goal.returns-clause-stored
returns-clause-stored c =
    let count = c.min-count.result in
    let frame = c.self.inside.frame in
    let held = c.self.inside.ahead in
    let held_is : c.as_slice-held.result.now ≡ held = cc in
    let room : length frame ≤ max_stored = omega arith in
    let kept : c.min-kept.result ≡ min count (max_stored - length frame) = omega arith in
    let put : c.put.new.self ≡ frame ++ take (min count (max_stored - length frame)) held =
    rw (held_is, kept) at c.put.ensures in
    let frame_now : c.args.self.now.frame ≡ frame = cc in
    let held_now : c.args.self.now.held ≡ held = cc in
    rw (frame_now, held_now, put) (kept_part max_stored frame held count room)
