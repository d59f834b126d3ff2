use Rattle.std.proofs.Common.{◌≤◌, ◌-◌, length, take, drop, arith}
use Rattle.octet_io.proofs.Pieces.{prefix_at}
use Rattle.octet_io.proofs.unread.Unread.read.Goals as goal

pub returns-clause-consumed : goal.returns-clause-consumed
returns-clause-consumed c =
    let octets_are = c.as_slice.ensures.value in
    let put = rw octets_are at c.put_front.ensures in
    let fits : c.min-count.result ≤ length (take (length c.as_slice.result.now
    - c.self.inside.place) (drop c.self.inside.place c.as_slice.result.now)) = omega arith in
    let fits_items = rw octets_are at fits in
    prefix_at c.min-count.result c.self.inside.place c.self.inside.octets.items c.args.self.now
    (drop (length (take c.min-count.result (take (length c.self.inside.octets.items
    - c.self.inside.place) (drop c.self.inside.place c.self.inside.octets.items)))) c.args.buf.now)
    c.put_front.new.buf c.self.view_is fits_items put
