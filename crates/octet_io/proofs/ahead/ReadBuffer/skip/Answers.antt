use Rattle.std.proofs.Common.{◌≤◌, length, drop, take, ◌-◌}
use Rattle.octet_io.proofs.Pieces.{skipped}
use Rattle.octet_io.proofs.ahead.ReadBuffer.skip.Goals as goal

pub returns : goal.returns
returns c =
    let fits : c.args.count ≤ length (take (c.self.inside.filled - c.self.inside.place)
    (drop c.self.inside.place c.self.inside.octets)) = rw c.self.view_is c.requires in
    rw (← c.self.view_is) (skipped c.args.count c.self.inside.place c.self.inside.filled
    c.self.inside.octets fits c.self.told)
