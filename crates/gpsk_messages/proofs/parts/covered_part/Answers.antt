-- The MAC and the OP-Code stand beside the covered octets.
use Rattle.std.proofs.Common.{rules, ◌+◌, ◌≤◌, length, arith}
use Rattle.gpsk_messages.specs.Message.{message_of}
use Rattle.gpsk_messages.proofs.MacParts.{covered_start, covered_middle}
use Rattle.gpsk_messages.proofs.parts.covered_part.Goals as goal

pub overflow_sub-result : goal.overflow_sub-result
overflow_sub-result c = omega (
  arith,
  covered_start (message_of c.args.view.now)
      c.args.body.now c.mac_part.result.now c.requires c.mac_part.ensures,
)

pub slice_bounds-result-count : goal.slice_bounds-result-count
slice_bounds-result-count c = omega (
  arith,
  covered_start (message_of c.args.view.now)
      c.args.body.now c.mac_part.result.now c.requires c.mac_part.ensures,
)

pub slice_bounds-result-start : goal.slice_bounds-result-start
slice_bounds-result-start c =
    let h : length c.mac_part.result.now + 1 ≤ length c.args.body.now =
    covered_start (message_of c.args.view.now)
    c.args.body.now c.mac_part.result.now c.requires c.mac_part.ensures in
    search rules

pub returns-clause-covered : goal.returns-clause-covered
returns-clause-covered c = covered_middle (message_of c.args.view.now)
    c.args.body.now c.mac_part.result.now c.requires c.mac_part.ensures
