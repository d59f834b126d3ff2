use Rattle.std.proofs.Common.{◌≡◌, ◌≤◌, ◌+◌, ◌*◌, ◌++◌, length}
use Rattle.radius_carry.specs.Packet.{octets_of}
use Rattle.radius_carry.specs.Written.{pieces}
use Rattle.radius_carry.proofs.writing.put_eap.Given as goal

-- what is written, what is left to write, and how much room both take: 255 octets for 253
abbrev pub invariant-loop-rest : goal.invariant-loop-rest
invariant-loop-rest l =
    (l.packet ++ octets_of (pieces l.rest) ≡ l.initial.packet ++ octets_of (pieces l.eap))
    × (1 ≤ length l.rest → 253 * length l.packet + 255 * length l.rest
    ≤ 253 * length l.initial.packet + 255 * length l.eap)
    × (253 * length l.packet ≤ 253 * length l.initial.packet + 255 * length l.eap + 504)

abbrev pub decreases-loop-rest : goal.decreases-loop-rest
decreases-loop-rest l = length l.rest
