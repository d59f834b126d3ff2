-- Where the covered octets of a message stand in its Type-Data.
use Rattle.std.proofs.Common.{◌≡◌, ℕ, ◌+◌, ◌-◌, ◌≤◌, List, ◌∷◌, ◌++◌, length, take, drop, ap, sym}
use Rattle.std.proofs.Common.{◌∙◌, arith, length-append}
use Rattle.std.proofs.lemmas.List.{take_at}
use Rattle.gpsk_messages.specs.Message.{Message, op_code, covered_of, mac_of, spelled}

-- the octets after the OP-Code
trailing_op : (message : Message) (body : List ℕ) → body ≡ spelled message
    → drop 1 body ≡ covered_of message ++ mac_of message
unfolding spelled
trailing_op message body e = ap (λ (l : List ℕ). drop 1 l) e

size_reported : (message : Message) (body : List ℕ) → body ≡ spelled message
    → length body ≡ 1 + (length (covered_of message) + length (mac_of message))
unfolding spelled
size_reported message body e =
    let count = length-append (covered_of message) (mac_of message) in
    let size : length body ≡ length (op_code message ∷ covered_of message ++ mac_of message) =
    ap length e in
    omega arith

-- the MAC and the OP-Code stand beside the covered octets
pub covered_start : (message : Message) (body mac : List ℕ) → body ≡ spelled message
    → mac ≡ mac_of message → length mac + 1 ≤ length body
covered_start message body mac e m =
    let size = size_reported message body e in
    let same : length mac ≡ length (mac_of message) = ap length m in
    omega arith

pub covered_middle : (message : Message) (body mac : List ℕ) → body ≡ spelled message
    → mac ≡ mac_of message →
    take (length body - length mac - 1) (drop 1 body) ≡ covered_of message
covered_middle message body mac e m =
    let size = size_reported message body e in
    let same : length mac ≡ length (mac_of message) = ap length m in
    let count : length body - length mac - 1 ≡ length (covered_of message) = omega arith in
    ap (λ (l : List ℕ). take (length body - length mac - 1) l) (trailing_op message body e)
    ∙ take_at (covered_of message) (mac_of message) _ (sym count)
