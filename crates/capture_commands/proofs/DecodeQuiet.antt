-- No line of `decode` begins as the line of the result does.
use Rattle.std.proofs.Common.{◌≡◌, ℕ, ◌+◌, List, true, Option, Some, None, Result, Ok, Err, refl}
use Rattle.octet_io.specs.Lines.{lines}
use Rattle.request_text.specs.Packets.{packet_line}
use Rattle.text_tables.specs.declared.fault.LineFault.{LineFault}
use Rattle.answer_text.proofs.Plain.{plain}
use Rattle.answer_text.proofs.PlainAnswers.{packet_plain, packets_plain}
use Rattle.answer_text.proofs.PlainKeys.{starts_result}
use Rattle.command_driver.proofs.Quiet.{IsQuiet, IsQuietLine, quiet_answer}
use Rattle.capture_commands.specs.Decode.{packet_result, decode_step, decode_closing}
use Rattle.capture_commands.specs.Decode.{nothing_decoded, decode_answer}
use Rattle.capture_commands.specs.declared.decode.Decode.{Decode}

-- nothing is asked of the command
abbrev Any : Decode → Type 0
Any c = Unit {0}

packet_quiet : (c : Decode) (x : Result (Option (List ℕ)) LineFault)
    → IsQuietLine starts_result Any (packet_result c x)
packet_quiet c (Err fault) = record { text = refl; refusing = tt; after = tt }
packet_quiet c (Ok None) = record { text = refl; refusing = tt; after = tt }
packet_quiet c (Ok (Some octets)) =
    record { text = packet_plain (c.packets + 1) octets; refusing = tt; after = tt }

line_quiet : (c : Decode) (l : List ℕ) → IsQuietLine starts_result Any (decode_step c l)
unfolding decode_step
line_quiet c l = packet_quiet c (packet_line l)

end_quiet : (c : Decode) → plain starts_result true (decode_closing c).text ≡ true
unfolding decode_closing
end_quiet c = packets_plain c.packets c.malformed

pub decode_quiet : (octets : List ℕ) → IsQuiet starts_result (decode_answer octets)
decode_quiet octets =
    quiet_answer starts_result decode_step decode_closing Any (λ c l _. line_quiet c l) end_quiet
    (lines octets) 0 nothing_decoded tt
