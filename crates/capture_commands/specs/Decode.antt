-- The command decode: each line is a packet in hex, and the answer says what it is.
use Rattle.std.specs.Prelude.{ℕ, ◌+◌, ◌≤◌, List, [], Bool, false, Option, Some, None, Result, Ok}
use Rattle.std.specs.Prelude.{Err, is_err, if◌then◌else◌}
use Rattle.octet_io.specs.Lines.{lines}
use Rattle.eap_packet.specs.Fault.{packet_of}
use Rattle.text_tables.specs.Words.{fault_word}
use Rattle.request_text.specs.Packets.{packet_line}
use Rattle.text_tables.specs.declared.fault.LineFault.{LineFault}
use Rattle.answer_text.specs.Packets.{packet_text, packets_text}
use Rattle.command_driver.specs.Answers.{Answer}
use Rattle.command_driver.specs.Commands.{LineResult, Closing, goes, refuses, ends, answer}
use Rattle.capture_commands.specs.declared.decode.Decode.{Decode}
use Rattle.command_driver.specs.declared.status.Status.TheVariants as status

-- whether octets begin with no packet
unfoldable pub is_malformed : List ℕ → Bool
is_malformed octets = is_err (packet_of octets)

-- the counts with one more packet
abbrev pub with_packet : Decode → List ℕ → Decode
with_packet c octets = record {
  packets = c.packets + 1;
  malformed = c.malformed + (if is_malformed octets then 1 else 0);
}

abbrev pub packet_result : Decode → Result (Option (List ℕ)) LineFault → LineResult Decode
packet_result c (Err
    fault) = record { text = []; ruling = refuses (fault_word fault) status.Refused; after = c }
packet_result c (Ok None) = record { text = []; ruling = goes; after = c }
packet_result c (Ok (Some octets)) = record {
  text = packet_text (c.packets + 1) octets;
  ruling = goes;
  after = with_packet c octets;
}

-- the result of a line
unfoldable pub decode_step : Decode → List ℕ → LineResult Decode
decode_step c line = packet_result c (packet_line line)

-- the end of the input
unfoldable pub decode_closing : Decode → Closing
decode_closing c = record { text = packets_text c.packets c.malformed; closed = ends status.Done }

-- no line fails for want of memory
abbrev pub decode_lacks : Decode → List ℕ → Bool
decode_lacks c line = false

-- each line has at most one packet
pub record HasCounted (c : Decode) (count : ℕ) : Type 0 where
  pub packets : c.packets ≤ count
  pub malformed : c.malformed ≤ count

abbrev pub nothing_decoded : Decode
nothing_decoded = record { packets = 0; malformed = 0 }

-- what decoding an input answers
abbrev pub decode_answer : List ℕ → Answer
decode_answer octets = answer decode_step decode_closing 0 nothing_decoded (lines octets)
