-- The command keys: each line asks for a cipher, a MAC, a key schedule or the name of a key.
use Rattle.std.specs.Prelude.{ℕ, List, [], Bool, false, Option, Some, None, Result, Ok, Err}
use Rattle.octet_io.specs.Lines.{lines}
use Rattle.text_tables.specs.Words.{fault_word}
use Rattle.request_text.specs.Keys.{key_line}
use Rattle.text_tables.specs.declared.fault.LineFault.{LineFault}
use Rattle.request_text.specs.declared.key_line.KeyLine.{KeyLine}
use Rattle.answer_text.specs.Answers.{key_text}
use Rattle.command_driver.specs.Answers.{Answer}
use Rattle.command_driver.specs.Commands.{LineResult, Closing, goes, refuses, ends, answer}
use Rattle.command_driver.specs.declared.status.Status.TheVariants as status

-- each request is answered by itself: nothing of the command decides the result of a line
pub record Asking : Type 0 where

abbrev pub request_result : Asking → Result (Option KeyLine) LineFault → LineResult Asking
request_result c (Err
    fault) = record { text = []; ruling = refuses (fault_word fault) status.Refused; after = c }
request_result c (Ok None) = record { text = []; ruling = goes; after = c }
request_result c (Ok (Some asked)) = record { text = key_text asked; ruling = goes; after = c }

-- the result of a line
unfoldable pub keys_step : Asking → List ℕ → LineResult Asking
keys_step c line = request_result c (key_line line)

-- the end of the input
unfoldable pub keys_closing : Asking → Closing
keys_closing c = record { text = []; closed = ends status.Done }

-- no line fails for want of memory
abbrev pub keys_lacks : Asking → List ℕ → Bool
keys_lacks c line = false

abbrev pub all_asked : Asking
all_asked = record {}

-- what an input answers
abbrev pub keys_answer : List ℕ → Answer
keys_answer octets = answer keys_step keys_closing 0 all_asked (lines octets)
