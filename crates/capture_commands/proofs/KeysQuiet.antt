-- No line of `keys` begins as the line of the result does.
use Rattle.std.proofs.Common.{◌≡◌, ℕ, List, true, Option, Some, None, Result, Ok, Err, refl}
use Rattle.octet_io.specs.Lines.{lines}
use Rattle.request_text.specs.Keys.{key_line}
use Rattle.request_text.specs.declared.key_line.KeyLine.{KeyLine}
use Rattle.text_tables.specs.declared.fault.LineFault.{LineFault}
use Rattle.answer_text.proofs.Plain.{plain}
use Rattle.answer_text.proofs.PlainAnswers.{key_plain}
use Rattle.answer_text.proofs.PlainKeys.{starts_result}
use Rattle.command_driver.proofs.Quiet.{IsQuiet, IsQuietLine, quiet_answer}
use Rattle.capture_commands.specs.Keys.{Asking, request_result, keys_step, keys_closing, all_asked}
use Rattle.capture_commands.specs.Keys.{keys_answer}

-- nothing is asked of the command
abbrev Any : Asking → Type 0
Any c = Unit {0}

request_quiet : (c : Asking) (x : Result (Option KeyLine) LineFault)
    → IsQuietLine starts_result Any (request_result c x)
request_quiet c (Err fault) = record { text = refl; refusing = tt; after = tt }
request_quiet c (Ok None) = record { text = refl; refusing = tt; after = tt }
request_quiet c (Ok (Some asked)) = record { text = key_plain asked; refusing = tt; after = tt }

line_quiet : (c : Asking) (l : List ℕ) → IsQuietLine starts_result Any (keys_step c l)
unfolding keys_step
line_quiet c l = request_quiet c (key_line l)

end_quiet : (c : Asking) → plain starts_result true (keys_closing c).text ≡ true
unfolding keys_closing
end_quiet c = refl

pub keys_quiet : (octets : List ℕ) → IsQuiet starts_result (keys_answer octets)
keys_quiet octets =
    quiet_answer starts_result keys_step keys_closing Any (λ c l _. line_quiet c l) end_quiet
    (lines octets) 0 all_asked tt
