-- Both commands answer, line by line, the text of their end's run.
use Rattle.std.proofs.Common.{◌≡◌, ℕ, List, false, Result, Ok, Err, IsOk, is_err, refl}
use Rattle.octet_io.specs.Lines.{lines}
use Rattle.text_tables.specs.Fields.{◌>>=◌}
use Rattle.text_tables.specs.declared.fault.LineFault.{LineFault}
use Rattle.scenario_text.specs.Reading.{peer_setup_of, server_setup_of}
use Rattle.end_pipe.specs.EndRun.{peer_table, server_table}
use Rattle.end_pipe.specs.declared.table.Role.TheVariants.{Peer, Server}
use Rattle.command_driver.specs.Commands.{answer}
use Rattle.end_commands.specs.EndCommand.{end_closing, end_line_result, initial_command}
use Rattle.end_commands.specs.PeerCommand.{peer_answer}
use Rattle.end_commands.specs.ServerCommand.{server_answer}
use Rattle.end_commands.proofs.Scripted.{answers_are}

-- what is made of settings that are whole
made : {A B : Type 0} (x : Result A LineFault) (f : A → B) → is_err x ≡ false
    → IsOk (x >>= λ a. Ok (f a))
made (Ok a) f e = refl
made (Err fault) f e = absurd cc

pub peer_answers : (octets : List ℕ) → answer (end_line_result peer_table) (end_closing
    peer_table) 0 (initial_command Peer) (lines octets) ≡ peer_answer octets
peer_answers octets = answers_are Peer peer_table (λ s whole. made (peer_setup_of s) _ whole) octets

pub server_answers : (octets : List ℕ)
    → answer (end_line_result server_table) (end_closing server_table) 0 (initial_command
    Server) (lines octets) ≡ server_answer octets
server_answers octets =
    answers_are Server server_table (λ s whole. made (server_setup_of s) _ whole) octets
