-- Where the settings are whole, the line starts the world of the setup that the reader gives.
use Rattle.std.proofs.Common.{◌≡◌, Result, Ok, Err, IsOk, refl, subst, sym}
use Rattle.login_setup.specs.declared.setup.Setup.{Setup}
use Rattle.scenario_text.specs.Items as item
use Rattle.scenario_text.specs.Reading.{Reading, ReadLine, ready, setup_of, read_line}
use Rattle.text_tables.specs.declared.fault.LineFault.{LineFault}
use Rattle.command_driver.specs.Commands.{AnswersLine}
use Rattle.world_commands.specs.Replay.{seen_of, replay_step, replay_lacks, reading_result}
use Rattle.world_commands.specs.Replay.{reading_lacks}
use Rattle.world_commands.proofs.replay.ReplayCommand.handle_line.Goals as goal

from_ready : (x : Result Setup LineFault) (after : Reading)
    (reading : Result ReadLine LineFault) (Q : Result ReadLine LineFault → Type 0) → IsOk x
    → reading ≡ Ok (record { item = ready x; after = after }) → ((setup : Setup) → x ≡ Ok setup
    → Q (Ok (record { item = item.Ready setup; after = after }))) → Q reading
from_ready (Ok setup) after reading Q whole is each = subst Q (sym is) (each setup refl)
from_ready (Err fault) after reading Q whole is each = absurd cc

pub returns-in-Ok-Ready-clause-answers : goal.returns-in-Ok-Ready-clause-answers
unfolding replay_step replay_lacks
returns-in-Ok-Ready-clause-answers g c =
    let seen = seen_of g.P.PeerMethod.peer_shown g.S.ServerMethod.server_shown in
    let now = c.line_into.new.self in
    let Q : Result ReadLine LineFault → Type 0 =
    λ x. AnswersLine g.W.Sink.shown c.start.result c.args.sink.now c.start.new.sink
    (reading_result (seen c.args.self.now) x) (reading_lacks x) (seen c.start.new.self) in
    from_ready (setup_of now.settings) now (read_line c.args.self.now.reader c.args.line.now) Q
    (rw c.in-Ok-Ready.field-0-is at c.in-Ok-Ready.ensures.ready)
    (rw c.in-Ok-Ready.field-0-is at c.in-Ok-Ready.ensures.read) c.start.ensures.answers
