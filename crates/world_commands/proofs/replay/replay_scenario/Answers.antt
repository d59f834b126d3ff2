use Rattle.std.proofs.Common.{None, sym, refl, ap}
use Rattle.octet_io.specs.Lines.{lines}
use Rattle.scenario_text.specs.Reading.{Reading, no_settings}
use Rattle.text_tables.specs.declared.phase.Phase.TheVariants.{Unread}
use Rattle.answer_text.specs.Writes.{Appends}
use Rattle.command_driver.specs.Answers.{after_text}
use Rattle.world_commands.specs.Replay.{ReplayNow}
use Rattle.world_commands.specs.Scenario.{trace_header}
use Rattle.command_driver.proofs.Endings.{front_first}
use Rattle.world_commands.proofs.Replaying.{AtUnread, answers_before, lacks_only_with_setup}
use Rattle.command_driver.proofs.Responding.{reads_after, cut}
use Rattle.world_commands.proofs.replay.replay_scenario.Goals as goal

pub returns-in-Ok : goal.returns-in-Ok
unfolding Appends
returns-in-Ok g c =
    let nothing_read : Reading = record { phase = Unread; settings = no_settings } in
    let begun : ReplayNow = record { names = c.args.names; reader = nothing_read; world = None } in
    reads_after trace_header c.in-Ok.ensures.writes c.in-Ok.ensures.uncounted
    (λ octets. ap (after_text trace_header)
    (sym (answers_before begun (lines octets) 0 nothing_read (AtUnread refl))))
    (λ may octets e. lacks_only_with_setup begun (lines octets) 0 nothing_read (AtUnread refl)
    (may octets e)) (rw c.new-command.ensures at c.drive.ensures.responds)

pub returns-in-Err : goal.returns-in-Err
unfolding Appends
returns-in-Err g c =
    cut (λ octets e. front_first _ _ _ _ c.in-Err.ensures.writes) refl refl c.in-Err.ensures.counted
