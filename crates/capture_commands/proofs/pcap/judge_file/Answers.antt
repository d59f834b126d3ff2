-- A file's records one after the other give the answer to the file.
use Rattle.std.proofs.Common.{◌+◌, refl, sym, ap, ◌∙◌, arith}
use Rattle.answer_text.specs.Writes.{Appends}
use Rattle.command_driver.proofs.Endings.{ends_same, front_same}
use Rattle.command_driver.proofs.Responding.{finished, cut, unreadable}
use Rattle.capture_commands.proofs.PcapDriving.{divides_last, faults_last, started_last, found_step}
use Rattle.capture_commands.proofs.PcapDriving.{underway_starts, underway_proceeds, underway_cut}
use Rattle.capture_commands.proofs.PcapDriving.{underway_rests, underway_ends}
use Rattle.capture_commands.proofs.PcapFound.{pcap_answers}
use Rattle.capture_commands.proofs.pcap.judge_file.Goals as goal

pub loop-found-init : goal.loop-found-init
loop-found-init g c = rw (c.new-reader.ensures, c.new-found.ensures) (record {
  not_over = refl;
  bounded = omega arith;
  few_records = omega arith;
  holds = record { packets = omega arith; findings = omega arith };
  underway = λ octets e. underway_starts _ _ _ _ (rw e refl);
  read_faults = refl;
  write_faults = refl;
})

pub loop-found-preserved : goal.loop-found-preserved
unfolding Appends
loop-found-preserved g c =
    let is = c.in-Record.ensures in
    let same = c.loop-found.invariant in
    let text = rw (c.number.ensures, c.frame.ensures.same) at c.in-Ok.ensures.appends.writes in
    let after = rw (c.number.ensures, c.frame.ensures.same) at c.in-Ok.ensures.after in
    record {
      not_over = is.over;
      bounded = is.bounded;
      few_records = omega (arith, is.number, is.consumes);
      holds = rw after (found_step c.args.users.now c.loop-found.found c.loop-found.reader.number
          c.next_record.new.self.number _ is.number same.holds);
      underway = λ octets e. underway_proceeds c.args.users.now _ _ _ _ _ _ _ _ _ _ _
          (same.underway octets e) is.contents is.number text after;
      read_faults = is.read ∙ same.read_faults;
      write_faults = c.in-Ok.ensures.appends.uncounted ∙ same.write_faults;
    }

pub returns-in-Err : goal.returns-in-Err
unfolding Appends
returns-in-Err g c =
    let is = c.in-Record.ensures in
    let same = c.loop-found.invariant in
    let front = rw (c.number.ensures, c.frame.ensures.same) at c.in-Err.ensures.appends.writes in
    cut
    (λ octets e. front_same _ _ _ _ (pcap_answers c.args.users.now octets)
    (underway_cut c.args.users.now _ _ _ _ _ _ _ _ _ _ (same.underway octets e)
    is.contents is.number front)) (is.read ∙ same.read_faults)
    same.write_faults c.in-Err.ensures.appends.counted

pub returns-in-Read : goal.returns-in-Read
returns-in-Read g c =
    let same = c.loop-found.invariant in
    unreadable
    (λ octets e. front_same _ _ _ _ (pcap_answers c.args.users.now octets)
    (underway_rests c.args.users.now _ _ _ _ _ _ (same.underway octets e)))
    same.read_faults c.in-Read.ensures.read same.write_faults

pub returns-in_default : goal.returns-in_default
returns-in_default g c =
    let is = c.next_record.ensures in
    let same = c.loop-found.invariant in
    let finishes = c.close.ensures.finishes in
    finished finishes
    (λ octets e. ends_same _ _ _ _ _ (sym (pcap_answers c.args.users.now octets))
    (underway_ends c.args.users.now _ _ _ _ _ _ _ _ _ _ _ _ (same.underway octets e)
    (divides_last _ _ _ _ _ c.in_default.not-Record c.in_default.not-Read is.contents)
    (c.number-in_default.ensures ∙ is.number ∙ ap (λ k.
    c.loop-found.reader.number + k) (started_last _ _ _ c.in_default.not-Read)) finishes.ends))
    (c.close.ensures.drains _ is.exhausted)
    (faults_last g.S.Source.shown _ _ _ c.in_default.not-Read is.read ∙ same.read_faults)
    same.write_faults
