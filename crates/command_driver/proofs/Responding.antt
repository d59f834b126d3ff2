-- How a call that answers ends.
use Rattle.std.proofs.Common.{◌≡◌, ◌≤◌, ℕ, List, Bool, false, Some, refl, subst, arith}
use Rattle.octet_io.specs.Known.{append_known}
use Rattle.octet_io.specs.Shown.{Shown}
use Rattle.answer_text.specs.Writes.{WritesFront}
use Rattle.command_driver.specs.Answers.{Answer, after_text, Ends, cut_short, by_read, by_write}
use Rattle.command_driver.specs.Answers.{by_memory, Drains, Finishes, IsWritten}
use Rattle.command_driver.specs.Commands.{SomeLacks}
use Rattle.command_driver.specs.Responding.{Lacking, MayLack, never, Reads}
use Rattle.command_driver.specs.declared.status.Status.{Status}
use Rattle.command_driver.specs.declared.status.Status.TheVariants as status
use Rattle.command_driver.proofs.Endings.{preserves_writes_from, ends_after, ends_same}

module _ {S W : Type 0} {source : Shown S} {sink : Shown W} where
  -- by an answer to what was left
  pub finished : {answer : List ℕ → Answer} {lacking : Lacking} {before now : S} {old mid new : W}
      {result : Status} {a : Answer}
      → Finishes sink result mid new a
      → ((octets : List ℕ) → source.octets before ≡ Some octets
      → Ends result (sink.octets old) (sink.octets new) (answer octets))
      → Drains result (source.octets now) → source.faults now ≡ source.faults before
      → sink.faults mid ≡ sink.faults old
      → Reads source sink answer lacking result before now old new
  finished {result = result} f ends drains same_reads same_writes = record {
    ends = ends;
    drains = drains;
    read_fault = λ w. absurd (subst IsWritten w f.written_only);
    write_fault = λ w h. f.counted w (omega (arith, h, same_writes));
    reads = λ _. same_reads;
    writes = preserves_writes_from result _ _ _ same_writes f.uncounted;
    memory = λ w. absurd (subst IsWritten w f.written_only);
  }

  -- by a write that failed
  pub cut : {answer : List ℕ → Answer} {lacking : Lacking} {before now : S} {old new : W} {mid : ℕ}
      → ((octets : List ℕ) → source.octets before ≡ Some octets
      → WritesFront (sink.octets old) (sink.octets new) (answer octets).text)
      → source.faults now ≡ source.faults before → mid ≡ sink.faults old
      → (sink.faults new ≤ mid → sink.most_faults ≡ Some (sink.faults new))
      → Reads source sink answer lacking status.WriteFault before now old new
  cut front same_reads same_writes risen = record {
    ends = λ octets e. cut_short (by_write refl) (front octets e);
    drains = tt;
    read_fault = λ w. absurd cc;
    write_fault = λ w h. risen (omega (arith, h, same_writes));
    reads = λ _. same_reads;
    writes = λ other. absurd (other refl);
    memory = λ w. absurd cc;
  }

  -- by a read that failed
  pub unreadable : {answer : List ℕ → Answer} {lacking : Lacking} {before now : S}
      {old new : W} {mid : ℕ}
      → ((octets : List ℕ) → source.octets before ≡ Some octets
      → WritesFront (sink.octets old) (sink.octets new) (answer octets).text)
      → mid ≡ source.faults before → (source.faults now ≤ mid
      → source.most_faults ≡ Some (source.faults now)) → sink.faults new ≡ sink.faults old
      → Reads source sink answer lacking status.ReadFault before now old new
  unreadable front same_reads risen same_writes = record {
    ends = λ octets e. cut_short (by_read refl) (front octets e);
    drains = tt;
    read_fault = λ w h. risen (omega (arith, h, same_reads));
    write_fault = λ w. absurd cc;
    reads = λ other. absurd (other refl);
    writes = λ _. same_writes;
    memory = λ w. absurd cc;
  }

  -- for want of memory
  pub lacked : {answer : List ℕ → Answer} {lacking : Lacking} {before now : S} {old new : W}
      → ((octets : List ℕ) → source.octets before ≡ Some octets
      → WritesFront (sink.octets old) (sink.octets new) (answer octets).text)
      → source.faults now ≡ source.faults before → sink.faults new ≡ sink.faults old
      → MayLack lacking (source.octets before)
      → Reads source sink answer lacking status.Memory before now old new
  lacked front same_reads same_writes may = record {
    ends = λ octets e. cut_short (by_memory refl) (front octets e);
    drains = tt;
    read_fault = λ w. absurd cc;
    write_fault = λ w. absurd cc;
    reads = λ _. same_reads;
    writes = λ _. same_writes;
    memory = λ w. may;
  }

  -- a text was written before, and the answer is another one's after it
  pub reads_after : {answer whole : List ℕ → Answer} {lacking may : Lacking} {before now : S}
      {old mid new : W} {result : Status} (front : List ℕ)
      → append_known (sink.octets old) front ≡ sink.octets mid → sink.faults mid ≡ sink.faults old
      → ((octets : List ℕ) → whole octets ≡ after_text front (answer octets))
      → (MayLack lacking (source.octets before) → MayLack may (source.octets before))
      → Reads source sink answer lacking result before now mid new
      → Reads source sink whole may result before now old new
  reads_after {result = result} front text same_writes is may r = record {
    ends = λ octets e. ends_same result _ _ _ _ (is octets)
        (ends_after result _ _ _ front _ text (r.ends octets e));
    drains = r.drains;
    read_fault = r.read_fault;
    write_fault = λ w h. r.write_fault w (omega (arith, h, same_writes));
    reads = r.reads;
    writes = preserves_writes_from result _ _ _ same_writes r.writes;
    memory = λ w. may (r.memory w);
  }

  -- the same answer, where no line of a command may lack memory
  pub never_lacks : {C : Type 0} {lacks : C → List ℕ → Bool} {answer same : List ℕ → Answer}
      {lacking : Lacking} {before now : S} {old new : W} {result : Status}
      → ((c : C) (line : List ℕ) → lacks c line ≡ false)
      → ((octets : List ℕ) → same octets ≡ answer octets)
      → (result ≡ status.Memory → SomeLacks lacks)
      → Reads source sink answer lacking result before now old new
      → Reads source sink same never result before now old new
  never_lacks {result = result} none is wanting r = record {
    ends = λ octets e. ends_same result _ _ _ _ (is octets) (r.ends octets e);
    drains = r.drains;
    read_fault = r.read_fault;
    write_fault = r.write_fault;
    reads = r.reads;
    writes = r.writes;
    memory = λ w. let some = wanting w in let no = none some.command some.text in
        let yes = some.wanting in cc;
  }
