-- Where neither a read nor a write failed, the status is the answer's, or memory was wanting.
use Rattle.std.proofs.Common.{◌≡◌, ℕ, List, Option, Some, sym, subst}
use Rattle.octet_io.specs.Shown.{Shown, HasRisen}
use Rattle.command_driver.specs.Answers.{Ends, entire, cut_short, by_read, by_write, by_memory}
use Rattle.eap_login.specs.Login.{asked_by, login_answer, Completes, answered, lacked}
use Rattle.command_driver.specs.Responding.{Asked, MayLack, reading, unread, answer_to, lacking_of}
use Rattle.command_driver.specs.Responding.{Responds}
use Rattle.command_driver.specs.declared.status.Status.{Status}
use Rattle.command_driver.specs.declared.status.Status.TheVariants as status

completes_with : (s : Status) (before now : Option (List ℕ)) (words : List (List ℕ))
    (octets : List ℕ) {R W : Type 0}
    → Ends s before now (login_answer words octets) → (s ≡ status.ReadFault → R)
    → (s ≡ status.WriteFault → W)
    → (s ≡ status.Memory → MayLack (lacking_of (asked_by words)) (Some octets))
    → (R → ⊥) → (W → ⊥) → Completes words octets s
completes_with s before now words octets (entire text is) r w m no_read no_write =
    subst (Completes words octets) is answered
completes_with s before now words octets (cut_short (by_read e) front) r w m no_read no_write =
    absurd (no_read (r e))
completes_with s before now words octets (cut_short (by_write e) front) r w m no_read no_write =
    absurd (no_write (w e))
completes_with s before now words octets (cut_short (by_memory e) front) r w m no_read no_write =
    subst (Completes words octets) (sym e) (lacked (m e))

module _ {S W : Type 0} (source : Shown S) (sink : Shown W) (s : Status) (before now : S)
    (old new : W) where
  -- what the record says of the answer, of faults and of memory
  pub ends_of : (asked : Asked) (octets : List ℕ) → source.octets before ≡ Some octets
      → Responds source sink asked s before now old new
      → Ends s (sink.octets old) (sink.octets new) (answer_to asked octets)
  ends_of (reading answer lacking) octets e r = r.ends octets e
  ends_of (unread a lacking) octets e r = r.says.ends

  read_fault_of : (asked : Asked) → Responds source sink asked s before now old new
      → s ≡ status.ReadFault → HasRisen source before now
  read_fault_of (reading answer lacking) r = r.read_fault
  read_fault_of (unread a lacking) r = λ w. absurd (r.says.no_read_fault w)

  write_fault_of : (asked : Asked) → Responds source sink asked s before now old new
      → s ≡ status.WriteFault → HasRisen sink old new
  write_fault_of (reading answer lacking) r = r.write_fault
  write_fault_of (unread a lacking) r = r.says.write_fault

  memory_of : (asked : Asked) → Responds source sink asked s before now old new
      → s ≡ status.Memory → MayLack (lacking_of asked) (source.octets before)
  memory_of (reading answer lacking) r = r.memory
  memory_of (unread a lacking) r = λ w. r.says.memory w _

  pub completes : (words : List (List ℕ)) (octets : List ℕ) → source.octets before ≡ Some octets
      → Responds source sink (asked_by words) s before now old new
      → (HasRisen source before now → ⊥)
      → (HasRisen sink old new → ⊥) → Completes words octets s
  completes words octets e r no_read no_write =
      completes_with s (sink.octets old) (sink.octets new) words octets
      (ends_of (asked_by words) octets e r) (read_fault_of (asked_by words) r)
      (write_fault_of (asked_by words) r) (λ m. subst (MayLack (lacking_of (asked_by words))) e
      (memory_of (asked_by words) r m)) no_read no_write
