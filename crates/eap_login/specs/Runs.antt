-- How a run of the program ends: by what it was started with, what it read and wrote, and its exit
-- status.
use Rattle.std.specs.Prelude.{◌≡◌, ℕ, List, drop, Some, ◌⊎◌}
use Rattle.octet_io.specs.Shown.{Shown, HasRisen}
use Rattle.world_commands.specs.Headline.{HonestEndsAgree, WritesNeverBoth}
use Rattle.world_commands.specs.SmoothTraces.{SmoothTracesAgree}
use Rattle.eap_login.specs.Login.{asked_by, Completes}
use Rattle.command_driver.specs.Responding.{Responds}
use Rattle.command_driver.specs.Statuses.{number_of}
use Rattle.command_driver.specs.declared.status.Status.{Status}
use Rattle.command_driver.specs.declared.status.Status.TheVariants as status

-- all but the first of the arguments, which is the program's name
abbrev pub after_name : {A : Type 0} → List A → List A
after_name args = drop 1 args

-- by what a source and a sink show of themselves: what is left and what was written, the counts of
-- faults, and the last values of those counts
module _ {S W : Type 0} (source : Shown S) (sink : Shown W) where
  -- memory was wanting before anything was read or written
  pub record Lacked (before : S) (now : S) (old : W) (new : W) (s : Status) : Type 0 where
    pub memory : s ≡ status.Memory
    pub unread : now ≡ before
    pub unwritten : new ≡ old

  -- words were answered with a status, or memory was wanting before that; in the run of the
  -- scenario that the input is, over honest tags and fresh nonces two ends that both succeed agree;
  -- the trace of a smooth login reports agreement; no text written with status 0 says that all tags
  -- are honest and that the ends are apart, if it says that nonces are fresh or nothing of them; if
  -- neither a read nor a write failed, the status is the answer's, or memory was wanting if it may
  -- be
  pub record Answers (words : List (List ℕ)) (before : S) (now : S) (old : W) (new : W)
      (s : Status) : Type 0 where
    pub responds : Responds source sink (asked_by words) s before now old new
        ⊎ Lacked before now old new s
    pub honest_ends_agree : (octets : List ℕ) → HonestEndsAgree octets
    pub smooth_traces_agree : SmoothTracesAgree
    pub never_both : (octets : List ℕ) → source.octets before ≡ Some octets
        → WritesNeverBoth s (sink.octets old) (sink.octets new)
    pub complete : (octets : List ℕ) → source.octets before ≡ Some octets
        → (HasRisen source before now → ⊥)
        → (HasRisen sink old new → ⊥) → Completes words octets s ⊎ Lacked before now old new s

  -- words were answered, and the exit status is the number of the status
  pub record Exits (words : List (List ℕ)) (before : S) (now : S) (old : W) (new : W)
      (number : ℕ) : Type 0 where
    pub status : Status
    pub is_number : number ≡ number_of status
    pub answers : Answers words before now old new status
