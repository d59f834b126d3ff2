-- Words that were answered, or for which memory was wanting before anything was read or written.
use Rattle.std.proofs.Common.{◌≡◌, ℕ, List, Result, Ok, Err, IfOk, OnErr, refl, inr}
use Rattle.octet_io.specs.Shown.{Shown}
use Rattle.command_driver.specs.declared.status.Status.{Status}
use Rattle.command_driver.specs.declared.status.Status.TheVariants as status
use Rattle.world_commands.proofs.Headline.{headline}
use Rattle.world_commands.proofs.SmoothTraces as traces
use Rattle.eap_login.specs.Exit.{exit_number_of}
use Rattle.eap_login.specs.Runs.{Answers, Exits}

module _ {S W : Type 0} (source : Shown S) (sink : Shown W) where
  -- memory was wanting, and nothing was read or written
  lacking : (words : List (List ℕ)) (before : S) (old : W)
      → Answers source sink words before before old old status.Memory
  lacking words before old = record {
    responds = inr (record { memory = refl; unread = refl; unwritten = refl });
    honest_ends_agree = headline;
    smooth_traces_agree = traces.smooth_traces_agree;
    never_both = λ octets e. record { holds = λ h old text b n. absurd cc };
    complete = λ octets e no_read no_write.
        inr (record { memory = refl; unread = refl; unwritten = refl });
  }

  pub exits : {E : Type 0} (words : List (List ℕ)) (before : S) (now : S) (old : W) (new : W)
      (number : ℕ) (result : Result Status E)
      → number ≡ exit_number_of result
      → IfOk result (λ s. Answers source sink words before now old new s)
      → OnErr result (now ≡ before) → OnErr result (new ≡ old)
      → Exits source sink words before now old new number
  exits words before now old new number (Ok s) e a unread unwritten =
      record { status = s; is_number = e; answers = a }
  exits words before now old new number (Err error) e a unread unwritten = record {
    status = status.Memory;
    is_number = e;
    answers = rw (unread, unwritten) (lacking words before old);
  }
