-- One more input at the end of others: what is told of it comes last, and the end is where it
-- leaves it.
use Rattle.std.proofs.Common.{◌≡◌, ℕ, List, [], ◌∷◌, ◌++◌, refl, sym, ap, ◌∙◌}
use Rattle.login_setup.specs.Setup.{ServerSetup}
use Rattle.eap_method.specs.Server.{ServerViews}
use Rattle.server_machine.specs.ServerTable.{ServerNow}
use Rattle.end_pipe.specs.EndRun.{EndNow, EndOutcome, EndTold, HasContinued, IsServerAfter}
use Rattle.end_pipe.specs.EndRun.{IsStateAfter, end_after, outcome, server_starts, server_unstarted}
use Rattle.end_pipe.specs.EndRun.{told_of}
use Rattle.end_pipe.specs.declared.input.EndInput.{EndInput}

module _ {N : Type 0} (step : EndNow N → EndInput → EndOutcome N) where
  after_last : (e : EndNow N) (inputs : List EndInput) (input : EndInput)
      → end_after step e (inputs ++ input ∷ []) ≡ (step (end_after step e inputs) input).after
  unfolding end_after
  after_last e [] input = refl
  after_last e (first ∷ rest) input = after_last (step e first).after rest input

  reported_last : (e : EndNow N) (inputs : List EndInput) (input : EndInput)
      → told_of step e (inputs ++ input ∷ [])
      ≡ told_of step e inputs ++ (step (end_after step e inputs) input).told ∷ []
  unfolding end_after told_of
  reported_last e [] input = refl
  reported_last e (first ∷ rest) input = ap (λ (l : List EndTold). (step e first).told ∷ l)
      (reported_last (step e first).after rest input)

  pub goes_on : (begun e after : EndNow N) (inputs : List EndInput) (input : EndInput)
      (told : EndTold)
      → step e input ≡ outcome told after → IsStateAfter step begun inputs e
      → HasContinued step begun inputs input told after
  goes_on begun e after inputs input told is stands =
      let same : step (end_after step begun inputs) input ≡ outcome told after =
      ap (λ (x : EndNow N). step x input) (sym stands) ∙ is in
      record {
        next = reported_last begun inputs input
            ∙ ap (λ (out : EndOutcome N). told_of step begun inputs ++ out.told ∷ []) same;
        stands = sym (after_last begun inputs input ∙ ap (λ (out : EndOutcome N). out.after) same);
      }

-- a server that starts stands for no inputs
pub starts_so : (setup : ServerSetup) (views : ServerViews) (first_id max_retrans : ℕ)
    (e after : EndNow ServerNow) (told : EndTold)
    → server_starts e ≡ outcome told after → e ≡ server_unstarted setup views first_id max_retrans
    → IsServerAfter setup views first_id max_retrans [] after
unfolding end_after
starts_so setup views first_id max_retrans e after told is unstarted =
    sym (ap (λ (x : EndNow ServerNow). (server_starts x).after) (sym unstarted)
    ∙ ap (λ (out : EndOutcome ServerNow). out.after) is)
