-- Octets for which a server sends nothing change nothing.
use Rattle.std.proofs.Common.{◌≡◌, ℕ, List, Option, Some, None, refl, subst}
use Rattle.std.specs.Prelude.{◌==◌, IfNone}
use Rattle.std.proofs.lemmas.Bool.{cond_both}
use Rattle.eap_packet.specs.Fault.{code_of}
use Rattle.eap_method.specs.Steps.{Step}
use Rattle.server_machine.specs.Expanded.{discards_bad, server_receives, wraps_sent}
use Rattle.server_machine.specs.Inputs.{octets}
use Rattle.server_machine.specs.Rows.{ServerRow, ended, drops, proposes, proposes_without}
use Rattle.server_machine.specs.Rows.{proposes_none, requests, succeeds, method_fails}
use Rattle.server_machine.specs.ServerTable.{ServerNow, ServerAnswer, answer, awaits_first}
use Rattle.server_machine.specs.ServerTable.{server_deliver}
use Rattle.server_machine.proofs.Receiving.{ServerReceiving, as_it_is, bad, wrapping}
use Rattle.server_machine.proofs.Receiving.{server_receives_so}
use Rattle.server_machine.proofs.ServerRows.{server_answers_are_rows}

pub record IsSilent (now : ServerNow) (out : ServerAnswer) : Type 0 where
  pub unchanged : out.step.sent ≡ None → out.after ≡ now

row_silent : (now : ServerNow) (bytes : List ℕ) (out : ServerAnswer)
    → ServerRow now (octets bytes) out → IsSilent now out
row_silent now bytes _ (ended _ over) = record { unchanged = λ _. refl }
row_silent now bytes _ (drops _ path c going why) = record { unchanged = λ _. refl }
row_silent now bytes _ (proposes _ id kind body entered vars desired next packet views heard selects
    next_is) = record { unchanged = λ none. cc none }
row_silent now bytes _ (proposes_without _ id kind body entered vars desired next views heard
    selects next_is) = record { unchanged = λ none. cc none }
row_silent now bytes _ (proposes_none _ id kind body entered vars desired heard selects no_kind) =
    record { unchanged = λ none. cc none }
row_silent now bytes _ (requests _ id kind body packet tags views heard turned) =
    record { unchanged = λ none. cc none }
row_silent now bytes _ (succeeds _ id kind body tags views heard turned) =
    record { unchanged = λ none. cc none }
row_silent now bytes _ (method_fails _ id kind body tags views heard turned) =
    record { unchanged = λ none. cc none }

deliver_silent : (now : ServerNow) (bytes : List ℕ) → IsSilent now (server_deliver now bytes)
deliver_silent now bytes = row_silent now bytes _ (server_answers_are_rows now (octets bytes))

wraps_silent : (now : ServerNow) (out : ServerAnswer) (sent : Option (List ℕ))
    → out.step.sent ≡ sent → IsSilent now out → IsSilent now (wraps_sent out sent)
wraps_silent now out None is silent = silent
wraps_silent now out (Some packet) is silent =
    cond_both (code_of packet == 1) _ _ (IsSilent now) (λ _. record { unchanged = λ none. cc none })
    (λ _. silent)

bad_silent : (now : ServerNow) → IsSilent now (discards_bad now)
bad_silent now = cond_both (awaits_first now.vars) _ _ (IsSilent now)
    (λ _. record { unchanged = λ _. refl }) (λ _. record { unchanged = λ _. refl })

receives_silent : (now : ServerNow) (bytes : List ℕ) (out : ServerAnswer)
    → ServerReceiving now bytes out → IsSilent now out
receives_silent now bytes _ as_it_is = deliver_silent now bytes
receives_silent now bytes _ (bad id kind body answers is_bad) = bad_silent now
receives_silent now bytes _ (wrapping id kind body answers good) =
    wraps_silent now _ _ refl (deliver_silent now _)

silent : (now : ServerNow) (bytes : List ℕ) → IsSilent now (server_receives now bytes)
silent now bytes = receives_silent now bytes _ (server_receives_so now bytes)

pub unchanged_if_silent : {T : Type 0} (now after : ServerNow) (bytes : List ℕ) (step : Step)
    (result : Option T) → server_receives now bytes ≡ answer step after
    → step.sent ≡ None → IfNone result (after ≡ now)
unchanged_if_silent now after bytes step None is none =
    (subst (λ (out : ServerAnswer). IsSilent now out) is (silent now bytes)).unchanged none
unchanged_if_silent now after bytes step (Some datagram) is none = tt
