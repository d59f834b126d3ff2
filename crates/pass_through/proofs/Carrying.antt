-- The laws of the pass-through, by the rows of its table.
use Rattle.std.proofs.Common.{refl}
use Rattle.std.specs.Prelude.{IsSome}
use Rattle.pass_through.specs.Inputs.{PassInput}
use Rattle.pass_through.specs.Laws.{DiscardsChangeNothing, SendsOnlyReceived}
use Rattle.pass_through.specs.Laws.{PreservesThePassThrough, Carries, nothing, own, own_again}
use Rattle.pass_through.specs.Laws.{again, onwards, back, unsent, unkept, kept, last}
use Rattle.pass_through.specs.PassTable.{PassAnswer, pass_restart, pass_start}
use Rattle.pass_through.specs.Rows.{PassRow, stays, drops_of_peer, drops_of_server, starts, begins}
use Rattle.pass_through.specs.Rows.{resends, times_out, loses_server, asks_nothing, passes_identity}
use Rattle.pass_through.specs.Rows.{passes_response, passes_request, passes_success, passes_failure}
use Rattle.pass_through.specs.declared.variables.PassVariables.{PassVariables}
use Rattle.pass_through.proofs.PassRows.{pass_answers_are_rows}

rows_preserve : (vars : PassVariables) (input : PassInput) (out : PassAnswer)
    → PassRow vars input out → IsSome out.step.cause → PreservesThePassThrough vars out
unfolding pass_restart pass_start
rows_preserve vars _ _ (stays input why) is_discard = cc is_discard
rows_preserve vars _ _ (drops_of_peer octets path c why) is_discard =
    record { all = refl; sent = refl }
rows_preserve vars _ _ (drops_of_server octets path c why) is_discard =
    record { all = refl; sent = refl }
rows_preserve vars _ _ (starts _) is_discard = cc is_discard
rows_preserve vars _ _ begins is_discard = cc is_discard
rows_preserve vars _ _ (resends _ _ _ _ _) is_discard = cc is_discard
rows_preserve vars _ _ (times_out _ _ _ _ _) is_discard = cc is_discard
rows_preserve vars _ _ (loses_server _) is_discard = cc is_discard
rows_preserve vars _ _ (asks_nothing _) is_discard = cc is_discard
rows_preserve vars _ _ (passes_identity _ _ _ _ _ _) is_discard = cc is_discard
rows_preserve vars _ _ (passes_response _ _ _ _ _ _ _) is_discard = cc is_discard
rows_preserve vars _ _ (passes_request _ _ _ _ _ _) is_discard = cc is_discard
rows_preserve vars _ _ (passes_success _ _ _ _) is_discard = cc is_discard
rows_preserve vars _ _ (passes_failure _ _ _ _) is_discard = cc is_discard

pub discards_change_nothing : DiscardsChangeNothing
discards_change_nothing vars input = rows_preserve vars input _ (pass_answers_are_rows vars input)

rows_carry : (vars : PassVariables) (input : PassInput) (out : PassAnswer) → PassRow vars input out
    → Carries vars input out
unfolding pass_restart pass_start
rows_carry vars _ _ (stays input why) = record { sent_on = nothing _ _; keeps = unsent _ refl }
rows_carry vars _ _ (drops_of_peer octets path c why) =
    record { sent_on = nothing _ _; keeps = unsent _ refl }
rows_carry vars _ _ (drops_of_server octets path c why) =
    record { sent_on = nothing _ _; keeps = unsent _ refl }
rows_carry vars _ _ (starts _) = record { sent_on = own; keeps = kept _ refl }
rows_carry vars _ _ begins = record { sent_on = own_again; keeps = kept _ refl }
rows_carry vars _ _ (resends _ _ _ _ _) = record { sent_on = again; keeps = kept _ refl }
rows_carry vars _ _ (times_out _ _ _ _ _) = record { sent_on = nothing _ _; keeps = unsent _ refl }
rows_carry vars _ _ (loses_server _) = record { sent_on = nothing _ _; keeps = unsent _ refl }
rows_carry vars _ _ (asks_nothing _) = record { sent_on = nothing _ _; keeps = unsent _ refl }
rows_carry vars _ _ (passes_identity octets _ _ _ _ _) =
    record { sent_on = onwards octets; keeps = unkept _ refl }
rows_carry vars _ _ (passes_response octets _ _ _ _ _ _) =
    record { sent_on = onwards octets; keeps = unkept _ refl }
rows_carry vars _ _ (passes_request octets _ _ _ _ _) =
    record { sent_on = back octets; keeps = kept _ refl }
rows_carry vars _ _ (passes_success octets _ _ _) =
    record { sent_on = back octets; keeps = last _ refl }
rows_carry vars _ _ (passes_failure octets _ _ _) =
    record { sent_on = back octets; keeps = last _ refl }

pub sends_only_received : SendsOnlyReceived
sends_only_received vars input = rows_carry vars input _ (pass_answers_are_rows vars input)
