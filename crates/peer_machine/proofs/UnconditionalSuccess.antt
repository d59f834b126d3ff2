-- A success that nothing can undo stays.
use Rattle.std.proofs.Common.{◌≡◌, ℕ, List, true, false, Option, Some, None, refl, sym, ◌∙◌}
use Rattle.eap_method.specs.declared.values.Decision.{Decision}
use Rattle.eap_method.specs.declared.values.Decision.TheVariants as decision
use Rattle.peer_machine.specs.Expanded.{expanded_answer}
use Rattle.peer_machine.specs.Inputs.{PeerInput, octets, idle, alt_accept, alt_reject, restart}
use Rattle.peer_machine.specs.Inputs.{peer_answers}
use Rattle.peer_machine.specs.Laws.{HasUnconditionalSuccess, UnconditionalSuccessStays}
use Rattle.peer_machine.specs.PeerTable.{PeerNow, PeerAnswer, is_fail, is_uncond}
use Rattle.peer_machine.specs.Rows.{Calls, first, again, EndsBadly, late_success, by_failure}
use Rattle.peer_machine.specs.Rows.{by_idle_unsure, late_accept, by_reject}
use Rattle.peer_machine.specs.Rows.{PeerRow, begins, ended, rests, drops, waits, identifies}
use Rattle.peer_machine.specs.Rows.{notifies, naks, resends, ends_well, ends_badly, method_replies}
use Rattle.peer_machine.specs.Rows.{method_fails}
use Rattle.peer_machine.proofs.Receiving.{PeerReceiving, as_it_is, bad, expresses, peer_receives_so}
use Rattle.peer_machine.proofs.Receiving as receiving
use Rattle.peer_machine.proofs.PeerRows.{peer_answers_are_rows}

not_both : (d : Decision) → is_fail d ≡ true → is_uncond d ≡ true → ⊥
not_both decision.Fail fails sure = cc
not_both decision.CondSucc fails sure = cc
not_both decision.UncondSucc fails sure = cc

module _ (now : PeerNow) (won : HasUnconditionalSuccess now) where
  is_one : now.vars.selected ≡ None → ⊥
  is_one unselected = let same : Some won.kind ≡ None = sym won.selected ∙ unselected in cc

  uncalled : (kind : ℕ) (selects : _) → Calls now kind selects → ⊥
  uncalled kind _ (first unselected allowed) = is_one unselected
  uncalled kind _ (again is_selected undone) = let same : true ≡ false = sym won.over ∙ undone in cc

  no_bad_end : (input : PeerInput) (entered : _) → EndsBadly now input entered
      → (input ≡ alt_reject → ⊥) → ⊥
  no_bad_end _ _ (late_success bytes id heard fails over) none =
      not_both now.vars.decision fails won.sure
  no_bad_end _ _ (by_failure bytes id heard unsure over) none =
      let same : true ≡ false = sym won.sure ∙ unsure in cc
  no_bad_end _ _ (by_idle_unsure unsure) none =
      let same : true ≡ false = sym won.sure ∙ unsure in cc
  no_bad_end _ _ (late_accept fails over) none = not_both now.vars.decision fails won.sure
  no_bad_end _ _ by_reject none = none refl

  row_stays : (input : PeerInput) (out : PeerAnswer) → PeerRow now input out
      → (input ≡ alt_reject → ⊥)
      → ((nonce : List ℕ) → input ≡ restart nonce → ⊥) → HasUnconditionalSuccess out.after
  row_stays _ _ (ended bytes over) no_reject no_restart = won
  row_stays _ _ (drops bytes path c going why) no_reject no_restart = won
  row_stays _ _ (rests report no_octets no_new over) no_reject no_restart = won
  row_stays _ _ (begins nonce) no_reject no_restart = absurd (no_restart nonce refl)
  row_stays _ _ (waits going fails goes_on) no_reject no_restart = won
  row_stays _ _ (identifies bytes id kind body heard unselected is_identity) no_reject no_restart =
      absurd (is_one unselected)
  row_stays _ _ (notifies bytes id kind body heard unselected is_notification)
      no_reject no_restart = absurd (is_one unselected)
  row_stays _ _ (naks bytes id kind body heard unselected no_identity no_notification barred)
      no_reject no_restart = absurd (is_one unselected)
  row_stays _ _ (resends bytes id kind body heard) no_reject no_restart = won
  row_stays _ _ (ends_well input entered going sure why) no_reject no_restart =
      record {
        kind = won.kind;
        selected = won.selected;
        over = won.over;
        sure = won.sure;
        stands = refl;
      }
  row_stays _ _ (ends_badly input entered going why) no_reject no_restart =
      absurd (no_bad_end input entered why no_reject)
  row_stays _ _ (method_replies bytes selects id kind body packet m d tags views heard calls turn
      goes_on) no_reject no_restart =
      absurd (uncalled kind selects calls)
  row_stays _ _ (method_fails bytes selects id kind body packet m d tags views heard calls turn
      has_failed) no_reject no_restart =
      absurd (uncalled kind selects calls)

  answer_stays : (input : PeerInput) → (input ≡ alt_reject → ⊥)
      → ((nonce : List ℕ) → input ≡ restart nonce → ⊥)
      → HasUnconditionalSuccess (peer_answers now input).after
  answer_stays input = row_stays input (peer_answers now input) (peer_answers_are_rows now input)

  of_octets : (bytes : List ℕ) → HasUnconditionalSuccess (peer_answers now (octets bytes)).after
  of_octets bytes = answer_stays (octets bytes) (λ e. cc) (λ nonce e. cc)

  expanded_stays : (out : PeerAnswer) → HasUnconditionalSuccess out.after → (sent : Option (List ℕ))
      → HasUnconditionalSuccess (expanded_answer out sent).after
  expanded_stays out wins None = wins
  expanded_stays out wins (Some packet) = record {
    kind = wins.kind;
    selected = wins.selected;
    over = wins.over;
    sure = wins.sure;
    stands = wins.stands;
  }

  hearing_wins : (bytes : List ℕ) (out : PeerAnswer) → PeerReceiving now bytes out
      → HasUnconditionalSuccess out.after
  hearing_wins bytes _ as_it_is = of_octets bytes
  hearing_wins bytes _ (bad id kind body asks is_bad) = won
  hearing_wins bytes _ (receiving.again id kind body asks last) = of_octets _
  hearing_wins bytes _ (expresses id kind body asks new) = expanded_stays _ (of_octets _) _

-- By cases over the rows of the peer's table. A method that is DONE isn't called again, and a
-- Failure leads to no end while the decision is UNCOND_SUCC: it is discarded. What is left changes
-- neither of them, but for altReject and a restart, which the premises exclude.
pub unconditional_success_stays : UnconditionalSuccessStays
unconditional_success_stays now (octets bytes) won no_reject no_restart =
    hearing_wins now won bytes _ (peer_receives_so now bytes)
unconditional_success_stays now idle won no_reject no_restart =
    answer_stays now won idle no_reject no_restart
unconditional_success_stays now alt_accept won no_reject no_restart =
    answer_stays now won alt_accept no_reject no_restart
unconditional_success_stays now alt_reject won no_reject no_restart =
    answer_stays now won alt_reject no_reject no_restart
unconditional_success_stays now (restart nonce) won no_reject no_restart =
    answer_stays now won (restart nonce) no_reject no_restart
