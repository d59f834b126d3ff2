-- Each packet that the pass-through sends over all that comes to it is its Identity Request, or
-- came to it.
use Rattle.std.proofs.Common.{◌≡◌, ℕ, List, [], ◌∷◌, true, All, refl, sym, ap, subst}
use Rattle.std.proofs.lemmas.Bool.{false≢true}
use Rattle.std.proofs.lemmas.List.Elements.{All-nil, All-cons, All-append}
use Rattle.eap_packet.specs.declared.state.State.{State}
use Rattle.pass_through.specs.Inputs.{PassInput, pass_accepts}
use Rattle.pass_through.specs.PassTable.{Peer, PassAnswer, identity_request, is_started}
use Rattle.pass_through.specs.PassTable.{initial_pass, pass_restart, pass_start}
use Rattle.pass_through.specs.Rows.{PassRow, TimerRuns, of_idle, of_idle2, stays, drops_of_peer}
use Rattle.pass_through.specs.Rows.{drops_of_server, starts, begins, resends, times_out}
use Rattle.pass_through.specs.Rows.{loses_server, asks_nothing, passes_identity, passes_response}
use Rattle.pass_through.specs.Rows.{passes_request, passes_success, passes_failure}
use Rattle.pass_through.specs.Runs.{CarriesOnlyReceived, HasArrived, IsCarried, SentOn, back}
use Rattle.pass_through.specs.Runs.{behind, first, onwards, own, pass_sends, sent_on}
use Rattle.pass_through.specs.declared.variables.PassVariables.{PassVariables}
use Rattle.pass_through.proofs.PassRows.{pass_answers_are_rows}

-- where the timer runs it has started
timer_started : (s entered stays over : State) → TimerRuns s entered stays over
    → is_started s ≡ true
timer_started s _ _ _ (of_idle stands) = ap is_started stands
timer_started s _ _ _ (of_idle2 stands) = ap is_started stands

module _ (first_id : ℕ) (came : List PassInput) where
  abbrev Carried : SentOn → Type 0
  Carried packet = IsCarried first_id came packet

  -- what the timer sends
  abbrev IsLast : List ℕ → Type 0
  IsLast octets = Carried (record { to = Peer; octets = octets })

  record Holds (vars : PassVariables) : Type 0 where
    pub same : vars.first_id ≡ first_id
    pub last : is_started vars.state ≡ true → IsLast vars.last_request

  record Carries (out : PassAnswer) : Type 0 where
    pub after : Holds out.after
    pub sent : All Carried (sent_on out.step.to out.step.sent)

  one : (packet : SentOn) → Carried packet → All Carried (packet ∷ [])
  one packet is = All-cons Carried packet [] is (All-nil Carried)

  its_own : (id : ℕ) → id ≡ first_id → IsLast (identity_request id)
  its_own id same = subst (λ (n : ℕ). IsLast (identity_request n)) (sym same) own

  row_carries : (vars : PassVariables) (input : PassInput) (out : PassAnswer)
      → PassRow vars input out → HasArrived input came → Holds vars → Carries out
  unfolding pass_restart pass_start
  row_carries vars _ _ (stays input why) has h = record { after = h; sent = All-nil Carried }
  row_carries vars _ _ (drops_of_peer octets path c why) has h =
      record { after = h; sent = All-nil Carried }
  row_carries vars _ _ (drops_of_server octets path c why) has h =
      record { after = h; sent = All-nil Carried }
  row_carries vars _ _ (starts unstarted) has h =
      let is = its_own vars.first_id h.same in
      record { after = record { same = h.same; last = λ begun. is }; sent = one _ is }
  row_carries vars _ _ begins has h =
      let is = its_own vars.first_id h.same in
      record { after = record { same = h.same; last = λ begun. is }; sent = one _ is }
  row_carries vars _ _ (resends entered stay over place in_time) has h =
      let is = h.last (timer_started vars.state entered stay over place) in
      record { after = record { same = h.same; last = λ begun. is }; sent = one _ is }
  row_carries vars _ _ (times_out entered stay over place late) has h =
      let is = h.last (timer_started vars.state entered stay over place) in
      record { after = record { same = h.same; last = λ begun. is }; sent = All-nil Carried }
  row_carries vars _ _ (loses_server stands) has h =
      record {
        after = record { same = h.same; last = λ begun. h.last (ap is_started stands) };
        sent = All-nil Carried;
      }
  row_carries vars _ _ (asks_nothing stands) has h =
      record {
        after = record { same = h.same; last = λ begun. h.last (ap is_started stands) };
        sent = All-nil Carried;
      }
  row_carries vars _ _ (passes_identity octets id body stands is_packet is_id) has h =
      record {
        after = record { same = h.same; last = λ begun. h.last (ap is_started stands) };
        sent = one _ (onwards octets has);
      }
  row_carries vars _ _ (passes_response octets id kind body stands is_packet is_id) has h =
      record {
        after = record { same = h.same; last = λ begun. h.last (ap is_started stands) };
        sent = one _ (onwards octets has);
      }
  row_carries vars _ _ (passes_request octets id kind body stands is_packet) has h =
      record {
        after = record { same = h.same; last = λ begun. back octets has };
        sent = one _ (back octets has);
      }
  row_carries vars _ _ (passes_success octets id stands is_packet) has h =
      record {
        after = record { same = h.same; last = λ begun. h.last (ap is_started stands) };
        sent = one _ (back octets has);
      }
  row_carries vars _ _ (passes_failure octets id stands is_packet) has h =
      record {
        after = record { same = h.same; last = λ begun. h.last (ap is_started stands) };
        sent = one _ (back octets has);
      }

  all_carry : (vars : PassVariables) (rest : List PassInput) → Holds vars
      → ((input : PassInput) → HasArrived input rest → HasArrived input came)
      → All Carried (pass_sends vars rest)
  unfolding pass_sends
  all_carry vars [] h each = All-nil Carried
  all_carry vars (input ∷ rest) h each =
      let out = pass_accepts vars input in
      let c = row_carries vars input out (pass_answers_are_rows vars input)
      (each input (first rest)) h in
      All-append Carried (sent_on out.step.to out.step.sent) (pass_sends out.after rest) c.sent
      (all_carry out.after rest c.after (λ other later. each other (behind input rest later)))

pub carries_only_received : CarriesOnlyReceived
carries_only_received first_id max_retrans came =
    all_carry first_id came (initial_pass first_id max_retrans) came
    (record { same = refl; last = λ begun. absurd (false≢true begun) }) (λ input has. has)
