-- What the pass-through makes of each packet of a smooth login (RFC 4137 section 7).
use Rattle.std.proofs.Common.{◌≡◌, ℕ, List, [], ◌∷◌, Some, refl, ap, ◌∙◌}
use Rattle.std.specs.Prelude.{◌==◌, Ok}
use Rattle.std.proofs.lemmas.Bool.{cond-true, eq-eqb}
use Rattle.eap_packet.specs.Packet.{request, response, success}
use Rattle.eap_packet.specs.Fault.{packet_of}
use Rattle.eap_packet.specs.declared.state.State.{State}
use Rattle.eap_packet.specs.declared.state.State.TheVariants as state
use Rattle.pass_through.specs.PassTable.{answer, asks, passes_on, pass_from_peer, pass_from_backend}
use Rattle.pass_through.specs.PassTable.{idle_row, idle2_row, aaa_row}
use Rattle.pass_through.specs.PassTable.{without_padding}
use Rattle.pass_through.specs.declared.variables.PassVariables.{PassVariables}

-- a pass-through that has started: where it stands, the Identifier of the last Request, and that
-- Request
abbrev pub pass_at : ℕ → ℕ → State → ℕ → List ℕ → PassVariables
pass_at first_id max_retrans at id last =
    record {
      first_id = first_id;
      max_retrans = max_retrans;
      state = at;
      current_id = Some id;
      retrans_count = 0;
      last_request = last;
    }

module _ (first_id max_retrans : ℕ) where
  -- the Identity Response goes on to the server
  pub passes_identity : (octets : List ℕ) (id : ℕ) (name last : List ℕ)
      → packet_of octets ≡ Ok (response id 1 name) → without_padding octets ≡ octets
      → pass_from_peer (pass_at first_id max_retrans state.Idle id last) octets
      ≡ answer
      (passes_on (state.Received ∷ state.IntegrityCheck ∷ state.MethodResponse ∷ state.SelectAction
      ∷ state.InitializePassthrough ∷ state.AaaRequest ∷
      state.AaaIdle ∷ []) octets)
      (pass_at first_id max_retrans state.AaaIdle id last)
  unfolding pass_from_peer
  passes_identity octets id name last read whole =
      ap (λ found. idle_row (pass_at first_id max_retrans state.Idle id last) octets found) read
      ∙ cond-true (id == id) _ _ (eq-eqb id id refl)
      ∙ ap (λ (sent : List ℕ). answer
      (passes_on (state.Received ∷ state.IntegrityCheck ∷ state.MethodResponse ∷ state.SelectAction
      ∷ state.InitializePassthrough ∷ state.AaaRequest ∷
      state.AaaIdle ∷ []) sent)
      (pass_at first_id max_retrans state.AaaIdle id last)) whole

  -- so does each Response to the last Request
  pub passes_response : (octets : List ℕ) (id kind : ℕ) (body last : List ℕ)
      → packet_of octets ≡ Ok (response id kind body) → without_padding octets ≡ octets
      → pass_from_peer (pass_at first_id max_retrans state.Idle2 id last) octets
      ≡ answer (passes_on (state.Received2 ∷ state.AaaRequest ∷ state.AaaIdle ∷ []) octets)
      (pass_at first_id max_retrans state.AaaIdle id last)
  unfolding pass_from_peer
  passes_response octets id kind body last read whole =
      ap (λ found. idle2_row (pass_at first_id max_retrans state.Idle2 id last) octets found) read
      ∙ cond-true (id == id) _ _ (eq-eqb id id refl)
      ∙ ap (λ (sent : List ℕ).
      answer (passes_on (state.Received2 ∷ state.AaaRequest ∷ state.AaaIdle ∷ []) sent)
      (pass_at first_id max_retrans state.AaaIdle id last)) whole

  -- a Request goes on to the peer
  pub passes_request : (octets : List ℕ) (id kind : ℕ) (body : List ℕ) (was : ℕ) (last : List ℕ)
      → packet_of octets ≡ Ok (request id kind body)
      → without_padding octets ≡ octets
      → pass_from_backend (pass_at first_id max_retrans state.AaaIdle was last) octets
      ≡ answer (asks (state.AaaResponse ∷ state.SendRequest2 ∷ state.Idle2 ∷ []) octets)
      (pass_at first_id max_retrans state.Idle2 id octets)
  unfolding pass_from_backend
  passes_request octets id kind body was last read whole =
      ap (λ found. aaa_row (pass_at first_id max_retrans state.AaaIdle was last) octets found) read
      ∙ ap (λ (sent : List ℕ).
      answer (asks (state.AaaResponse ∷ state.SendRequest2 ∷ state.Idle2 ∷ []) sent)
      (pass_at first_id max_retrans state.Idle2 id sent)) whole

  -- so does the Success, and it has ended
  pub passes_success : (octets : List ℕ) (id was : ℕ) (last : List ℕ)
      → packet_of octets ≡ Ok (success id) → without_padding octets ≡ octets
      → pass_from_backend (pass_at first_id max_retrans state.AaaIdle was last) octets
      ≡ answer (asks (state.Success2 ∷ []) octets)
      (pass_at first_id max_retrans state.Success2 was last)
  unfolding pass_from_backend
  passes_success octets id was last read whole =
      ap (λ found. aaa_row (pass_at first_id max_retrans state.AaaIdle was last) octets found) read
      ∙ ap (λ (sent : List ℕ). answer (asks (state.Success2 ∷ []) sent)
      (pass_at first_id max_retrans state.Success2 was last)) whole
