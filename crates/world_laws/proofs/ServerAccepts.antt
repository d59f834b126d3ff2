-- What the server hears of the peer's nonce stands in what came.
use Rattle.std.proofs.Common.{◌≡◌, ℕ, List, [], true, ◌&&◌, Option, Some, None, Ok, refl, sym, ap}
use Rattle.std.proofs.Common.{subst, ◌∙◌}
use Rattle.std.specs.Prelude.{◌==◌, not}
use Rattle.std.proofs.lemmas.Bool.{and_parts, cond_both, not-true}
use Rattle.login_setup.specs.Setup.{ServerSetup}
use Rattle.octet_lists.specs.Among.{expanded_kind}
use Rattle.eap_packet.specs.Expanded.{is_nak_body}
use Rattle.eap_packet.specs.Fault.{code_of, packet_of}
use Rattle.eap_packet.specs.Packet.{response, spelled}
use Rattle.eap_packet.specs.declared.state.State.{State}
use Rattle.eap_method.specs.declared.tags.TagRecord.{TagRecord}
use Rattle.eap_method.specs.Turns.{ServerOutcome, body_of}
use Rattle.eap_method.specs.ServerTurn.{ServerTurn}
use Rattle.eap_method.specs.BothServers.{both_of}
use Rattle.eap_method.specs.Server.{ServerViews, server_turn}
use Rattle.server_machine.specs.Expanded.{response_octets, accepts_nak, wraps_sent}
use Rattle.server_machine.specs.Inputs as inputs
use Rattle.server_machine.specs.Inputs.{ServerInput, start, restart, server_accepts}
use Rattle.server_machine.specs.ServerTable.{ServerNow, ServerAnswer, server_deliver, next_id}
use Rattle.server_machine.specs.ServerTable.{awaits_first, is_backend, is_started}
use Rattle.server_machine.specs.Variables.{ServerVariables}
use Rattle.server_machine.specs.Rows as rows
use Rattle.server_machine.specs.Rows.{Selects, after_identity, after_nak, first_identity, first_nak}
use Rattle.server_machine.specs.Rows.{first_other}
use Rattle.server_machine.proofs.Receiving.{ServerReceiving, as_it_is, bad, wrapping}
use Rattle.server_machine.proofs.Receiving.{server_receives_so}
use Rattle.server_machine.proofs.ServerRows.{server_answers_are_rows}
use Rattle.method_laws.specs.Records.{AreNone, untagged}
use Rattle.world_laws.specs.ServerInvariant.{ServerInvariant}
use Rattle.eap_world.specs.World.{server_octets}
use Rattle.method_laws.specs.ByMethod.{server_foreign_of, server_foreign}
use Rattle.method_laws.proofs.Occurrence.{Occurrence}
use Rattle.world_laws.proofs.TypeData.{data_read, data_occurs, nak_data, own_data, plain_response}
use Rattle.world_laws.proofs.TypeData.{response_body, response_data}
use Rattle.method_laws.proofs.Receiving.{Receives, as_before, receives_now, delivered_in_call}
use Rattle.method_laws.proofs.PeerByMethod.{method_satisfies}
use Rattle.world_laws.proofs.Proposing.{proposes_own}
use Rattle.method_laws.proofs.ServerByMethod.{turn_received, turn_of, untagged_none}
use Rattle.method_laws.proofs.ServerHistories.{Offers, asks, lacks}
use Rattle.method_laws.proofs.ServerImplied.{has_tags}
use Rattle.world_laws.proofs.EndTags.{server_tags}

current_of : (current : Option ℕ) (views : ServerViews) (kind : ℕ) → current ≡ Some kind
    → server_foreign current views ≡ server_foreign_of views kind
current_of current views kind e = ap (λ (o : Option ℕ). server_foreign o views) e

none_accepted : (accepted made : List TagRecord) → AreNone accepted made → accepted ≡ []
none_accepted _ _ untagged = refl

-- the Type-Data of a method that comes
abbrev server_data : ServerInput → Option (List ℕ)
server_data (inputs.octets bytes) = Some (data_read (packet_of bytes))
server_data _ = None

module _ (setup : ServerSetup) (now : ServerNow) (accepted made : List TagRecord)
    (stands : ServerInvariant setup now accepted made) where
  abbrev before : Option (List ℕ)
  before = server_foreign now.vars.current now.views

  called_received : (bytes : List ℕ) (id kind : ℕ) (body : List ℕ) (answered : ServerTurn)
      (after : ServerViews)
      → rows.Receives now bytes id kind body → rows.Turns now id kind body answered after
      → Receives (Some (data_read (packet_of bytes))) before (server_foreign now.vars.current after)
  called_received bytes id kind body answered after heard turned =
      by (turn_received now.vars.setup.users (next_id now.vars) kind now.views
      (spelled (response id kind body)) _ (turn_of now.vars.setup.users (next_id now.vars)
      kind now.views (spelled (response id kind body)) stands.objects))
    where
      is_after : (server_turn now.vars.setup.users (next_id now.vars) kind now.views
          (spelled (response id kind body))).after ≡ after
      is_after = ap (λ (out : ServerOutcome ServerViews). out.after) turned.is_turn

      by : Receives (Some (body_of (spelled (response id kind body))))
          (server_foreign_of now.views kind) (server_foreign_of (server_turn now.vars.setup.users
          (next_id now.vars) kind now.views (spelled (response id kind body))).after kind)
          → Receives (Some (data_read (packet_of bytes))) before
          (server_foreign now.vars.current after)
      by (as_before same) =
          as_before
          (current_of now.vars.current after kind turned.is_current
          ∙ (ap (λ (v : ServerViews). server_foreign_of v kind) (sym is_after)
          ∙ (same ∙ sym (current_of now.vars.current now.views kind turned.is_current))))
      by (receives_now octets x is_came is_x stands) =
          let same : octets ≡ body_of (spelled (response id kind body)) = cc in
          let is_data =
          response_data bytes id kind body heard.is_packet (method_satisfies kind _ _ x is_x) in
          receives_now _ x refl
          (current_of now.vars.current after kind turned.is_current
          ∙ (ap (λ (v : ServerViews). server_foreign_of v kind) (sym is_after) ∙ is_x))
          (subst (Occurrence x) (same ∙ (response_body id kind body ∙ sym is_data)) stands)

  -- where a method is to be proposed, none was heard, and the settings and the current method stay
  record Unheard (vars : ServerVariables) : Type 0 where
    pub none : before ≡ None
    pub own : vars.setup ≡ setup
    pub current : vars.current ≡ now.vars.current

  waiting_none : awaits_first now.vars ≡ true → before ≡ None
  waiting_none awaited =
      ap (λ (o : Option ℕ). server_foreign o now.views)
      (stands.unstarted (not-true (is_started now.vars)
      (and_parts (is_backend now.vars) (not (is_started now.vars)) awaited).1)).no_method

  unheard : (id kind : ℕ) (body : List ℕ) (entered : List State) (vars : ServerVariables)
      (desired : Option (List ℕ))
      → Selects now id kind body entered vars desired → Unheard vars
  unheard id kind body _ _ _ (after_identity is_id is_identity is_current unawaited) =
      record {
        none = ap (λ (o : Option ℕ). server_foreign o now.views) is_current;
        own = stands.own;
        current = refl;
      }
  unheard id kind body _ _ _ (after_nak is_id is_nak waits unawaited) =
      record {
        none = untagged_none setup now.vars.current now.views accepted made (server_tags stands)
            (none_accepted accepted made (stands.proposed waits));
        own = stands.own;
        current = refl;
      }
  unheard id kind body _ _ _ (first_identity awaited is_identity) =
      record { none = waiting_none awaited; own = stands.own; current = refl }
  unheard id kind body _ _ _ (first_nak awaited is_nak) =
      record { none = waiting_none awaited; own = stands.own; current = refl }
  unheard id kind body _ _ _ (first_other awaited no_nak no_identity) =
      record { none = waiting_none awaited; own = stands.own; current = refl }

  -- a method that is offered holds none, and without an object of it all views stay
  offered_none : (kind : ℕ) (packet : List ℕ) (views : ServerViews)
      → Offers setup (both_of setup.methods) kind now.views (record
      { packet = Some packet; after = views })
      → server_foreign (Some kind) views ≡ None
  offered_none kind _ _ (asks packet after both has) =
      untagged_none setup (Some kind) after [] [] (has_tags setup _ _ _ _ _ both has) refl

  offered_same : (kind : ℕ) (views : ServerViews)
      → Offers setup (both_of setup.methods) kind now.views (record
      { packet = None; after = views }) → views ≡ now.views
  offered_same kind _ lacks = refl

  gives_up : {came : Option (List ℕ)} (vars : ServerVariables) (views : ServerViews)
      → views ≡ now.views → vars.current ≡ now.vars.current
      → Receives came before (server_foreign vars.current views)
  gives_up vars views same current =
      as_before (ap (λ (v : ServerViews). server_foreign vars.current v) same
      ∙ ap (λ (o : Option ℕ). server_foreign o now.views) current)

  row_received : (input : ServerInput) (out : ServerAnswer) → (input ≡ start → ⊥)
      → ((nonce : List ℕ) → input ≡ restart nonce → ⊥) → rows.ServerRow now input out
      → Receives (server_data input) before (server_foreign out.after.vars.current out.after.views)
  row_received _ _ later no_restart (rows.ended bytes over) = as_before refl
  row_received _ _ later no_restart (rows.rests over) = as_before refl
  row_received _ _ later no_restart (rows.goes_on is_initiated) = as_before refl
  row_received _ _ later no_restart (rows.begins nonce) = absurd (no_restart nonce refl)
  row_received _ _ later no_restart (rows.drops bytes path c going why) = as_before refl
  row_received _ _ later no_restart (rows.starts unstarted) = absurd (later refl)
  row_received _ _ later no_restart (rows.resends going in_time) = as_before refl
  row_received _ _ later no_restart (rows.times_out going late) = as_before refl
  row_received _ _ later no_restart (rows.proposes bytes id kind body entered vars desired next
      packet views heard selects next_is) =
      let was = unheard id kind body entered vars desired selects in
      as_before (offered_none next packet views (proposes_own setup
      (both_of setup.methods) now stands.objects vars desired
      next _ was.own next_is) ∙ sym was.none)
  row_received _ _ later no_restart (rows.proposes_without bytes id kind body entered vars desired
      next views heard selects next_is) =
      let was = unheard id kind body entered vars desired selects in
      gives_up vars views (offered_same next views
      (proposes_own setup
      (both_of setup.methods) now stands.objects vars desired next _ was.own next_is)) was.current
  row_received _ _ later no_restart
      (rows.proposes_none bytes id kind body entered vars desired heard selects none) =
      gives_up vars now.views refl (unheard id kind body entered vars desired selects).current
  row_received _ _ later no_restart (rows.requests bytes id kind body packet tags views heard
      turned) = called_received bytes id kind body _ views heard turned
  row_received _ _ later no_restart (rows.succeeds bytes id kind body tags views heard turned) =
      called_received bytes id kind body _ views heard turned
  row_received _ _ later no_restart (rows.method_fails bytes id kind body tags views heard turned) =
      called_received bytes id kind body _ views heard turned

  -- by the table alone, to others in which the Type-Data stands
  abbrev ReceivedIn : List ℕ → ServerAnswer → Type 0
  ReceivedIn bytes out =
      Receives (Some bytes) before (server_foreign out.after.vars.current out.after.views)

  answer_received : (bytes whole : List ℕ) → Occurrence (data_read (packet_of bytes)) whole
      → ReceivedIn whole (server_deliver now bytes)
  answer_received bytes whole stands =
      delivered_in_call _ whole _ _ stands
      (row_received (inputs.octets bytes) _ (λ e. cc e) (λ nonce e. cc e)
      (server_answers_are_rows now (inputs.octets bytes)))

  wraps_received : (bytes : List ℕ) (out : ServerAnswer) (sent : Option (List ℕ))
      → ReceivedIn bytes out → ReceivedIn bytes (wraps_sent out sent)
  wraps_received bytes out None heard = heard
  wraps_received bytes out (Some packet) heard =
      cond_both (code_of packet == 1) _ _ (ReceivedIn bytes) (λ _. heard) (λ _. heard)

  -- what the table takes of a Response: a Nak, or the plain form
  accepted_occurs : (bytes : List ℕ) (id kind : ℕ) (body : List ℕ)
      → packet_of bytes ≡ Ok (response id kind body)
      → Occurrence (data_read (packet_of (response_octets now.vars bytes id kind body))) bytes
  accepted_occurs bytes id kind body is_packet =
      cond_both ((kind == expanded_kind) && (is_nak_body body && accepts_nak now.vars)) _ _
      (λ (o : List ℕ). Occurrence (data_read (packet_of o)) bytes)
      (λ _. nak_data id _ bytes)
      (λ _. data_occurs _ bytes (plain_response bytes id kind body is_packet))

  receiving_found : (bytes : List ℕ) (out : ServerAnswer) → ServerReceiving now bytes out
      → ReceivedIn bytes out
  receiving_found bytes _ as_it_is = answer_received bytes bytes (own_data bytes)
  receiving_found bytes _ (bad id kind body answers is_bad) =
      cond_both (awaits_first now.vars) _ _ (ReceivedIn bytes) (λ _. as_before refl)
      (λ _. as_before refl)
  receiving_found bytes _ (wrapping id kind body answers good) =
      let out = server_deliver now (response_octets now.vars bytes id kind body) in
      wraps_received bytes out out.step.sent
      (answer_received _ bytes (accepted_occurs bytes id kind body answers.is_packet))

  -- every input but the start and a restart
  pub server_received : (input : ServerInput) → (input ≡ start → ⊥)
      → ((nonce : List ℕ) → input ≡ restart nonce → ⊥)
      → (let out = server_accepts now input in
      Receives (server_octets input) (server_foreign now.vars.current now.views)
      (server_foreign out.after.vars.current out.after.views))
  server_received start later no_restart = absurd (later refl)
  server_received inputs.timeout later no_restart =
      row_received inputs.timeout _ later no_restart (server_answers_are_rows now inputs.timeout)
  server_received (inputs.octets bytes) later no_restart =
      receiving_found bytes _ (server_receives_so now bytes)
  server_received (restart nonce) later no_restart = absurd (no_restart nonce refl)
