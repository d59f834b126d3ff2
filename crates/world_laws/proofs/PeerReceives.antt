-- What the peer hears of the server's nonce stands in what came.
use Rattle.std.proofs.Common.{◌≡◌, ℕ, List, Bool, false, Option, Some, None, refl, sym, ap, subst}
use Rattle.std.proofs.Common.{◌∙◌}
use Rattle.login_setup.specs.declared.setup.PeerSetup.{PeerSetup}
use Rattle.eap_packet.specs.Fault.{packet_of}
use Rattle.eap_packet.specs.Packet.{request, spelled}
use Rattle.eap_method.specs.declared.tags.TagRecord.{TagRecord}
use Rattle.eap_method.specs.Plain.{plain_octets}
use Rattle.eap_method.specs.Turns.{PeerOutcome, body_of}
use Rattle.eap_method.specs.Peer.{PeerViews, peer_turn}
use Rattle.peer_machine.specs.Expanded.{expanded_answer}
use Rattle.peer_machine.specs.Inputs as inputs
use Rattle.peer_machine.specs.Inputs.{PeerInput, restart, peer_accepts}
use Rattle.peer_machine.specs.PeerTable.{PeerNow, PeerAnswer, peer_deliver}
use Rattle.peer_machine.specs.Rows as rows
use Rattle.peer_machine.specs.Rows.{Calls, first, again}
use Rattle.peer_machine.proofs.Receiving as receiving
use Rattle.peer_machine.proofs.Receiving.{PeerReceiving, as_it_is, bad, expresses, peer_receives_so}
use Rattle.peer_machine.proofs.PeerRows.{peer_answers_are_rows}
use Rattle.world_laws.specs.PeerInvariant.{PeerInvariant}
use Rattle.eap_world.specs.World.{peer_octets}
use Rattle.method_laws.specs.ByMethod.{peer_foreign_of, peer_foreign}
use Rattle.method_laws.proofs.Occurrence.{Occurrence, rest_of}
use Rattle.world_laws.proofs.TypeData.{data_read, data_occurs, plain_request, request_body}
use Rattle.world_laws.proofs.TypeData.{request_data}
use Rattle.method_laws.proofs.Receiving.{Receives, as_before, receives_now, delivered_in_call}
use Rattle.method_laws.proofs.PeerByMethod.{method_satisfies, turn_received, turn_of}
use Rattle.method_laws.proofs.PeerByMethod.{unselected_none}
use Rattle.world_laws.proofs.EndTags.{peer_tags}

-- the Type-Data of a method that comes
abbrev peer_data : PeerInput → Option (List ℕ)
peer_data (inputs.octets bytes) = Some (data_read (packet_of bytes))
peer_data _ = None

module _ (setup : PeerSetup) (now : PeerNow) (accepted made : List TagRecord)
    (stands : PeerInvariant setup now accepted made) where
  foreign_called : {selects : Bool} (kind : ℕ) → Calls now kind selects
      → peer_foreign_of now.views kind ≡ peer_foreign now.vars.selected now.views
  foreign_called kind (first unselected allowed) =
      unselected_none setup now.vars.selected now.views accepted made kind (peer_tags stands)
      unselected
      ∙ sym (ap (λ (o : Option ℕ). peer_foreign o now.views) unselected)
  foreign_called kind (again is_selected undone) =
      sym (ap (λ (o : Option ℕ). peer_foreign o now.views) is_selected)

  called_received : {selects : Bool} (bytes : List ℕ) (id kind : ℕ) (body : List ℕ)
      (after : PeerViews) → Calls now kind selects
      → rows.Receives now bytes id (request id kind body) false
      → (peer_turn kind now.views (spelled (request id kind body))).after ≡ after
      → Receives (Some (data_read (packet_of bytes))) (peer_foreign now.vars.selected now.views)
      (peer_foreign (Some kind) after)
  called_received bytes id kind body after calls heard is_after =
      by (turn_received kind now.views (spelled (request id kind body)) _
      (turn_of kind now.views (spelled (request id kind body)) stands.objects))
    where
      by : Receives (Some (body_of (spelled (request id kind body))))
          (peer_foreign_of now.views kind)
          (peer_foreign_of (peer_turn kind now.views (spelled (request id kind body))).after kind)
          → Receives (Some (data_read (packet_of bytes))) (peer_foreign now.vars.selected now.views)
          (peer_foreign (Some kind) after)
      by (as_before same) =
          as_before (ap (λ (v : PeerViews). peer_foreign_of v kind) (sym is_after)
          ∙ (same ∙ foreign_called kind calls))
      by (receives_now octets x is_came is_x stands) =
          let same : octets ≡ body_of (spelled (request id kind body)) = cc in
          let is_data =
          request_data bytes id kind body heard.is_packet (method_satisfies kind _ _ x is_x) in
          receives_now _ x refl
          (ap (λ (v : PeerViews). peer_foreign_of v kind) (sym is_after) ∙ is_x)
          (subst (Occurrence x) (same ∙ (request_body id kind body ∙ sym is_data)) stands)

  row_received : (input : PeerInput) (out : PeerAnswer)
      → ((nonce : List ℕ) → input ≡ restart nonce → ⊥) → rows.PeerRow now input out
      → Receives (peer_data input) (peer_foreign now.vars.selected now.views)
      (peer_foreign out.after.vars.selected out.after.views)
  row_received _ _ no_restart (rows.ended bytes over) = as_before refl
  row_received _ _ no_restart (rows.rests report no_octets other over) = as_before refl
  row_received _ _ no_restart (rows.begins nonce) = absurd (no_restart nonce refl)
  row_received _ _ no_restart (rows.drops bytes path c going why) = as_before refl
  row_received _ _ no_restart (rows.waits going fails goes_on) = as_before refl
  row_received _ _ no_restart (rows.identifies bytes id kind body heard unselected is_identity) =
      as_before refl
  row_received _ _ no_restart (rows.notifies bytes id kind body heard unselected is_notification) =
      as_before refl
  row_received _ _ no_restart (rows.naks bytes id kind body heard unselected no_identity
      no_notification barred) = as_before refl
  row_received _ _ no_restart (rows.resends bytes id kind body heard) = as_before refl
  row_received _ _ no_restart (rows.ends_well input entered going sure why) = as_before refl
  row_received _ _ no_restart (rows.ends_badly input entered going why) = as_before refl
  row_received _ _ no_restart
      (rows.method_replies bytes selects id kind body packet m d tags views heard calls turn _) =
      called_received bytes id kind body views calls heard
      (ap (λ (out : PeerOutcome PeerViews). out.after) turn)
  row_received _ _ no_restart
      (rows.method_fails bytes selects id kind body packet m d tags views heard calls turn _) =
      called_received bytes id kind body views calls heard
      (ap (λ (out : PeerOutcome PeerViews). out.after) turn)

  -- by the table alone, to others in which the Type-Data stands
  abbrev ReceivedIn : List ℕ → PeerAnswer → Type 0
  ReceivedIn bytes out = Receives (Some bytes) (peer_foreign now.vars.selected now.views)
      (peer_foreign out.after.vars.selected out.after.views)

  answer_received : (bytes whole : List ℕ) → Occurrence (body_of bytes) whole
      → ReceivedIn whole (peer_deliver now bytes)
  answer_received bytes whole stands =
      delivered_in_call _ whole _ _ (data_occurs bytes whole stands)
      (row_received (inputs.octets bytes) _ (λ nonce e. cc e)
      (peer_answers_are_rows now (inputs.octets bytes)))

  expressed_received : (bytes : List ℕ) (out : PeerAnswer) (sent : Option (List ℕ))
      → ReceivedIn bytes out → ReceivedIn bytes (expanded_answer out sent)
  expressed_received bytes out None heard = heard
  expressed_received bytes out (Some packet) heard = heard

  receiving_found : (bytes : List ℕ) (out : PeerAnswer) → PeerReceiving now bytes out
      → ReceivedIn bytes out
  receiving_found bytes _ as_it_is = answer_received bytes bytes (rest_of 5 bytes)
  receiving_found bytes _ (bad id kind body asks is_bad) = as_before refl
  receiving_found bytes _ (receiving.again id kind body asks last) =
      answer_received _ bytes (plain_request bytes id kind body asks.asks.is_packet)
  receiving_found bytes _ (expresses id kind body asks new) =
      let out = peer_deliver now (plain_octets bytes (request id kind body)) in
      expressed_received bytes out out.step.sent
      (answer_received _ bytes (plain_request bytes id kind body asks.asks.is_packet))

  -- every input but a restart
  pub peer_received : (input : PeerInput) → ((nonce : List ℕ) → input ≡ restart nonce → ⊥)
      → (let out = peer_accepts now input in
      Receives (peer_octets input) (peer_foreign now.vars.selected now.views)
      (peer_foreign out.after.vars.selected out.after.views))
  peer_received (inputs.octets bytes) no_restart =
      receiving_found bytes _ (peer_receives_so now bytes)
  peer_received inputs.idle no_restart =
      row_received inputs.idle _ no_restart (peer_answers_are_rows now inputs.idle)
  peer_received inputs.alt_accept no_restart =
      row_received inputs.alt_accept _ no_restart (peer_answers_are_rows now inputs.alt_accept)
  peer_received inputs.alt_reject no_restart =
      row_received inputs.alt_reject _ no_restart (peer_answers_are_rows now inputs.alt_reject)
  peer_received (restart nonce) no_restart = absurd (no_restart nonce refl)
