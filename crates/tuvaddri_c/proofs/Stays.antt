-- An end stands, after each call, in a state in which it waits or has ended: each row of its table
-- leads to one.
use Rattle.std.proofs.Common.{◌≡◌, ℕ, ◌+◌, List, true, Option, Some, None, refl, sym, subst}
use Rattle.std.specs.Prelude.{◌==◌, nat_le}
use Rattle.std.proofs.lemmas.Bool.{cond_both}
use Rattle.login_setup.specs.declared.setup.PeerSetup.{PeerSetup}
use Rattle.eap_packet.specs.Packet.{request}
use Rattle.eap_packet.specs.Fault.{code_of}
use Rattle.eap_packet.specs.declared.state.State.{State}
use Rattle.eap_method.specs.Peer.{PeerViews}
use Rattle.eap_method.specs.Plain.{plain_octets}
use Rattle.eap_method.specs.Steps.{Step}
use Rattle.peer_machine.specs.Expanded as peer_reading
use Rattle.peer_machine.specs.Inputs as peer_inputs
use Rattle.peer_machine.specs.PeerTable as peer
use Rattle.peer_machine.specs.PeerTable.{PeerNow, PeerAnswer, PeerValue}
use Rattle.peer_machine.specs.Rows as peer_rows
use Rattle.peer_machine.proofs.PeerRows.{peer_answers_are_rows}
use Rattle.peer_machine.proofs.Receiving as peer_deliveries
use Rattle.peer_machine.proofs.Receiving.{peer_receives_so}
use Rattle.server_machine.specs.Expanded as server_reading
use Rattle.server_machine.specs.Inputs as server_inputs
use Rattle.server_machine.specs.ServerTable as server
use Rattle.server_machine.specs.ServerTable.{ServerNow, ServerAnswer, ServerValue}
use Rattle.server_machine.specs.Rows as server_rows
use Rattle.server_machine.specs.Variables.{ServerVariables}
use Rattle.server_machine.proofs.ServerRows.{server_answers_are_rows}
use Rattle.server_machine.proofs.Receiving as server_deliveries
use Rattle.server_machine.proofs.Receiving.{server_receives_so}
use Rattle.pass_through.specs.Inputs as pass_inputs
use Rattle.pass_through.specs.PassTable as pass
use Rattle.pass_through.specs.PassTable.{PassAnswer, PassStep}
use Rattle.pass_through.specs.Rows as pass_rows
use Rattle.pass_through.specs.declared.variables.PassVariables.{PassVariables}
use Rattle.pass_through.proofs.PassRows.{pass_answers_are_rows}
use Rattle.end_objects.specs.Objects.{peer_object_shown, server_object_shown}
use Rattle.end_objects.specs.declared.objects.PeerObject.{PeerObject}
use Rattle.end_objects.specs.declared.objects.ServerObject.{ServerObject}
use Rattle.tuvaddri_c.specs.Settled.{peer_settled, server_settled, pass_settled}

-- the peer stands in such a state; the server does; the pass-through does
abbrev Peer : PeerNow → Type 0
Peer now = peer_settled now.vars.state ≡ true

abbrev Server : ServerNow → Type 0
Server now = server_settled now.vars.state ≡ true

abbrev Pass : PassVariables → Type 0
Pass vars = pass_settled vars.state ≡ true

peer_row : (now : PeerNow) (input : peer_inputs.PeerInput) (out : PeerAnswer)
    → peer_rows.PeerRow now input out → Peer now → Peer out.after
unfolding peer.peer_restart
peer_row now _ _ (peer_rows.ended _ _) stands = stands
peer_row now _ _ (peer_rows.rests _ _ _ _) stands = stands
peer_row now _ _ (peer_rows.begins _) stands = refl
peer_row now _ _ (peer_rows.drops _ _ _ _ _) stands = stands
peer_row now _ _ (peer_rows.waits _ _ _) stands = stands
peer_row now _ _ (peer_rows.identifies _ _ _ _ _ _ _) stands = stands
peer_row now _ _ (peer_rows.notifies _ _ _ _ _ _ _) stands = stands
peer_row now _ _ (peer_rows.naks _ _ _ _ _ _ _ _ _) stands = stands
peer_row now _ _ (peer_rows.resends _ _ _ _ _) stands = stands
peer_row now _ _ (peer_rows.ends_well _ _ _ _ _) stands = refl
peer_row now _ _ (peer_rows.ends_badly _ _ _ _) stands = refl
peer_row now _ _ (peer_rows.method_replies _ _ _ _ _ _ _ _ _ _ _ _ _ _) stands = stands
peer_row now _ _ (peer_rows.method_fails _ _ _ _ _ _ _ _ _ _ _ _ _ _) stands = refl

peer_table : (now : PeerNow) (octets : List ℕ) → Peer now
    → Peer (peer.peer_deliver now octets).after
peer_table now octets stands = peer_row now (peer_inputs.octets octets) _
    (peer_answers_are_rows now (peer_inputs.octets octets)) stands

expressed : (out : PeerAnswer) (sent : Option (List ℕ)) → Peer out.after
    → Peer (peer_reading.expanded_answer out sent).after
expressed out None stands = stands
expressed out (Some octets) stands = stands

peer_delivery : (now : PeerNow) (octets : List ℕ) (out : PeerAnswer)
    → peer_deliveries.PeerReceiving now octets out → Peer now → Peer out.after
peer_delivery now octets _ peer_deliveries.as_it_is stands = peer_table now octets stands
peer_delivery now octets _ (peer_deliveries.bad _ _ _ _ _) stands = stands
peer_delivery now octets _ (peer_deliveries.again id kind body _ _) stands =
    peer_table now (plain_octets octets (request id kind body)) stands
peer_delivery now octets _ (peer_deliveries.expresses id kind body _ _) stands =
    let out = peer.peer_deliver now (plain_octets octets (request id kind body)) in
    expressed out out.step.sent (peer_table now (plain_octets octets (request id kind body)) stands)

peer_idles : (now : PeerNow) → Peer (peer.peer_idle now).after
unfolding peer.peer_idle
peer_idles now = cond_both (peer.is_uncond now.vars.decision) _ _
    (λ (s : State). peer_settled s ≡ true) (λ _. refl) (λ _. refl)

peer_accepts : (now : PeerNow) → Peer now → Peer (peer.peer_alt_accept now).after
unfolding peer.peer_alt_accept
peer_accepts now stands =
    cond_both (peer.is_fail now.vars.decision) _ _ (λ (out : PeerAnswer). Peer out.after)
    (λ _. cond_both (peer.is_cont now.vars.method_state) _ _ (λ (out : PeerAnswer). Peer out.after)
    (λ _. stands) (λ _. refl)) (λ _. refl)

-- what a call of a machine leaves stands so, if its row does
module _ (row : PeerAnswer) (step : Step) (after : PeerValue PeerObject)
    (is : row ≡ peer.answer step (peer.now_of peer_object_shown after)) where
  peer_at : Peer row.after → peer_settled after.vars.state ≡ true
  peer_at stands = subst (λ (out : PeerAnswer). Peer out.after) is stands

module _ (m after : PeerValue PeerObject) (step : Step) where
  abbrev peer_now : PeerNow
  peer_now = peer.now_of peer_object_shown m

  abbrev peer_then : PeerAnswer
  peer_then = peer.answer step (peer.now_of peer_object_shown after)

  pub peer_delivered : (octets : List ℕ) → peer_reading.peer_receives peer_now octets ≡ peer_then
      → peer_settled m.vars.state ≡ true
      → peer_settled after.vars.state ≡ true
  peer_delivered octets is stands = peer_at _ step after is
      (peer_delivery peer_now octets _ (peer_receives_so peer_now octets) stands)

  pub peer_idled : peer.peer_idle peer_now ≡ peer_then → peer_settled after.vars.state ≡ true
  peer_idled is = peer_at _ step after is (peer_idles peer_now)

  pub peer_accepted : peer.peer_alt_accept peer_now ≡ peer_then → peer_settled m.vars.state ≡ true
      → peer_settled after.vars.state ≡ true
  peer_accepted is stands = peer_at _ step after is (peer_accepts peer_now stands)

  pub peer_rejected : peer.peer_alt_reject peer_now ≡ peer_then
      → peer_settled after.vars.state ≡ true
  unfolding peer.peer_alt_reject
  peer_rejected is = peer_at _ step after is refl

  pub peer_restarted : (nonce : List ℕ) → peer.peer_restart peer_now nonce ≡ peer_then
      → peer_settled after.vars.state ≡ true
  unfolding peer.peer_restart
  peer_restarted nonce is = peer_at _ step after is refl

pub peer_created : (setup : PeerSetup) (views : PeerViews) (m : PeerValue PeerObject)
    → peer.now_of peer_object_shown m ≡ peer.initial_peer setup views
    → peer_settled m.vars.state ≡ true
peer_created setup views m is = subst Peer (sym is) refl

selected : (now : ServerNow) (id kind : ℕ) (body : List ℕ) (entered : List State)
    (vars : ServerVariables) (desired : Option (List ℕ))
    → server_rows.Selects now id kind body entered vars desired → Server now
    → server_settled vars.state ≡ true
selected now id kind body _ _ _ (server_rows.after_identity _ _ _ _) stands = stands
selected now id kind body _ _ _ (server_rows.after_nak _ _ _ _) stands = stands
selected now id kind body _ _ _ (server_rows.first_identity _ _) stands = refl
selected now id kind body _ _ _ (server_rows.first_nak _ _) stands = refl
selected now id kind body _ _ _ (server_rows.first_other _ _ _) stands = refl

server_initial : (now : ServerNow) (nonce : List ℕ) → Server (server.server_restart now nonce).after
unfolding server.server_restart server.server_start
server_initial now nonce = cond_both (server.is_backend now.vars) _ _
    (λ (out : ServerAnswer). Server out.after) (λ _. refl) (λ _. refl)

server_row : (now : ServerNow) (input : server_inputs.ServerInput) (out : ServerAnswer)
    → server_rows.ServerRow now input out → Server now
    → Server out.after
server_row now _ _ (server_rows.ended _ _) stands = stands
server_row now _ _ (server_rows.rests _) stands = stands
server_row now _ _ (server_rows.goes_on _) stands = stands
server_row now _ _ (server_rows.drops _ _ _ _ _) stands = stands
server_row now _ _ (server_rows.starts _) stands = refl
server_row now _ _ (server_rows.begins nonce) stands = server_initial now nonce
server_row now _ _ (server_rows.resends _ _) stands = stands
server_row now _ _ (server_rows.times_out _ _) stands = refl
server_row now _ _
    (server_rows.proposes _ id kind body entered vars desired _ _ _ _ selects _) stands =
    selected now id kind body entered vars desired selects stands
server_row now _ _ (server_rows.proposes_without _ _ _ _ _ _ _ _ _ _ _ _) stands = refl
server_row now _ _ (server_rows.proposes_none _ _ _ _ _ _ _ _ _ _) stands = refl
server_row now _ _ (server_rows.requests _ _ _ _ _ _ _ _ _) stands = stands
server_row now _ _ (server_rows.succeeds _ _ _ _ _ _ _ _) stands = refl
server_row now _ _ (server_rows.method_fails _ _ _ _ _ _ _ _) stands = refl

server_table : (now : ServerNow) (octets : List ℕ) → Server now
    → Server (server.server_deliver now octets).after
server_table now octets stands = server_row now (server_inputs.octets octets) _
    (server_answers_are_rows now (server_inputs.octets octets)) stands

wrapped : (out : ServerAnswer) (sent : Option (List ℕ)) → Server out.after
    → Server (server_reading.wraps_sent out sent).after
wrapped out None stands = stands
wrapped out (Some octets) stands = cond_both (code_of octets == 1) _ _
    (λ (o : ServerAnswer). Server o.after) (λ _. stands) (λ _. stands)

server_delivery : (now : ServerNow) (octets : List ℕ) (out : ServerAnswer)
    → server_deliveries.ServerReceiving now octets out → Server now
    → Server out.after
server_delivery now octets _ server_deliveries.as_it_is stands = server_table now octets stands
server_delivery now octets _ (server_deliveries.bad _ _ _ _ _) stands =
    cond_both (server.awaits_first now.vars) _ _ (λ (out : ServerAnswer). Server out.after)
    (λ _. stands) (λ _. stands)
server_delivery now octets _ (server_deliveries.wrapping id kind body _ _) stands =
    let plain = server_reading.response_octets now.vars octets id kind body in
    let out = server.server_deliver now plain in
    wrapped out out.step.sent (server_table now plain stands)

server_times_out : (now : ServerNow) → Server now → Server (server.server_timeout now).after
unfolding server.server_timeout
server_times_out now stands =
    cond_both (nat_le (now.vars.retrans_count + 1) now.vars.max_retrans) _ _
    (λ (out : ServerAnswer). Server out.after) (λ _. stands) (λ _. refl)

module _ (row : ServerAnswer) (step : Step) (after : ServerValue ServerObject)
    (is : row ≡ server.answer step (server.now_of server_object_shown after)) where
  server_at : Server row.after → server_settled after.vars.state ≡ true
  server_at stands = subst (λ (out : ServerAnswer). Server out.after) is stands

module _ (m after : ServerValue ServerObject) (step : Step) where
  abbrev server_now : ServerNow
  server_now = server.now_of server_object_shown m

  abbrev server_then : ServerAnswer
  server_then = server.answer step (server.now_of server_object_shown after)

  pub server_delivered : (octets : List ℕ) → server_reading.server_receives server_now octets
      ≡ server_then → server_settled m.vars.state ≡ true
      → server_settled after.vars.state ≡ true
  server_delivered octets is stands = server_at _ step after is
      (server_delivery server_now octets _ (server_receives_so server_now octets) stands)

  pub server_started : server.server_start server_now ≡ server_then
      → server_settled after.vars.state ≡ true
  unfolding server.server_start
  server_started is = server_at _ step after is refl

  pub server_timed_out : server.server_timeout server_now ≡ server_then
      → server_settled m.vars.state ≡ true → server_settled after.vars.state ≡ true
  server_timed_out is stands = server_at _ step after is (server_times_out server_now stands)

  pub server_restarted : (nonce : List ℕ) → server.server_restart server_now nonce ≡ server_then
      → server_settled after.vars.state ≡ true
  server_restarted nonce is = server_at _ step after is (server_initial server_now nonce)

pub server_created : (m after : ServerValue ServerObject) (nonce : List ℕ)
    → server.made_again (server.now_of server_object_shown m) nonce
    ≡ server.now_of server_object_shown after
    → server_settled after.vars.state ≡ true
server_created m after nonce is = subst Server is refl

waits_again : (s entered back over : State) → pass_rows.TimerRuns s entered back over
    → pass_settled back ≡ true
waits_again _ _ _ _ (pass_rows.of_idle _) = refl
waits_again _ _ _ _ (pass_rows.of_idle2 _) = refl

is_over_then : (s entered back over : State) → pass_rows.TimerRuns s entered back over
    → pass_settled over ≡ true
is_over_then _ _ _ _ (pass_rows.of_idle _) = refl
is_over_then _ _ _ _ (pass_rows.of_idle2 _) = refl

pass_row : (vars : PassVariables) (input : pass_inputs.PassInput) (out : PassAnswer)
    → pass_rows.PassRow vars input out → Pass vars → Pass out.after
unfolding pass.pass_restart pass.pass_start
pass_row vars _ _ (pass_rows.stays _ _) stands = stands
pass_row vars _ _ (pass_rows.drops_of_peer _ _ _ _) stands = stands
pass_row vars _ _ (pass_rows.drops_of_server _ _ _ _) stands = stands
pass_row vars _ _ (pass_rows.starts _) stands = refl
pass_row vars _ _ pass_rows.begins stands = refl
pass_row vars _ _ (pass_rows.resends entered back over place _) stands =
    waits_again vars.state entered back over place
pass_row vars _ _ (pass_rows.times_out entered back over place _) stands =
    is_over_then vars.state entered back over place
pass_row vars _ _ (pass_rows.loses_server _) stands = refl
pass_row vars _ _ (pass_rows.asks_nothing _) stands = refl
pass_row vars _ _ (pass_rows.passes_identity _ _ _ _ _ _) stands = refl
pass_row vars _ _ (pass_rows.passes_response _ _ _ _ _ _ _) stands = refl
pass_row vars _ _ (pass_rows.passes_request _ _ _ _ _ _) stands = refl
pass_row vars _ _ (pass_rows.passes_success _ _ _ _) stands = refl
pass_row vars _ _ (pass_rows.passes_failure _ _ _ _) stands = refl

pass_times_out : (vars : PassVariables) → Pass (pass.pass_timeout vars).after
unfolding pass.pass_timeout
pass_times_out vars =
    let late = nat_le (vars.retrans_count + 1) vars.max_retrans in
    cond_both (pass.is_idle vars.state) _ _ (λ (out : PassAnswer). Pass out.after)
    (λ _. cond_both late _ _ (λ (out : PassAnswer). Pass out.after) (λ _. refl) (λ _. refl))
    (λ _. cond_both late _ _ (λ (out : PassAnswer). Pass out.after) (λ _. refl) (λ _. refl))

module _ (m after : PassVariables) (step : PassStep) where
  pass_at : (row : PassAnswer) → row ≡ pass.answer step after → Pass row.after → Pass after
  pass_at row is stands = subst (λ (out : PassAnswer). Pass out.after) is stands

  pub pass_started : pass.pass_start m ≡ pass.answer step after → Pass after
  unfolding pass.pass_start
  pass_started is = pass_at _ is refl

  pub pass_restarted : pass.pass_restart m ≡ pass.answer step after → Pass after
  unfolding pass.pass_restart pass.pass_start
  pass_restarted is = pass_at _ is refl

  pub peer_passed : (octets : List ℕ) → pass.pass_from_peer m octets ≡ pass.answer step after
      → Pass m → Pass after
  peer_passed octets is stands = pass_at _ is (pass_row m (pass_inputs.from_peer octets) _
      (pass_answers_are_rows m (pass_inputs.from_peer octets)) stands)

  pub backend_passed : (octets : List ℕ) → pass.pass_from_backend m octets ≡ pass.answer step after
      → Pass m → Pass after
  backend_passed octets is stands =
      pass_at _ is (pass_row m (pass_inputs.from_backend octets) _
      (pass_answers_are_rows m (pass_inputs.from_backend octets)) stands)

  pub pass_timed_out : pass.pass_timeout m ≡ pass.answer step after → Pass after
  pass_timed_out is = pass_at _ is (pass_times_out m)

  pub backend_lost : pass.pass_aaa_timeout m ≡ pass.answer step after → Pass after
  unfolding pass.pass_aaa_timeout
  backend_lost is = pass_at _ is refl

  pub backend_silent : pass.pass_aaa_noreq m ≡ pass.answer step after → Pass after
  unfolding pass.pass_aaa_noreq
  backend_silent is = pass_at _ is refl
