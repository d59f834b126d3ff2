-- A peer's lastRespData is the packet that it sent last: each row of its table that sends a packet
-- stores it, and each other leaves what was stored.
use Rattle.std.proofs.Common.{◌≡◌, ℕ, List, [], Bool, true, false, Option, Some, None, refl}
use Rattle.std.proofs.Common.{ap, subst}
use Rattle.std.specs.Prelude.{if◌then◌else◌}
use Rattle.std.proofs.lemmas.Bool.{cond_both}
use Rattle.login_setup.specs.declared.setup.PeerSetup.{PeerSetup}
use Rattle.eap_packet.specs.Packet.{request}
use Rattle.eap_method.specs.Peer.{PeerViews}
use Rattle.eap_method.specs.Plain.{plain_octets}
use Rattle.eap_method.specs.Steps.{step_with}
use Rattle.eap_method.specs.Tags.{Tags}
use Rattle.eap_method.specs.declared.step.Step as brief
use Rattle.peer_machine.specs.Expanded.{expanded_answer, peer_receives}
use Rattle.peer_machine.specs.Inputs.{PeerInput, octets, restart}
use Rattle.peer_machine.specs.PeerTable.{PeerNow, PeerAnswer, PeerValue, answer, now_of}
use Rattle.peer_machine.specs.PeerTable.{initial_peer, peer_deliver, peer_idle, peer_alt_accept}
use Rattle.peer_machine.specs.PeerTable.{peer_alt_reject, peer_restart, is_cont, is_fail}
use Rattle.peer_machine.specs.Rows as rows
use Rattle.peer_machine.proofs.PeerRows.{peer_answers_are_rows}
use Rattle.peer_machine.proofs.Receiving as deliveries
use Rattle.peer_machine.proofs.Receiving.{peer_receives_so}
use Rattle.end_objects.specs.Objects.{peer_object_shown}
use Rattle.end_objects.specs.declared.objects.PeerObject.{PeerObject}
use Rattle.tuvaddri_c.specs.Sent.{sent_so, after_turn}
use Rattle.tuvaddri_c.specs.Turns.{PeerDoes, turn_of}
use Rattle.tuvaddri_c.proofs.Does.{peer_does}

-- what is stored after a call that sends this packet, or none
abbrev stored_by : Option (List ℕ) → List ℕ → List ℕ
stored_by None before = before
stored_by (Some packet) before = packet

-- the peer stores what it sends
abbrev Stores : List ℕ → PeerAnswer → Type 0
Stores before out = out.after.vars.last_response ≡ stored_by out.step.sent before

row : (now : PeerNow) (input : PeerInput) (out : PeerAnswer) → rows.PeerRow now input out
    → ((nonce : List ℕ) → input ≡ restart nonce → ⊥)
    → Stores now.vars.last_response out
row now _ _ (rows.ended _ _) goes_on = refl
row now _ _ (rows.rests _ _ _ _) goes_on = refl
row now _ _ (rows.begins nonce) goes_on = absurd (goes_on nonce refl)
row now _ _ (rows.drops _ _ _ _ _) goes_on = refl
row now _ _ (rows.waits _ _ _) goes_on = refl
row now _ _ (rows.identifies _ _ _ _ _ _ _) goes_on = refl
row now _ _ (rows.notifies _ _ _ _ _ _ _) goes_on = refl
row now _ _ (rows.naks _ _ _ _ _ _ _ _ _) goes_on = refl
row now _ _ (rows.resends _ _ _ _ _) goes_on = refl
row now _ _ (rows.ends_well _ _ _ _ _) goes_on = refl
row now _ _ (rows.ends_badly _ _ _ _) goes_on = refl
row now _ _ (rows.method_replies _ _ _ _ _ _ _ _ _ _ _ _ _ _) goes_on = refl
row now _ _ (rows.method_fails _ _ _ _ _ _ _ _ _ _ _ _ _ _) goes_on = refl

table : (now : PeerNow) (bytes : List ℕ)
    → Stores now.vars.last_response (peer_deliver now bytes)
table now bytes =
    row now (octets bytes) _ (peer_answers_are_rows now (octets bytes)) (λ nonce e. absurd cc)

expressed : (before : List ℕ) (out : PeerAnswer) (sent : Option (List ℕ)) → Stores before out
    → Stores before (expanded_answer out sent)
expressed before out None stores = stores
expressed before out (Some packet) stores = refl

delivery : (now : PeerNow) (bytes : List ℕ) (out : PeerAnswer)
    → deliveries.PeerReceiving now bytes out → Stores now.vars.last_response out
delivery now bytes _ deliveries.as_it_is = table now bytes
delivery now bytes _ (deliveries.bad _ _ _ _ _) = refl
delivery now bytes _ (deliveries.again id kind body _ _) =
    table now (plain_octets bytes (request id kind body))
delivery now bytes _ (deliveries.expresses id kind body _ _) =
    let out = peer_deliver now (plain_octets bytes (request id kind body)) in
    expressed now.vars.last_response out out.step.sent
    (table now (plain_octets bytes (request id kind body)))

idles : (now : PeerNow) → Stores now.vars.last_response (peer_idle now)
unfolding peer_idle
idles now = refl

accepts : (now : PeerNow) → Stores now.vars.last_response (peer_alt_accept now)
unfolding peer_alt_accept
accepts now =
    cond_both (is_fail now.vars.decision) _ _
    (λ (out : PeerAnswer). Stores now.vars.last_response out)
    (λ _. cond_both (is_cont now.vars.method_state) _ _
    (λ (out : PeerAnswer). Stores now.vars.last_response out) (λ _. refl) (λ _. refl)) (λ _. refl)

rejects : (now : PeerNow) → Stores now.vars.last_response (peer_alt_reject now)
unfolding peer_alt_reject
rejects now = refl

restarts : (now : PeerNow) (nonce : List ℕ) → Stores [] (peer_restart now nonce)
unfolding peer_restart
restarts now nonce = refl

-- what is stored is what has been sent
sent_so_far : (sends fresh : Bool) (packet before stored : List ℕ)
    → stored ≡ stored_by (if sends then Some packet else None) before
    → sent_so stored sends
    ≡ after_turn (if sends then Some packet else None) (sent_so before fresh)
sent_so_far true fresh packet before stored is = ap (λ (p : List ℕ). sent_so p true) is
sent_so_far false fresh packet before stored is = ap (λ (p : List ℕ). sent_so p false) is

module _ (m after : PeerValue PeerObject) (step : brief.Step) (packet : List ℕ) (tags : Tags)
    (was sends : Bool) (told : sends ≡ step.sends) where
  abbrev m_now : PeerNow
  m_now = now_of peer_object_shown m

  abbrev Is : PeerAnswer → Type 0
  Is out = out ≡ answer (step_with step packet tags) (now_of peer_object_shown after)

  -- a call after which that is stored, and says so, does what the table says
  abbrev DoesFrom : List ℕ → Bool → PeerAnswer → Type 0
  DoesFrom before fresh out = PeerDoes out (sent_so before fresh) (turn_of step after.vars.state)
      (sent_so after.vars.last_response sends) after

  does : (before : List ℕ) (fresh : Bool) (out : PeerAnswer) → Is out → Stores before out
      → DoesFrom before fresh out
  does before fresh out is stores = peer_does out step packet tags after (sent_so before fresh)
      (sent_so after.vars.last_response sends) is (rw told
      (sent_so_far step.sends fresh packet before after.vars.last_response
      (subst (λ (it : PeerAnswer). Stores before it) is stores)))

  pub delivered : (bytes : List ℕ) → Is (peer_receives m_now bytes)
      → DoesFrom m.vars.last_response was (peer_receives m_now bytes)
  delivered bytes is = does m.vars.last_response was _ is
      (delivery m_now bytes _ (peer_receives_so m_now bytes))

  pub idled : Is (peer_idle m_now) → DoesFrom m.vars.last_response was (peer_idle m_now)
  idled is = does m.vars.last_response was _ is (idles m_now)

  pub accepted : Is (peer_alt_accept m_now)
      → DoesFrom m.vars.last_response was (peer_alt_accept m_now)
  accepted is = does m.vars.last_response was _ is (accepts m_now)

  pub rejected : Is (peer_alt_reject m_now)
      → DoesFrom m.vars.last_response was (peer_alt_reject m_now)
  rejected is = does m.vars.last_response was _ is (rejects m_now)

  pub restarted : (nonce : List ℕ) → Is (peer_restart m_now nonce)
      → DoesFrom [] false (peer_restart m_now nonce)
  restarted nonce is = does [] false _ is (restarts m_now nonce)

pub created : (setup : PeerSetup) (views : PeerViews) (m : PeerValue PeerObject)
    → now_of peer_object_shown m ≡ initial_peer setup views → m.vars.last_response ≡ []
created setup views m is = ap (λ (now : PeerNow). now.vars.last_response) is
