-- The settings of the parties stay through a run: the mode, the server's role, the first
-- Identifier, MaxRetrans; and alone nothing comes to the pass-through.
use Rattle.std.proofs.Common.{◌≡◌, ℕ, Bool, false, List, [], ◌∷◌, Option, Some, None, refl, ◌∙◌}
use Rattle.std.proofs.lemmas.Bool.{cond_both}
use Rattle.std.specs.Prelude.{◌==◌, length, nat_le, nat_lt, take}
use Rattle.eap_method.specs.Steps.{is_end}
use Rattle.login_setup.specs.declared.event.Event.{Event}
use Rattle.login_setup.specs.declared.event.Event.TheVariants as event
use Rattle.login_setup.specs.declared.setup.Mode.{Mode}
use Rattle.login_setup.specs.declared.setup.Mode.TheVariants as mode
use Rattle.login_setup.specs.declared.setup.Party.TheVariants as party
use Rattle.login_setup.specs.declared.setup.Port.{Port}
use Rattle.login_setup.specs.declared.setup.Port.TheVariants as port
use Rattle.login_setup.specs.declared.setup.Setup.{Setup}
use Rattle.eap_packet.specs.Fault.{code_of}
use Rattle.eap_packet.specs.declared.state.State.{State}
use Rattle.peer_machine.specs.Inputs as peer_inputs
use Rattle.peer_machine.specs.PeerTable.{PeerNow}
use Rattle.server_machine.specs.Expanded.{response_octets, discards_bad, wraps_sent}
use Rattle.server_machine.specs.Inputs.{ServerInput, server_answers, server_accepts}
use Rattle.server_machine.specs.Inputs as inputs
use Rattle.server_machine.specs.Rows.{Selects, after_identity, after_nak, first_identity, first_nak}
use Rattle.server_machine.specs.Rows.{first_other, ServerRow, ended, rests}
use Rattle.server_machine.specs.Rows.{goes_on, drops, starts, resends, times_out, proposes}
use Rattle.server_machine.specs.Rows.{proposes_without, proposes_none, requests, begins}
use Rattle.server_machine.specs.Rows.{succeeds, method_fails}
use Rattle.server_machine.specs.ServerTable.{ServerNow, ServerAnswer, awaits_first, is_backend}
use Rattle.server_machine.specs.ServerTable.{server_deliver, server_restart, server_start}
use Rattle.server_machine.specs.Variables.{ServerVariables}
use Rattle.server_machine.proofs.Receiving.{ServerReceiving, as_it_is, bad, wrapping}
use Rattle.server_machine.proofs.Receiving.{server_receives_so}
use Rattle.server_machine.proofs.ServerRows.{server_answers_are_rows}
use Rattle.pass_through.specs.Inputs.{PassInput}
use Rattle.pass_through.specs.PassTable.{PassAnswer, initial_pass, pass_restart, pass_start}
use Rattle.pass_through.specs.Rows as rows
use Rattle.pass_through.specs.Rows.{PassRow}
use Rattle.pass_through.specs.declared.variables.PassVariables.{PassVariables}
use Rattle.pass_through.proofs.PassRows.{pass_answers_are_rows}
use Rattle.eap_world.specs.Conversations.{Conversations}
use Rattle.eap_world.specs.Sent.{Sent, packet_numbered}
use Rattle.eap_world.specs.World.{Acted, Call, Parties, WorldNow, WorldOutcome, act, alteration}
use Rattle.eap_world.specs.World.{call_at, call_with, act_of_call, called_unless, first_skip}
use Rattle.eap_world.specs.World.{has_none}
use Rattle.eap_world.specs.World.{is_absent, next_call, octets_of, packet_skips, role_in, run_after}
use Rattle.eap_world.specs.World.{timer_skips, to_pass, to_peer, to_server, world_start, world_step}
use Rattle.eap_world.specs.declared.conversations.Waiting.{Waiting}
use Rattle.eap_world.specs.declared.told.Skip.{Skip}
use Rattle.eap_world.specs.declared.told.Skip.TheVariants.{Ended, NoNonce, NoParty, Place, Unsent}
use Rattle.world_laws.proofs.Acting.{Steps, calls, peer_restarts, run_preserves, server_restarts}
use Rattle.world_laws.proofs.Acting.{skips}
use Rattle.smooth_laws.proofs.Moves.{parties_at}
use Rattle.world_laws.specs.Runs.{initial_world, run_of}

-- ---- the server

pub record SameServer (before after : ServerVariables) : Type 0 where
  pub role : after.role ≡ before.role
  pub first_id : after.first_id ≡ before.first_id
  pub max_retrans : after.max_retrans ≡ before.max_retrans

same_server : (vars : ServerVariables) → SameServer vars vars
same_server vars = record { role = refl; first_id = refl; max_retrans = refl }

selects_same : (now : ServerNow) (id kind : ℕ) (body : List ℕ) (entered : List State)
    (vars : ServerVariables) (desired : Option (List ℕ))
    → Selects now id kind body entered vars desired → SameServer now.vars vars
selects_same now id kind body _ _ _ (after_identity is_id is_identity is_current unawaited) =
    record { role = refl; first_id = refl; max_retrans = refl }
selects_same now id kind body _ _ _ (after_nak is_id is_nak waits unawaited) = same_server now.vars
selects_same now id kind body _ _ _ (first_identity awaited is_identity) =
    record { role = refl; first_id = refl; max_retrans = refl }
selects_same now id kind body _ _ _ (first_nak awaited is_nak) =
    record { role = refl; first_id = refl; max_retrans = refl }
selects_same now id kind body _ _ _ (first_other awaited no_nak no_identity) =
    record { role = refl; first_id = refl; max_retrans = refl }

pub restart_same : (now : ServerNow) (nonce : List ℕ)
    → SameServer now.vars (server_restart now nonce).after.vars
unfolding server_restart server_start
restart_same now nonce =
    cond_both (is_backend now.vars) _ _ (λ (out : ServerAnswer). SameServer now.vars out.after.vars)
    (λ _. record { role = refl; first_id = refl; max_retrans = refl })
    (λ _. record { role = refl; first_id = refl; max_retrans = refl })

row_same : (now : ServerNow) (input : ServerInput) (out : ServerAnswer) → ServerRow now input out
    → SameServer now.vars out.after.vars
row_same now _ _ (ended bytes over) = same_server now.vars
row_same now _ _ (rests over) = same_server now.vars
row_same now _ _ (goes_on is_initiated) = same_server now.vars
row_same now _ _ (drops bytes path c going why) = same_server now.vars
row_same now _ _ (starts unstarted) = record { role = refl; first_id = refl; max_retrans = refl }
row_same now _ _ (resends going in_time) =
    record { role = refl; first_id = refl; max_retrans = refl }
row_same now _ _ (times_out going late) =
    record { role = refl; first_id = refl; max_retrans = refl }
row_same now _ _
    (proposes bytes id kind body entered vars desired next packet views heard selects next_is) =
    let s = selects_same now id kind body entered vars desired selects in
    record { role = s.role; first_id = s.first_id; max_retrans = s.max_retrans }
row_same now _ _
    (proposes_without bytes id kind body entered vars desired next views heard selects next_is) =
    let s = selects_same now id kind body entered vars desired selects in
    record { role = s.role; first_id = s.first_id; max_retrans = s.max_retrans }
row_same now _ _ (proposes_none bytes id kind body entered vars desired heard selects none) =
    let s = selects_same now id kind body entered vars desired selects in
    record { role = s.role; first_id = s.first_id; max_retrans = s.max_retrans }
row_same now _ _ (requests bytes id kind body packet tags views heard turned) =
    record { role = refl; first_id = refl; max_retrans = refl }
row_same now _ _ (succeeds bytes id kind body tags views heard turned) =
    record { role = refl; first_id = refl; max_retrans = refl }
row_same now _ _ (method_fails bytes id kind body tags views heard turned) =
    record { role = refl; first_id = refl; max_retrans = refl }
row_same now _ _ (begins nonce) = restart_same now nonce

input_same : (now : ServerNow) (input : ServerInput)
    → SameServer now.vars (server_answers now input).after.vars
input_same now input =
    row_same now input (server_answers now input) (server_answers_are_rows now input)

wraps_same : (vars : ServerVariables) (out : ServerAnswer) (sent : Option (List ℕ))
    → SameServer vars out.after.vars → SameServer vars (wraps_sent out sent).after.vars
wraps_same vars out None same = same
wraps_same vars out (Some packet) same =
    cond_both (code_of packet == 1) _ _ (λ (next : ServerAnswer). SameServer vars next.after.vars)
    (λ _. record { role = same.role; first_id = same.first_id; max_retrans = same.max_retrans })
    (λ _. same)

bad_same : (now : ServerNow) → SameServer now.vars (discards_bad now).after.vars
bad_same now =
    cond_both (awaits_first now.vars) _ _ (λ (next : ServerAnswer).
    SameServer now.vars next.after.vars) (λ _. same_server now.vars) (λ _. same_server now.vars)

receiving_same : (now : ServerNow) (bytes : List ℕ) (out : ServerAnswer)
    → ServerReceiving now bytes out → SameServer now.vars out.after.vars
receiving_same now bytes _ as_it_is = input_same now (inputs.octets bytes)
receiving_same now bytes _ (bad id kind body answers is_bad) = bad_same now
receiving_same now bytes _ (wrapping id kind body answers good) =
    let plain = response_octets now.vars bytes id kind body in
    wraps_same now.vars (server_deliver now plain) (server_deliver now plain).step.sent
    (input_same now (inputs.octets plain))

server_same : (now : ServerNow) (input : ServerInput)
    → SameServer now.vars (server_accepts now input).after.vars
server_same now inputs.start = input_same now inputs.start
server_same now inputs.timeout = input_same now inputs.timeout
server_same now (inputs.octets bytes) = receiving_same now bytes _ (server_receives_so now bytes)
server_same now (inputs.restart nonce) = restart_same now nonce

-- ---- the pass-through

record SamePass (before after : PassVariables) : Type 0 where
  first_id : after.first_id ≡ before.first_id
  max_retrans : after.max_retrans ≡ before.max_retrans

pass_row_same : (vars : PassVariables) (input : PassInput) (out : PassAnswer)
    → PassRow vars input out → SamePass vars out.after
unfolding pass_restart pass_start
pass_row_same vars _ _ (rows.stays input why) = record { first_id = refl; max_retrans = refl }
pass_row_same vars _ _ (rows.drops_of_peer octets path c why) =
    record { first_id = refl; max_retrans = refl }
pass_row_same vars _ _ (rows.drops_of_server octets path c why) =
    record { first_id = refl; max_retrans = refl }
pass_row_same vars _ _ (rows.starts unstarted) = record { first_id = refl; max_retrans = refl }
pass_row_same vars _ _ rows.begins = record { first_id = refl; max_retrans = refl }
pass_row_same vars _ _ (rows.resends entered stay over place in_time) =
    record { first_id = refl; max_retrans = refl }
pass_row_same vars _ _ (rows.times_out entered stay over place late) =
    record { first_id = refl; max_retrans = refl }
pass_row_same vars _ _ (rows.loses_server stands) = record { first_id = refl; max_retrans = refl }
pass_row_same vars _ _ (rows.asks_nothing stands) = record { first_id = refl; max_retrans = refl }
pass_row_same vars _ _ (rows.passes_identity octets id body stands is_packet is_id) =
    record { first_id = refl; max_retrans = refl }
pass_row_same vars _ _ (rows.passes_response octets id kind body stands is_packet is_id) =
    record { first_id = refl; max_retrans = refl }
pass_row_same vars _ _ (rows.passes_request octets id kind body stands is_packet) =
    record { first_id = refl; max_retrans = refl }
pass_row_same vars _ _ (rows.passes_success octets id stands is_packet) =
    record { first_id = refl; max_retrans = refl }
pass_row_same vars _ _ (rows.passes_failure octets id stands is_packet) =
    record { first_id = refl; max_retrans = refl }

-- ---- all parties

pub record AreSet (setup : Setup) (p : Parties) : Type 0 where
  pub mode : p.mode ≡ setup.mode
  pub role : p.server.vars.role ≡ role_in setup.mode
  pub first_id : p.server.vars.first_id ≡ setup.first_id
  pub max_retrans : p.server.vars.max_retrans ≡ setup.max_retrans
  pub pass_first_id : p.pass.first_id ≡ setup.first_id
  pub pass_max_retrans : p.pass.max_retrans ≡ setup.max_retrans

module _ (setup : Setup) where
  call_set : (p : Parties) (call : Call) → AreSet setup p → AreSet setup (act_of_call p call).after
  call_set p (to_peer input) h = record {
    mode = h.mode;
    role = h.role;
    first_id = h.first_id;
    max_retrans = h.max_retrans;
    pass_first_id = h.pass_first_id;
    pass_max_retrans = h.pass_max_retrans;
  }
  call_set p (to_server input) h =
      let s = server_same p.server input in
      record {
        mode = h.mode;
        role = s.role ∙ h.role;
        first_id = s.first_id ∙ h.first_id;
        max_retrans = s.max_retrans ∙ h.max_retrans;
        pass_first_id = h.pass_first_id;
        pass_max_retrans = h.pass_max_retrans;
      }
  call_set p (to_pass input) h =
      let s = pass_row_same p.pass input _ (pass_answers_are_rows p.pass input) in
      record {
        mode = h.mode;
        role = h.role;
        first_id = h.first_id;
        max_retrans = h.max_retrans;
        pass_first_id = s.first_id ∙ h.pass_first_id;
        pass_max_retrans = s.max_retrans ∙ h.pass_max_retrans;
      }

  step_set : (w : WorldNow) (out : WorldOutcome) → Steps w out → AreSet setup w.parties
      → AreSet setup out.after.parties
  step_set w _ (skips skip) h = h
  step_set w _ (calls call later same) h = call_set w.parties call h
  step_set w _ (peer_restarts one left next) h =
      call_set w.parties (to_peer (peer_inputs.restart one.nonce)) h
  step_set w _ (server_restarts one left next) h =
      call_set w.parties (to_server (inputs.restart one.nonce)) h

start_set : (runs : Mode) (setup : Setup) → AreSet (record setup { mode = runs }) (world_start
    (initial_world (record setup { mode = runs }))).after.parties
unfolding world_start server_start pass_start
start_set mode.Alone setup = record {
  mode = refl;
  role = refl;
  first_id = refl;
  max_retrans = refl;
  pass_first_id = refl;
  pass_max_retrans = refl;
}
start_set mode.Through setup = record {
  mode = refl;
  role = refl;
  first_id = refl;
  max_retrans = refl;
  pass_first_id = refl;
  pass_max_retrans = refl;
}

pub run_is_set : (setup : Setup) (events : List Event) → AreSet setup (run_of setup events).parties
run_is_set setup events =
    run_preserves (λ (w : WorldNow). AreSet setup w.parties) (step_set setup)
    (world_start (initial_world setup)).after events (start_set setup.mode setup)

-- ---- alone the pass-through stands as it was made

module _ (peer : PeerNow) (server : ServerNow) (vars : PassVariables) where
  abbrev P : Parties
  P = parties_at mode.Alone peer server vars

  -- it does what it will, and the pass-through and the mode are the same
  record Preserves (out : Acted) : Type 0 where
    mode : out.after.mode ≡ mode.Alone
    pass : out.after.pass ≡ vars

  to_peer_keeps : (skip : Option Skip) (input : peer_inputs.PeerInput)
      → Preserves (called_unless P skip (Some (to_peer input)))
  to_peer_keeps None input = record { mode = refl; pass = refl }
  to_peer_keeps (Some skip) input = record { mode = refl; pass = refl }

  to_server_keeps : (skip : Option Skip) (input : ServerInput)
      → Preserves (called_unless P skip (Some (to_server input)))
  to_server_keeps None input = record { mode = refl; pass = refl }
  to_server_keeps (Some skip) input = record { mode = refl; pass = refl }

  at_port_keeps : (to : Port) (more : List (Bool × Skip)) (octets : List ℕ)
      → Preserves (called_unless P (first_skip ((is_absent mode.Alone to, NoParty) ∷ more))
      (Some (call_at to octets)))
  at_port_keeps port.Peer more octets = to_peer_keeps (first_skip more) (peer_inputs.octets octets)
  at_port_keeps port.Server more octets = to_server_keeps (first_skip more) (inputs.octets octets)
  at_port_keeps port.PassPeer more octets = record { mode = refl; pass = refl }
  at_port_keeps port.PassServer more octets = record { mode = refl; pass = refl }

  handed_keeps : (packet : Option Sent) (is_misplaced : Bool) (octets : List ℕ)
      → Preserves (called_unless P (first_skip (packet_skips mode.Alone packet is_misplaced))
      (call_with packet octets))
  handed_keeps None is_misplaced octets = record { mode = refl; pass = refl }
  handed_keeps (Some packet) is_misplaced octets =
      at_port_keeps packet.port ((false, Unsent) ∷ (is_misplaced, Place) ∷ []) octets

  peer_left_keeps : (left : List Waiting)
      → Preserves (called_unless P (first_skip ((has_none left, NoNonce) ∷ []))
      (next_call (λ nonce. to_peer (peer_inputs.restart nonce)) left))
  peer_left_keeps [] = record { mode = refl; pass = refl }
  peer_left_keeps (one ∷ left) = record { mode = refl; pass = refl }

  server_left_keeps : (left : List Waiting)
      → Preserves (called_unless P (first_skip ((has_none left, NoNonce) ∷ []))
      (next_call (λ nonce. to_server (inputs.restart nonce)) left))
  server_left_keeps [] = record { mode = refl; pass = refl }
  server_left_keeps (one ∷ left) = record { mode = refl; pass = refl }

  event_keeps : (all : Conversations) (sent : List Sent) (e : Event) → Preserves (act P all sent e)
  unfolding act
  event_keeps all sent (event.Deliver n) =
      handed_keeps (packet_numbered sent n) false (octets_of (packet_numbered sent n))
  event_keeps all sent (event.Alter n place mask) =
      let packet = packet_numbered sent n in
      handed_keeps packet (nat_le (length (octets_of packet)) place)
      (alteration (octets_of packet) place mask)
  event_keeps all sent (event.Cut n keep) =
      let packet = packet_numbered sent n in
      handed_keeps packet (nat_lt (length (octets_of packet)) keep) (take keep (octets_of packet))
  event_keeps all sent (event.Inject to octets) = at_port_keeps to [] octets
  event_keeps all sent (event.Timeout party.Peer) =
      to_server_keeps (first_skip (timer_skips P party.Peer)) inputs.timeout
  event_keeps all sent (event.Timeout party.Pass) = record { mode = refl; pass = refl }
  event_keeps all sent (event.Timeout party.Server) =
      to_server_keeps (first_skip (timer_skips P party.Server)) inputs.timeout
  event_keeps all sent event.AaaTimeout = record { mode = refl; pass = refl }
  event_keeps all sent event.AaaNoReq = record { mode = refl; pass = refl }
  event_keeps all sent event.Idle =
      to_peer_keeps (first_skip ((is_end peer.vars.state, Ended) ∷ [])) peer_inputs.idle
  event_keeps all sent event.AltAccept =
      to_peer_keeps (first_skip ((is_end peer.vars.state, Ended) ∷ [])) peer_inputs.alt_accept
  event_keeps all sent event.AltReject =
      to_peer_keeps (first_skip ((is_end peer.vars.state, Ended) ∷ [])) peer_inputs.alt_reject
  event_keeps all sent (event.Restart party.Peer) = peer_left_keeps all.peer_left
  event_keeps all sent (event.Restart party.Pass) = record { mode = refl; pass = refl }
  event_keeps all sent (event.Restart party.Server) = server_left_keeps all.server_left

pub record IsIdle (vars : PassVariables) (p : Parties) : Type 0 where
  pub mode : p.mode ≡ mode.Alone
  pub pass : p.pass ≡ vars

acts_idle : (vars : PassVariables) (runs : Mode) (p : Parties) (all : Conversations)
    (sent : List Sent) (e : Event) → p.mode ≡ runs → runs ≡ mode.Alone
    → p.pass ≡ vars → IsIdle vars (act (record p { mode = runs }) all sent e).after
acts_idle vars mode.Alone p all sent e same is pass =
    let k = event_keeps p.peer p.server p.pass all sent e in
    record { mode = k.mode; pass = k.pass ∙ pass }
acts_idle vars mode.Through p all sent e same is pass = cc is

step_idle : (vars : PassVariables) (w : WorldNow) (e : Event) → IsIdle vars w.parties
    → IsIdle vars (world_step w e).after.parties
unfolding world_step
step_idle vars w e h =
    acts_idle vars w.parties.mode w.parties w.conversations w.sent e refl h.mode h.pass

stays_idle : (vars : PassVariables) (w : WorldNow) (events : List Event) → IsIdle vars w.parties
    → IsIdle vars (run_after w events).parties
unfolding run_after
stays_idle vars w [] h = h
stays_idle vars w (e ∷ rest) h = stays_idle vars (world_step w e).after rest (step_idle vars w e h)

starts_idle : (runs : Mode) (setup : Setup) → runs ≡ mode.Alone
    → IsIdle (initial_pass setup.first_id setup.max_retrans)
    (world_start (initial_world (record setup { mode = runs }))).after.parties
unfolding world_start server_start
starts_idle mode.Alone setup is = record { mode = refl; pass = refl }
starts_idle mode.Through setup is = cc is

pub run_is_idle : (setup : Setup) (events : List Event) → setup.mode ≡ mode.Alone
    → IsIdle (initial_pass setup.first_id setup.max_retrans) (run_of setup events).parties
run_is_idle setup events alone =
    stays_idle (initial_pass setup.first_id setup.max_retrans)
    (world_start (initial_world setup)).after events (starts_idle setup.mode setup alone)
