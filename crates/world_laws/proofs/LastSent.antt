-- What each party sent last is the last packet to the port where its packets go.
use Rattle.std.proofs.Common.{◌≡◌, ℕ, List, [], ◌∷◌, ◌++◌, Bool, true, false, Option, Some, None}
use Rattle.std.proofs.Common.{refl, sym, ap, subst, ◌∙◌, append-nil}
use Rattle.std.specs.Prelude.{if◌then◌else◌}
use Rattle.std.proofs.lemmas.Bool.{cond-true, cond-false, false≢true}
use Rattle.login_setup.specs.declared.setup.Mode.{Mode}
use Rattle.login_setup.specs.declared.setup.Mode.TheVariants as mode
use Rattle.login_setup.specs.declared.setup.Party.TheVariants as party
use Rattle.login_setup.specs.declared.setup.Port.{Port}
use Rattle.login_setup.specs.declared.setup.Port.TheVariants as port
use Rattle.eap_packet.specs.declared.state.State.{State}
use Rattle.eap_packet.specs.declared.state.State.TheVariants as state
use Rattle.eap_method.specs.Steps.{is_end}
use Rattle.peer_machine.specs.Inputs.{PeerInput, peer_accepts}
use Rattle.server_machine.specs.Inputs.{ServerInput, server_accepts}
use Rattle.server_machine.specs.ServerTable.{is_started}
use Rattle.server_machine.specs.Variables.{ServerVariables}
use Rattle.pass_through.specs.Inputs.{PassInput, start, restart, pass_accepts}
use Rattle.pass_through.specs.PassTable as passes
use Rattle.pass_through.specs.PassTable.{Side, PassAnswer}
use Rattle.pass_through.specs.declared.variables.PassVariables.{PassVariables}
use Rattle.eap_world.specs.Sent.{Sent, last_to, or_last, same_port}
use Rattle.eap_world.specs.World.{Call, Parties, act_of_call, port_to, pass_port, sent_by, sent_to}
use Rattle.eap_world.specs.World.{to_pass, to_peer, to_server}
use Rattle.method_laws.specs.Both.{PeerHasBoth}
use Rattle.method_laws.specs.Both.{ServerHasBoth}
use Rattle.method_laws.proofs.OneMethod.{some_same}
use Rattle.world_laws.proofs.PassSpeaks as passing
use Rattle.world_laws.proofs.PassSpeaks.{Proceed, PassSpeaks, pass_speaks}
use Rattle.world_laws.proofs.PeerSpeaks as peering
use Rattle.world_laws.proofs.PeerSpeaks.{PeerSpeaks, peer_speaks}
use Rattle.method_laws.proofs.PeerTurns.{IsResponse}
use Rattle.world_laws.proofs.ServerSpeaks as serving
use Rattle.world_laws.proofs.ServerSpeaks.{ServerSpeaks, server_speaks}
use Rattle.method_laws.proofs.ServerTurns.{IsRequest}

-- ---- the last packet to a port, with one more

or_more : (is_to : Bool) (octets more : List ℕ) (test : Bool) (last : Option (List ℕ))
    → or_last is_to octets (if test then Some more else last)
    ≡ (if test then Some more else or_last is_to octets last)
or_more is_to octets more true last = refl
or_more is_to octets more false last = refl

last_more : (to : Port) (sent : List Sent) (packet : Sent)
    → last_to to (sent ++ packet ∷ [])
    ≡ (if same_port packet.port to then Some packet.octets else last_to to sent)
unfolding last_to
last_more to [] packet = refl
last_more to (first ∷ rest) packet =
    ap (or_last (same_port first.port to) first.octets) (last_more to rest packet)
    ∙ or_more (same_port first.port to) first.octets packet.octets (same_port packet.port to)
    (last_to to rest)

own_port : (to : Port) → same_port to to ≡ true
own_port port.Peer = refl
own_port port.Server = refl
own_port port.PassPeer = refl
own_port port.PassServer = refl

-- nothing is sent; something to another port; something to this one
pub none_sent : (to other : Port) (sent : List Sent) (packet : Option (List ℕ)) → packet ≡ None
    → last_to to (sent ++ sent_to other packet) ≡ last_to to sent
none_sent to other sent None unsent = ap (last_to to) (append-nil sent)
none_sent to other sent (Some octets) unsent = cc unsent

pub other_sent : (to other : Port) (sent : List Sent) (packet : Option (List ℕ))
    → same_port other to ≡ false
    → last_to to (sent ++ sent_to other packet) ≡ last_to to sent
other_sent to other sent None apart = ap (last_to to) (append-nil sent)
other_sent to other sent (Some octets) apart = last_more to sent _ ∙ cond-false _ _ _ apart

pub own_sent : (to : Port) (sent : List Sent) (packet : Option (List ℕ)) (octets : List ℕ)
    → packet ≡ Some octets
    → last_to to (sent ++ sent_to to packet) ≡ Some octets
own_sent to sent None octets is = cc is
own_sent to sent (Some other) octets is = last_more to sent _ ∙ (cond-true _ _ _ (own_port to) ∙ is)

-- ---- what was sent last

pub record PeerHasSent (parties : Parties) (sent : List Sent) (id : ℕ) : Type 0 where
  pub is : IsResponse id parties.peer.vars.last_response
  pub is_last : last_to (port_to party.Peer parties.mode) sent
      ≡ Some parties.peer.vars.last_response

pub record ServerHasSent (parties : Parties) (sent : List Sent) : Type 0 where
  pub id : ℕ
  pub is_id : parties.server.vars.current_id ≡ Some id
  pub is : IsRequest id parties.server.vars.last_request
  pub is_last : last_to (port_to party.Server parties.mode) sent
      ≡ Some parties.server.vars.last_request

-- the peer's last Response, the server's last Request while it goes on, and the pass-through's; in
-- mode alone the pass-through rests
pub record HaveSent (parties : Parties) (sent : List Sent) : Type 0 where
  pub peer : (id : ℕ) → parties.peer.vars.last_id ≡ Some id → PeerHasSent parties sent id
  pub server : is_started parties.server.vars ≡ true → is_end parties.server.vars.state ≡ false
      → ServerHasSent parties sent
  pub pass : parties.mode ≡ mode.Through → Proceed parties.pass.state
      → last_to port.Peer sent ≡ Some parties.pass.last_request
  pub rests : parties.mode ≡ mode.Alone → passes.is_started parties.pass.state ≡ false

-- the ports of the parties are apart
peer_apart : (m : Mode) → same_port (port_to party.Server m) (port_to party.Peer m) ≡ false
peer_apart mode.Alone = refl
peer_apart mode.Through = refl

server_apart : (m : Mode) → same_port (port_to party.Peer m) (port_to party.Server m) ≡ false
server_apart mode.Alone = refl
server_apart mode.Through = refl

through_apart : (m : Mode) → m ≡ mode.Through → (same_port (port_to party.Peer m) port.Peer ≡ false)
    × (same_port (port_to party.Server m) port.Peer ≡ false)
through_apart mode.Alone is = cc is
through_apart mode.Through is = (refl, refl)

pass_apart : (m : Mode) (side : Side) → m ≡ mode.Through
    → (same_port (pass_port side) (port_to party.Peer m) ≡ false)
    × (same_port (pass_port side) (port_to party.Server m) ≡ false)
pass_apart mode.Alone side is = cc is
pass_apart mode.Through passes.Peer is = (refl, refl)
pass_apart mode.Through passes.Server is = (refl, refl)

not_both : {A : Type 0} (m : Mode) → m ≡ mode.Alone → m ≡ mode.Through → A
not_both m alone through = absurd cc

started_before : (one other : ServerVariables) → one.state ≡ other.state → is_started one ≡ true
    → is_started other ≡ true
started_before one other same begun =
    subst (λ (s : State). (elim s [ state.Initialize ↦ false | _ ↦ true ]) ≡ true) same begun

-- what the pass-through sends to the peer
to_peer_sent : (sent : List Sent) (side : Side) (found : Option (List ℕ)) (packet : List ℕ)
    → side ≡ passes.Peer → found ≡ Some packet
    → last_to port.Peer (sent ++ sent_to (pass_port side) found) ≡ Some packet
to_peer_sent sent side found packet to is =
    ap (λ (s : Side). last_to port.Peer (sent ++ sent_to (pass_port s) found)) to
    ∙ own_sent port.Peer sent found packet is

module _ (parties : Parties) (sent : List Sent) (said : HaveSent parties sent) where
  -- what one party sends leaves what the others sent last
  peer_still : (other : Port) (packet : Option (List ℕ))
      → same_port other (port_to party.Peer parties.mode) ≡ false
      → (id : ℕ) → parties.peer.vars.last_id ≡ Some id
      → PeerHasSent parties (sent ++ sent_to other packet) id
  peer_still other packet apart id is_id = let was = said.peer id is_id in
      record { is = was.is; is_last = other_sent _ other sent packet apart ∙ was.is_last }

  server_still : (other : Port) (packet : Option (List ℕ))
      → same_port other (port_to party.Server parties.mode) ≡ false
      → is_started parties.server.vars ≡ true → is_end parties.server.vars.state ≡ false
      → ServerHasSent parties (sent ++ sent_to other packet)
  server_still other packet apart begun going = let was = said.server begun going in
      record {
        id = was.id;
        is_id = was.is_id;
        is = was.is;
        is_last = other_sent _ other sent packet apart ∙ was.is_last;
      }

  peer_has_sent : (input : PeerInput)
      → PeerSpeaks parties.peer input (peer_accepts parties.peer input) → (id : ℕ)
      → (peer_accepts parties.peer input).after.vars.last_id ≡ Some id
      → (let out = peer_accepts parties.peer input in
      PeerHasSent (record parties { peer = out.after })
      (sent ++ sent_to (port_to party.Peer parties.mode) out.step.sent) id)
  peer_has_sent input (peering.rests _ _ unsent same_id same) id is_id =
      let was = said.peer id (sym same_id ∙ is_id) in
      record {
        is = subst (IsResponse id) (sym same) was.is;
        is_last =
            none_sent _ _ sent _ unsent ∙ (was.is_last ∙ ap (λ (o : List ℕ). Some o) (sym same));
      }
  peer_has_sent _ (peering.answers bytes packet _ is going is_sent new last_id last) id is_id =
      let same_id = some_same _ _ (sym last_id ∙ is_id) in
      record {
        is = subst (IsResponse id) (sym last) (subst (λ (n : ℕ). IsResponse n packet) same_id is);
        is_last = own_sent _ sent _ packet is_sent ∙ ap (λ (o : List ℕ). Some o) (sym last);
      }
  peer_has_sent _ (peering.repeats bytes _ was_last going is_sent same_id same) id is_id =
      let was = said.peer id (sym same_id ∙ is_id) in
      record {
        is = subst (IsResponse id) (sym same) was.is;
        is_last = own_sent _ sent _ _ is_sent ∙ ap (λ (o : List ℕ). Some o) (sym same);
      }
  peer_has_sent _ (peering.begins nonce _ unsent none) id is_id =
      absurd (let both : ◌≡◌ {A = Option ℕ} None (Some id) = sym none ∙ is_id in cc)

  server_has_sent : (input : ServerInput)
      → ServerSpeaks parties.server input (server_accepts parties.server input)
      → (let out = server_accepts parties.server input in
      is_started out.after.vars ≡ true → is_end out.after.vars.state ≡ false
      → ServerHasSent (record parties { server = out.after })
      (sent ++ sent_to (port_to party.Server parties.mode) out.step.sent))
  server_has_sent input (serving.rests unsent same_state same_id same) begun going =
      let was = said.server (started_before (server_accepts parties.server input).after.vars
      parties.server.vars same_state begun) (ap is_end (sym same_state) ∙ going) in
      record {
        id = was.id;
        is_id = same_id ∙ was.is_id;
        is = subst (IsRequest was.id) (sym same) was.is;
        is_last =
            none_sent _ _ sent _ unsent ∙ (was.is_last ∙ ap (λ (o : List ℕ). Some o) (sym same));
      }
  server_has_sent input (serving.asks packet id is was_going is_sent new current last follows)
      begun going = record {
        id = id;
        is_id = current;
        is = subst (IsRequest id) (sym last) is;
        is_last = own_sent _ sent _ packet is_sent ∙ ap (λ (o : List ℕ). Some o) (sym last);
      }
  server_has_sent input (serving.repeats is_timer was_going is_sent same_state same_id same)
      begun going =
      let was = said.server (started_before (server_accepts parties.server input).after.vars
      parties.server.vars same_state begun) was_going in
      record {
        id = was.id;
        is_id = same_id ∙ was.is_id;
        is = subst (IsRequest was.id) (sym same) was.is;
        is_last = own_sent _ sent _ _ is_sent ∙ ap (λ (o : List ℕ). Some o) (sym same);
      }
  server_has_sent input (serving.ends was_going over new each) begun going =
      absurd (false≢true (sym going ∙ over))
  server_has_sent input (serving.gives_up was_going over unsent) begun going =
      absurd (false≢true (sym going ∙ over))
  server_has_sent input (serving.awaits nonce is_restart unsent unstarted) begun going =
      absurd (false≢true (sym unstarted ∙ begun))
  server_has_sent input (serving.begins nonce is_restart packet id is is_sent new current last)
      begun going = record {
        id = id;
        is_id = current;
        is = subst (IsRequest id) (sym last) is;
        is_last = own_sent _ sent _ packet is_sent ∙ ap (λ (o : List ℕ). Some o) (sym last);
      }

  -- in mode through
  pass_has_sent : (input : PassInput) → PassSpeaks parties.pass input (pass_accepts parties.pass
      input) → parties.mode ≡ mode.Through
      → (let out = pass_accepts parties.pass input in
      Proceed out.after.state
      → last_to port.Peer (sent ++ sent_to (pass_port out.step.to) out.step.sent)
      ≡ Some out.after.last_request)
  pass_has_sent input (passing.rests unsent same was still) through goes =
      none_sent _ _ sent _ unsent
      ∙ (said.pass through (was goes) ∙ ap (λ (o : List ℕ). Some o) (sym same))
  pass_has_sent input (passing.onwards to was new same) through goes =
      other_sent port.Peer _ sent _ (ap (λ (s : Side). same_port (pass_port s) port.Peer) to)
      ∙ (said.pass through was ∙ ap (λ (o : List ℕ). Some o) (sym same))
  pass_has_sent input (passing.asks packet to was_going is_sent new last begins) through goes =
      to_peer_sent sent _ _ packet to is_sent ∙ ap (λ (o : List ℕ). Some o) (sym (last goes.going))
  pass_has_sent input (passing.repeats to was is_sent same) through goes =
      to_peer_sent sent _ _ parties.pass.last_request to is_sent
      ∙ ap (λ (o : List ℕ). Some o) (sym same)
  pass_has_sent input (passing.starts_anew is_restart packet to is_sent new last) through goes =
      to_peer_sent sent _ _ packet to is_sent ∙ ap (λ (o : List ℕ). Some o) (sym last)

-- whether the pass-through begins by an input, or begins anew; a call with such an input
abbrev pub is_first_line : PassInput → Bool
is_first_line start = true
is_first_line restart = true
is_first_line input = false

abbrev pub starts_pass : Call → Bool
starts_pass (to_pass input) = is_first_line input
starts_pass call = false

-- in mode alone the pass-through, which has not started, sends nothing and stays so
pub pass_rests : (vars : PassVariables) (input : PassInput) (out : PassAnswer)
    → PassSpeaks vars input out → is_first_line input ≡ false
    → passes.is_started vars.state ≡ false → (out.step.sent ≡ None)
    × (passes.is_started out.after.state ≡ false)
pass_rests vars input out (passing.rests unsent same was still) later unstarted =
    (unsent, still unstarted)
pass_rests vars input out (passing.onwards to goes new same) later unstarted =
    absurd (false≢true (sym unstarted ∙ goes.begun))
pass_rests vars input out (passing.asks packet to going sent new last begins) later unstarted =
    absurd (false≢true (sym later ∙ ap is_first_line (begins unstarted)))
pass_rests vars input out (passing.repeats to goes sent same) later unstarted =
    absurd (false≢true (sym unstarted ∙ goes.begun))
pass_rests vars input out (passing.starts_anew is_restart packet to sent new last) later unstarted =
    absurd (false≢true (sym later ∙ ap is_first_line is_restart))

-- ---- every call

-- a call that doesn't begin the pass-through in mode alone
abbrev pub IsFitting : Parties → Call → Type 0
IsFitting parties call = parties.mode ≡ mode.Alone → starts_pass call ≡ false

module _ (parties : Parties) (sent : List Sent) (said : HaveSent parties sent) where
  passes_on : (input : PassInput) → IsFitting parties (to_pass input) → (m : Mode)
      → parties.mode ≡ m
      → (let out = pass_accepts parties.pass input in
      HaveSent (record parties { pass = out.after })
      (sent ++ sent_to (pass_port out.step.to) out.step.sent))
  passes_on input fits mode.Alone alone =
      let quiet = pass_rests parties.pass input _ (pass_speaks parties.pass input) (fits alone)
      (said.rests alone) in
      record {
        peer = λ id is_id. (let was = said.peer id is_id in
            record { is = was.is; is_last = none_sent _ _ sent _ quiet.0 ∙ was.is_last });
        server = λ begun going. (let was = said.server begun going in
            record {
              id = was.id;
              is_id = was.is_id;
              is = was.is;
              is_last = none_sent _ _ sent _ quiet.0 ∙ was.is_last;
            });
        pass = λ through goes. not_both parties.mode alone through;
        rests = λ _. quiet.1;
      }
  passes_on input fits mode.Through through = record {
    peer = λ id is_id. (let was = said.peer id is_id in
        record {
          is = was.is;
          is_last = other_sent _ _ sent _ (pass_apart parties.mode _ through).0 ∙ was.is_last;
        });
    server = λ begun going. (let was = said.server begun going in
        record {
          id = was.id;
          is_id = was.is_id;
          is = was.is;
          is_last = other_sent _ _ sent _ (pass_apart parties.mode _ through).1 ∙ was.is_last;
        });
    pass = λ through goes. pass_has_sent parties sent said input (pass_speaks parties.pass input)
        through goes;
    rests = λ alone. not_both parties.mode alone through;
  }

  pub call_has_sent : {allowed order : List ℕ} (call : Call) → IsFitting parties call
      → PeerHasBoth allowed parties.peer.views
      → ServerHasBoth order parties.server.views
      → (let out = act_of_call parties call in HaveSent out.after (sent ++ sent_by out.action))
  call_has_sent (to_peer input) fits both both_served = record {
    peer = peer_has_sent parties sent said input (peer_speaks parties.peer both input);
    server = λ begun going.
        (let was = server_still parties sent said _ _ (server_apart parties.mode) begun going in
        record { id = was.id; is_id = was.is_id; is = was.is; is_last = was.is_last });
    pass = λ through goes. other_sent _ _ sent _ (through_apart parties.mode through).0
        ∙ said.pass through goes;
    rests = said.rests;
  }
  call_has_sent (to_server input) fits both both_served = record {
    peer = λ id is_id. (let was = peer_still parties sent said _ _ (peer_apart parties.mode)
        id is_id in record { is = was.is; is_last = was.is_last });
    server =
        server_has_sent parties sent said input (server_speaks parties.server both_served input);
    pass = λ through goes. other_sent _ _ sent _ (through_apart parties.mode through).1
        ∙ said.pass through goes;
    rests = said.rests;
  }
  call_has_sent (to_pass input) fits both both_served = passes_on input fits parties.mode refl
