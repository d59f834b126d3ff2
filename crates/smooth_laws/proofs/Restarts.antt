-- Each party begins anew.
use Rattle.std.proofs.Common.{◌≡◌, ℕ, ◌+◌, List, [], ◌∷◌, ◌++◌, Option, Some, None, Bool, true}
use Rattle.std.proofs.Common.{false, refl, sym, ap, subst, ◌∙◌, append_assoc, append-nil, arith}
use Rattle.std.specs.Prelude.{is_some, ◌&&◌, ◌||◌, not}
use Rattle.std.specs.Str.{bytes_eq}
use Rattle.std.proofs.lemmas.Bool.{cond_both}
use Rattle.std.proofs.lemmas.List.Folds.{list_any-append}
use Rattle.std.proofs.lemmas.Slice.Eq.{bytes_eq-Decides}
use Rattle.eap_packet.specs.declared.cause.Cause.{Cause}
use Rattle.eap_method.specs.Peer.{PeerViews}
use Rattle.eap_method.specs.Server.{ServerViews, views_started}
use Rattle.eap_method.specs.Tags.{Tags}
use Rattle.tag_book.specs.Book.{entries_of}
use Rattle.tag_book.specs.declared.book.End.{End}
use Rattle.tag_book.specs.declared.book.End.TheVariants as end
use Rattle.eap_world.specs.declared.conversations.ConversationStart.{ConversationStart}
use Rattle.world_laws.proofs.ServerPreserves.{server_tags_none}
use Rattle.login_setup.specs.declared.event.Event.{Event}
use Rattle.login_setup.specs.declared.event.Event.TheVariants.{Restart}
use Rattle.login_setup.specs.declared.setup.Mode.{Mode}
use Rattle.login_setup.specs.declared.setup.Mode.TheVariants as mode
use Rattle.login_setup.specs.declared.setup.Party.{Party}
use Rattle.login_setup.specs.declared.setup.Party.TheVariants as party
use Rattle.login_setup.specs.declared.setup.PeerSetup.{PeerSetup}
use Rattle.login_setup.specs.declared.setup.Port.TheVariants as port
use Rattle.login_setup.specs.Setup.{ServerSetup}
use Rattle.login_setup.specs.declared.setup.Setup.{Setup}
use Rattle.peer_machine.specs.Inputs as peer_inputs
use Rattle.peer_machine.specs.PeerTable as peers
use Rattle.peer_machine.specs.PeerTable.{PeerNow, peer_restart}
use Rattle.server_machine.specs.Inputs as server_inputs
use Rattle.server_machine.specs.ServerTable as servers
use Rattle.server_machine.specs.ServerTable.{ServerNow, ServerAnswer, identity_request, is_backend}
use Rattle.server_machine.specs.ServerTable.{server_restart, server_start}
use Rattle.server_machine.specs.declared.variables.Role.{Role}
use Rattle.server_machine.specs.declared.variables.Role.TheVariants as role
use Rattle.pass_through.specs.Inputs as pass_inputs
use Rattle.pass_through.specs.PassTable.{initial_pass, pass_restart, pass_start}
use Rattle.pass_through.specs.declared.variables.PassVariables.{PassVariables}
use Rattle.eap_world.specs.Conversations.{Conversations, begins, beginning, front, is_new, is_used}
use Rattle.eap_world.specs.Conversations.{peer_initiates, server_initiates}
use Rattle.eap_world.specs.Sent.{Sent}
use Rattle.eap_world.specs.World.{Acted, Parties, WorldNow, act, booked_by, called_unless}
use Rattle.eap_world.specs.World.{conversed_by, conversed_unless, first_skip, port_to, has_none}
use Rattle.eap_world.specs.World.{next_call, run_after}
use Rattle.eap_world.specs.World.{counts_after, is_alone, one_if, sent_by, sent_to, to_pass}
use Rattle.eap_world.specs.World.{to_peer, to_server, world_start, world_step}
use Rattle.eap_world.specs.declared.conversations.Waiting.{Waiting}
use Rattle.eap_world.specs.declared.told.Skip.{Skip}
use Rattle.eap_world.specs.declared.told.Skip.TheVariants.{NoNonce, NoParty}
use Rattle.world_laws.proofs.Conversing.{BothConverse, run_converses}
use Rattle.smooth_laws.proofs.Beginning.{peer_starts_again, server_starts_again}
use Rattle.smooth_laws.proofs.Moves.{packet_to, parties_at}
use Rattle.smooth_laws.proofs.Opening.{in_mode}
use Rattle.smooth_laws.proofs.Settings.{AreSet, IsIdle, restart_same, run_is_set, run_is_idle}
use Rattle.smooth_laws.specs.Restarts.{StartAnew, HasRestarted, RestartsStartAnew, are_new}
use Rattle.smooth_laws.specs.Restarts.{peer_server, server_peer, peer_server_pass, peer_pass_server}
use Rattle.smooth_laws.specs.Restarts.{server_peer_pass, server_pass_peer, pass_peer_server}
use Rattle.smooth_laws.specs.Restarts.{pass_server_peer}
use Rattle.world_laws.specs.Runs.{initial_peer, initial_server, run_of, server_views_started}

-- what the restart of each party makes of them
abbrev peer_anew : List ℕ → Parties → Parties
peer_anew nonce p = record p {
  peer = peers.initial_peer (peers.setup_with_nonce p.peer.vars.setup nonce) p.peer.views;
}

abbrev server_anew : List ℕ → Parties → Parties
server_anew nonce p = record p { server = (server_restart p.server nonce).after }

abbrev pass_anew : Parties → Parties
pass_anew p = record p { pass = (pass_restart p.pass).after }

-- the parties and what was sent, after some restarts, in which nothing is booked and nothing
-- discarded
pub record Renews (w next : WorldNow) (f : Parties → Parties) (more : List Sent) : Type 0 where
  pub parties : next.parties ≡ f w.parties
  pub sent : next.sent ≡ w.sent ++ more
  pub book : next.book ≡ w.book
  pub discards : next.counts.discards ≡ w.counts.discards

abbrev after : WorldNow → Party → WorldNow
after w of = (world_step w (Restart of)).after

-- one after the other
chain : (w a b : WorldNow) (f g : Parties → Parties) (x y : List Sent) → Renews w a f x
    → Renews a b g y → Renews w b (λ p. g (f p)) (x ++ y)
chain w a b f g x y one other = record {
  parties = other.parties ∙ ap g one.parties;
  sent = other.sent ∙ ap (λ (all : List Sent). all ++ y) one.sent ∙ append_assoc w.sent x y;
  book = other.book ∙ one.book;
  discards = other.discards ∙ one.discards;
}

-- the Identity Request
abbrev asks : ℕ → List Sent
asks id = packet_to port.Peer (identity_request id) ∷ []

-- ---- one party

peer_starts_preserves : (event : ℕ) (all : Conversations) (left : List Waiting)
    → (peer_initiates event all left).server_left ≡ all.server_left
peer_starts_preserves event all [] = refl
peer_starts_preserves event all (one ∷ left) = refl

server_starts_preserves : (event : ℕ) (all : Conversations) (left : List Waiting)
    → (server_initiates event all left).peer_left ≡ all.peer_left
server_starts_preserves event all [] = refl
server_starts_preserves event all (one ∷ left) = refl

peer_preserves_by : (event : ℕ) (all : Conversations) (left : List Waiting)
    → (conversed_unless event all (first_skip ((has_none left, NoNonce) ∷ []))
    (next_call (λ nonce. to_peer (peer_inputs.restart nonce)) left)).server_left
    ≡ all.server_left
peer_preserves_by event all [] = refl
peer_preserves_by event all (one ∷ left) = peer_starts_preserves event all all.peer_left

server_preserves_by : (event : ℕ) (all : Conversations) (left : List Waiting)
    → (conversed_unless event all (first_skip ((has_none left, NoNonce) ∷ []))
    (next_call (λ nonce. to_server (server_inputs.restart nonce)) left)).peer_left
    ≡ all.peer_left
server_preserves_by event all [] = refl
server_preserves_by event all (one ∷ left) = server_starts_preserves event all all.server_left

pass_preserves_by : (event : ℕ) (all : Conversations) (skip : Option Skip)
    → conversed_unless event all skip (Some (to_pass pass_inputs.restart)) ≡ all
pass_preserves_by event all None = refl
pass_preserves_by event all (Some skip) = refl

-- a stand-alone server asks for the identity, and a backend sends nothing
alone_sends : (now : ServerNow) (nonce : List ℕ) (id : ℕ) → now.vars.role ≡ role.StandAlone
    → now.vars.first_id ≡ id
    → (server_restart now nonce).step.sent ≡ Some (identity_request id)
unfolding server_restart server_start
alone_sends now nonce id is first = rw (is, first) refl

backend_sends : (now : ServerNow) (nonce : List ℕ) → now.vars.role ≡ role.Backend
    → (server_restart now nonce).step.sent ≡ None
unfolding server_restart
backend_sends now nonce is = rw is refl

discards_none : (now : ServerNow) (nonce : List ℕ) → (server_restart now nonce).step.cause ≡ None
unfolding server_restart server_start
discards_none now nonce = cond_both (is_backend now.vars) _ _
    (λ (out : ServerAnswer). out.step.cause ≡ None) (λ _. refl) (λ _. refl)

module _ (w : WorldNow) where
  abbrev peer_acts : List Waiting → Acted
  peer_acts left = called_unless w.parties (first_skip ((has_none left, NoNonce) ∷ []))
      (next_call (λ nonce. to_peer (peer_inputs.restart nonce)) left)

  abbrev server_acts : List Waiting → Acted
  server_acts left = called_unless w.parties (first_skip ((has_none left, NoNonce) ∷ []))
      (next_call (λ nonce. to_server (server_inputs.restart nonce)) left)

  abbrev pass_acts : Mode → Acted
  pass_acts runs = called_unless w.parties (first_skip ((is_alone runs, NoParty) ∷ []))
      (Some (to_pass pass_inputs.restart))

  peer_renews : (one : Waiting) (left : List Waiting) → w.conversations.peer_left ≡ one ∷ left
      → Renews w (after w party.Peer) (peer_anew one.nonce) []
  unfolding world_step act peer_restart
  peer_renews one left is = record {
    parties = ap (λ (all : List Waiting). (peer_acts all).after) is;
    sent = ap (λ (all : List Waiting). w.sent ++ sent_by (peer_acts all).action) is;
    book = ap (λ (all : List Waiting).
        w.book ++ booked_by (w.counts.events + 1) (peer_acts all).action) is ∙ append-nil w.book;
    discards =
        ap (λ (all : List Waiting). (counts_after w.counts (peer_acts all).action).discards) is
        ∙ (omega arith);
  }

  server_renews : (one : Waiting) (left : List Waiting) (runs : Mode) (sent : Option (List ℕ))
      → w.conversations.server_left ≡ one ∷ left
      → w.parties.mode ≡ runs → (server_restart w.parties.server one.nonce).step.sent ≡ sent
      → Renews w (after w party.Server) (server_anew one.nonce)
      (sent_to (port_to party.Server runs) sent)
  unfolding world_step act
  server_renews one left runs sent is runs_so sends = record {
    parties = ap (λ (all : List Waiting). (server_acts all).after) is;
    sent = ap (λ (all : List Waiting). w.sent ++ sent_by (server_acts all).action) is
        ∙ ap (λ (m : Mode). w.sent ++ sent_to (port_to party.Server m) (server_restart
        w.parties.server one.nonce).step.sent) runs_so
        ∙ ap (λ (octets : Option (List ℕ)). w.sent ++ sent_to (port_to party.Server runs) octets)
        sends;
    book = ap (λ (all : List Waiting).
        w.book ++ booked_by (w.counts.events + 1) (server_acts all).action) is
        ∙ ap (λ (tags : Tags). w.book ++ entries_of (w.counts.events + 1) end.Server tags)
        (server_tags_none w.parties.server one.nonce)
        ∙ append-nil w.book;
    discards =
        ap (λ (all : List Waiting). (counts_after w.counts (server_acts all).action).discards) is
        ∙ ap (λ (found : Option Cause). w.counts.discards + one_if (is_some found))
        (discards_none w.parties.server one.nonce)
        ∙ (omega arith);
  }

  pass_renews : (id : ℕ) → w.parties.mode ≡ mode.Through → w.parties.pass.first_id ≡ id
      → Renews w (after w party.Pass) pass_anew (asks id)
  unfolding world_step act pass_restart pass_start
  pass_renews id runs_so first = record {
    parties = ap (λ (m : Mode). (pass_acts m).after) runs_so;
    sent = ap (λ (m : Mode). w.sent ++ sent_by (pass_acts m).action) runs_so
        ∙ ap (λ (n : ℕ). w.sent ++ asks n) first;
    book = ap (λ (m : Mode). w.book ++ booked_by (w.counts.events + 1) (pass_acts m).action) runs_so
        ∙ append-nil w.book;
    discards = ap (λ (m : Mode). (counts_after w.counts (pass_acts m).action).discards) runs_so
        ∙ (omega arith);
  }

  peer_preserves : (after w party.Peer).conversations.server_left ≡ w.conversations.server_left
  unfolding world_step conversed_by
  peer_preserves = peer_preserves_by (w.counts.events + 1) w.conversations w.conversations.peer_left

  server_preserves : (after w party.Server).conversations.peer_left ≡ w.conversations.peer_left
  unfolding world_step conversed_by
  server_preserves =
      server_preserves_by (w.counts.events + 1) w.conversations w.conversations.server_left

  pass_preserves : (after w party.Pass).conversations ≡ w.conversations
  unfolding world_step conversed_by
  pass_preserves = pass_preserves_by (w.counts.events + 1) w.conversations
      (first_skip ((is_alone w.parties.mode, NoParty) ∷ []))

-- ---- what it makes of freshness

-- an end has begun with the nonce
record IsPeers (before after : Conversations) (one : Waiting) : Type 0 where
  event : ℕ
  left : List Waiting
  is : after ≡ begins event end.Peer one (record before { peer_left = left })

record IsServers (before after : Conversations) (one : Waiting) : Type 0 where
  event : ℕ
  left : List Waiting
  is : after ≡ begins event end.Server one (record before { server_left = left })

peers_start : (w : WorldNow) (one : Waiting) (left : List Waiting)
    → w.conversations.peer_left ≡ one ∷ left
    → IsPeers w.conversations (after w party.Peer).conversations one
unfolding world_step conversed_by
peers_start w one left is = record {
  event = w.counts.events + 1;
  left = left;
  is = ap (λ (all : List Waiting). conversed_unless (w.counts.events + 1) w.conversations
      (first_skip ((has_none all, NoNonce) ∷ []))
      (next_call (λ nonce. to_peer (peer_inputs.restart nonce)) all)) is
      ∙ ap (λ (all : List Waiting). peer_initiates (w.counts.events + 1) w.conversations all) is;
}

servers_start : (w : WorldNow) (one : Waiting) (left : List Waiting)
    → w.conversations.server_left ≡ one ∷ left
    → IsServers w.conversations (after w party.Server).conversations one
unfolding world_step conversed_by
servers_start w one left is = record {
  event = w.counts.events + 1;
  left = left;
  is = ap (λ (all : List Waiting). conversed_unless (w.counts.events + 1) w.conversations
      (first_skip ((has_none all, NoNonce) ∷ []))
      (next_call (λ nonce. to_server (server_inputs.restart nonce)) all)) is
      ∙ ap (λ (all : List Waiting). server_initiates (w.counts.events + 1) w.conversations all) is;
}

-- the first of two nonces is new, and the second is new after it
one_by_one : (f n h u e : Bool) → ((f && n) && (not h && not (u || (e || false))))
    ≡ (f && (n && ((not h && not u) && not e)))
one_by_one false n h u e = refl
one_by_one true false h u e = refl
one_by_one true true true u e = refl
one_by_one true true false true e = refl
one_by_one true true false false true = refl
one_by_one true true false false false = refl

other_way : (f n m e : Bool) → (f && (n && (m && not e))) ≡ (f && (m && (n && not e)))
other_way false n m e = refl
other_way true true true e = refl
other_way true true false e = refl
other_way true false true e = refl
other_way true false false e = refl

same_tests : (one other : Bool) → (one ≡ true → other ≡ true) → (other ≡ true → one ≡ true)
    → one ≡ other
same_tests true other f g = sym (f refl)
same_tests false true f g = g refl
same_tests false false f g = refl

either_way : (one other : List ℕ) → bytes_eq one other ≡ bytes_eq other one
either_way one other =
    let there = bytes_eq-Decides one other in
    let back = bytes_eq-Decides other one in
    same_tests (bytes_eq one other) (bytes_eq other one) (λ e. back.1 (sym (there.0 e)))
    (λ e. there.1 (sym (back.0 e)))

-- whether the nonces with which two conversations begin are new
new_after : (event : ℕ) (of : End) (all : Conversations) (left : Bool) (one two : Waiting)
    → (left && is_new (all.begun ++ beginning event of one.nonce ∷ []) two)
    ≡ (left && (not two.heard && not (is_used all.begun two.nonce
    || (bytes_eq (front one.nonce) (front two.nonce) || false))))
new_after event of all left one two =
    ap (λ (b : Bool). left && (not two.heard && not b))
    (list_any-append (λ (b : ConversationStart). bytes_eq (front b.nonce) (front two.nonce))
    all.begun (beginning event of one.nonce ∷ []))

peer_then_server : (a b c : Conversations) (one two : Waiting) → IsPeers a b one → IsServers b c two
    → c.fresh ≡ (a.fresh && are_new a.begun one two)
peer_then_server a b c one two p s =
    ap (λ (all : Conversations). all.fresh) s.is
    ∙ ap (λ (all : Conversations). all.fresh && is_new all.begun two) p.is
    ∙ new_after p.event end.Peer a (a.fresh && is_new a.begun one) one two
    ∙ one_by_one a.fresh (is_new a.begun one) two.heard (is_used a.begun two.nonce)
    (bytes_eq (front one.nonce) (front two.nonce))

server_then_peer : (a b c : Conversations) (one two : Waiting) → IsServers a b two → IsPeers b c one
    → c.fresh ≡ (a.fresh && are_new a.begun one two)
server_then_peer a b c one two s p =
    ap (λ (all : Conversations). all.fresh) p.is
    ∙ ap (λ (all : Conversations). all.fresh && is_new all.begun one) s.is
    ∙ new_after s.event end.Server a (a.fresh && is_new a.begun two) two one
    ∙ one_by_one a.fresh (is_new a.begun two) one.heard (is_used a.begun one.nonce)
    (bytes_eq (front two.nonce) (front one.nonce))
    ∙ ap (λ (b : Bool). a.fresh && (is_new a.begun two && (is_new a.begun one && not b)))
    (either_way (front two.nonce) (front one.nonce))
    ∙ other_way a.fresh (is_new a.begun two) (is_new a.begun one)
    (bytes_eq (front one.nonce) (front two.nonce))

-- the pass-through's restart is none of a conversation
peers_again : (a b c : Conversations) (one : Waiting) → b ≡ a → IsPeers b c one → IsPeers a c one
peers_again a b c one same is = subst (λ (all : Conversations). IsPeers all c one) same is

servers_again : (a b c : Conversations) (one : Waiting) → b ≡ a → IsServers b c one
    → IsServers a c one
servers_again a b c one same is = subst (λ (all : Conversations). IsServers all c one) same is

-- ---- each of them

-- in which mode and role the parties are, and the first Identifier
record Fits (w : WorldNow) (runs : Mode) (of : Role) (id : ℕ) : Type 0 where
  is_mode : w.parties.mode ≡ runs
  role : w.parties.server.vars.role ≡ of
  first_id : w.parties.server.vars.first_id ≡ id
  pass_first_id : w.parties.pass.first_id ≡ id

module _ (w a : WorldNow) (runs : Mode) (of : Role) (id : ℕ) (h : Fits w runs of id)
    (more : List Sent) where
  peer_call_matches : (nonce : List ℕ) → Renews w a (peer_anew nonce) more → Fits a runs of id
  peer_call_matches nonce r = record {
    is_mode = ap (λ (p : Parties). p.mode) r.parties ∙ h.is_mode;
    role = ap (λ (p : Parties). p.server.vars.role) r.parties ∙ h.role;
    first_id = ap (λ (p : Parties). p.server.vars.first_id) r.parties ∙ h.first_id;
    pass_first_id = ap (λ (p : Parties). p.pass.first_id) r.parties ∙ h.pass_first_id;
  }

  server_matches : (nonce : List ℕ) → Renews w a (server_anew nonce) more → Fits a runs of id
  server_matches nonce r =
      let same = restart_same w.parties.server nonce in
      record {
        is_mode = ap (λ (p : Parties). p.mode) r.parties ∙ h.is_mode;
        role = ap (λ (p : Parties). p.server.vars.role) r.parties ∙ (same.role ∙ h.role);
        first_id =
            ap (λ (p : Parties). p.server.vars.first_id) r.parties ∙ (same.first_id ∙ h.first_id);
        pass_first_id = ap (λ (p : Parties). p.pass.first_id) r.parties ∙ h.pass_first_id;
      }

  pass_matches : Renews w a pass_anew more → Fits a runs of id
  unfolding pass_restart pass_start
  pass_matches r = record {
    is_mode = ap (λ (p : Parties). p.mode) r.parties ∙ h.is_mode;
    role = ap (λ (p : Parties). p.server.vars.role) r.parties ∙ h.role;
    first_id = ap (λ (p : Parties). p.server.vars.first_id) r.parties ∙ h.first_id;
    pass_first_id = ap (λ (p : Parties). p.pass.first_id) r.parties ∙ h.pass_first_id;
  }

-- all of them, and what becomes of freshness
record Renewed (w next : WorldNow) (f : Parties → Parties) (more : List Sent)
    (one two : Waiting) : Type 0 where
  renews : Renews w next f more
  fresh : next.conversations.fresh
      ≡ (w.conversations.fresh && are_new w.conversations.begun one two)

-- alone, in either order
abbrev ends_anew : List ℕ → List ℕ → Parties → Parties
ends_anew one two p = server_anew two (peer_anew one p)

module _ (w : WorldNow) (id : ℕ) (h : Fits w mode.Alone role.StandAlone id) (one two : Waiting)
    (ps ss : List Waiting) (peer_left : w.conversations.peer_left ≡ one ∷ ps)
    (server_left : w.conversations.server_left ≡ two ∷ ss) where
  by_peer_server : Renewed w (after (after w party.Peer) party.Server)
      (ends_anew one.nonce two.nonce) (asks id) one two
  by_peer_server =
      let a : WorldNow = after w party.Peer in
      let r = peer_renews w one ps peer_left in
      let f = peer_call_matches w a mode.Alone role.StandAlone id h [] one.nonce r in
      let left = peer_preserves w ∙ server_left in
      record {
        renews = chain w a (after a party.Server) (peer_anew one.nonce) (server_anew two.nonce)
            [] (asks id) r (server_renews a two ss mode.Alone (Some (identity_request id))
            left f.is_mode (alone_sends a.parties.server two.nonce id f.role f.first_id));
        fresh = peer_then_server w.conversations a.conversations
            (after a party.Server).conversations one two (peers_start w one ps peer_left)
            (servers_start a two ss left);
      }

  by_server_peer : Renewed w (after (after w party.Server) party.Peer)
      (ends_anew one.nonce two.nonce) (asks id) one two
  by_server_peer =
      let a : WorldNow = after w party.Server in
      let left = server_preserves w ∙ peer_left in
      record {
        renews = chain w a (after a party.Peer) (server_anew two.nonce) (peer_anew one.nonce)
            (asks id) []
            (server_renews w two ss mode.Alone (Some (identity_request id)) server_left h.is_mode
            (alone_sends w.parties.server two.nonce id h.role h.first_id))
            (peer_renews a one ps left);
        fresh = server_then_peer w.conversations a.conversations
            (after a party.Peer).conversations one two (servers_start w two ss server_left)
            (peers_start a one ps left);
      }

-- with the pass-through, in any order
abbrev all_anew : List ℕ → List ℕ → Parties → Parties
all_anew one two p = pass_anew (server_anew two (peer_anew one p))

module _ (w : WorldNow) (id : ℕ) (h : Fits w mode.Through role.Backend id) (one two : Waiting)
    (ps ss : List Waiting) (peer_left : w.conversations.peer_left ≡ one ∷ ps)
    (server_left : w.conversations.server_left ≡ two ∷ ss) where
  -- the server's restart, in a world where it has not yet begun anew
  backend_renews : (a : WorldNow) → Fits a mode.Through role.Backend id
      → a.conversations.server_left ≡ two ∷ ss
      → Renews a (after a party.Server) (server_anew two.nonce) []
  backend_renews a f left = server_renews a two ss mode.Through None left f.is_mode
      (backend_sends a.parties.server two.nonce f.role)

  asks_again : (a : WorldNow) → Fits a mode.Through role.Backend id
      → Renews a (after a party.Pass) pass_anew (asks id)
  asks_again a f = pass_renews a id f.is_mode f.pass_first_id

  matches_peer : (a : WorldNow) → Fits a mode.Through role.Backend id
      → a.conversations.peer_left ≡ one ∷ ps
      → Fits (after a party.Peer) mode.Through role.Backend id
  matches_peer a f left = peer_call_matches a (after a party.Peer)
      mode.Through role.Backend id f [] one.nonce (peer_renews a one ps left)

  matches_server : (a : WorldNow) → Fits a mode.Through role.Backend id
      → a.conversations.server_left ≡ two ∷ ss
      → Fits (after a party.Server) mode.Through role.Backend id
  matches_server a f left = server_matches a (after a party.Server)
      mode.Through role.Backend id f [] two.nonce (backend_renews a f left)

  matches_pass : (a : WorldNow) → Fits a mode.Through role.Backend id
      → Fits (after a party.Pass) mode.Through role.Backend id
  matches_pass a f =
      pass_matches a (after a party.Pass) mode.Through role.Backend id f (asks id) (asks_again a f)

  pass_peer_left : (a : WorldNow) → a.conversations.peer_left ≡ one ∷ ps
      → (after a party.Pass).conversations.peer_left ≡ one ∷ ps
  pass_peer_left a left = ap (λ (all : Conversations). all.peer_left) (pass_preserves a) ∙ left

  pass_server_left : (a : WorldNow) → a.conversations.server_left ≡ two ∷ ss
      → (after a party.Pass).conversations.server_left ≡ two ∷ ss
  pass_server_left a left = ap (λ (all : Conversations). all.server_left) (pass_preserves a) ∙ left

  -- three restarts
  third : (a b c : WorldNow) (f g k : Parties → Parties) (x y z : List Sent) → Renews w a f x
      → Renews a b g y → Renews b c k z
      → Renews w c (λ p. k (g (f p))) ((x ++ y) ++ z)
  third a b c f g k x y z one_r two_r three_r =
      chain w b c (λ p. g (f p)) k (x ++ y) z (chain w a b f g x y one_r two_r) three_r

  abbrev AllAnew : WorldNow → Type 0
  AllAnew c = Renewed w c (all_anew one.nonce two.nonce) (asks id) one two

  by_order : (restarts : List Event) → StartAnew mode.Through restarts
      → AllAnew (run_after w restarts)
  unfolding run_after
  by_order _ peer_server_pass =
      let a : WorldNow = after w party.Peer in
      let b : WorldNow = after a party.Server in
      let f = matches_peer w h peer_left in
      let left = peer_preserves w ∙ server_left in
      record {
        renews = third a b (after b party.Pass) (peer_anew one.nonce) (server_anew two.nonce)
            pass_anew [] [] (asks id) (peer_renews w one ps peer_left) (backend_renews a f left)
            (asks_again b (matches_server a f left));
        fresh = ap (λ (all : Conversations). all.fresh) (pass_preserves b)
            ∙ peer_then_server w.conversations a.conversations b.conversations one two
            (peers_start w one ps peer_left) (servers_start a two ss left);
      }
  by_order _ peer_pass_server =
      let a : WorldNow = after w party.Peer in
      let b : WorldNow = after a party.Pass in
      let c : WorldNow = after b party.Server in
      let f = matches_peer w h peer_left in
      let left = pass_server_left a (peer_preserves w ∙ server_left) in
      record {
        renews = third a b c (peer_anew one.nonce) pass_anew (server_anew two.nonce) [] (asks id) []
            (peer_renews w one ps peer_left) (asks_again a f)
            (backend_renews b (matches_pass a f) left);
        fresh = peer_then_server w.conversations a.conversations c.conversations one two
            (peers_start w one ps peer_left) (servers_again a.conversations b.conversations
            c.conversations two (pass_preserves a) (servers_start b two ss left));
      }
  by_order _ server_peer_pass =
      let a : WorldNow = after w party.Server in
      let b : WorldNow = after a party.Peer in
      let f = matches_server w h server_left in
      let left = server_preserves w ∙ peer_left in
      record {
        renews = third a b (after b party.Pass) (server_anew two.nonce) (peer_anew one.nonce)
            pass_anew [] [] (asks id) (backend_renews w h server_left) (peer_renews a one ps left)
            (asks_again b (matches_peer a f left));
        fresh = ap (λ (all : Conversations). all.fresh) (pass_preserves b)
            ∙ server_then_peer w.conversations a.conversations b.conversations one two
            (servers_start w two ss server_left) (peers_start a one ps left);
      }
  by_order _ server_pass_peer =
      let a : WorldNow = after w party.Server in
      let b : WorldNow = after a party.Pass in
      let c : WorldNow = after b party.Peer in
      let f = matches_server w h server_left in
      let left = pass_peer_left a (server_preserves w ∙ peer_left) in
      record {
        renews = third a b c (server_anew two.nonce) pass_anew (peer_anew one.nonce) [] (asks id) []
            (backend_renews w h server_left) (asks_again a f) (peer_renews b one ps left);
        fresh = server_then_peer w.conversations a.conversations c.conversations one two
            (servers_start w two ss server_left) (peers_again a.conversations b.conversations
            c.conversations one (pass_preserves a) (peers_start b one ps left));
      }
  by_order _ pass_peer_server =
      let a : WorldNow = after w party.Pass in
      let b : WorldNow = after a party.Peer in
      let c : WorldNow = after b party.Server in
      let f = matches_pass w h in
      let left = pass_peer_left w peer_left in
      let others = peer_preserves a ∙ pass_server_left w server_left in
      record {
        renews = third a b c pass_anew (peer_anew one.nonce) (server_anew two.nonce) (asks id) [] []
            (asks_again w h) (peer_renews a one ps left)
            (backend_renews b (matches_peer a f left) others);
        fresh = peer_then_server w.conversations b.conversations c.conversations one two
            (peers_again w.conversations a.conversations b.conversations one (pass_preserves w)
            (peers_start a one ps left)) (servers_start b two ss others);
      }
  by_order _ pass_server_peer =
      let a : WorldNow = after w party.Pass in
      let b : WorldNow = after a party.Server in
      let c : WorldNow = after b party.Peer in
      let f = matches_pass w h in
      let left = pass_server_left w server_left in
      let others = server_preserves a ∙ pass_peer_left w peer_left in
      record {
        renews = third a b c pass_anew (server_anew two.nonce) (peer_anew one.nonce) (asks id) [] []
            (asks_again w h) (backend_renews a f left) (peer_renews b one ps others);
        fresh = server_then_peer w.conversations b.conversations c.conversations one two
            (servers_again w.conversations a.conversations b.conversations two (pass_preserves w)
            (servers_start a two ss left)) (peers_start b one ps others);
      }

-- ---- the parties have just begun

-- where these are the settings, a restarted server stands as one that was made and has started, and
-- a backend as one that was made
alone_started : (now : ServerNow) (nonce : List ℕ) (setup : ServerSetup) (id most : ℕ)
    → now.vars.role ≡ role.StandAlone → views_started setup now.views ≡ server_views_started setup
    → servers.setup_with_nonce now.vars.setup nonce ≡ setup → now.vars.first_id ≡ id
    → now.vars.max_retrans ≡ most
    → (server_restart now nonce).after
    ≡ (server_start (initial_server role.StandAlone setup id most)).after
unfolding server_restart
alone_started now nonce setup id most is same own first last =
    ap (λ (of : Role).
    (server_restart (record now { vars = record now.vars { role = of } }) nonce).after) is
    ∙ ap (λ (s : ServerSetup). (server_start (servers.initial_server role.StandAlone s now.views
    now.vars.first_id now.vars.max_retrans)).after) own
    ∙ ap (λ (n : ℕ). (server_start
    (servers.initial_server role.StandAlone setup now.views n now.vars.max_retrans)).after) first
    ∙ ap (λ (n : ℕ).
    (server_start (servers.initial_server role.StandAlone setup now.views id n)).after) last
    ∙ ap (λ (views : ServerViews). (server_start
    (record (initial_server role.StandAlone setup id most) { views = views })).after) same

backend_started : (now : ServerNow) (nonce : List ℕ) (setup : ServerSetup) (id most : ℕ)
    → now.vars.role ≡ role.Backend → views_started setup now.views ≡ server_views_started setup
    → servers.setup_with_nonce now.vars.setup nonce ≡ setup → now.vars.first_id ≡ id
    → now.vars.max_retrans ≡ most
    → (server_restart now nonce).after ≡ initial_server role.Backend setup id most
unfolding server_restart
backend_started now nonce setup id most is same own first last =
    ap (λ (of : Role).
    (server_restart (record now { vars = record now.vars { role = of } }) nonce).after) is
    ∙ ap (λ (s : ServerSetup).
    servers.initial_server role.Backend s now.views now.vars.first_id now.vars.max_retrans) own
    ∙ ap (λ (n : ℕ). servers.initial_server role.Backend setup now.views n now.vars.max_retrans)
    first
    ∙ ap (λ (n : ℕ). servers.initial_server role.Backend setup now.views id n) last
    ∙ ap (λ (views : ServerViews). (let made : ServerNow =
    record (initial_server role.Backend setup id most) { views = views } in made)) same

-- the start asks for the identity
alone_asks : (id most : ℕ) (setup : ServerSetup)
    → asks id
    ≡ sent_to port.Peer (server_start (initial_server role.StandAlone setup id most)).step.sent
unfolding server_start
alone_asks id most setup = refl

through_asks : (id most : ℕ)
    → asks id ≡ sent_to port.Peer (pass_start (initial_pass id most)).step.sent
unfolding pass_start
through_asks id most = refl

module _ (setup : Setup) (w : WorldNow) (one two : Waiting)
    (own_peer : peers.initial_peer (peers.setup_with_nonce w.parties.peer.vars.setup
    one.nonce) w.parties.peer.views ≡ initial_peer (peers.setup_with_nonce setup.peer one.nonce))
    (own_server : servers.setup_with_nonce w.parties.server.vars.setup two.nonce
    ≡ servers.setup_with_nonce setup.server two.nonce)
    (own_views : (let own = servers.setup_with_nonce setup.server two.nonce in
    views_started own w.parties.server.views ≡ server_views_started own)) where
  started_alone : (b : WorldNow) → AreSet (in_mode mode.Alone setup) w.parties
      → IsIdle (initial_pass setup.first_id setup.max_retrans) w.parties
      → Renewed w b (ends_anew one.nonce two.nonce) (asks setup.first_id) one two
      → HasRestarted (in_mode mode.Alone setup) one two w b
  unfolding run_after world_start
  started_alone b set idle renewed =
      let r = renewed.renews in
      let server = servers.setup_with_nonce setup.server two.nonce in
      record {
        begun = record {
          parties = r.parties
              ∙ ap (λ (m : Mode). parties_at m (peers.initial_peer
              (peers.setup_with_nonce w.parties.peer.vars.setup one.nonce) w.parties.peer.views)
              (server_restart w.parties.server two.nonce).after w.parties.pass) set.mode
              ∙ ap (λ (p : PeerNow). parties_at mode.Alone p
              (server_restart w.parties.server two.nonce).after w.parties.pass) own_peer
              ∙ ap (λ (s : ServerNow). parties_at mode.Alone
              (initial_peer (peers.setup_with_nonce setup.peer one.nonce)) s w.parties.pass)
              (alone_started w.parties.server two.nonce server setup.first_id setup.max_retrans
              set.role own_views own_server set.first_id set.max_retrans)
              ∙ ap (λ (v : PassVariables). parties_at mode.Alone
              (initial_peer (peers.setup_with_nonce setup.peer one.nonce))
              (server_start (initial_server role.StandAlone server setup.first_id
              setup.max_retrans)).after v) idle.pass;
          before = w.sent;
          sent = r.sent ∙ ap (λ (more : List Sent).
              w.sent ++ more) (alone_asks setup.first_id setup.max_retrans server);
        };
        book = r.book;
        discards = r.discards;
        fresh = renewed.fresh;
      }

  started_through : (b : WorldNow) → AreSet (in_mode mode.Through setup) w.parties
      → Renewed w b (all_anew one.nonce two.nonce) (asks setup.first_id) one two
      → HasRestarted (in_mode mode.Through setup) one two w b
  unfolding run_after world_start pass_restart pass_start
  started_through b set renewed =
      let r = renewed.renews in
      let server = servers.setup_with_nonce setup.server two.nonce in
      record {
        begun = record {
          parties = r.parties
              ∙ ap (λ (m : Mode). parties_at m (peers.initial_peer
              (peers.setup_with_nonce w.parties.peer.vars.setup one.nonce) w.parties.peer.views)
              (server_restart w.parties.server two.nonce).after
              (pass_restart w.parties.pass).after) set.mode
              ∙ ap (λ (p : PeerNow). parties_at mode.Through p (server_restart w.parties.server
              two.nonce).after (pass_restart w.parties.pass).after) own_peer
              ∙ ap (λ (s : ServerNow). parties_at mode.Through (initial_peer
              (peers.setup_with_nonce setup.peer one.nonce)) s (pass_restart w.parties.pass).after)
              (backend_started w.parties.server two.nonce server setup.first_id setup.max_retrans
              set.role own_views own_server set.first_id set.max_retrans)
              ∙ ap (λ (n : ℕ). parties_at mode.Through
              (initial_peer (peers.setup_with_nonce setup.peer one.nonce))
              (initial_server role.Backend server setup.first_id setup.max_retrans)
              (pass_start (initial_pass n w.parties.pass.max_retrans)).after) set.pass_first_id
              ∙ ap (λ (n : ℕ). parties_at mode.Through
              (initial_peer (peers.setup_with_nonce setup.peer one.nonce))
              (initial_server role.Backend server setup.first_id setup.max_retrans)
              (pass_start (initial_pass setup.first_id n)).after) set.pass_max_retrans;
          before = w.sent;
          sent = r.sent ∙ ap (λ (more : List Sent).
              w.sent ++ more) (through_asks setup.first_id setup.max_retrans);
        };
        book = r.book;
        discards = r.discards;
        fresh = renewed.fresh;
      }

start_by : (runs : Mode) (setup : Setup) (w : WorldNow) (one two : Waiting) (ps ss : List Waiting)
    (restarts : List Event)
    → peers.initial_peer (peers.setup_with_nonce w.parties.peer.vars.setup
    one.nonce) w.parties.peer.views ≡ initial_peer (peers.setup_with_nonce setup.peer one.nonce)
    → servers.setup_with_nonce w.parties.server.vars.setup two.nonce
    ≡ servers.setup_with_nonce setup.server two.nonce
    → (let own = servers.setup_with_nonce setup.server two.nonce in
    views_started own w.parties.server.views ≡ server_views_started own)
    → AreSet (in_mode runs setup) w.parties
    → (runs ≡ mode.Alone → IsIdle (initial_pass setup.first_id setup.max_retrans) w.parties)
    → w.conversations.peer_left ≡ one ∷ ps → w.conversations.server_left ≡ two ∷ ss
    → StartAnew runs restarts
    → HasRestarted (in_mode runs setup) one two w (run_after w restarts)
unfolding run_after
start_by mode.Alone setup w one two ps ss _ own_peer own_server own_views set idle peer_left
    server_left peer_server =
    let h : Fits w mode.Alone role.StandAlone setup.first_id =
    record {
      is_mode = set.mode;
      role = set.role;
      first_id = set.first_id;
      pass_first_id = set.pass_first_id;
    } in
    started_alone setup w one two own_peer own_server own_views
    (after (after w party.Peer) party.Server) set (idle refl)
    (by_peer_server w setup.first_id h one two ps ss peer_left server_left)
start_by mode.Alone setup w one two ps ss _ own_peer own_server own_views set idle peer_left
    server_left server_peer =
    let h : Fits w mode.Alone role.StandAlone setup.first_id =
    record {
      is_mode = set.mode;
      role = set.role;
      first_id = set.first_id;
      pass_first_id = set.pass_first_id;
    } in
    started_alone setup w one two own_peer own_server own_views
    (after (after w party.Server) party.Peer) set (idle refl)
    (by_server_peer w setup.first_id h one two ps ss peer_left server_left)
start_by mode.Through setup w one two ps ss restarts own_peer own_server own_views set idle
    peer_left server_left order =
    let h : Fits w mode.Through role.Backend setup.first_id =
    record {
      is_mode = set.mode;
      role = set.role;
      first_id = set.first_id;
      pass_first_id = set.pass_first_id;
    } in
    started_through setup w one two own_peer own_server own_views (run_after w restarts) set
    (by_order w setup.first_id h one two ps ss peer_left server_left restarts order)

pub restarts_start_anew : RestartsStartAnew
restarts_start_anew setup events restarts whole next order =
    let w : WorldNow = run_of setup events in
    let both : BothConverse setup w = run_converses setup events whole in
    let p = both.peer.now.stands in
    let s = both.server.now.stands in
    let own : PeerSetup = peers.setup_with_nonce setup.peer next.peer.nonce in
    start_by setup.mode setup w next.peer next.server next.peer_more next.server_more restarts
    (ap (λ (s : PeerSetup). peers.initial_peer (peers.setup_with_nonce s next.peer.nonce)
    w.parties.peer.views) p.own
    ∙ ap (λ (views : PeerViews). (let made : PeerNow = record (initial_peer own) {
      views = views;
    } in made)) (peer_starts_again own w.parties.peer.views p.objects))
    (ap (λ (s : ServerSetup). servers.setup_with_nonce s next.server.nonce) s.own)
    (server_starts_again (servers.setup_with_nonce setup.server next.server.nonce)
    w.parties.server.views s.objects) (run_is_set setup events) (run_is_idle setup events)
    next.peer_left next.server_left order
