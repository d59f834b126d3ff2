-- What each event does to the conversations of both ends: the present one goes on, or the next one
-- begins.
use Rattle.std.proofs.Common.{◌≡◌, ℕ, ◌+◌, Bool, true, false, List, [], ◌∷◌, ◌++◌, length, refl}
use Rattle.std.proofs.Common.{sym, ap, subst, ◌∙◌, arith, append-nil}
use Rattle.std.specs.Prelude.{if◌then◌else◌, nat_lt}
use Rattle.std.proofs.lemmas.Bool.{lt-ltb, le-ltb}
use Rattle.login_setup.specs.declared.event.Event.{Event}
use Rattle.login_setup.specs.declared.setup.PeerSetup.{PeerSetup}
use Rattle.login_setup.specs.Setup.{ServerSetup}
use Rattle.login_setup.specs.declared.setup.Setup.{Setup}
use Rattle.eap_method.specs.declared.tags.TagRecord.{TagRecord}
use Rattle.peer_machine.specs.Inputs as peer_inputs
use Rattle.peer_machine.specs.Inputs.{peer_accepts}
use Rattle.peer_machine.specs.PeerTable as peers
use Rattle.peer_machine.specs.PeerTable.{PeerNow}
use Rattle.server_machine.specs.Inputs as server_inputs
use Rattle.server_machine.specs.Inputs.{server_accepts}
use Rattle.server_machine.specs.ServerTable as servers
use Rattle.server_machine.specs.ServerTable.{ServerNow}
use Rattle.tag_book.specs.Book.{entries_of, same_end}
use Rattle.eap_world.specs.Conversations.{Conversations, begins, beginning, initiated_by, is_used}
use Rattle.eap_world.specs.Conversations.{one_of}
use Rattle.world_laws.specs.EachConversation.{starts_another, nonces_of, peer_at, server_at}
use Rattle.world_laws.specs.PeerInvariant.{PeerInvariant}
use Rattle.world_laws.specs.ServerInvariant.{ServerInvariant}
use Rattle.eap_world.specs.World.{Call, WorldNow, WorldOutcome, call_octets, act_of_call}
use Rattle.eap_world.specs.World.{delivered_in_call, to_pass, to_peer, to_server, world_step}
use Rattle.tag_book.specs.declared.book.End.{End}
use Rattle.tag_book.specs.declared.book.End.TheVariants as end
use Rattle.eap_world.specs.declared.conversations.ConversationStart.{ConversationStart}
use Rattle.eap_world.specs.declared.conversations.Waiting.{Waiting}
use Rattle.world_laws.proofs.Acting.{Steps, calls, counted_acted, peer_restarts, peer_same}
use Rattle.world_laws.proofs.Acting.{server_restarts, server_same, skips, step_steps, still_started}
use Rattle.world_laws.proofs.Conversing.{BothConverse, LeftSized, received_fresh, step_converses}
use Rattle.world_laws.proofs.Dates.{untagged}
use Rattle.world_laws.proofs.EachOf.{Grows, Turns, starts_next, goes}
use Rattle.world_laws.proofs.Few.{started_more}
use Rattle.world_laws.proofs.NoncesLeft.{new_is, still_used}
use Rattle.world_laws.proofs.PeerPreserves.{peer_preserves, peer_invariant_anew, peer_tags_none}
use Rattle.world_laws.proofs.ServerPreserves.{server_preserves, server_invariant_anew}
use Rattle.world_laws.proofs.ServerPreserves.{server_tags_none}
use Rattle.method_laws.proofs.TagsOfEnds as tags

-- ---- the conversations that have begun

some_or : (b : Bool) (n : List ℕ) (xs ys : List (List ℕ)) → (if b then n ∷ (xs ++ ys) else xs ++ ys)
    ≡ (if b then n ∷ xs else xs) ++ ys
some_or true n xs ys = refl
some_or false n xs ys = refl

nonces_more : (of : End) (all : List ConversationStart) (b : ConversationStart)
    → nonces_of of (all ++ b ∷ [])
    ≡ nonces_of of all ++ (if same_end b.end of then b.nonce ∷ [] else [])
unfolding nonces_of
nonces_more of [] b = refl
nonces_more of (a ∷ rest) b =
    ap (λ (l : List (List ℕ)). if same_end a.end of then a.nonce ∷ l else l) (nonces_more of rest b)
    ∙ some_or (same_end a.end of) a.nonce (nonces_of of rest)
    (if same_end b.end of then b.nonce ∷ [] else [])

-- an end has begun no other
record Same (of : End) (w v : WorldNow) : Type 0 where
  pub nonces : nonces_of of v.conversations.begun ≡ nonces_of of w.conversations.begun
  pub count : starts_another of w v ≡ false

-- an end has begun another, with this nonce
record More (of : End) (nonce : List ℕ) (w v : WorldNow) : Type 0 where
  pub nonces : nonces_of of v.conversations.begun ≡ nonces_of of w.conversations.begun ++ nonce ∷ []
  pub count : starts_another of w v ≡ true

as_many : (before after : ℕ) → after ≡ before → nat_lt before after ≡ false
as_many before after same = le-ltb before after (omega (arith, same))

one_longer : (before after : ℕ) → after ≡ before + 1 → nat_lt before after ≡ true
one_longer before after more = lt-ltb before after (omega (arith, more))

same_started : (of : End) (w v : WorldNow) → v.conversations.begun ≡ w.conversations.begun
    → Same of w v
same_started of w v same = record {
  nonces = ap (nonces_of of) same;
  count = as_many (initiated_by of w.conversations.begun) (initiated_by of v.conversations.begun)
      (ap (initiated_by of) same);
}

-- a conversation of the other end is none of this one's
beside : (of : End) (w v : WorldNow) (b : ConversationStart) → v.conversations.begun
    ≡ w.conversations.begun ++ b ∷ [] → same_end b.end of ≡ false → Same of w v
beside of w v b longer other =
    let all = w.conversations.begun in
    let none : one_of of b ≡ 0 = ap (λ (test : Bool). if test then 1 else 0) other in
    record {
      nonces = ap (nonces_of of) longer
          ∙ (nonces_more of all b ∙ (ap (λ (test : Bool). nonces_of of all ++ (if test
          then b.nonce ∷ [] else [])) other ∙ append-nil (nonces_of of all)));
      count = as_many (initiated_by of all) (initiated_by of v.conversations.begun)
          (ap (initiated_by of) longer ∙ (started_more of all b ∙ omega (arith, none)));
    }

own : (of : End) (w v : WorldNow) (b : ConversationStart) → v.conversations.begun
    ≡ w.conversations.begun ++ b ∷ [] → same_end b.end of ≡ true → More of b.nonce w v
own of w v b longer is =
    let all = w.conversations.begun in
    let one : one_of of b ≡ 1 = ap (λ (test : Bool). if test then 1 else 0) is in
    record {
      nonces = ap (nonces_of of) longer ∙ (nonces_more of all b
          ∙ ap (λ (test : Bool). nonces_of of all ++ (if test then b.nonce ∷ [] else [])) is);
      count = one_longer (initiated_by of all) (initiated_by of v.conversations.begun)
          (ap (initiated_by of) longer ∙ (started_more of all b ∙ omega (arith, one)));
    }

-- the world after each kind of step
abbrev after_skip : WorldNow → WorldNow
after_skip w =
    record w { counts = record w.counts { events = w.counts.events + 1 }; started = true }

abbrev after_call : WorldNow → Call → WorldNow
after_call w call = (counted_acted w w.held (delivered_in_call w.conversations (call_octets call))
    (act_of_call w.parties call)).after

abbrev after_peer_restart : WorldNow → Waiting → List Waiting → WorldNow
after_peer_restart w one left =
    (counted_acted w (record w.held { peer = false })
    (begins (w.counts.events + 1) end.Peer one (record w.conversations { peer_left = left }))
    (act_of_call w.parties (to_peer (peer_inputs.restart one.nonce)))).after

abbrev after_server_restart : WorldNow → Waiting → List Waiting → WorldNow
after_server_restart w one left =
    (counted_acted w (record w.held { server = false })
    (begins (w.counts.events + 1) end.Server one (record w.conversations { server_left = left }))
    (act_of_call w.parties (to_server (server_inputs.restart one.nonce)))).after

grows_same : (before after : Conversations) → after.begun ≡ before.begun
    → after.fresh ≡ before.fresh → Grows before after
grows_same before after begun_is fresh_is = record {
  used = λ n was. ap (λ (all : List ConversationStart). is_used all n) begun_is ∙ was;
  fresh = λ f. sym fresh_is ∙ f;
}

steps_grow : (w : WorldNow) (out : WorldOutcome) → Steps w out
    → Grows w.conversations out.after.conversations
steps_grow w _ (skips skip) = grows_same w.conversations _ refl refl
steps_grow w _ (calls call later same) =
    grows_same w.conversations _ (still_started w.conversations (call_octets call))
    (received_fresh w.conversations (call_octets call))
steps_grow w _ (peer_restarts one left next) = record {
  used = λ n was. still_used w.conversations.begun
      (beginning (w.counts.events + 1) end.Peer one.nonce) n was;
  fresh = λ f. (new_is w.conversations.fresh w.conversations.begun one f).was;
}
steps_grow w _ (server_restarts one left next) = record {
  used = λ n was. still_used w.conversations.begun
      (beginning (w.counts.events + 1) end.Server one.nonce) n was;
  fresh = λ f. (new_is w.conversations.fresh w.conversations.begun one f).was;
}

pub grow : (w : WorldNow) (e : Event) → Grows w.conversations (world_step w e).after.conversations
grow w e = steps_grow w (world_step w e) (step_steps w e)

pub converses_on : (setup : Setup) (w : WorldNow) (e : Event) → BothConverse setup w
    → BothConverse setup (world_step w e).after
converses_on setup w e h = step_converses setup w (world_step w e) (step_steps w e) h

-- ---- the peer

-- where the peer stands in a conversation tells its tags; it has a nonce of 32 octets
pub record PeerWell (setup : PeerSetup) (now : PeerNow)
    (accepted made : List TagRecord) : Type 0 where
  pub nonce : List ℕ
  pub size : length nonce ≡ 32
  pub stands : PeerInvariant (peers.setup_with_nonce setup nonce) now accepted made

abbrev pub peer_nonce_of : PeerNow → List ℕ
peer_nonce_of now = now.vars.setup.nonce

module _ (setup : Setup) where
  abbrev PeerTurnsBy : WorldNow → WorldNow → Bool → Type 0
  PeerTurnsBy w v test = Turns peer_at end.Peer peer_nonce_of (PeerWell setup.peer) w v test

  abbrev pub PeerTurns : WorldNow → WorldNow → Type 0
  PeerTurns w v = PeerTurnsBy w v (starts_another end.Peer w v)

  peer_proceeds : (w v : WorldNow) → starts_another end.Peer w v ≡ false → PeerTurnsBy w v false
      → PeerTurns w v
  peer_proceeds w v is turns = subst (PeerTurnsBy w v) (sym is) turns

  -- nothing of the peer changes
  peer_rests : (w v : WorldNow) → v.book ≡ w.book → v.parties.peer ≡ w.parties.peer
      → Same end.Peer w v → PeerTurns w v
  peer_rests w v book same also =
      peer_proceeds w v also.count
      (goes [] (book ∙ sym (append-nil w.book))
      (λ part well. rw (append-nil part, same) well)
      (ap peer_nonce_of same) also.nonces)

  peer_steps : (w : WorldNow) (out : WorldOutcome) → BothConverse setup w → Steps w out
      → PeerTurns w out.after
  peer_steps w _ h (skips skip) =
      peer_rests w (after_skip w) refl refl (same_started end.Peer w (after_skip w) refl)
  peer_steps w _ h (calls (to_peer input) later same) =
      let now = w.parties.peer in
      let out = peer_accepts now input in
      let no_restart = peer_same input same in
      let after = (peer_preserves (peers.setup_with_nonce setup.peer h.peer_nonce)
      now h.peer.accepted h.peer.made input no_restart h.peer.now.stands).own in
      let also = same_started end.Peer w (after_call w (to_peer input))
      (still_started w.conversations (call_octets (to_peer input))) in
      peer_proceeds w (after_call w (to_peer input)) also.count
      (goes (entries_of (w.counts.events + 1) end.Peer out.step.tags) refl
      (λ part well.
      record {
        nonce = well.nonce;
        size = well.size;
        stands = tags.grows end.Peer (PeerInvariant (peers.setup_with_nonce setup.peer well.nonce)
            out.after) part (w.counts.events + 1) out.step.tags
            (peer_preserves (peers.setup_with_nonce setup.peer well.nonce)
            now _ _ input no_restart well.stands);
      })
      (ap (λ (s : PeerSetup). s.nonce) after
      ∙ sym (ap (λ (s : PeerSetup). s.nonce) h.peer.now.stands.own)) also.nonces)
  peer_steps w _ h (calls (to_server input) later same) =
      let now = w.parties.peer in
      let out = server_accepts w.parties.server input in
      let also = same_started end.Peer w (after_call w (to_server input))
      (still_started w.conversations (call_octets (to_server input))) in
      peer_proceeds w (after_call w (to_server input)) also.count
      (goes (entries_of (w.counts.events + 1) end.Server out.step.tags) refl
      (λ part well.
      record {
        nonce = well.nonce;
        size = well.size;
        stands = tags.rests end.Peer (PeerInvariant (peers.setup_with_nonce setup.peer well.nonce)
            now) part (w.counts.events + 1) out.step.tags well.stands;
      })
      refl also.nonces)
  peer_steps w _ h (calls (to_pass input) later same) =
      peer_rests w (after_call w (to_pass input)) (append-nil w.book) refl
      (same_started end.Peer w (after_call w (to_pass input))
      (still_started w.conversations (call_octets (to_pass input))))
  peer_steps w _ h (peer_restarts one left next) =
      let now = w.parties.peer in
      let after = (peer_accepts now (peer_inputs.restart one.nonce)).after in
      let stands = peer_invariant_anew (peers.setup_with_nonce setup.peer h.peer_nonce)
      now one.nonce h.peer.now.stands.own h.peer.now.stands.objects in
      let nonce : peer_nonce_of after ≡ one.nonce = ap (λ (s : PeerSetup). s.nonce) stands.own in
      let sized : LeftSized (one ∷ left) = subst LeftSized next h.sized.peer in
      let more = own end.Peer w (after_peer_restart w one left)
      (beginning (w.counts.events + 1) end.Peer one.nonce) refl refl in
      subst (PeerTurnsBy w (after_peer_restart w one left)) (sym more.count)
      (starts_next (untagged w.book (w.counts.events + 1) end.Peer _ (peer_tags_none now one.nonce))
      (record { nonce = one.nonce; size = sized.0; stands = stands })
      (λ fresh used. (new_is w.conversations.fresh w.conversations.begun one fresh).unused
      (sym (ap (is_used w.conversations.begun) nonce) ∙ used))
      (more.nonces
      ∙ ap (λ (n : List ℕ). nonces_of end.Peer w.conversations.begun ++ n ∷ []) (sym nonce)))
  peer_steps w _ h (server_restarts one left next) =
      peer_rests w (after_server_restart w one left) (untagged w.book (w.counts.events + 1)
      end.Server _ (server_tags_none w.parties.server one.nonce)) refl
      (beside end.Peer w (after_server_restart w one left)
      (beginning (w.counts.events + 1) end.Server one.nonce) refl refl)

  pub peer_turns : (w : WorldNow) (e : Event) → BothConverse setup w
      → PeerTurns w (world_step w e).after
  peer_turns w e h = peer_steps w (world_step w e) h (step_steps w e)

  pub peer_used : (w : WorldNow) → BothConverse setup w
      → is_used w.conversations.begun (peer_nonce_of (peer_at w)) ≡ true
  peer_used w h =
      ap (λ (s : PeerSetup). is_used w.conversations.begun s.nonce) h.peer.now.stands.own
      ∙ h.peer.used

-- ---- the server

pub record ServerWell (setup : ServerSetup) (now : ServerNow)
    (accepted made : List TagRecord) : Type 0 where
  pub nonce : List ℕ
  pub size : length nonce ≡ 32
  pub stands : ServerInvariant (servers.setup_with_nonce setup nonce) now accepted made

abbrev pub server_nonce_of : ServerNow → List ℕ
server_nonce_of now = now.vars.setup.nonce

module _ (setup : Setup) where
  abbrev ServerTurnsBy : WorldNow → WorldNow → Bool → Type 0
  ServerTurnsBy w v test =
      Turns server_at end.Server server_nonce_of (ServerWell setup.server) w v test

  abbrev pub ServerTurns : WorldNow → WorldNow → Type 0
  ServerTurns w v = ServerTurnsBy w v (starts_another end.Server w v)

  server_proceeds : (w v : WorldNow) → starts_another end.Server w v ≡ false
      → ServerTurnsBy w v false → ServerTurns w v
  server_proceeds w v is turns = subst (ServerTurnsBy w v) (sym is) turns

  server_rests : (w v : WorldNow) → v.book ≡ w.book → v.parties.server ≡ w.parties.server
      → Same end.Server w v → ServerTurns w v
  server_rests w v book same also =
      server_proceeds w v also.count
      (goes [] (book ∙ sym (append-nil w.book))
      (λ part well. rw (append-nil part, same) well)
      (ap server_nonce_of same) also.nonces)

  server_steps : (w : WorldNow) (out : WorldOutcome) → BothConverse setup w → Steps w out
      → ServerTurns w out.after
  server_steps w _ h (skips skip) =
      server_rests w (after_skip w) refl refl (same_started end.Server w (after_skip w) refl)
  server_steps w _ h (calls (to_server input) later same) =
      let now = w.parties.server in
      let out = server_accepts now input in
      let not_start : input ≡ server_inputs.start → ⊥ = λ e. later (ap to_server e) in
      let no_restart = server_same input same in
      let h_own = servers.setup_with_nonce setup.server h.server_nonce in
      let after = (server_preserves h_own now h.server.accepted h.server.made input not_start
      no_restart h.server.now.stands).own in
      let also = same_started end.Server w (after_call w (to_server input))
      (still_started w.conversations (call_octets (to_server input))) in
      server_proceeds w (after_call w (to_server input)) also.count
      (goes (entries_of (w.counts.events + 1) end.Server out.step.tags) refl
      (λ part well.
      record {
        nonce = well.nonce;
        size = well.size;
        stands = tags.grows end.Server (ServerInvariant (servers.setup_with_nonce setup.server
            well.nonce) out.after) part (w.counts.events + 1) out.step.tags
            (server_preserves (servers.setup_with_nonce setup.server well.nonce)
            now _ _ input not_start no_restart well.stands);
      })
      (ap (λ (s : ServerSetup). s.nonce) after
      ∙ sym (ap (λ (s : ServerSetup). s.nonce) h.server.now.stands.own)) also.nonces)
  server_steps w _ h (calls (to_peer input) later same) =
      let now = w.parties.server in
      let out = peer_accepts w.parties.peer input in
      let also = same_started end.Server w (after_call w (to_peer input))
      (still_started w.conversations (call_octets (to_peer input))) in
      server_proceeds w (after_call w (to_peer input)) also.count
      (goes (entries_of (w.counts.events + 1) end.Peer out.step.tags) refl
      (λ part well.
      record {
        nonce = well.nonce;
        size = well.size;
        stands = tags.rests end.Server (ServerInvariant (servers.setup_with_nonce setup.server
            well.nonce) now) part (w.counts.events + 1) out.step.tags well.stands;
      })
      refl also.nonces)
  server_steps w _ h (calls (to_pass input) later same) =
      server_rests w (after_call w (to_pass input)) (append-nil w.book) refl
      (same_started end.Server w (after_call w (to_pass input))
      (still_started w.conversations (call_octets (to_pass input))))
  server_steps w _ h (server_restarts one left next) =
      let now = w.parties.server in
      let after = (server_accepts now (server_inputs.restart one.nonce)).after in
      let stands = server_invariant_anew (servers.setup_with_nonce setup.server h.server_nonce)
      now one.nonce h.server.now.stands.own h.server.now.stands.objects in
      let nonce : server_nonce_of after ≡ one.nonce =
      ap (λ (s : ServerSetup). s.nonce) stands.own in
      let sized : LeftSized (one ∷ left) = subst LeftSized next h.sized.server in
      let more = own end.Server w (after_server_restart w one left)
      (beginning (w.counts.events + 1) end.Server one.nonce) refl refl in
      subst (ServerTurnsBy w (after_server_restart w one left)) (sym more.count)
      (starts_next
      (untagged w.book (w.counts.events + 1) end.Server _ (server_tags_none now one.nonce))
      (record { nonce = one.nonce; size = sized.0; stands = stands })
      (λ fresh used. (new_is w.conversations.fresh w.conversations.begun one fresh).unused
      (sym (ap (is_used w.conversations.begun) nonce) ∙ used))
      (more.nonces
      ∙ ap (λ (n : List ℕ). nonces_of end.Server w.conversations.begun ++ n ∷ []) (sym nonce)))
  server_steps w _ h (peer_restarts one left next) =
      server_rests w (after_peer_restart w one left) (untagged w.book (w.counts.events + 1)
      end.Peer _ (peer_tags_none w.parties.peer one.nonce)) refl
      (beside end.Server w (after_peer_restart w one left)
      (beginning (w.counts.events + 1) end.Peer one.nonce) refl refl)

  pub server_turns : (w : WorldNow) (e : Event) → BothConverse setup w
      → ServerTurns w (world_step w e).after
  server_turns w e h = server_steps w (world_step w e) h (step_steps w e)

  pub server_used : (w : WorldNow) → BothConverse setup w
      → is_used w.conversations.begun (server_nonce_of (server_at w)) ≡ true
  server_used w h =
      ap (λ (s : ServerSetup). is_used w.conversations.begun s.nonce) h.server.now.stands.own
      ∙ h.server.used
