-- The world tells whether a run is fresh.
use Rattle.std.proofs.Common.{◌≡◌, ℕ, ◌+◌, List, [], ◌∷◌, ◌++◌, map, Bool, true, false, Option}
use Rattle.std.proofs.Common.{Some, None, refl, sym, ap, subst, ◌∙◌, append_assoc, append-nil}
use Rattle.std.specs.Prelude.{◌||◌, ◌&&◌, not}
use Rattle.std.specs.List.{list_any}
use Rattle.std.specs.Str.{bytes_eq}
use Rattle.std.proofs.lemmas.Bool.{and_parts, and_from, not-true}
use Rattle.std.proofs.lemmas.List.Folds.{list_any-append}
use Rattle.login_setup.specs.declared.event.Event.{Event}
use Rattle.login_setup.specs.declared.setup.Setup.{Setup}
use Rattle.peer_machine.specs.Inputs as peer_inputs
use Rattle.server_machine.specs.Inputs as server_inputs
use Rattle.eap_world.specs.Conversations.{Conversations, begins, beginning, front, hears, is_new}
use Rattle.eap_world.specs.Conversations.{is_used, occurs_in, waiting}
use Rattle.world_laws.specs.Fresh.{Happening, came, began, FreshnessIsExact, received_of, clashes}
use Rattle.world_laws.specs.Fresh.{happens_at, happens_in, happens_unless, history_after}
use Rattle.world_laws.specs.Fresh.{history_of}
use Rattle.eap_world.specs.World.{Call, WorldNow, call_octets, call_of, conversations_after}
use Rattle.eap_world.specs.World.{conversed_by, conversed_unless, first_skip, delivered_in_call}
use Rattle.eap_world.specs.World.{run_after, skip_table, to_pass, to_peer, to_server, world_start}
use Rattle.eap_world.specs.World.{world_step}
use Rattle.tag_book.specs.declared.book.End.{End}
use Rattle.tag_book.specs.declared.book.End.TheVariants as end
use Rattle.eap_world.specs.declared.conversations.ConversationStart.{ConversationStart}
use Rattle.eap_world.specs.declared.conversations.Waiting.{Waiting}
use Rattle.eap_world.specs.declared.told.Skip.{Skip}
use Rattle.world_laws.proofs.Acting.{IsNext, starts_anew, goes_on, of_next, peer_next, server_next}
use Rattle.world_laws.proofs.NoncesLeft.{IsLeft, first, behind, was_left}
use Rattle.world_laws.specs.Runs.{initial_world}

-- ---- the two ways to clash

abbrev delivered_by : List ℕ → Happening → Bool
delivered_by nonce (came octets) = occurs_in (front nonce) octets
delivered_by nonce (began other) = false

abbrev used_by : List ℕ → Happening → Bool
used_by nonce (came octets) = false
used_by nonce (began other) = bytes_eq (front other) (front nonce)

or_none : (b : Bool) → (b || false) ≡ b
or_none true = refl
or_none false = refl

or_first : (a b c : Bool) → (a || (b || c)) ≡ ((a || b) || (false || c))
or_first true b c = refl
or_first false b c = refl

or_second : (a b c : Bool) → (a || (b || c)) ≡ ((false || b) || (a || c))
or_second true true c = refl
or_second true false c = refl
or_second false b c = refl

split : (nonce : List ℕ) (all : List Happening) → list_any (clashes nonce) all
    ≡ (list_any (delivered_by nonce) all || list_any (used_by nonce) all)
split nonce [] = refl
split nonce (came octets ∷ rest) =
    ap (λ (b : Bool). occurs_in (front nonce) octets || b) (split nonce rest)
    ∙ or_first (occurs_in (front nonce) octets) _ _
split nonce (began other ∷ rest) =
    ap (λ (b : Bool). bytes_eq (front other) (front nonce) || b) (split nonce rest)
    ∙ or_second (bytes_eq (front other) (front nonce)) _ _

-- ---- freshness by a test, event by event

abbrev is_good : List Happening → Happening → Bool
is_good before (came octets) = true
is_good before (began nonce) = not (list_any (clashes nonce) before)

all_good : List Happening → List Happening → Bool
all_good before [] = true
all_good before (h ∷ rest) = is_good before h && all_good (before ++ h ∷ []) rest

and_all : (b : Bool) → b ≡ (b && true)
and_all true = refl
and_all false = refl

and_one : (b : Bool) → (b && true) ≡ b
and_one true = refl
and_one false = refl

and_apart : (a b c : Bool) → (a && (b && c)) ≡ ((a && b) && c)
and_apart true b c = refl
and_apart false b c = refl

one_more_good : (before all : List Happening) (h : Happening) → all_good before (all ++ h ∷ [])
    ≡ (all_good before all && is_good (before ++ all) h)
unfolding all_good
one_more_good before [] h = (let e = append-nil before in rw e (and_one (is_good before h)))
one_more_good before (g ∷ rest) h =
    ap (λ (b : Bool). is_good before g && b) (one_more_good (before ++ g ∷ []) rest h)
    ∙ (and_apart (is_good before g) _ _
    ∙ ap (λ (l : List Happening). (is_good before g && all_good (before ++ g ∷ []) rest)
    && is_good l h) (append_assoc before (g ∷ []) rest))

good_is : (before all : List Happening) → all_good before all ≡ true
    → (earlier after : List Happening) (nonce : List ℕ) → all ≡ earlier ++ began nonce ∷ after
    → list_any (clashes nonce) (before ++ earlier) ≡ false
unfolding all_good
good_is before [] good [] after nonce e = absurd cc
good_is before [] good (g ∷ earlier) after nonce e = absurd cc
good_is before (h ∷ rest) good [] after nonce e =
    let same : h ≡ began nonce = cc in
    let p = and_parts (is_good before h) _ good in
    ap (list_any (clashes nonce)) (append-nil before)
    ∙ not-true (list_any (clashes nonce) before)
    (subst (λ (g : Happening). is_good before g ≡ true) same p.0)
good_is before (h ∷ rest) good (g ∷ earlier) after nonce e =
    let same : h ≡ g = cc in
    let behind : rest ≡ earlier ++ began nonce ∷ after = cc in
    let p = and_parts (is_good before h) _ good in
    ap (λ (x : Happening). list_any (clashes nonce) (before ++ x ∷ earlier)) (sym same)
    ∙ (ap (list_any (clashes nonce)) (sym (append_assoc before (h ∷ []) earlier))
    ∙ good_is (before ++ h ∷ []) rest p.1 earlier after nonce behind)

good_now : (before rest : List Happening) (h : Happening)
    → ((earlier after : List Happening) (nonce : List ℕ) → h ∷ rest ≡ earlier ++ began nonce ∷ after
    → list_any (clashes nonce) (before ++ earlier) ≡ false)
    → is_good before h ≡ true
good_now before rest (came octets) each = refl
good_now before rest (began nonce) each =
    rw (ap (list_any (clashes nonce)) (sym (append-nil before)) ∙ each [] rest nonce refl) refl

is_good_all : (before all : List Happening)
    → ((earlier after : List Happening) (nonce : List ℕ) → all ≡ earlier ++ began nonce ∷ after
    → list_any (clashes nonce) (before ++ earlier) ≡ false)
    → all_good before all ≡ true
unfolding all_good
is_good_all before [] each = refl
is_good_all before (h ∷ rest) each =
    and_from (is_good before h) (all_good (before ++ h ∷ []) rest) (good_now before rest h each)
    (is_good_all (before ++ h ∷ []) rest
    (λ earlier after nonce e.
    ap (list_any (clashes nonce)) (append_assoc before (h ∷ []) earlier)
    ∙ each (h ∷ earlier) after nonce (ap (λ (l : List Happening). h ∷ l) e)))

-- ---- what the world keeps of it

record IsResult (t : Conversations) (all : List Happening) : Type 0 where
  pub peer : (one : Waiting) → IsLeft one t.peer_left
      → one.heard ≡ list_any (delivered_by one.nonce) all
  pub server : (one : Waiting) → IsLeft one t.server_left
      → one.heard ≡ list_any (delivered_by one.nonce) all
  pub used : (nonce : List ℕ) → is_used t.begun nonce ≡ list_any (used_by nonce) all
  pub fresh : t.fresh ≡ all_good [] all

more_received : (octets : List ℕ) (all : List Happening) (nonce : List ℕ) (b : Bool)
    → b ≡ list_any (delivered_by nonce) all
    → (b || occurs_in (front nonce) octets)
    ≡ list_any (delivered_by nonce) (all ++ came octets ∷ [])
more_received octets all nonce b e =
    ap (λ (x : Bool). x || occurs_in (front nonce) octets) e
    ∙ (ap (λ (x : Bool). list_any (delivered_by nonce) all || x)
    (sym (or_none (occurs_in (front nonce) octets)))
    ∙ sym (list_any-append (delivered_by nonce) all (came octets ∷ [])))

left_received : (octets : List ℕ) (left : List Waiting) (all : List Happening)
    → ((one : Waiting) → IsLeft one left → one.heard ≡ list_any (delivered_by one.nonce) all)
    → (one : Waiting) → IsLeft one (map (hears octets) left)
    → one.heard ≡ list_any (delivered_by one.nonce) (all ++ came octets ∷ [])
left_received octets left all each one is =
    let w = was_left octets left one is in
    subst (λ (x : Waiting). x.heard ≡ list_any (delivered_by x.nonce) (all ++ came octets ∷ []))
    (sym w.is) (more_received octets all w.before.nonce w.before.heard (each w.before w.is_left))

none_more : (P : Happening → Bool) (all : List Happening) (h : Happening) → P h ≡ false
    → list_any P all ≡ list_any P (all ++ h ∷ [])
none_more P all h e =
    sym (or_none (list_any P all)) ∙ (ap (λ (b : Bool). list_any P all || (b || false)) (sym e)
    ∙ sym (list_any-append P all (h ∷ [])))

implies_arrived : (t : Conversations) (all : List Happening) (octets : List ℕ) → IsResult t all
    → IsResult (delivered_in_call t (Some octets)) (all ++ came octets ∷ [])
implies_arrived t all octets w = record {
  peer = left_received octets t.peer_left all w.peer;
  server = left_received octets t.server_left all w.server;
  used = λ nonce. w.used nonce ∙ none_more (used_by nonce) all (came octets) refl;
  fresh = w.fresh ∙ (and_all (all_good [] all) ∙ sym (one_more_good [] all (came octets)));
}

not_either : (a b : Bool) → (not a && not b) ≡ not (a || b)
not_either true b = refl
not_either false b = refl

-- a nonce is new where it clashes with nothing so far
new_reported : (t : Conversations) (all : List Happening) (one : Waiting)
    → one.heard ≡ list_any (delivered_by one.nonce) all
    → is_used t.begun one.nonce ≡ list_any (used_by one.nonce) all
    → is_new t.begun one ≡ not (list_any (clashes one.nonce) all)
new_reported t all one heard used =
    rw (heard, used) (not_either _ _ ∙ ap not (sym (split one.nonce all)))

more_used : (all : List Happening) (begun_so : List ConversationStart) (event : ℕ) (of : End)
    (one nonce : List ℕ) → is_used begun_so nonce ≡ list_any (used_by nonce) all
    → is_used (begun_so ++ beginning event of one ∷ []) nonce
    ≡ list_any (used_by nonce) (all ++ began one ∷ [])
more_used all begun_so event of one nonce e =
    list_any-append (λ (b : ConversationStart). bytes_eq (front b.nonce) (front nonce)) begun_so
    (beginning event of one ∷ [])
    ∙ (ap (λ (b : Bool). b || (bytes_eq (front one) (front nonce) || false)) e
    ∙ sym (list_any-append (used_by nonce) all (began one ∷ [])))

more_fresh : (t : Conversations) (all : List Happening) (one : Waiting) → IsResult t all
    → one.heard ≡ list_any (delivered_by one.nonce) all
    → (t.fresh && is_new t.begun one) ≡ all_good [] (all ++ began one.nonce ∷ [])
more_fresh t all one w heard =
    ap (λ (b : Bool). b && is_new t.begun one) w.fresh
    ∙ (ap (λ (b : Bool). all_good [] all && b) (new_reported t all one heard (w.used one.nonce))
    ∙ sym (one_more_good [] all (began one.nonce)))

fewer : (nonce : List ℕ) (all : List Happening) (one : Waiting)
    → one.heard ≡ list_any (delivered_by one.nonce) all
    → one.heard ≡ list_any (delivered_by one.nonce) (all ++ began nonce ∷ [])
fewer nonce all one e = e ∙ none_more (delivered_by one.nonce) all (began nonce) refl

peer_anew : (t : Conversations) (all : List Happening) (event : ℕ) (one : Waiting)
    (left : List Waiting) → t.peer_left ≡ one ∷ left → IsResult t all
    → IsResult (begins event end.Peer one (record t { peer_left = left }))
    (all ++ began one.nonce ∷ [])
peer_anew t all event one left e w =
    let of_peer : (x : Waiting) → IsLeft x (one ∷ left)
    → x.heard ≡ list_any (delivered_by x.nonce) all =
    subst (λ (l : List Waiting). (x : Waiting) → IsLeft x l
    → x.heard ≡ list_any (delivered_by x.nonce) all) e w.peer in
    record {
      peer = λ x is. fewer one.nonce all x (of_peer x (behind one left is));
      server = λ x is. fewer one.nonce all x (w.server x is);
      used = λ nonce. more_used all t.begun event end.Peer one.nonce nonce (w.used nonce);
      fresh = more_fresh t all one w (of_peer one (first left));
    }

server_anew : (t : Conversations) (all : List Happening) (event : ℕ) (one : Waiting)
    (left : List Waiting) → t.server_left ≡ one ∷ left → IsResult t all
    → IsResult (begins event end.Server one (record t { server_left = left }))
    (all ++ began one.nonce ∷ [])
server_anew t all event one left e w =
    let of_server : (x : Waiting) → IsLeft x (one ∷ left)
    → x.heard ≡ list_any (delivered_by x.nonce) all =
    subst (λ (l : List Waiting). (x : Waiting) → IsLeft x l
    → x.heard ≡ list_any (delivered_by x.nonce) all) e w.server in
    record {
      peer = λ x is. fewer one.nonce all x (w.peer x is);
      server = λ x is. fewer one.nonce all x (of_server x (behind one left is));
      used = λ nonce. more_used all t.begun event end.Server one.nonce nonce (w.used nonce);
      fresh = more_fresh t all one w (of_server one (first left));
    }

implies_octets : (t : Conversations) (all : List Happening) (octets : Option (List ℕ))
    → IsResult t all → IsResult (delivered_in_call t octets) (all ++ received_of octets)
implies_octets t all None w = rw (append-nil all) w
implies_octets t all (Some octets) w = implies_arrived t all octets w

-- a call that goes on
implies_on : (event : ℕ) (t : Conversations) (all : List Happening) (call : Call)
    → starts_anew call ≡ false → IsResult t all
    → IsResult (conversations_after event t call) (all ++ happens_at call)
implies_on event t all (to_peer (peer_inputs.octets octets)) same w = implies_arrived t all octets w
implies_on event t all (to_peer peer_inputs.idle) same w = implies_octets t all None w
implies_on event t all (to_peer peer_inputs.alt_accept) same w = implies_octets t all None w
implies_on event t all (to_peer peer_inputs.alt_reject) same w = implies_octets t all None w
implies_on event t all (to_peer (peer_inputs.restart nonce)) same w = absurd cc
implies_on event t all (to_server server_inputs.start) same w = implies_octets t all None w
implies_on event t all (to_server server_inputs.timeout) same w = implies_octets t all None w
implies_on event t all (to_server (server_inputs.octets octets)) same w =
    implies_arrived t all octets w
implies_on event t all (to_server (server_inputs.restart nonce)) same w = absurd cc
implies_on event t all (to_pass input) same w = implies_octets t all (call_octets (to_pass input)) w

implies_call : (event : ℕ) (t : Conversations) (all : List Happening) (call : Call) → IsNext t call
    → IsResult t all
    → IsResult (conversations_after event t call) (all ++ happens_at call)
implies_call event t all call (goes_on _ later same) w = implies_on event t all call same w
implies_call event t all _ (peer_next one left next) w =
    rw next (peer_anew t all event one left next w)
implies_call event t all _ (server_next one left next) w =
    rw next (server_anew t all event one left next w)

implies_unless : (event : ℕ) (t : Conversations) (all : List Happening) (skip : Option Skip)
    (call : Option Call)
    → ((one : Call) → call ≡ Some one → IsNext t one) → IsResult t all
    → IsResult (conversed_unless event t skip call) (all ++ happens_unless skip call)
implies_unless event t all (Some skip) call next w = rw (append-nil all) w
implies_unless event t all None None next w = rw (append-nil all) w
implies_unless event t all None (Some call) next w =
    implies_call event t all call (next call refl) w

step_implies : (w : WorldNow) (e : Event) (all : List Happening) → IsResult w.conversations all
    → IsResult (world_step w e).after.conversations (all ++ happens_in w e)
unfolding conversed_by world_step
step_implies w e all tells =
    implies_unless (w.counts.events + 1) w.conversations all
    (first_skip (skip_table w.parties w.conversations w.sent e)) (call_of w.conversations w.sent e)
    (of_next w.conversations w.sent e) tells

after_implies : (w : WorldNow) (events : List Event) (all : List Happening)
    → IsResult w.conversations all
    → IsResult (run_after w events).conversations (all ++ history_after w events)
unfolding run_after history_after
after_implies w [] all tells = rw (append-nil all) tells
after_implies w (e ∷ rest) all tells =
    subst (IsResult (run_after (world_step w e).after rest).conversations)
    (append_assoc all (happens_in w e) (history_after (world_step w e).after rest))
    (after_implies (world_step w e).after rest (all ++ happens_in w e) (step_implies w e all tells))

first_unheard : (nonce : List ℕ) (rest : List Waiting) (one : Waiting) (all : List Waiting)
    → IsLeft one all → all ≡ waiting nonce ∷ rest
    → (IsLeft one rest → one.heard ≡ false) → one.heard ≡ false
first_unheard nonce rest one _ (first left) e more =
    ap (λ (w : Waiting). w.heard) (let same : one ≡ waiting nonce = cc in same)
first_unheard nonce rest one _ (behind other left is) e more =
    more (subst (IsLeft one) (let same : left ≡ rest = cc in same) is)

unheard : (later : List (List ℕ)) (one : Waiting) → IsLeft one (map waiting later)
    → one.heard ≡ false
unheard [] one is = elim is [ ]
unheard (nonce ∷ rest) one is = first_unheard nonce (map waiting rest) one
    (map waiting (nonce ∷ rest)) is refl (unheard rest one)

start_fresh : (b : Bool) → not b ≡ (not (b || false) && true)
start_fresh true = refl
start_fresh false = refl

start_implies : (setup : Setup) → IsResult (world_start (initial_world setup)).after.conversations
    (began setup.peer.nonce ∷ began setup.server.nonce ∷ [])
unfolding all_good world_start
start_implies setup = record {
  peer = unheard setup.later.peer;
  server = unheard setup.later.server;
  used = λ nonce. refl;
  fresh = start_fresh (bytes_eq (front setup.peer.nonce) (front setup.server.nonce));
}

-- A world keeps which nonces were used, which of those left were heard, and whether all were new so
-- far. Each is a test over the history: so at the start, and after each event by the call that it
-- is (`step_implies`). That test over the whole history is true exactly if no nonce clashes with
-- what came before it (`good_is`, `is_good_all`).
pub freshness_is_exact : FreshnessIsExact
freshness_is_exact setup events =
    let w = after_implies (world_start (initial_world setup)).after events _
    (start_implies setup) in (
      λ fresh. record { each = good_is [] (history_of setup events) (sym w.fresh ∙ fresh) },
      λ is. w.fresh ∙ is_good_all [] (history_of setup events) is.each,
    )
