-- Every run sends few packets, and its book holds few tags.
use Rattle.std.proofs.Common.{◌≡◌, ℕ, ◌+◌, ◌*◌, ◌≤◌, Bool, true, false, List, [], ◌∷◌, ◌++◌, length}
use Rattle.std.proofs.Common.{Option, Some, None, refl, ap, ◌∙◌, arith, length-append}
use Rattle.std.specs.Prelude.{if◌then◌else◌, ◌&&◌}
use Rattle.login_setup.specs.declared.event.Event.{Event}
use Rattle.login_setup.specs.declared.setup.Mode.{Mode}
use Rattle.login_setup.specs.declared.setup.Mode.TheVariants as mode
use Rattle.login_setup.specs.declared.setup.Port.{Port}
use Rattle.login_setup.specs.declared.setup.Setup.{Setup}
use Rattle.eap_method.specs.declared.tags.TagRecord.{TagRecord}
use Rattle.tag_book.specs.Book.{same_end}
use Rattle.tag_book.specs.declared.book.End.{End}
use Rattle.tag_book.specs.declared.book.End.TheVariants.{Peer, Server}
use Rattle.tag_book.specs.declared.book.Entry.{Entry}
use Rattle.tag_book.specs.declared.book.Use.{Use}
use Rattle.tag_book.specs.declared.book.Use.TheVariants.{Accepted, Made}
use Rattle.eap_world.specs.declared.conversations.ConversationStart.{ConversationStart}
use Rattle.world_laws.specs.Few.{FewPackets, FewTags}
use Rattle.eap_world.specs.Conversations.{beginning, initiated_by, one_of}
use Rattle.world_laws.specs.EndInvariants.{BothInvariants}
use Rattle.method_laws.specs.Records.{same_use, tags_by}
use Rattle.eap_world.specs.World.{Action, Called, Skipped, WorldNow, WorldOutcome, act, act_of_call}
use Rattle.eap_world.specs.World.{run_after, sent_by, sent_to, start_call}
use Rattle.eap_world.specs.World.{world_acted, world_start, world_step}
use Rattle.world_laws.proofs.Acting.{Steps, run_preserves}
use Rattle.world_laws.proofs.Dates.{Books, Dates, starts_one, books_more, present, present_anew}
use Rattle.world_laws.proofs.Dates.{present_more, steps_book}
use Rattle.world_laws.proofs.EndInvariants.{InvariantSoFar, every_run_so_far, step_invariant}
use Rattle.world_laws.proofs.PeerPreserves.{peer_few}
use Rattle.world_laws.proofs.ServerPreserves.{server_few}
use Rattle.method_laws.proofs.TagsOfEnds.{tags_append}
use Rattle.server_machine.specs.ServerTable.{server_start}
use Rattle.world_laws.specs.Runs.{initial_world, run_of}

-- one more entry is in one of the four lists
one_longer : (end : End) (how : Use) (tag : TagRecord) (a b c d : List TagRecord) (whole : ℕ)
    → whole ≡ length a + length b + (length c + length d)
    → whole + 1
    ≡ length (if same_end end Peer && same_use how Accepted then tag ∷ a else a)
    + length (if same_end end Peer && same_use how Made then tag ∷ b else b)
    + (length (if same_end end Server && same_use how Accepted then tag ∷ c else c)
    + length (if same_end end Server && same_use how Made then tag ∷ d else d))
one_longer Peer Accepted tag a b c d whole sum = omega (arith, sum)
one_longer Peer Made tag a b c d whole sum = omega (arith, sum)
one_longer Server Accepted tag a b c d whole sum = omega (arith, sum)
one_longer Server Made tag a b c d whole sum = omega (arith, sum)

-- the four lists are the whole book
four_lists : (book : List Entry)
    → length book ≡ length (tags_by Peer Accepted book) + length (tags_by Peer Made book)
    + (length (tags_by Server Accepted book) + length (tags_by Server Made book))
unfolding tags_by
four_lists [] = refl
four_lists (e ∷ rest) =
    let sum = one_longer e.end e.used e.tag (tags_by Peer Accepted rest) (tags_by Peer Made rest)
    (tags_by Server Accepted rest) (tags_by Server Made rest)
    (length rest) (four_lists rest) in
    omega (arith, sum)

-- ---- the conversations of both ends

pub started_more : (end : End) (all : List ConversationStart) (b : ConversationStart)
    → initiated_by end (all ++ b ∷ []) ≡ initiated_by end all + one_of end b
unfolding initiated_by
started_more end [] b = omega arith
started_more end (first ∷ rest) b = omega (arith, started_more end rest b)

one_end : (end : End) (event : ℕ) (nonce : List ℕ)
    → one_of Peer (beginning event end nonce) + one_of Server (beginning event end nonce) ≡ 1
one_end Peer event nonce = refl
one_end Server event nonce = refl

-- each is of one end
both_ends : (all : List ConversationStart) → initiated_by Peer all + initiated_by Server all
    ≡ length all
unfolding initiated_by
both_ends [] = refl
both_ends (b ∷ rest) = omega (arith, both_ends rest, one_end b.end b.event b.nonce)

-- ---- every run

-- the tags of an end's earlier conversations are at most two a conversation
abbrev Earlier : WorldNow → Type 0
Earlier w = (end : End) (how : Use) → length (tags_by end how w.book) + 2
    ≤ 2 * initiated_by end w.conversations.begun + length (tags_by end how (present end w))

record FewSoFar (setup : Setup) (w : WorldNow) : Type 0 where
  pub so : InvariantSoFar setup w
  pub earlier : Earlier w

present_few : (setup : Setup) (w : WorldNow) → BothInvariants setup w → (end : End) (how : Use)
    → length (tags_by end how (present end w)) ≤ 2
present_few setup w both Peer Accepted =
    (peer_few _ w.parties.peer _ _ both.peer_invariant).few_accepted
present_few setup w both Peer Made =
    (peer_few _ w.parties.peer _ _ both.peer_invariant).few_produced
present_few setup w both Server Accepted =
    (server_few _ w.parties.server _ _ both.server_invariant).few_accepted
present_few setup w both Server Made =
    (server_few _ w.parties.server _ _ both.server_invariant).few_produced

-- where an end begins a new conversation, the tags of its present one become earlier ones
anew_few : (b : Bool) (end : End) (how : Use) (entries : List Entry) (all many : ℕ)
    → length (tags_by end how entries) ≤ 2
    → all + 2 ≤ 2 * many + length (tags_by end how entries)
    → all + 2
    ≤ 2 * (many + (if b then 1 else 0)) + length (tags_by end how (if b then [] else entries))
unfolding tags_by
anew_few true end how entries all many few was = omega (arith, few, was)
anew_few false end how entries all many few was = omega (arith, was)

books_few : (w after : WorldNow) → Dates w → ((end : End) (how : Use)
    → length (tags_by end how (present end w)) ≤ 2) → Books w after → Earlier w → Earlier after
books_few w after dates few (books_more more are counts book same) was end how =
    let all = ap (λ (entries : List Entry). length (tags_by end how entries)) book
    ∙ (ap length (tags_append end how w.book more)
    ∙ length-append (tags_by end how w.book) (tags_by end how more)) in
    let now = ap (λ (entries : List Entry). length (tags_by end how entries))
    (present_more w after dates more are counts book same end)
    ∙ (ap length (tags_append end how (present end w) more)
    ∙ length-append (tags_by end how (present end w)) (tags_by end how more)) in
    let many = ap (initiated_by end) same in
    omega (arith, was end how, all, now, many)
books_few w after dates few (starts_one own nonce counts book longer) was end how =
    let all = ap (λ (entries : List Entry). length (tags_by end how entries)) book in
    let now = ap (λ (entries : List Entry). length (tags_by end how entries))
    (present_anew w after dates own nonce counts book longer end) in
    let many = ap (initiated_by end) longer
    ∙ started_more end w.conversations.begun (beginning (w.counts.events + 1) own nonce) in
    let anew = anew_few (same_end own end) end how (present end w) (length (tags_by end how w.book))
    (initiated_by end w.conversations.begun) (few end how) (was end how) in
    omega (arith, anew, all, now, many)

steps_few : (setup : Setup) (w : WorldNow) (out : WorldOutcome) → Steps w out → FewSoFar setup w
    → FewSoFar setup out.after
steps_few setup w out steps was = record {
  so = step_invariant setup w out steps was.so;
  earlier = books_few w out.after was.so.dates (present_few setup w was.so.both)
      (steps_book w out steps) was.earlier;
}

first_started : (end : End) (peer server : List ℕ)
    → initiated_by end (beginning 0 Peer peer ∷ beginning 0 Server server ∷ []) ≡ 1
unfolding initiated_by
first_started Peer peer server = refl
first_started Server peer server = refl

start_earlier : (runs : Mode) (setup : Setup)
    → (let w = initial_world setup in Earlier (world_acted w 0 w.counts w.held w.conversations
    (act_of_call w.parties (start_call runs))).after)
unfolding server_start tags_by
start_earlier mode.Alone setup end how =
    omega (arith, first_started end setup.peer.nonce setup.server.nonce)
start_earlier mode.Through setup end how =
    omega (arith, first_started end setup.peer.nonce setup.server.nonce)

start_so_few : (setup : Setup) → FewSoFar setup (world_start (initial_world setup)).after
unfolding run_after world_start
start_so_few setup =
    record { so = every_run_so_far setup []; earlier = start_earlier setup.mode setup }

every_run_few : (setup : Setup) (events : List Event) → FewSoFar setup (run_of setup events)
every_run_few setup events = run_preserves (FewSoFar setup) (steps_few setup)
    (world_start (initial_world setup)).after events (start_so_few setup)

-- ---- the packets

sent_to_few : (port : Port) (sent : Option (List ℕ)) → length (sent_to port sent) ≤ 1
sent_to_few port None = omega arith
sent_to_few port (Some octets) = omega arith

sent_few : (action : Action) → length (sent_by action) ≤ 1
sent_few (Skipped skip) = omega arith
sent_few (Called did) = sent_to_few did.port did.step.sent

step_few : (w : WorldNow) (e : Event) → length (world_step w e).after.sent ≤ length w.sent + 1
unfolding world_step
step_few w e = let action = (act w.parties w.conversations w.sent e).action in
    omega (arith, length-append w.sent (sent_by action), sent_few action)

run_few : (w : WorldNow) (events : List Event) → length (run_after w events).sent
    ≤ length w.sent + length events
unfolding run_after
run_few w [] = omega arith
run_few w (e ∷ rest) = omega (arith, step_few w e, run_few (world_step w e).after rest)

start_few : (setup : Setup) → length (world_start (initial_world setup)).after.sent ≤ 1
unfolding world_start
start_few setup =
    sent_few (act_of_call (initial_world setup).parties (start_call setup.mode)).action

pub few_packets : FewPackets
few_packets setup events =
    omega (arith, run_few (world_start (initial_world setup)).after events, start_few setup)

pub few_tags : FewTags
few_tags setup events =
    let w = run_of setup events in
    let run = every_run_few setup events in
    let few = present_few setup w run.so.both in
    let each : (end : End) (how : Use) → length (tags_by end how w.book)
    ≤ 2 * initiated_by end w.conversations.begun =
    λ end how. omega (arith, run.earlier end how, few end how) in
    record {
      each = each;
      all = omega (
        arith,
        four_lists w.book,
        both_ends w.conversations.begun,
        each Peer Accepted,
        each Peer Made,
        each Server Accepted,
        each Server Made,
      );
    }
