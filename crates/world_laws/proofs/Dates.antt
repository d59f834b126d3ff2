-- Each entry of the book is of an event that has been, and those after the event in which an end's
-- present conversation began are that conversation's.
use Rattle.std.proofs.Common.{◌≡◌, ◌≤◌, ◌<◌, ◌+◌, ℕ, Bool, true, false, List, [], ◌∷◌, ◌++◌, length}
use Rattle.std.proofs.Common.{map, All, refl, sym, ap, subst, ◌∙◌, arith, append-nil, length-append}
use Rattle.std.specs.Prelude.{if◌then◌else◌, nat_lt}
use Rattle.std.proofs.lemmas.Bool.{cond-true, cond-false, lt-ltb, le-ltb}
use Rattle.std.proofs.lemmas.List.Elements.{All-nil, All-cons, All-head, All-tail, All-weaker}
use Rattle.std.proofs.lemmas.List.Elements.{All-append, filter-append}
use Rattle.eap_method.specs.Tags.{Tags, no_tags}
use Rattle.eap_method.specs.declared.tags.TagRecord.{TagRecord}
use Rattle.peer_machine.specs.Inputs.{peer_accepts}
use Rattle.server_machine.specs.Inputs.{server_accepts}
use Rattle.tag_book.specs.Book.{entries_of, entry, same_end}
use Rattle.eap_world.specs.Conversations.{beginning, since_from, since_of}
use Rattle.method_laws.specs.Records.{is_after, since}
use Rattle.eap_world.specs.World.{WorldNow, WorldOutcome, call_octets, to_pass, to_peer, to_server}
use Rattle.tag_book.specs.declared.book.End.{End}
use Rattle.tag_book.specs.declared.book.End.TheVariants as end
use Rattle.tag_book.specs.declared.book.Entry.{Entry}
use Rattle.tag_book.specs.declared.book.Use.{Use}
use Rattle.tag_book.specs.declared.book.Use.TheVariants.{Accepted, Made}
use Rattle.eap_world.specs.declared.conversations.ConversationStart.{ConversationStart}
use Rattle.world_laws.proofs.Acting.{Steps, skips, calls, peer_restarts, server_restarts}
use Rattle.world_laws.proofs.Acting.{still_started}
use Rattle.world_laws.proofs.PeerPreserves.{peer_tags_none}
use Rattle.world_laws.proofs.ServerPreserves.{server_tags_none}

-- ---- entries by their events

abbrev pub IsOf : ℕ → Entry → Type 0
IsOf event e = e.event ≡ event

mapped_of : (event : ℕ) (of : End) (how : Use) (tags : List TagRecord)
    → All (IsOf event) (map (entry event of how) tags)
mapped_of event of how [] = All-nil (IsOf event)
mapped_of event of how (tag ∷ rest) = All-cons (IsOf event) _ _ refl (mapped_of event of how rest)

-- what is booked in an event is of it
pub booked_of_event : (event : ℕ) (of : End) (tags : Tags)
    → All (IsOf event) (entries_of event of tags)
booked_of_event event of tags =
    All-append (IsOf event) (map (entry event of Accepted) tags.accepted)
    (map (entry event of Made) tags.made) (mapped_of event of Accepted tags.accepted)
    (mapped_of event of Made tags.made)

none_since : (event : ℕ) (book : List Entry) → All (λ (e : Entry). e.event ≤ event) book
    → since event book ≡ []
none_since event [] all = refl
none_since event (e ∷ rest) all =
    let Past : Entry → Type 0 = λ (e : Entry). e.event ≤ event in
    cond-false (nat_lt event e.event) _ _ (le-ltb event e.event (All-head Past e rest all))
    ∙ none_since event rest (All-tail Past e rest all)

pub all_since : (event : ℕ) (book : List Entry) → All (λ (e : Entry). event < e.event) book
    → since event book ≡ book
all_since event [] all = refl
all_since event (e ∷ rest) all =
    let Later : Entry → Type 0 = λ (e : Entry). event < e.event in
    cond-true (nat_lt event e.event) _ _ (lt-ltb event e.event (All-head Later e rest all))
    ∙ ap (λ (xs : List Entry). e ∷ xs) (all_since event rest (All-tail Later e rest all))

since_more : (event last : ℕ) (book more : List Entry) → event ≤ last → All (IsOf (last + 1)) more
    → since event (book ++ more) ≡ since event book ++ more
since_more event last book more past are =
    filter-append (is_after event) book more
    ∙ ap (λ (xs : List Entry). since event book ++ xs)
    (all_since event more (All-weaker (IsOf (last + 1)) (λ (e : Entry). event < e.event)
    (λ e is. omega (arith, is, past)) more are))

since_either : (b : Bool) (last event : ℕ) (book : List Entry)
    → All (λ (e : Entry). e.event ≤ last) book
    → since (if b then last else event) book ≡ (if b then [] else since event book)
since_either true last event book past = none_since last book past
since_either false last event book past = refl

-- ---- the event in which a conversation began

pub since_started : (last : ℕ) (of : End) (all : List ConversationStart) (b : ConversationStart)
    → since_from last of (all ++ b ∷ [])
    ≡ (if same_end b.end of then b.event else since_from last of all)
unfolding since_from
since_started last of [] b = refl
since_started last of (first ∷ rest) b =
    since_started (if same_end first.end of then first.event else last) of rest b

at_most : (b : Bool) (last event : ℕ) → event ≤ last → (if b then last else event) ≤ last
at_most true last event past = omega arith
at_most false last event past = past

-- ---- the events of a run

pub record IsDated (events : ℕ) (e : Entry) : Type 0 where
  pub later : 1 ≤ e.event
  pub past : e.event ≤ events

-- in every run
pub record Dates (w : WorldNow) : Type 0 where
  pub dated : All (IsDated w.counts.events) w.book
  pub begun : (of : End) → since_of of w.conversations.begun ≤ w.counts.events
  pub many : 2 ≤ length w.conversations.begun

-- the entries of an end's present conversation
abbrev pub present : End → WorldNow → List Entry
present of w = since (since_of of w.conversations.begun) w.book

-- what a step does to the book and to the conversations: they go on, or an end begins a new one and
-- books nothing
pub data Books (w after : WorldNow) : Type 0 where
  books_more : (more : List Entry) (are : All (IsOf (w.counts.events + 1)) more)
      (counts : after.counts.events ≡ w.counts.events + 1)
      (book : after.book ≡ w.book ++ more)
      (same : after.conversations.begun ≡ w.conversations.begun) → Books w after
  starts_one : (own : End) (nonce : List ℕ) (counts : after.counts.events ≡ w.counts.events + 1)
      (book : after.book ≡ w.book) (longer : after.conversations.begun
      ≡ w.conversations.begun ++ beginning (w.counts.events + 1) own nonce ∷ []) → Books w after

pub untagged : (book : List Entry) (event : ℕ) (of : End) (tags : Tags) → tags ≡ no_tags
    → book ++ entries_of event of tags ≡ book
untagged book event of tags none =
    ap (λ (t : Tags). book ++ entries_of event of t) none ∙ append-nil book

pub steps_book : (w : WorldNow) (out : WorldOutcome) → Steps w out → Books w out.after
steps_book w _ (skips skip) =
    books_more [] (All-nil (IsOf (w.counts.events + 1))) refl (sym (append-nil w.book)) refl
steps_book w _ (calls (to_peer input) later same) =
    books_more _ (booked_of_event (w.counts.events + 1) end.Peer
    (peer_accepts w.parties.peer input).step.tags) refl refl
    (still_started w.conversations (call_octets (to_peer input)))
steps_book w _ (calls (to_server input) later same) =
    books_more _ (booked_of_event (w.counts.events + 1) end.Server
    (server_accepts w.parties.server input).step.tags) refl refl
    (still_started w.conversations (call_octets (to_server input)))
steps_book w _ (calls (to_pass input) later same) =
    books_more [] (All-nil (IsOf (w.counts.events + 1))) refl refl
    (still_started w.conversations (call_octets (to_pass input)))
steps_book w _ (peer_restarts one left next) =
    starts_one end.Peer one.nonce refl (untagged w.book (w.counts.events + 1) end.Peer _
    (peer_tags_none w.parties.peer one.nonce)) refl
steps_book w _ (server_restarts one left next) =
    starts_one end.Server one.nonce refl (untagged w.book (w.counts.events + 1) end.Server _
    (server_tags_none w.parties.server one.nonce)) refl

module _ (w after : WorldNow) (was : Dates w) where
  -- the conversations go on
  module _ (more : List Entry) (are : All (IsOf (w.counts.events + 1)) more)
      (counts : after.counts.events ≡ w.counts.events + 1)
      (book : after.book ≡ w.book ++ more)
      (same : after.conversations.begun ≡ w.conversations.begun) where
    pub present_more : (of : End) → present of after ≡ present of w ++ more
    present_more of =
        ap (λ (entries : List Entry). since (since_of of after.conversations.begun) entries) book
        ∙ (ap (λ (all : List ConversationStart). since (since_of of all) (w.book ++ more)) same
        ∙ since_more (since_of of w.conversations.begun) w.counts.events w.book more
        (was.begun of) are)

    dates_more : Dates after
    dates_more = record {
      dated = subst (λ (entries : List Entry). All (IsDated after.counts.events) entries) (sym book)
          (All-append (IsDated after.counts.events) w.book more
          (All-weaker (IsDated w.counts.events) (IsDated after.counts.events)
          (λ e d. record { later = d.later; past = omega (arith, d.past, counts) })
          w.book was.dated) (All-weaker (IsOf (w.counts.events + 1)) (IsDated after.counts.events)
          (λ e is. record { later = omega (arith, is); past = omega (arith, is, counts) })
          more are));
      begun = λ of.
          (let since_is = ap (since_of of) same in omega (arith, was.begun of, counts, since_is));
      many = (let size = ap length same in omega (arith, was.many, size));
    }

  -- an end begins a new one
  module _ (own : End) (nonce : List ℕ) (counts : after.counts.events ≡ w.counts.events + 1)
      (book : after.book ≡ w.book) (longer : after.conversations.begun
      ≡ w.conversations.begun ++ beginning (w.counts.events + 1) own nonce ∷ []) where
    since_is : (of : End) → since_of of after.conversations.begun
        ≡ (if same_end own of then w.counts.events + 1 else since_of of w.conversations.begun)
    since_is of = ap (since_of of) longer
        ∙ since_started 0 of w.conversations.begun (beginning (w.counts.events + 1) own nonce)

    -- of which there is nothing yet
    pub present_anew : (of : End)
        → present of after ≡ (if same_end own of then [] else present of w)
    present_anew of =
        ap (λ (entries : List Entry). since (since_of of after.conversations.begun) entries) book
        ∙ (ap (λ (event : ℕ). since event w.book) (since_is of)
        ∙ since_either (same_end own of) (w.counts.events + 1)
        (since_of of w.conversations.begun) w.book
        (All-weaker (IsDated w.counts.events) (λ (e : Entry). e.event ≤ w.counts.events + 1)
        (λ e d. omega (arith, d.past)) w.book was.dated))

    pub one_longer : length after.conversations.begun ≡ length w.conversations.begun + 1
    one_longer = ap length longer
        ∙ length-append w.conversations.begun (beginning (w.counts.events + 1) own nonce ∷ [])

    dates_anew : Dates after
    dates_anew = record {
      dated = subst (λ (entries : List Entry). All (IsDated after.counts.events) entries) (sym book)
          (All-weaker (IsDated w.counts.events) (IsDated after.counts.events)
          (λ e d. record { later = d.later; past = omega (arith, d.past, counts) })
          w.book was.dated);
      begun = λ of.
          (let is = since_is of in
          let most = at_most (same_end own of) (w.counts.events + 1)
          (since_of of w.conversations.begun) (omega (arith, was.begun of)) in
          omega (arith, is, most, counts));
      many = (let size = one_longer in omega (arith, was.many, size));
    }

pub books_date : (w after : WorldNow) → Dates w → Books w after → Dates after
books_date w after was (books_more more are counts book same) =
    dates_more w after was more are counts book same
books_date w after was (starts_one own nonce counts book longer) =
    dates_anew w after was own nonce counts book longer
