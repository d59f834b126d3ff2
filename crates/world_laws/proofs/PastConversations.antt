-- What holds of the conversations of an end, past and present: the nonce of each, the other end's
-- nonce that it holds, its tags, and their order. One module for both ends.
use Rattle.std.proofs.Common.{◌≡◌, ℕ, ◌+◌, ◌≤◌, ◌<◌, Bool, true, List, [], ◌∷◌, ◌++◌, length}
use Rattle.std.proofs.Common.{Option, Some, None, refl, sym, ap, subst, ◌∙◌, arith, append_assoc}
use Rattle.std.proofs.Common.{append-nil, inl, inr}
use Rattle.std.specs.Prelude.{◌⊎◌}
use Rattle.eap_method.specs.declared.tags.TagRecord.{TagRecord}
use Rattle.tag_book.specs.Book.{same_end}
use Rattle.eap_world.specs.Conversations.{front, has_initiated, is_used}
use Rattle.method_laws.specs.Records.{IsIn, here, later}
use Rattle.tag_book.specs.declared.book.End.{End}
use Rattle.eap_world.specs.declared.conversations.ConversationStart.{ConversationStart}
use Rattle.eap_world.specs.declared.conversations.Waiting.{Waiting}
use Rattle.world_laws.proofs.NoncesLeft.{IsMarked, none_marked, now_started, now_used}
use Rattle.world_laws.proofs.NoncesLeft.{still_started, still_used, used_front}
use Rattle.method_laws.proofs.TagsOfEnds.{is_in_front}

-- ---- a record among joined lists

pub in_after : (t : TagRecord) (xs ys : List TagRecord) → IsIn t ys → IsIn t (xs ++ ys)
in_after t [] ys is = is
in_after t (x ∷ xs) ys is = later x (xs ++ ys) (in_after t xs ys is)

one_in : (t x : TagRecord) (xs ys zs : List TagRecord) → IsIn t zs → zs ≡ x ∷ (xs ++ ys)
    → (IsIn t (xs ++ ys) → IsIn t xs ⊎ IsIn t ys) → IsIn t (x ∷ xs) ⊎ IsIn t ys
one_in t x xs ys _ (here rest) e more =
    inl (let same : t ≡ x = cc in subst (λ (u : TagRecord). IsIn t (u ∷ xs)) same (here xs))
one_in t x xs ys _ (later other rest is) e more =
    elim (more (subst (λ (l : List TagRecord). IsIn t l) (let same : rest ≡ xs ++ ys = cc in same)
    is)) [ inl a ↦ inl (later x xs a) | inr b ↦ inr b ]

pub in_either : (t : TagRecord) (xs ys : List TagRecord) → IsIn t (xs ++ ys) → IsIn t xs ⊎ IsIn t ys
in_either t [] ys is = inr is
in_either t (x ∷ xs) ys is = one_in t x xs ys (x ∷ (xs ++ ys)) is refl (in_either t xs ys)

-- ---- conversations

-- the moment from which this end is looked at: the nonce of its present conversation, and since
-- which event it goes on, the same of the other end, whose nonces are left so
pub record Moment : Type 0 where
  pub of : End
  pub since : ℕ
  pub nonce : List ℕ
  pub other_since : ℕ
  pub other_nonce : List ℕ
  pub other_left : List Waiting
  pub begun : List ConversationStart
  pub fresh : Bool
  pub events : ℕ

-- a conversation that has ended: its nonce, the event in which the next one began, the nonce of the
-- other end that it held, and its tags
pub record PastConversation : Type 0 where
  pub nonce : List ℕ
  pub until : ℕ
  pub held : Option (List ℕ)
  pub accepted : List TagRecord
  pub made : List TagRecord

-- the conversation goes on
pub record Stays (m n : Moment) : Type 0 where
  pub of : n.of ≡ m.of
  pub since : n.since ≡ m.since
  pub nonce : n.nonce ≡ m.nonce
  pub other_since : n.other_since ≡ m.other_since
  pub other_nonce : n.other_nonce ≡ m.other_nonce
  pub begun : n.begun ≡ m.begun
  pub fresh : n.fresh ≡ m.fresh
  pub events : m.events ≤ n.events
  pub left : (held : Option (List ℕ)) → IsMarked m.other_left held → IsMarked n.other_left held

-- the end begins another
pub record StartsAt (m n : Moment) (b : ConversationStart) : Type 0 where
  pub of : n.of ≡ m.of
  pub own : same_end b.end m.of ≡ true
  pub since : n.since ≡ m.events + 1
  pub nonce : n.nonce ≡ b.nonce
  pub other_since : n.other_since ≡ m.other_since
  pub other_nonce : n.other_nonce ≡ m.other_nonce
  pub begun : n.begun ≡ m.begun ++ b ∷ []
  pub was_fresh : n.fresh ≡ true → m.fresh ≡ true
  pub unused : n.fresh ≡ true → is_used m.begun b.nonce ≡ true → ⊥
  pub events : n.events ≡ m.events + 1
  pub left : n.other_left ≡ m.other_left

-- the other end begins another
pub record OtherStarts (m n : Moment) (b : ConversationStart) : Type 0 where
  pub of : n.of ≡ m.of
  pub since : n.since ≡ m.since
  pub nonce : n.nonce ≡ m.nonce
  pub other_nonce : n.other_nonce ≡ b.nonce
  pub begun : n.begun ≡ m.begun ++ b ∷ []
  pub was_fresh : n.fresh ≡ true → m.fresh ≡ true
  pub unheard : n.fresh ≡ true → (held : Option (List ℕ)) → IsMarked m.other_left held
      → held ≡ Some (front b.nonce) → ⊥
  pub events : n.events ≡ m.events + 1
  pub left : (held : Option (List ℕ)) → IsMarked m.other_left held → IsMarked n.other_left held

-- what a conversation with this nonce tells: the nonce that it holds, its tags
module _ (Told : List ℕ → Option (List ℕ) → List TagRecord → List TagRecord → Type 0) where
  pub record Past (m : Moment) (k : PastConversation) : Type 0 where
    pub size : length k.nonce ≡ 32
    pub told : Told k.nonce k.held k.accepted k.made
    pub ended : k.until ≤ m.since
    pub used : is_used m.begun k.nonce ≡ true
    pub began : has_initiated m.of k.nonce m.begun ≡ true
    pub marked : IsMarked m.other_left k.held
    pub differs : m.fresh ≡ true → front k.nonce ≡ front m.nonce → ⊥
    -- one that holds the nonce of the other end's present conversation ended after that began
    pub later : m.fresh ≡ true → k.held ≡ Some (front m.other_nonce) → m.other_since < k.until

  -- all past conversations, with their tags in order
  pub data Pasts (m : Moment) : List TagRecord → List TagRecord → Type 0 where
    no_past : Pasts m [] []
    one_more : (accepted made : List TagRecord) (k : PastConversation)
        (earlier : Pasts m accepted made) (holds : Past m k)
        → Pasts m (accepted ++ k.accepted) (made ++ k.made)

  -- the present conversation, of which Now holds, and the past ones: their tags are all that the
  -- end accepted and made
  pub record Conversed (m : Moment) (Now : Option (List ℕ) → List TagRecord → List TagRecord
      → Type 0) (all_accepted all_produced : List TagRecord) : Type 0 where
    pub held : Option (List ℕ)
    pub accepted : List TagRecord
    pub made : List TagRecord
    pub past_accepted : List TagRecord
    pub past_created : List TagRecord
    pub now : Now held accepted made
    pub told : Told m.nonce held accepted made
    pub pasts : Pasts m past_accepted past_created
    pub accepted_is : all_accepted ≡ past_accepted ++ accepted
    pub made_is : all_produced ≡ past_created ++ made
    pub size : length m.nonce ≡ 32
    pub used : is_used m.begun m.nonce ≡ true
    pub began : has_initiated m.of m.nonce m.begun ≡ true
    pub since : m.since ≤ m.events
    pub marked : IsMarked m.other_left held

  map_pasts : (m n : Moment) → ((k : PastConversation) → Past m k → Past n k)
      → (accepted made : List TagRecord) → Pasts m accepted made → Pasts n accepted made
  map_pasts m n each _ _ no_past = no_past
  map_pasts m n each _ _ (one_more accepted made k earlier holds) =
      one_more accepted made k (map_pasts m n each accepted made earlier) (each k holds)

  -- ---- a call of this end, or of another party

  past_stays : (m n : Moment) → Stays m n → (k : PastConversation) → Past m k → Past n k
  past_stays m n s k p = record {
    size = p.size;
    told = p.told;
    ended = rw s.since p.ended;
    used = rw s.begun p.used;
    began = rw (s.of, s.begun) p.began;
    marked = s.left k.held p.marked;
    differs = rw (s.fresh, s.nonce) p.differs;
    later = rw (s.fresh, s.other_nonce, s.other_since) p.later;
  }

  pub goes_on : (m n : Moment) (Now Next : Option (List ℕ) → List TagRecord → List TagRecord
      → Type 0) → Stays m n
      → (all_accepted all_produced next_accepted next_made : List TagRecord)
      → (part : Conversed m Now all_accepted all_produced)
      → (held : Option (List ℕ)) (accepted made : List TagRecord)
      → Next held (part.accepted ++ accepted) (part.made ++ made)
      → Told m.nonce held (part.accepted ++ accepted) (part.made ++ made)
      → IsMarked n.other_left held
      → next_accepted ≡ all_accepted ++ accepted → next_made ≡ all_produced ++ made
      → Conversed n Next next_accepted next_made
  goes_on m n Now Next s all_accepted all_produced next_accepted next_made part held accepted made
      now told marked more_accepted more_made = record {
        held = held;
        accepted = part.accepted ++ accepted;
        made = part.made ++ made;
        past_accepted = part.past_accepted;
        past_created = part.past_created;
        now = now;
        told = rw s.nonce told;
        pasts = map_pasts m n (past_stays m n s) part.past_accepted part.past_created part.pasts;
        accepted_is = more_accepted ∙ (ap (λ (l : List TagRecord). l ++ accepted) part.accepted_is
            ∙ append_assoc part.past_accepted part.accepted accepted);
        made_is = more_made ∙ (ap (λ (l : List TagRecord). l ++ made) part.made_is
            ∙ append_assoc part.past_created part.made made);
        size = rw s.nonce part.size;
        used = rw (s.begun, s.nonce) part.used;
        began = rw (s.of, s.begun, s.nonce) part.began;
        since = rw s.since (omega (arith, part.since, s.events));
        marked = marked;
      }

  -- another party acts
  pub stays_on : (m n : Moment) (Now Next : Option (List ℕ) → List TagRecord → List TagRecord
      → Type 0) → Stays m n
      → ((held : Option (List ℕ)) (accepted made : List TagRecord) → Now held accepted made
      → Next held accepted made)
      → (all_accepted all_produced next_accepted next_made : List TagRecord)
      → Conversed m Now all_accepted all_produced
      → next_accepted ≡ all_accepted → next_made ≡ all_produced
      → Conversed n Next next_accepted next_made
  stays_on m n Now Next s each all_accepted all_produced next_accepted next_made part same_accepted
      same_made = record {
        held = part.held;
        accepted = part.accepted;
        made = part.made;
        past_accepted = part.past_accepted;
        past_created = part.past_created;
        now = each part.held part.accepted part.made part.now;
        told = rw s.nonce part.told;
        pasts = map_pasts m n (past_stays m n s) part.past_accepted part.past_created part.pasts;
        accepted_is = same_accepted ∙ part.accepted_is;
        made_is = same_made ∙ part.made_is;
        size = rw s.nonce part.size;
        used = rw (s.begun, s.nonce) part.used;
        began = rw (s.of, s.begun, s.nonce) part.began;
        since = rw s.since (omega (arith, part.since, s.events));
        marked = s.left part.held part.marked;
      }

  -- ---- this end begins another

  past_starts : (m n : Moment) (b : ConversationStart) → StartsAt m n b → m.since ≤ m.events
      → (k : PastConversation) → Past m k → Past n k
  past_starts m n b s began k p = record {
    size = p.size;
    told = p.told;
    ended = rw s.since (omega (arith, p.ended, began));
    used = rw s.begun (still_used m.begun b k.nonce p.used);
    began = rw (s.of, s.begun) (still_started m.of m.begun b k.nonce p.began);
    marked = rw s.left p.marked;
    differs = λ fresh same. s.unused fresh
        (sym (used_front m.begun k.nonce b.nonce (same ∙ ap front s.nonce)) ∙ p.used);
    later = λ fresh is_held. rw s.other_since
        (p.later (s.was_fresh fresh) (is_held ∙ ap (λ (x : List ℕ). Some (front x)) s.other_nonce));
  }

  pub starts_another : (m n : Moment) (Now Next : Option (List ℕ) → List TagRecord → List TagRecord
      → Type 0) (b : ConversationStart) → StartsAt m n b
      → length b.nonce ≡ 32 → m.other_since ≤ m.events
      → (all_accepted all_produced : List TagRecord) → Conversed m Now all_accepted all_produced
      → Next None [] [] → Told b.nonce None [] []
      → Conversed n Next all_accepted all_produced
  starts_another m n Now Next b s size other_began all_accepted all_produced part now told =
      let k : PastConversation = record {
        nonce = m.nonce;
        until = m.events + 1;
        held = part.held;
        accepted = part.accepted;
        made = part.made;
      } in
      let holds : Past n k = record {
        size = part.size;
        told = part.told;
        ended = rw s.since (omega arith);
        used = rw s.begun (still_used m.begun b m.nonce part.used);
        began = rw (s.of, s.begun) (still_started m.of m.begun b m.nonce part.began);
        marked = rw s.left part.marked;
        differs = λ fresh same. s.unused fresh
            (sym (used_front m.begun m.nonce b.nonce (same ∙ ap front s.nonce)) ∙ part.used);
        later = λ fresh is_held. rw s.other_since (omega (arith, other_began));
      } in
      record {
        held = None;
        accepted = [];
        made = [];
        past_accepted = part.past_accepted ++ part.accepted;
        past_created = part.past_created ++ part.made;
        now = now;
        told = rw s.nonce told;
        pasts = one_more part.past_accepted part.past_created k (map_pasts m n
            (past_starts m n b s part.since) part.past_accepted part.past_created part.pasts) holds;
        accepted_is = part.accepted_is ∙ sym (append-nil (part.past_accepted ++ part.accepted));
        made_is = part.made_is ∙ sym (append-nil (part.past_created ++ part.made));
        size = rw s.nonce size;
        used = rw (s.begun, s.nonce) (now_used m.begun b);
        began = rw (s.of, s.begun, s.nonce) (now_started m.of m.begun b s.own);
        since = rw (s.since, s.events) (omega arith);
        marked = none_marked n.other_left;
      }

  -- ---- the other end begins another

  past_other : (m n : Moment) (b : ConversationStart) → OtherStarts m n b → (k : PastConversation)
      → Past m k → Past n k
  past_other m n b s k p = record {
    size = p.size;
    told = p.told;
    ended = rw s.since p.ended;
    used = rw s.begun (still_used m.begun b k.nonce p.used);
    began = rw (s.of, s.begun) (still_started m.of m.begun b k.nonce p.began);
    marked = s.left k.held p.marked;
    differs = λ fresh. rw s.nonce (p.differs (s.was_fresh fresh));
    later = λ fresh is_held. absurd (s.unheard fresh k.held p.marked
        (is_held ∙ ap (λ (x : List ℕ). Some (front x)) s.other_nonce));
  }

  pub other_starts : (m n : Moment) (Now : Option (List ℕ) → List TagRecord → List TagRecord
      → Type 0) (b : ConversationStart) → OtherStarts m n b
      → (all_accepted all_produced : List TagRecord) → Conversed m Now all_accepted all_produced
      → Conversed n Now all_accepted all_produced
  other_starts m n Now b s all_accepted all_produced part = record {
    held = part.held;
    accepted = part.accepted;
    made = part.made;
    past_accepted = part.past_accepted;
    past_created = part.past_created;
    now = part.now;
    told = rw s.nonce part.told;
    pasts = map_pasts m n (past_other m n b s) part.past_accepted part.past_created part.pasts;
    accepted_is = part.accepted_is;
    made_is = part.made_is;
    size = rw s.nonce part.size;
    used = rw (s.begun, s.nonce) (still_used m.begun b m.nonce part.used);
    began = rw (s.of, s.begun, s.nonce) (still_started m.of m.begun b m.nonce part.began);
    since = rw (s.since, s.events) (omega (arith, part.since));
    marked = s.left part.held part.marked;
  }

  -- ---- where a tag comes from

  -- a past conversation made it
  pub record FromPast (m : Moment) (past_accepted past_created : List TagRecord)
      (t : TagRecord) : Type 0 where
    pub conversation : PastConversation
    pub holds : Past m conversation
    pub is_made : IsIn t conversation.made
    pub listed : (r : TagRecord) → IsIn r conversation.accepted → IsIn r past_accepted
    pub listed_created : (r : TagRecord) → IsIn r conversation.made → IsIn r past_created

  created_before : (m : Moment) (accepted made : List TagRecord) → Pasts m accepted made
      → (t : TagRecord) → IsIn t made → FromPast m accepted made t
  created_before m _ _ no_past t is = elim is [ ]
  created_before m _ _ (one_more accepted made k earlier holds) t is =
      elim (in_either t made k.made is) [
        | inl before ↦ let f = created_before m accepted made earlier t before in
            record {
              conversation = f.conversation;
              holds = f.holds;
              is_made = f.is_made;
              listed = λ r own. is_in_front r accepted k.accepted (f.listed r own);
              listed_created = λ r own. is_in_front r made k.made (f.listed_created r own);
            }
        | inr now ↦ record {
          conversation = k;
          holds = holds;
          is_made = now;
          listed = λ r own. in_after r accepted k.accepted own;
          listed_created = λ r own. in_after r made k.made own;
        }
      ]

  pub where_created : (m : Moment) (Now : Option (List ℕ) → List TagRecord → List TagRecord
      → Type 0) (all_accepted all_produced : List TagRecord)
      → (part : Conversed m Now all_accepted all_produced) → (t : TagRecord) → IsIn t all_produced
      → IsIn t part.made ⊎ FromPast m part.past_accepted part.past_created t
  where_created m Now all_accepted all_produced part t is =
      elim (in_either t part.past_created part.made
      (subst (λ (l : List TagRecord). IsIn t l) part.made_is is)) [
        | inl before ↦
            inr (created_before m part.past_accepted part.past_created part.pasts t before)
        | inr now ↦ inl now
      ]

  -- what a conversation accepted is among all that the end accepted
  pub accepted_now : (m : Moment) (Now : Option (List ℕ) → List TagRecord → List TagRecord → Type 0)
      (all_accepted all_produced : List TagRecord)
      → (part : Conversed m Now all_accepted all_produced) → (t : TagRecord) → IsIn t part.accepted
      → IsIn t all_accepted
  accepted_now m Now all_accepted all_produced part t is =
      subst (λ (l : List TagRecord). IsIn t l) (sym part.accepted_is)
      (in_after t part.past_accepted part.accepted is)

  pub accepted_before : (m : Moment) (Now : Option (List ℕ) → List TagRecord → List TagRecord
      → Type 0) (all_accepted all_produced : List TagRecord)
      → (part : Conversed m Now all_accepted all_produced) → (t : TagRecord)
      → IsIn t part.past_accepted → IsIn t all_accepted
  accepted_before m Now all_accepted all_produced part t is =
      subst (λ (l : List TagRecord). IsIn t l) (sym part.accepted_is)
      (is_in_front t part.past_accepted part.accepted is)
