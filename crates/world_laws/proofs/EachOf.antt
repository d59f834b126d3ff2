-- What holds of all conversations of an end in a run, by what holds of each event: one section for
-- both ends.
use Rattle.std.proofs.Common.{◌≡◌, ℕ, Bool, true, false, List, [], ◌∷◌, ◌++◌, length, drop, map}
use Rattle.std.proofs.Common.{Option, Some, refl, sym, ap, subst, ◌∙◌, append_assoc, append-nil}
use Rattle.std.proofs.Common.{inl, inr}
use Rattle.std.specs.Prelude.{if◌then◌else◌}
use Rattle.std.proofs.lemmas.List.{drop_at}
use Rattle.login_setup.specs.declared.event.Event.{Event}
use Rattle.eap_method.specs.declared.tags.TagRecord.{TagRecord}
use Rattle.eap_world.specs.Conversations.{Conversations, front, is_used}
use Rattle.world_laws.specs.EachConversation.{AreTwoOf, Conversation, IsOneOf, all_accepted}
use Rattle.world_laws.specs.EachConversation.{all_produced, starts_another, conversations_along}
use Rattle.world_laws.specs.EachConversation.{last_now, moments, nonces_of, present_one}
use Rattle.method_laws.specs.Records.{tags_by}
use Rattle.eap_world.specs.World.{WorldNow, run_after, world_step}
use Rattle.tag_book.specs.declared.book.End.{End}
use Rattle.tag_book.specs.declared.book.Entry.{Entry}
use Rattle.tag_book.specs.declared.book.Use.TheVariants.{Accepted, Made}
use Rattle.world_laws.proofs.NoncesLeft.{used_front}
use Rattle.world_laws.proofs.OneOf.{one_parts, two_parts}
use Rattle.method_laws.proofs.TagsOfEnds.{tags_append}

-- nonces stay used, and a run that is fresh was so before
pub record Grows (before after : Conversations) : Type 0 where
  pub used : (n : List ℕ) → is_used before.begun n ≡ true → is_used after.begun n ≡ true
  pub fresh : after.fresh ≡ true → before.fresh ≡ true

-- where an end stands, its nonce there, and what holds of it with the tags that it has accepted and
-- made in a conversation
module _ {N : Type 0} (at : WorldNow → N) (of : End) (nonce : N → List ℕ)
    (OccursInMessage : N → List TagRecord → List TagRecord → Type 0) where
  abbrev pub Now : WorldNow → List Entry → Type 0
  Now a part = OccursInMessage (at a) (tags_by of Accepted part) (tags_by of Made part)

  abbrev pub Nonces : WorldNow → List (List ℕ)
  Nonces a = nonces_of of a.conversations.begun

  -- what an event does to the conversations of an end: the present one goes on, or the next one
  -- begins
  pub data Turns (a b : WorldNow) : Bool → Type 0 where
    goes : (more : List Entry) (book : b.book ≡ a.book ++ more)
        (stands : (part : List Entry) → Now a part → Now b (part ++ more))
        (same : nonce (at b) ≡ nonce (at a)) (listed : Nonces b ≡ Nonces a) → Turns a b false
    starts_next : (book : b.book ≡ a.book) (stands : OccursInMessage (at b) [] [])
        (unused : b.conversations.fresh ≡ true
        → is_used a.conversations.begun (nonce (at b)) ≡ true → ⊥)
        (listed : Nonces b ≡ Nonces a ++ nonce (at b) ∷ []) → Turns a b true

  -- each of these has a nonce whose front was not used at this moment
  pub record AreNew (a : WorldNow) (all : List (Conversation N)) : Type 0 where
    pub each : (k : Conversation N) → IsOneOf k all → (n : List ℕ) → is_used a.conversations.begun n
        ≡ true → front (nonce k.now) ≡ front n → ⊥

  -- the conversations from the present one on, where the book stood so before that began, and the
  -- run ends so
  pub record Told (a : WorldNow) (before : List Entry) (last : WorldNow)
      (all : List (Conversation N)) : Type 0 where
    pub head : Conversation N
    pub rest : List (Conversation N)
    pub list : all ≡ head ∷ rest
    pub head_nonce : nonce head.now ≡ nonce (at a)
    pub fresh : last.conversations.fresh ≡ true → a.conversations.fresh ≡ true
    pub new : last.conversations.fresh ≡ true → AreNew a rest
    pub two : last.conversations.fresh ≡ true → (k l : Conversation N) → AreTwoOf k l all
        → front (nonce k.now) ≡ front (nonce l.now) → ⊥
    pub stand : (k : Conversation N) → IsOneOf k all → OccursInMessage k.now k.accepted k.made
    pub booked : List Entry
    pub book : last.book ≡ before ++ booked
    pub accepted : tags_by of Accepted booked ≡ all_accepted all
    pub made : tags_by of Made booked ≡ all_produced all
    pub nonces : (earlier : List (List ℕ)) → Nonces a ≡ earlier ++ nonce (at a) ∷ []
        → Nonces last ≡ earlier ++ map (λ (k : Conversation N). nonce k.now) all
    pub ends : (o : Option N) → last_now o all ≡ Some (at last)

  same_front : (k l : Conversation N) → k ≡ l → front (nonce k.now) ≡ front (nonce l.now)
  same_front k l e = ap (λ (c : Conversation N). front (nonce c.now)) e

  cut : (before part book : List Entry) (from : ℕ) → book ≡ before ++ part → length before ≡ from
      → drop from book ≡ part
  cut before part book from split is = ap (drop from) split ∙ drop_at before part from is

  own_occurs : (a : WorldNow) (from : ℕ) (part : List Entry) → drop from a.book ≡ part → Now a part
      → (k : Conversation N) → k ≡ present_one at of a from
      → OccursInMessage k.now k.accepted k.made
  own_occurs a from part is now k e =
      subst (λ (c : Conversation N). OccursInMessage c.now c.accepted c.made) (sym e)
      (subst (λ (l : List Entry). Now a l) (sym is) now)

  -- the present conversation is the last one
  only_one : (a : WorldNow) (from : ℕ) (before part : List Entry) → a.book ≡ before ++ part
      → length before ≡ from → Now a part
      → Told a before a (present_one at of a from ∷ [])
  unfolding all_accepted all_produced last_now
  only_one a from before part split is now =
      let own = present_one at of a from in
      let is_part = cut before part a.book from split is in
      record {
        head = own;
        rest = [];
        list = refl;
        head_nonce = refl;
        fresh = λ f. f;
        new = λ f. record { each = λ k is_one. elim is_one [ ] };
        two = λ f k l are.
            elim (two_parts k l own [] _ are refl) [
              | inl p ↦ elim p.1 [ ]
              | inr there ↦ elim there [ ]
            ];
        stand = λ k is_one.
            elim (one_parts k own [] _ is_one refl) [
              | inl e ↦ own_occurs a from part is_part now k e
              | inr there ↦ elim there [ ]
            ];
        booked = part;
        book = split;
        accepted = ap (tags_by of Accepted) (sym is_part) ∙ sym (append-nil own.accepted);
        made = ap (tags_by of Made) (sym is_part) ∙ sym (append-nil own.made);
        nonces = λ earlier e. e;
        ends = λ o. refl;
      }

  -- the next one begins
  module _ (a b last : WorldNow) (from : ℕ) (before part : List Entry)
      (next : List (Conversation N)) (t : Told b a.book last next)
      (grows : Grows a.conversations b.conversations) (split : a.book ≡ before ++ part)
      (is : length before ≡ from) (now : Now a part)
      (used : is_used a.conversations.begun (nonce (at a)) ≡ true)
      (unused : b.conversations.fresh ≡ true
      → is_used a.conversations.begun (nonce (at b)) ≡ true → ⊥)
      (listed : Nonces b ≡ Nonces a ++ nonce (at b) ∷ []) where
    are_new : last.conversations.fresh ≡ true → AreNew a next
    are_new f = record {
      each = λ k is_one n was same.
          elim (one_parts k t.head t.rest next is_one t.list) [
            | inl e ↦ unused (t.fresh f)
                (used_front a.conversations.begun (nonce
                (at b)) n (sym (same_front k t.head e ∙ ap front t.head_nonce) ∙ same) ∙ was)
            | inr there ↦ (t.new f).each k there n (grows.used n was) same
          ];
    }

    one_before : Told a before last (present_one at of a from ∷ next)
    unfolding all_accepted all_produced last_now
    one_before =
        let own = present_one at of a from in
        let is_part = cut before part a.book from split is in
        record {
          head = own;
          rest = next;
          list = refl;
          head_nonce = refl;
          fresh = λ f. grows.fresh (t.fresh f);
          new = are_new;
          two = λ f k l are same.
              elim (two_parts k l own next _ are refl) [
                | inl p ↦ (are_new f).each l p.1 (nonce (at a)) used
                    (sym same ∙ same_front k own p.0)
                | inr there ↦ t.two f k l there same
              ];
          stand = λ k is_one.
              elim (one_parts k own next _ is_one refl) [
                | inl e ↦ own_occurs a from part is_part now k e
                | inr there ↦ t.stand k there
              ];
          booked = part ++ t.booked;
          book = t.book
              ∙ (ap (λ (l : List Entry). l ++ t.booked) split ∙ append_assoc before part t.booked);
          accepted = tags_append of Accepted part t.booked
              ∙ (ap (λ (l : List Entry). tags_by of Accepted l ++ tags_by of Accepted t.booked)
              (sym is_part)
              ∙ ap (λ (l : List TagRecord). own.accepted ++ l) t.accepted);
          made = tags_append of Made part t.booked
              ∙ (ap (λ (l : List Entry). tags_by of Made l ++ tags_by of Made t.booked) (sym
              is_part) ∙ ap (λ (l : List TagRecord). own.made ++ l) t.made);
          nonces = λ earlier e.
              (t.nonces (earlier ++ nonce (at a) ∷ [])
              (listed ∙ ap (λ (l : List (List ℕ)). l ++ nonce (at b) ∷ []) e)
              ∙ append_assoc earlier (nonce (at a) ∷ [])
              (map (λ (k : Conversation N). nonce k.now) next));
          ends = λ o. t.ends (Some (at a));
        }

  by_turn : (test : Bool) (a b last : WorldNow) (from : ℕ) (before part : List Entry)
      (next : ℕ → List (Conversation N)) → Turns a b test
      → Grows a.conversations b.conversations → a.book ≡ before ++ part → length before ≡ from
      → Now a part
      → is_used a.conversations.begun (nonce (at a)) ≡ true
      → ((start : ℕ) (earlier piece : List Entry) → b.book ≡ earlier ++ piece
      → length earlier ≡ start → Now b piece → Told b earlier last (next start))
      → Told a before last
      (if test then present_one at of a from ∷ next (length a.book) else next from)
  unfolding tags_by
  by_turn _ a b last from before part next (goes more book stands same listed)
      grows split is now used each =
      let t = each from before (part ++ more) (book ∙ (ap (λ (l : List Entry). l ++ more) split
      ∙ append_assoc before part more)) is (stands part now) in
      record {
        head = t.head;
        rest = t.rest;
        list = t.list;
        head_nonce = t.head_nonce ∙ same;
        fresh = λ f. grows.fresh (t.fresh f);
        new = λ f. record { each = λ k is_one n was. (t.new f).each k is_one n (grows.used n was) };
        two = t.two;
        stand = t.stand;
        booked = t.booked;
        book = t.book;
        accepted = t.accepted;
        made = t.made;
        nonces = λ earlier e. t.nonces earlier
            (listed ∙ (e ∙ ap (λ (n : List ℕ). earlier ++ n ∷ []) (sym same)));
        ends = t.ends;
      }
  by_turn _ a b last from before part next (starts_next book stands unused listed)
      grows split is now used each =
      let t = each (length a.book) a.book [] (book ∙ sym (append-nil a.book)) refl stands in
      one_before a b last from before part (next (length a.book))
      t grows split is now used unused listed

  module _ (Good : WorldNow → Type 0)
      (turns : (a : WorldNow) (e : Event) → Good a
      → Turns a (world_step a e).after (starts_another of a (world_step a e).after))
      (grow : (a : WorldNow) (e : Event)
      → Grows a.conversations (world_step a e).after.conversations)
      (keeps : (a : WorldNow) (e : Event) → Good a → Good (world_step a e).after)
      (used : (a : WorldNow) → Good a → is_used a.conversations.begun (nonce (at a)) ≡ true) where
    pub walk : (a : WorldNow) (events : List Event) (from : ℕ) (before part : List Entry) → Good a
        → a.book ≡ before ++ part → length before ≡ from
        → Now a part
        → Told a before (run_after a events) (conversations_along at of a from (moments a events))
    unfolding conversations_along moments run_after
    walk a [] from before part good split is now = only_one a from before part split is now
    walk a (e ∷ rest) from before part good split is now =
        let b = (world_step a e).after in
        by_turn (starts_another of a b) a b (run_after b rest) from before part
        (λ (n : ℕ). conversations_along at of b n (moments b rest))
        (turns a e good) (grow a e) split is now (used a good)
        (λ start earlier piece split_there is_there now_there. walk b rest start earlier piece
        (keeps a e good) split_there is_there now_there)
