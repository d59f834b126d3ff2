-- The entries of a run's book are right MACs of its conversations, and a book that isn't honest
-- shows one that was not computed before.
use Rattle.std.proofs.Common.{◌≡◌, ℕ, Bool, true, false, cond, List, [], ◌∷◌, ◌++◌, Some, None}
use Rattle.std.proofs.Common.{refl, sym, ap, subst, ◌∙◌, append_assoc, append-nil, inl, inr}
use Rattle.std.specs.Prelude.{not, ◌&&◌, ◌⊎◌, if◌then◌else◌}
use Rattle.std.specs.List.{list_any}
use Rattle.std.proofs.lemmas.Bool.{and_from, or_left, or_right}
use Rattle.login_setup.specs.declared.setup.Setup.{Setup}
use Rattle.eap_method.specs.declared.tags.TagRecord.{TagRecord}
use Rattle.eap_method.specs.Peer.{key_for}
use Rattle.eap_method.specs.Tags.{is_under, same_tag}
use Rattle.eap_method.proofs.TagRecords.{same_as_itself}
use Rattle.tag_book.specs.Book.{first_broken, is_accepted, is_honest, may_make}
use Rattle.tag_book.specs.Book.{same_end, under, verdict_on, vouches}
use Rattle.tag_book.specs.declared.book.End.{End}
use Rattle.tag_book.specs.declared.book.End.TheVariants as end
use Rattle.tag_book.specs.declared.book.Entry.{Entry}
use Rattle.tag_book.specs.declared.book.RecordOwner.{RecordOwner}
use Rattle.tag_book.specs.declared.book.RecordOwner.TheVariants.{Either, Other}
use Rattle.tag_book.specs.declared.book.Use.{Use}
use Rattle.tag_book.specs.declared.book.Use.TheVariants.{Accepted, Made}
use Rattle.tag_book.proofs.FirstBroken.{passed}
use Rattle.eap_world.specs.World.{WorldNow}
use Rattle.world_laws.specs.EachConversation.{Conversation, IsOneOf, OfPeer, OfServer, all_accepted}
use Rattle.world_laws.specs.EachConversation.{all_produced, here, later, peer_conversations}
use Rattle.world_laws.specs.EachConversation.{peer_nonce, server_conversations, server_nonce}
use Rattle.login_laws.specs.Forgery.{AgreeOrForged, EachTagIsRight, Forgery, HonestOrForged}
use Rattle.login_laws.specs.Forgery.{IsOfConversation, of_peer, of_server, tags_in}
use Rattle.login_laws.specs.Matching.{AreAll}
use Rattle.method_laws.specs.Records.{IsIn, same_use, tags_by}
use Rattle.login_laws.proofs.Conversations.{conversations_are_all}
use Rattle.login_laws.proofs.HonestRuns.{honest_ends_agree}
use Rattle.world_laws.proofs.PastConversations.{in_either}
use Rattle.login_laws.proofs.PresentUnderKey.{ends_agree_under}
use Rattle.method_laws.specs.RightMacs.{OfEach}
use Rattle.method_laws.proofs.RightMacs.{peer_tags_right, server_tags_right}
use Rattle.method_laws.proofs.TagsOfEnds.{in_if, skip_if}
use Rattle.world_laws.specs.Runs.{run_of}
use Rattle.world_laws.proofs.EndTags.{peer_tags, server_tags}

-- ---- an entry of the book is among the tags of its end

same_ends : (one : End) → same_end one one ≡ true
same_ends end.Peer = refl
same_ends end.Server = refl

same_uses : (how : Use) → same_use how how ≡ true
same_uses Accepted = refl
same_uses Made = refl

entry_in : (e : Entry) (book : List Entry) → IsOneOf e book → IsIn e.tag (tags_by e.end e.used book)
unfolding tags_by
entry_in e _ (here rest) =
    in_if (same_end e.end e.end && same_use e.used e.used) e.tag (tags_by e.end e.used rest)
    (and_from _ _ (same_ends e.end) (same_uses e.used))
entry_in e _ (later other rest is) =
    skip_if (same_end other.end e.end && same_use other.used e.used) e.tag other.tag
    (tags_by e.end e.used rest) (entry_in e rest is)

-- ---- and of a conversation

record TagIn {N : Type 0} (how : Use) (t : TagRecord) (all : List (Conversation N)) : Type 0 where
  by : Conversation N
  is_one : IsOneOf by all
  is_in : IsIn t (tags_in how by)

accepted_from : {N : Type 0} (t : TagRecord) (all : List (Conversation N))
    → IsIn t (all_accepted all) → TagIn Accepted t all
unfolding all_accepted
accepted_from t [] is = elim is [ ]
accepted_from t (k ∷ rest) is =
    elim (in_either t k.accepted (all_accepted rest) is) [
      | inl now ↦ record { by = k; is_one = here rest; is_in = now }
      | inr there ↦ let m = accepted_from t rest there in
          record { by = m.by; is_one = later k rest m.is_one; is_in = m.is_in }
    ]

made_from : {N : Type 0} (t : TagRecord) (all : List (Conversation N)) → IsIn t (all_produced all)
    → TagIn Made t all
unfolding all_produced
made_from t [] is = elim is [ ]
made_from t (k ∷ rest) is =
    elim (in_either t k.made (all_produced rest) is) [
      | inl now ↦ record { by = k; is_one = here rest; is_in = now }
      | inr there ↦ let m = made_from t rest there in
          record { by = m.by; is_one = later k rest m.is_one; is_in = m.is_in }
    ]

of_use : {N : Type 0} (P : TagRecord → Type 0) (how : Use) (k : Conversation N)
    → OfEach P k.accepted k.made → (t : TagRecord) → IsIn t (tags_in how k) → P t
of_use P Accepted k so t is = so.accepted_so t is
of_use P Made k so t is = so.made_so t is

module _ (setup : Setup) (w : WorldNow) (ps : List OfPeer) (ss : List OfServer)
    (all : AreAll setup w ps ss) where
  of_peers : (how : Use) (t : TagRecord) → IsIn t (tags_by end.Peer how w.book) → TagIn how t ps
  of_peers Accepted t is = accepted_from t ps (subst (IsIn t) all.peer_accepted is)
  of_peers Made t is = made_from t ps (subst (IsIn t) all.initial_peer is)

  of_servers : (how : Use) (t : TagRecord) → IsIn t (tags_by end.Server how w.book) → TagIn how t ss
  of_servers Accepted t is = accepted_from t ss (subst (IsIn t) all.server_accepted is)
  of_servers Made t is = made_from t ss (subst (IsIn t) all.initial_server is)

  by_end : (e : Entry) (of : End) → e.end ≡ of → IsIn e.tag (tags_by of e.used w.book)
      → IsOfConversation setup ps ss e
  by_end e end.Peer same is =
      let m = of_peers e.used e.tag is in
      let p : OfPeer = m.by in
      of_peer p same m.is_one m.is_in
      (of_use _ e.used p (peer_tags_right setup.peer (peer_nonce p) p.now.vars.selected p.now.views
      p.accepted p.made (peer_tags (all.peer_invariant p m.is_one))) e.tag m.is_in)
  by_end e end.Server same is =
      let m = of_servers e.used e.tag is in
      let s : OfServer = m.by in
      of_server s same m.is_one m.is_in
      (of_use _ e.used s (server_tags_right setup.server (server_nonce s) s.now.vars.current
      s.now.views s.accepted s.made (server_tags (all.server_invariant s m.is_one))) e.tag m.is_in)

  each_right : (e : Entry) → IsOneOf e w.book → IsOfConversation setup ps ss e
  each_right e is = by_end e e.end refl (entry_in e w.book is)

-- The tags of all conversations joined are those of the book (`conversations_are_all`), so that
-- each entry is a tag of one of them. The state of that conversation determines the tag: RightMacs
-- finds it right in each state, under the key that the state derives.
pub each_tag_is_right : EachTagIsRight
each_tag_is_right setup events whole e is =
    each_right setup (run_of setup events) (peer_conversations setup events)
    (server_conversations setup events) (conversations_are_all setup events whole) e is

-- ---- the first accepted tag that no such end had made before

record FirstBroken (makers : RecordOwner) (earlier rest : List Entry) : Type 0 where
  before : List Entry
  forged : Entry
  after : List Entry
  parts : rest ≡ before ++ forged ∷ after
  honest : first_broken makers earlier before ≡ None
  broken : first_broken makers earlier rest ≡ Some forged.event
  fails : is_honest makers (earlier ++ before) forged ≡ false

module _ (makers : RecordOwner) where
  stops : (earlier rest : List Entry) (e : Entry) → is_honest makers earlier e ≡ false
      → first_broken makers earlier (e ∷ rest) ≡ Some e.event
  unfolding first_broken
  stops earlier rest e fails =
      ap (λ (b : Bool). cond b (first_broken makers (earlier ++ e ∷ []) rest) (Some e.event)) fails

  none_before : (earlier : List Entry) → first_broken makers earlier [] ≡ None
  unfolding first_broken
  none_before earlier = refl

  goes_on : (earlier rest : List Entry) (e : Entry) → is_honest makers earlier e ≡ true
      → (first_broken makers (earlier ++ e ∷ []) rest ≡ None)
      ⊎ FirstBroken makers (earlier ++ e ∷ []) rest
      → (first_broken makers earlier (e ∷ rest) ≡ None) ⊎ FirstBroken makers earlier (e ∷ rest)
  goes_on earlier rest e honest (inl none) = inl (passed makers earlier rest e honest ∙ none)
  goes_on earlier rest e honest (inr f) = inr (record {
    before = e ∷ f.before;
    forged = f.forged;
    after = f.after;
    parts = ap (λ (l : List Entry). e ∷ l) f.parts;
    honest = passed makers earlier f.before e honest ∙ f.honest;
    broken = passed makers earlier rest e honest ∙ f.broken;
    fails = subst (λ (l : List Entry). is_honest makers l f.forged ≡ false)
        (append_assoc earlier (e ∷ []) f.before) f.fails;
  })

  by_test : (earlier rest : List Entry) (e : Entry) (b : Bool) → is_honest makers earlier e ≡ b
      → (first_broken makers (earlier ++ e ∷ []) rest ≡ None)
      ⊎ FirstBroken makers (earlier ++ e ∷ []) rest
      → (first_broken makers earlier (e ∷ rest) ≡ None) ⊎ FirstBroken makers earlier (e ∷ rest)
  by_test earlier rest e true honest more = goes_on earlier rest e honest more
  by_test earlier rest e false fails more = inr (record {
    before = [];
    forged = e;
    after = rest;
    parts = refl;
    honest = none_before earlier;
    broken = stops earlier rest e fails;
    fails = subst (λ (l : List Entry). is_honest makers l e ≡ false)
        (sym (append-nil earlier)) fails;
  })

  search_broken : (earlier rest : List Entry) → (first_broken makers earlier rest ≡ None)
      ⊎ FirstBroken makers earlier rest
  search_broken earlier [] = inl (none_before earlier)
  search_broken earlier (e ∷ rest) = by_test earlier rest e (is_honest makers earlier e) refl
      (search_broken (earlier ++ e ∷ []) rest)

-- ---- what fails is accepted, and no such end had made it

used_is : (how : Use) → (elim how [ Accepted ↦ true | Made ↦ false ]) ≡ true → how ≡ Accepted
used_is Accepted e = refl
used_is Made e = cc

made_so : (how : Use) → how ≡ Made → not (elim how [ Accepted ↦ true | Made ↦ false ]) ≡ true
made_so Accepted e = cc
made_so Made e = refl

test_false : (b x : Bool) → (if b then x else true) ≡ false → (b ≡ true) × (x ≡ false)
test_false true x e = (refl, e)
test_false false x e = cc

some_true : (test : Entry → Bool) (e : Entry) (all : List Entry) → IsOneOf e all → test e ≡ true
    → list_any test all ≡ true
some_true test e _ (here rest) is = or_left (test e) (list_any test rest) is
some_true test e _ (later other rest one) is =
    or_right (test other) (list_any test rest) (some_true test e rest one is)

not_both : (b : Bool) → b ≡ true → b ≡ false → ⊥
not_both b one other = cc

-- ---- in a book whose entries are right

middle : (before : List Entry) (e : Entry) (after : List Entry) → IsOneOf e (before ++ e ∷ after)
middle [] e after = here after
middle (x ∷ before) e after = later x (before ++ e ∷ after) (middle before e after)

module _ (setup : Setup) (ps : List OfPeer) (ss : List OfServer) (book : List Entry)
    (right : (e : Entry) → IsOneOf e book → IsOfConversation setup ps ss e)
    (makers : RecordOwner) where
  forgery_of : FirstBroken makers [] book → Forgery setup ps ss makers book
  forgery_of f =
      let parts =
      test_false (is_accepted f.forged) (list_any (vouches makers f.forged) f.before) f.fails in
      record {
        before = f.before;
        forged = f.forged;
        after = f.after;
        parts = f.parts;
        honest_before = ap verdict_on f.honest;
        broken = ap verdict_on f.broken;
        accepted = used_is f.forged.used parts.0;
        right = right f.forged (subst (λ (l : List Entry). IsOneOf f.forged l) (sym f.parts)
            (middle f.before f.forged f.after));
        not_computed = λ e is made may same.
            (let vouch : vouches makers f.forged e ≡ true =
            and_from (not (is_accepted e)) _ (made_so e.used made)
            (and_from (may_make makers e.end f.forged.end) _ may
            (subst (λ (t : TagRecord). same_tag e.tag t ≡ true) same (same_as_itself e.tag))) in
            not_both (list_any (vouches makers f.forged) f.before)
            (some_true (vouches makers f.forged) e f.before is vouch) parts.1);
      }

  honest_or_forged : HonestOrForged setup ps ss makers book
  honest_or_forged = elim (search_broken makers [] book) [
    | inl none ↦ inl (ap verdict_on none)
    | inr f ↦ inr (forgery_of f)
  ]

-- what is in a book under a key is in the book
put_if : (b : Bool) (e x : Entry) (some all : List Entry) → (IsOneOf e some → IsOneOf e all)
    → IsOneOf e (if b then x ∷ some else some) → IsOneOf e (x ∷ all)
put_if true e _ some all more (here _) = here all
put_if true e x some all more (later _ _ is) = later x all (more is)
put_if false e x some all more is = later x all (more is)

in_whole : (key : List ℕ) (e : Entry) (book : List Entry) → IsOneOf e (under key book)
    → IsOneOf e book
unfolding under
in_whole key e [] is = elim is [ ]
in_whole key e (x ∷ rest) is =
    put_if (is_under key x.tag) e x (under key rest) rest (in_whole key e rest) is

-- A book is searched for its first accepted tag that no end which may had made before
-- (`search_broken`). If there is none, the book is honest, and the ends agree by
-- `honest_ends_agree` or `ends_agree_under`. Else that tag is right by `each_tag_is_right`, and no
-- tag that such an end made before equals it, or it would have vouched. So for the whole book, and
-- for the tags under one key.
pub agree_or_forged : AgreeOrForged
agree_or_forged setup events whole =
    let w : WorldNow = run_of setup events in
    let ps : List OfPeer = peer_conversations setup events in
    let ss : List OfServer = server_conversations setup events in
    let keyed_or_forged : (makers : RecordOwner) (kind : ℕ)
    → HonestOrForged setup ps ss makers (under (key_for setup.peer kind) w.book) =
    λ makers kind. honest_or_forged setup ps ss (under (key_for setup.peer kind) w.book)
    (λ e is. each_tag_is_right setup events whole e
    (in_whole (key_for setup.peer kind) e w.book is)) makers in
    record {
      whole = λ makers. honest_or_forged setup ps ss w.book
          (each_tag_is_right setup events whole) makers;
      keyed = λ makers key. honest_or_forged setup ps ss (under key w.book)
          (λ e is. each_tag_is_right setup events whole e (in_whole key e w.book is)) makers;
      agrees = λ apart p_in s_in.
          (elim (honest_or_forged setup ps ss w.book (each_tag_is_right setup events whole) Other) [
            | inl honest ↦
                inl ((honest_ends_agree setup events whole).agrees honest apart p_in s_in)
            | inr forged ↦ inr forged
          ]);
      agrees_under = λ kind apart both of_key. (elim (keyed_or_forged Other kind) [
        | inl honest ↦
            inl ((ends_agree_under setup events kind whole).agrees honest apart both of_key)
        | inr forged ↦ inr forged
      ]);
      reflected_agrees = λ kind two both of_key. (elim (keyed_or_forged Either kind) [
        | inl honest ↦
            inl ((ends_agree_under setup events kind whole).reflected_agrees honest two both of_key)
        | inr forged ↦ inr forged
      ]);
      reflected_anew = λ kind by_psk fresh both of_key. (elim (keyed_or_forged Either kind) [
        | inl honest ↦ inl ((ends_agree_under setup events kind whole).reflected_anew by_psk honest
            fresh both of_key)
        | inr forged ↦ inr forged
      ]);
    }
