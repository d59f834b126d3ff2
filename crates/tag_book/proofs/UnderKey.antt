-- The tags of a book under one key, entry by entry.
use Rattle.std.proofs.Common.{◌≡◌, ℕ, ◌+◌, ◌<◌, ◌≤◌, List, [], ◌∷◌, ◌++◌, Bool, true, false, length}
use Rattle.std.proofs.Common.{take, drop, get_or, None, Some, refl, sym, ap, ◌∙◌, true≢false}
use Rattle.std.proofs.Common.{append-nil}
use Rattle.std.specs.Prelude.{not, ◌&&◌, ◌||◌, if◌then◌else◌}
use Rattle.std.specs.List.{list_any}
use Rattle.std.proofs.lemmas.Bool.{and_parts}
use Rattle.std.proofs.lemmas.List.{drop_more, take_more, drop_all}
use Rattle.eap_method.specs.Tags.{is_under}
use Rattle.eap_method.proofs.TagRecords.{same_keys}
use Rattle.tag_book.specs.Book.{first_broken, is_accepted, is_honest, may_make, under, vouches}
use Rattle.tag_book.specs.declared.book.Entry.{Entry}
use Rattle.tag_book.specs.declared.book.RecordOwner.{RecordOwner}
use Rattle.tag_book.proofs.FirstBroken.{found, passed}

module _ (key : List ℕ) where
  -- a tag that vouches is under the same key
  same_key : (makers : RecordOwner) (e x : Entry) → vouches makers e x ≡ true
      → is_under key x.tag ≡ is_under key e.tag
  same_key makers e x v =
      let a = and_parts (not (is_accepted x)) _ v in
      same_keys key x.tag e.tag (and_parts (may_make makers x.end e.end) _ a.1).1

  -- so one under another key vouches for none
  no_voucher : (makers : RecordOwner) (e x : Entry) → is_under key e.tag ≡ true
      → is_under key x.tag ≡ false → vouches makers e x ≡ false
  no_voucher makers e x its other = by (vouches makers e x) refl
    where
      by : (b : Bool) → vouches makers e x ≡ b → b ≡ false
      by false v = refl
      by true v = absurd (true≢false (sym (same_key makers e x v ∙ its) ∙ other))

  any_under : (makers : RecordOwner) (e : Entry) → is_under key e.tag ≡ true
      → (earlier : List Entry)
      → list_any (vouches makers e) (under key earlier) ≡ list_any (vouches makers e) earlier
  unfolding under
  any_under makers e its [] = refl
  any_under makers e its (x ∷ rest) = by (is_under key x.tag) refl (any_under makers e its rest)
    where
      by : (b : Bool) → is_under key x.tag ≡ b → list_any (vouches makers e) (under key rest)
          ≡ list_any (vouches makers e) rest
          → list_any (vouches makers e) (if b then x ∷ under key rest else under key rest)
          ≡ (vouches makers e x || list_any (vouches makers e) rest)
      by true same more = ap (λ (b : Bool). vouches makers e x || b) more
      by false other more = more ∙ sym (ap (λ (b : Bool). b || list_any (vouches makers e) rest)
          (no_voucher makers e x its other))

  -- what is honest among all is so among those of its key
  pub honest_under : (makers : RecordOwner) (e : Entry) → is_under key e.tag ≡ true
      → (earlier : List Entry)
      → is_honest makers (under key earlier) e ≡ is_honest makers earlier e
  honest_under makers e its earlier =
      ap (λ (b : Bool). if is_accepted e then b else true) (any_under makers e its earlier)

  put : (b : Bool) (x : Entry) (sub other : List Entry)
      → (if b then x ∷ (sub ++ other) else sub ++ other) ≡ (if b then x ∷ sub else sub) ++ other
  put true x sub other = refl
  put false x sub other = refl

  under_both : (one other : List Entry)
      → under key (one ++ other) ≡ under key one ++ under key other
  unfolding under
  under_both [] other = refl
  under_both (x ∷ rest) other =
      ap (λ (l : List Entry). if is_under key x.tag then x ∷ l else l) (under_both rest other)
      ∙ put (is_under key x.tag) x (under key rest) (under key other)

  -- one more entry of this key, or of another
  pub one_more : (earlier : List Entry) (e : Entry) → is_under key e.tag ≡ true
      → under key (earlier ++ e ∷ []) ≡ under key earlier ++ e ∷ []
  unfolding under
  one_more earlier e its = under_both earlier (e ∷ [])
      ∙ ap (λ (b : Bool). under key earlier ++ (if b then e ∷ [] else [])) its

  pub none_more : (earlier : List Entry) (e : Entry) → is_under key e.tag ≡ false
      → under key (earlier ++ e ∷ []) ≡ under key earlier
  unfolding under
  none_more earlier e other =
      under_both earlier (e ∷ []) ∙ ap (λ (b : Bool).
      under key earlier ++ (if b then e ∷ [] else [])) other ∙ append-nil (under key earlier)

  -- ---- place by place

  -- whether the entry is under this key and isn't honest
  abbrev pub breaks : RecordOwner → List Entry → Entry → Bool
  breaks makers earlier e = is_under key e.tag && not (is_honest makers earlier e)

  step_over : (makers : RecordOwner) (earlier rest : List Entry) (e : Entry)
      → breaks makers earlier e ≡ false
      → first_broken makers (under key earlier) (under key (e ∷ rest))
      ≡ first_broken makers (under key (earlier ++ e ∷ [])) (under key rest)
  unfolding under
  step_over makers earlier rest e sound =
      by (is_under key e.tag) (is_honest makers earlier e) refl refl sound
    where
      by : (b honest : Bool) → is_under key e.tag ≡ b → is_honest makers earlier e ≡ honest
          → (b && not honest) ≡ false
          → first_broken makers (under key earlier)
          (if b then e ∷ under key rest else under key rest)
          ≡ first_broken makers (under key (earlier ++ e ∷ [])) (under key rest)
      by true true its honest _ =
          passed makers (under key earlier) (under key rest) e
          (honest_under makers e its earlier ∙ honest)
          ∙ ap (λ (l : List Entry). first_broken makers l (under key rest))
          (sym (one_more earlier e its))
      by true false its broken h = cc
      by false honest other _ _ = ap (λ (l : List Entry). first_broken makers l (under key rest))
          (sym (none_more earlier e other))

  stop_at : (makers : RecordOwner) (earlier rest : List Entry) (e : Entry)
      → breaks makers earlier e ≡ true
      → first_broken makers (under key earlier) (under key (e ∷ rest)) ≡ Some e.event
  unfolding under
  stop_at makers earlier rest e broken =
      by (is_under key e.tag) (is_honest makers earlier e) refl refl broken
    where
      by : (b honest : Bool) → is_under key e.tag ≡ b → is_honest makers earlier e ≡ honest
          → (b && not honest) ≡ true
          → first_broken makers (under key earlier) (if b then e ∷ under key rest
          else under key rest) ≡ Some e.event
      by true true its honest h = cc
      by true false its dishonest _ = found makers (under key earlier) (under key rest) e
          (honest_under makers e its earlier ∙ dishonest)
      by false honest other _ h = cc

  pub under_more : (makers : RecordOwner) (book : List Entry) (i : ℕ) (e : Entry) → i < length book
      → e ≡ get_or book i e
      → breaks makers (take i book) e ≡ false
      → first_broken makers (under key (take i book)) (under key (drop i book))
      ≡ first_broken makers (under key (take (i + 1) book)) (under key (drop (i + 1) book))
  under_more makers book i e below read sound =
      let rest : drop i book ≡ e ∷ drop (i + 1) book =
      drop_more book i e below ∙ ap (λ (x : Entry). x ∷ drop (i + 1) book) (sym read) in
      let front : take (i + 1) book ≡ take i book ++ e ∷ [] =
      take_more book i e below ∙ ap (λ (x : Entry). take i book ++ x ∷ []) (sym read) in
      rw (rest, front) (step_over makers (take i book) (drop (i + 1) book) e sound)

  pub under_here : (makers : RecordOwner) (book : List Entry) (i : ℕ) (e : Entry) → i < length book
      → e ≡ get_or book i e
      → breaks makers (take i book) e ≡ true
      → first_broken makers (under key (take i book)) (under key (drop i book)) ≡ Some e.event
  under_here makers book i e below read broken =
      let rest : drop i book ≡ e ∷ drop (i + 1) book =
      drop_more book i e below ∙ ap (λ (x : Entry). x ∷ drop (i + 1) book) (sym read) in
      rw rest (stop_at makers (take i book) (drop (i + 1) book) e broken)

  -- at the end each was honest
  pub under_all : (makers : RecordOwner) (book : List Entry) (i : ℕ) → length book ≤ i
      → first_broken makers (under key (take i book)) (under key (drop i book)) ≡ None
  unfolding first_broken under
  under_all makers book i past = rw (drop_all i book past) refl
