-- A book stays honest where each tag that an end accepts is one that the other made before.
use Rattle.std.proofs.Common.{◌≡◌, ℕ, List, [], ◌∷◌, ◌++◌, Bool, true, map, None, refl, sym, ap}
use Rattle.std.proofs.Common.{◌∙◌, append_assoc, append-nil, inl, inr}
use Rattle.std.specs.List.{list_any, list_all}
use Rattle.std.proofs.lemmas.Bool.{and_parts, and_from, or_cases, or_left, or_right}
use Rattle.eap_method.specs.declared.tags.TagRecord.{TagRecord}
use Rattle.eap_method.proofs.TagRecords.{same_as_itself}
use Rattle.tag_book.specs.Book.{entry, entries_of, vouches, first_broken}
use Rattle.tag_book.specs.declared.book.End.{End}
use Rattle.tag_book.specs.declared.book.End.TheVariants.{Peer, Server}
use Rattle.tag_book.specs.declared.book.Use.TheVariants.{Accepted, Made}
use Rattle.tag_book.specs.declared.book.Entry.{Entry}
use Rattle.tag_book.specs.declared.book.RecordOwner.TheVariants.{Other}
use Rattle.tag_book.proofs.FirstBroken.{passed}
use Rattle.method_laws.proofs.TagsOfEnds.{unbroken}

-- the other end has made the tag, and each of these tags
abbrev pub is_vouched : List Entry → End → TagRecord → Bool
is_vouched book end tag = list_any (vouches Other (entry 0 end Accepted tag)) book

abbrev pub are_vouched : List Entry → End → List TagRecord → Bool
are_vouched book end tags = list_all (is_vouched book end) tags

abbrev pub other_end : End → End
other_end Peer = Server
other_end Server = Peer

any_more : (test : Entry → Bool) (one other : List Entry) → list_any test one ≡ true
    → list_any test (one ++ other) ≡ true
any_more test (e ∷ rest) other h =
    elim (or_cases (test e) (list_any test rest) h) [
      | inl this ↦ or_left (test e) (list_any test (rest ++ other)) this
      | inr later ↦ or_right (test e) (list_any test (rest ++ other))
          (any_more test rest other later)
    ]
any_more test [] other h = cc

any_there : (test : Entry → Bool) (one : List Entry) (e : Entry) (other : List Entry)
    → test e ≡ true → list_any test (one ++ e ∷ other) ≡ true
any_there test [] e other h = or_left (test e) (list_any test other) h
any_there test (first ∷ rest) e other h =
    or_right (test first) (list_any test (rest ++ e ∷ other)) (any_there test rest e other h)

vouched_more : (book other : List Entry) (end : End) (tags : List TagRecord)
    → are_vouched book end tags ≡ true → are_vouched (book ++ other) end tags ≡ true
vouched_more book other end [] h = refl
vouched_more book other end (tag ∷ rest) h =
    let both = and_parts (is_vouched book end tag) (are_vouched book end rest) h in
    and_from _ _ (any_more (vouches Other (entry 0 end Accepted tag)) book other both.0)
    (vouched_more book other end rest both.1)

makes : (event : ℕ) (end : End) (tag : TagRecord)
    → vouches Other (entry 0 (other_end end) Accepted tag) (entry event end Made tag) ≡ true
makes event Peer tag = same_as_itself tag
makes event Server tag = same_as_itself tag

-- what an end makes is vouched for at the other
created_vouched : (event : ℕ) (end : End) (book : List Entry) (tags : List TagRecord)
    → are_vouched (book ++ map (entry event end Made) tags) (other_end end) tags ≡ true
created_vouched event end book [] = refl
created_vouched event end book (tag ∷ rest) =
    let made : List Entry = map (entry event end Made) rest in
    and_from _ _ (any_there (vouches Other (entry 0 (other_end end) Accepted tag)) book
    (entry event end Made tag) made (makes event end tag))
    (ap (λ (all : List Entry). are_vouched all (other_end end) rest)
    (sym (append_assoc book (entry event end Made tag ∷ []) made))
    ∙ created_vouched event end (book ++ entry event end Made tag ∷ []) rest)

broken_append : (earlier one other : List Entry) → first_broken Other earlier one ≡ None
    → first_broken Other earlier (one ++ other) ≡ first_broken Other (earlier ++ one) other
broken_append earlier [] other none =
    ap (λ (all : List Entry). first_broken Other all other) (sym (append-nil earlier))
broken_append earlier (e ∷ rest) other none =
    let u = unbroken Other earlier e rest none in
    passed Other earlier (rest ++ other) e u.honest
    ∙ broken_append (earlier ++ e ∷ []) rest other u.behind
    ∙ ap (λ (all : List Entry). first_broken Other all other) (append_assoc earlier (e ∷ []) rest)

created_passed : (event : ℕ) (end : End) (earlier : List Entry) (tags : List TagRecord)
    → first_broken Other earlier (map (entry event end Made) tags) ≡ None
unfolding first_broken
created_passed event end earlier [] = refl
created_passed event end earlier (tag ∷ rest) =
    created_passed event end (earlier ++ entry event end Made tag ∷ []) rest

accepted_passed : (event : ℕ) (end : End) (earlier : List Entry) (tags : List TagRecord)
    (rest : List Entry) → are_vouched earlier end tags ≡ true
    → first_broken Other earlier (map (entry event end Accepted) tags ++ rest)
    ≡ first_broken Other (earlier ++ map (entry event end Accepted) tags) rest
accepted_passed event end earlier [] rest h =
    ap (λ (all : List Entry). first_broken Other all rest) (sym (append-nil earlier))
accepted_passed event end earlier (tag ∷ tags) rest h =
    let e : Entry = entry event end Accepted tag in
    let both = and_parts (is_vouched earlier end tag) (are_vouched earlier end tags) h in
    passed Other earlier (map (entry event end Accepted) tags ++ rest) e both.0
    ∙ accepted_passed event end (earlier ++ e ∷ []) tags rest
    (vouched_more earlier (e ∷ []) end tags both.1)
    ∙ ap (λ (all : List Entry). first_broken Other all rest)
    (append_assoc earlier (e ∷ []) (map (entry event end Accepted) tags))

-- a book with what an event of an end wrote behind it
pub record StaysHonest (book : List Entry) (end : End) (made : List TagRecord) : Type 0 where
  pub honest : first_broken Other [] book ≡ None
  pub vouched : are_vouched book (other_end end) made ≡ true

pub stays_honest : (event : ℕ) (end : End) (book : List Entry) (accepted made : List TagRecord)
    → first_broken Other [] book ≡ None
    → are_vouched book end accepted ≡ true
    → StaysHonest
    (book ++ entries_of event end (record { accepted = accepted; made = made })) end made
stays_honest event end book accepted made none h =
    let took : List Entry = map (entry event end Accepted) accepted in
    let gave : List Entry = map (entry event end Made) made in
    record {
      honest =
          broken_append [] book (took ++ gave) none
          ∙ accepted_passed event end book accepted gave h
          ∙ created_passed event end (book ++ took) made;
      vouched =
          ap (λ (all : List Entry). are_vouched all (other_end end) made)
          (sym (append_assoc book took gave))
          ∙ created_vouched event end (book ++ took) made;
    }
