-- The tags of each end in a book that grows, and what its honesty says of them.
use Rattle.std.proofs.Common.{◌≡◌, ℕ, List, [], ◌∷◌, ◌++◌, Bool, true, false, map, Some, None, refl}
use Rattle.std.proofs.Common.{sym, ap, subst, ◌∙◌, append_assoc, append-nil, inl, inr}
use Rattle.std.specs.Prelude.{◌==◌, ◌&&◌, ◌⊎◌, not, if◌then◌else◌}
use Rattle.std.specs.List.{list_any}
use Rattle.std.specs.Str.{bytes_eq}
use Rattle.std.proofs.lemmas.Bool.{and_parts, and_from, or_cases, eqb-true}
use Rattle.std.proofs.lemmas.Slice.Eq.{bytes_eq-Decides}
use Rattle.eap_method.specs.declared.tags.Label.{Label}
use Rattle.eap_method.specs.declared.tags.Label.TheVariants.{Ak, Tek, Sk}
use Rattle.eap_method.specs.declared.tags.TagRecord.{TagRecord}
use Rattle.eap_method.specs.Tags.{Tags, label_number, same_label, same_tag}
use Rattle.tag_book.specs.Book.{entry, entries_of, same_end}
use Rattle.tag_book.specs.Book.{is_accepted, vouches, is_honest, first_broken}
use Rattle.tag_book.specs.declared.book.End.{End}
use Rattle.tag_book.specs.declared.book.End.TheVariants.{Peer, Server}
use Rattle.tag_book.specs.declared.book.Use.{Use}
use Rattle.tag_book.specs.declared.book.Use.TheVariants.{Accepted, Made}
use Rattle.tag_book.specs.declared.book.Entry.{Entry}
use Rattle.tag_book.specs.declared.book.RecordOwner.{RecordOwner}
use Rattle.tag_book.specs.declared.book.RecordOwner.TheVariants.{Either}
use Rattle.method_laws.specs.Records.{same_use, tags_by, IsIn, here, later, AreInEither}

-- ---- the lists of a longer book

front_or : (b : Bool) (t : TagRecord) (xs ys : List TagRecord)
    → (if b then t ∷ (xs ++ ys) else xs ++ ys) ≡ (if b then t ∷ xs else xs) ++ ys
front_or true t xs ys = refl
front_or false t xs ys = refl

pub tags_append : (end : End) (how : Use) (one other : List Entry)
    → tags_by end how (one ++ other) ≡ tags_by end how one ++ tags_by end how other
unfolding tags_by
tags_append end how [] other = refl
tags_append end how (e ∷ rest) other =
    let same = tags_append end how rest other in
    rw same (front_or (same_end e.end end && same_use e.used how) e.tag (tags_by end how rest)
    (tags_by end how other))

kept_if : (b : Bool) (t : TagRecord) (rest xs : List TagRecord) → xs ≡ (if b then rest else [])
    → (if b then t ∷ xs else xs) ≡ (if b then t ∷ rest else [])
kept_if true t rest xs e = ap (λ (ys : List TagRecord). t ∷ ys) e
kept_if false t rest xs e = e

nil_either : (b : Bool) → (let none : List TagRecord = [] in none ≡ (if b then none else none))
nil_either true = refl
nil_either false = refl

mapped_tags : (end other : End) (how use_of : Use) (event : ℕ) (tags : List TagRecord)
    → tags_by end how (map (entry event other use_of) tags)
    ≡ (if same_end other end && same_use use_of how then tags else [])
unfolding tags_by
mapped_tags end other how use_of event [] = nil_either (same_end other end && same_use use_of how)
mapped_tags end other how use_of event (tag ∷ rest) =
    kept_if (same_end other end && same_use use_of how) tag rest _
    (mapped_tags end other how use_of event rest)

-- what an event of an end books
booked_tags : (end other : End) (how : Use) (event : ℕ) (tags : Tags)
    → tags_by end how (entries_of event other tags)
    ≡ (if same_end other end && same_use Accepted how then tags.accepted
    else []) ++ (if same_end other end && same_use Made how then tags.made else [])
booked_tags end other how event tags =
    tags_append end how (map (entry event other Accepted) tags.accepted)
    (map (entry event other Made) tags.made)
    ∙ (rw (
      mapped_tags end other how Accepted event tags.accepted,
      mapped_tags end other how Made event tags.made,
    ) refl)

-- the other end
abbrev pub other_end : End → End
other_end Peer = Server
other_end Server = Peer

of_own : (own : End) (how : Use) (tags : Tags)
    → (if same_end own own && same_use Accepted how then tags.accepted
    else []) ++ (if same_end own own && same_use Made how then tags.made else [])
    ≡ (elim how [ Accepted ↦ tags.accepted | Made ↦ tags.made ])
of_own Peer Accepted tags = append-nil tags.accepted
of_own Peer Made tags = refl
of_own Server Accepted tags = append-nil tags.accepted
of_own Server Made tags = refl

of_other : (own : End) (how : Use) (tags : Tags)
    → (let other = other_end own in
    (if same_end other own && same_use Accepted how then tags.accepted
    else []) ++ (if same_end other own && same_use Made how then tags.made else [])) ≡ []
of_other Peer how tags = refl
of_other Server how tags = refl

-- the tags of an event of the end itself come first
pub own_booked : (own : End) (how : Use) (event : ℕ) (tags : Tags) (rest : List Entry)
    → tags_by own how (entries_of event own tags ++ rest)
    ≡ (elim how [ Accepted ↦ tags.accepted | Made ↦ tags.made ]) ++ tags_by own how rest
own_booked own how event tags rest =
    tags_append own how (entries_of event own tags) rest
    ∙ ap (λ xs. xs ++ tags_by own how rest) (booked_tags own own how event tags
    ∙ of_own own how tags)

-- what holds of the lists of an end holds of them with its own event's tags, and stays at the
-- other's event
module _ (own : End) (P : List TagRecord → List TagRecord → Type 0) (book : List Entry) (event : ℕ)
    (tags : Tags) where
  grown : (how : Use) → tags_by own how (book ++ entries_of event own tags)
      ≡ tags_by own how book ++ (elim how [ Accepted ↦ tags.accepted | Made ↦ tags.made ])
  grown how = tags_append own how book _ ∙ ap (λ xs.
      tags_by own how book ++ xs) (booked_tags own own how event tags ∙ of_own own how tags)

  stayed : (how : Use) → tags_by own how (book ++ entries_of event (other_end own) tags)
      ≡ tags_by own how book
  stayed how =
      tags_append own how book _
      ∙ (ap (λ xs. tags_by own how book ++ xs) (booked_tags own (other_end own) how event tags
      ∙ of_other own how tags) ∙ append-nil (tags_by own how book))

  pub grows : P (tags_by own Accepted book ++ tags.accepted) (tags_by own Made book ++ tags.made)
      → P (tags_by own Accepted (book ++ entries_of event own tags))
      (tags_by own Made (book ++ entries_of event own tags))
  grows stands = rw (grown Accepted, grown Made) stands

  pub rests : P (tags_by own Accepted book) (tags_by own Made book)
      → P (tags_by own Accepted (book ++ entries_of event (other_end own) tags))
      (tags_by own Made (book ++ entries_of event (other_end own) tags))
  rests stands = rw (stayed Accepted, stayed Made) stands

-- ---- honesty

labels_equal : (one other : Label) → (label_number one == label_number other) ≡ true → one ≡ other
labels_equal Ak Ak e = refl
labels_equal Ak Tek e = cc
labels_equal Ak Sk e = cc
labels_equal Tek Ak e = cc
labels_equal Tek Tek e = refl
labels_equal Tek Sk e = cc
labels_equal Sk Ak e = cc
labels_equal Sk Tek e = cc
labels_equal Sk Sk e = refl

abbrev tag_of : ℕ → Label → List ℕ → List ℕ → List ℕ → TagRecord
tag_of method label psk octets tag =
    record { method = method; label = label; psk = psk; octets = octets; tag = tag }

same_parts : (m n : ℕ) (l k : Label) (p q o r t u : List ℕ) → m ≡ n → l ≡ k → p ≡ q → o ≡ r → t ≡ u
    → tag_of m l p o t ≡ tag_of n k q r u
same_parts m n l k p q o r t u a b c d e = rw (a, b, c, d, e) refl

-- records that the test finds the same are equal
pub tags_equal : (one other : TagRecord) → same_tag one other ≡ true → one ≡ other
tags_equal one other e =
    let a = and_parts (one.method == other.method) _ e in
    let b = and_parts (same_label one.label other.label) _ a.1 in
    let c = and_parts (bytes_eq one.psk other.psk) _ b.1 in
    let d = and_parts (bytes_eq one.octets other.octets) _ c.1 in
    let method = eqb-true one.method other.method a.0 in
    let label = labels_equal one.label other.label b.0 in
    let psk = (bytes_eq-Decides one.psk other.psk).0 c.0 in
    let octets = (bytes_eq-Decides one.octets other.octets).0 d.0 in
    let tag = (bytes_eq-Decides one.tag other.tag).0 d.1 in
    same_parts one.method other.method one.label other.label one.psk other.psk one.octets
    other.octets one.tag other.tag method label psk octets tag

pub is_in_front : (tag : TagRecord) (xs ys : List TagRecord) → IsIn tag xs → IsIn tag (xs ++ ys)
is_in_front tag _ ys (here rest) = here (rest ++ ys)
is_in_front tag _ ys (later other rest is) = later other (rest ++ ys) (is_in_front tag rest ys is)

pub in_if : (b : Bool) (t : TagRecord) (xs : List TagRecord) → b ≡ true
    → IsIn t (if b then t ∷ xs else xs)
in_if true t xs e = here xs
in_if false t xs e = cc

pub skip_if : (b : Bool) (t u : TagRecord) (xs : List TagRecord) → IsIn t xs
    → IsIn t (if b then u ∷ xs else xs)
skip_if true t u xs is = later u xs is
skip_if false t u xs is = is

pub not_true : (b : Bool) → not b ≡ true → b ≡ false
not_true true e = cc
not_true false e = refl

pub use_is : (how : Use) → (elim how [ Accepted ↦ true | Made ↦ false ]) ≡ false
    → same_use how Made ≡ true
use_is Accepted e = cc
use_is Made e = refl

made_is : (m : Entry) → is_accepted m ≡ false → same_use m.used Made ≡ true
made_is m e = use_is m.used e

same_self : (end : End) → same_end end end ≡ true
same_self Peer = refl
same_self Server = refl

-- one of the ends made a tag
data IsCreated (book : List Entry) (tag : TagRecord) : Type 0 where
  made_by : (maker : End) (is_in : IsIn tag (tags_by maker Made book)) → IsCreated book tag

further : (e m : Entry) (rest : List Entry) → IsCreated rest e.tag → IsCreated (m ∷ rest) e.tag
unfolding tags_by
further e m rest (made_by maker is_in) = made_by maker (skip_if
    (same_end m.end maker && same_use m.used Made) e.tag m.tag (tags_by maker Made rest) is_in)

-- an entry that vouches has its tag among those that its end made
vouched : (e m : Entry) (rest : List Entry) → vouches Either e m ≡ true → IsCreated (m ∷ rest) e.tag
unfolding tags_by
vouched e m rest v =
    let a = and_parts (not (is_accepted m)) _ v in
    let same = tags_equal m.tag e.tag a.1 in
    let is_made = made_is m (not_true (is_accepted m) a.0) in
    let test : (same_end m.end m.end && same_use m.used Made) ≡ true =
    and_from (same_end m.end m.end) (same_use m.used Made) (same_self m.end) is_made in
    made_by m.end
    (subst (λ t. IsIn t (if same_end m.end m.end && same_use m.used Made
    then m.tag ∷ tags_by m.end Made rest else tags_by m.end Made rest)) same
    (in_if (same_end m.end m.end && same_use m.used Made) m.tag (tags_by m.end Made rest) test))

-- where some entry vouches, one of the ends made the tag
some_vouches : (e : Entry) (earlier : List Entry) → list_any (vouches Either e) earlier ≡ true
    → IsCreated earlier e.tag
some_vouches e [] v = cc
some_vouches e (m ∷ rest) v =
    elim (or_cases (vouches Either e m) (list_any (vouches Either e) rest) v) [
      | inl this ↦ vouched e m rest this
      | inr other ↦ further e m rest (some_vouches e rest other)
    ]

-- ---- where the book is honest of either end, each accepted tag of an end is among those that it
-- or the other made

none_in : (tag : TagRecord) (xs : List TagRecord) → IsIn tag xs → xs ≡ [] → ⊥
none_in tag _ (here rest) e = cc
none_in tag _ (later other rest is) e = cc

by_place : (tag u : TagRecord) (xs ys : List TagRecord) (P : Type 0) → (tag ≡ u → P)
    → (IsIn tag xs → P) → IsIn tag ys → ys ≡ u ∷ xs → P
by_place tag u xs _ P first behind (here rest) e = first (let same : tag ≡ u = cc in same)
by_place tag u xs _ P first behind (later other rest is) e =
    behind (subst (IsIn tag) (let same : rest ≡ xs = cc in same) is)

pub by_test_in : (b : Bool) (tag u : TagRecord) (xs : List TagRecord) (P : Type 0)
    → (b ≡ true → tag ≡ u → P) → (IsIn tag xs → P) → IsIn tag (if b then u ∷ xs else xs) → P
by_test_in true tag u xs P first behind is =
    by_place tag u xs (u ∷ xs) P (first refl) behind is refl
by_test_in false tag u xs P first behind is = behind is

pub use_accepted : (how : Use) → same_use how Accepted ≡ true
    → (elim how [ Accepted ↦ true | Made ↦ false ]) ≡ true
use_accepted Accepted e = refl
use_accepted Made e = cc

test_true : (b : Bool) (x : Bool) → b ≡ true → (if b then x else true) ≡ true → x ≡ true
test_true true x is e = e
test_true false x is e = cc

-- an honest accepted entry is vouched for
pub honest_vouched : (makers : RecordOwner) (e : Entry) (earlier : List Entry)
    → is_accepted e ≡ true → is_honest makers earlier e ≡ true
    → list_any (vouches makers e) earlier ≡ true
honest_vouched makers e earlier is honest =
    test_true (is_accepted e) (list_any (vouches makers e) earlier) is honest

-- the first entry is honest, and the rest is where it stands behind it
pub record Unbroken (makers : RecordOwner) (earlier : List Entry) (e : Entry)
    (rest : List Entry) : Type 0 where
  pub honest : is_honest makers earlier e ≡ true
  pub behind : first_broken makers (earlier ++ e ∷ []) rest ≡ None

unbroken_by : (makers : RecordOwner) (b : Bool) (earlier : List Entry) (e : Entry)
    (rest : List Entry) → is_honest makers earlier e ≡ b
    → (if b then first_broken makers (earlier ++ e ∷ []) rest else Some e.event) ≡ None
    → Unbroken makers earlier e rest
unbroken_by makers true earlier e rest is none = record { honest = is; behind = none }
unbroken_by makers false earlier e rest is none = cc

pub unbroken : (makers : RecordOwner) (earlier : List Entry) (e : Entry) (rest : List Entry)
    → first_broken makers earlier (e ∷ rest) ≡ None
    → Unbroken makers earlier e rest
unfolding first_broken
unbroken makers earlier e rest none =
    unbroken_by makers (is_honest makers earlier e) earlier e rest refl none

in_longer : (tag : TagRecord) (one other : List Entry) → IsCreated one tag
    → IsCreated (one ++ other) tag
in_longer tag one other (made_by maker is_in) =
    made_by maker (subst (IsIn tag) (sym (tags_append maker Made one other))
    (is_in_front tag (tags_by maker Made one) (tags_by maker Made other) is_in))

honest_each : (end : End) (earlier rest : List Entry) → first_broken Either earlier rest ≡ None
    → (tag : TagRecord) → IsIn tag (tags_by end Accepted rest)
    → IsCreated (earlier ++ rest) tag
unfolding tags_by
honest_each end earlier [] none tag is = absurd (none_in tag [] is refl)
honest_each end earlier (e ∷ rest) none tag is =
    let u = unbroken Either earlier e rest none in
    by_test_in (same_end e.end end && same_use e.used Accepted) tag e.tag
    (tags_by end Accepted rest) (IsCreated (earlier ++ e ∷ rest) tag)
    (λ test same.
    let parts = and_parts (same_end e.end end) (same_use e.used Accepted) test in
    let vouch = some_vouches e earlier
    (honest_vouched Either e earlier (use_accepted e.used parts.1) u.honest) in
    subst (IsCreated (earlier ++ e ∷ rest)) (sym same) (in_longer e.tag earlier (e ∷ rest) vouch))
    (λ behind.
    subst (λ all. IsCreated all tag) (append_assoc earlier (e ∷ []) rest)
    (honest_each end (earlier ++ e ∷ []) rest u.behind tag behind))
    is

-- seen from an end, the maker is the other or itself
from_end : (end : End) (book : List Entry) (tag : TagRecord) → IsCreated book tag
    → IsIn tag (tags_by (other_end end) Made book) ⊎ IsIn tag (tags_by end Made book)
from_end Peer book tag (made_by Peer is_in) = inr is_in
from_end Peer book tag (made_by Server is_in) = inl is_in
from_end Server book tag (made_by Peer is_in) = inl is_in
from_end Server book tag (made_by Server is_in) = inr is_in

pub honest_tags : (end : End) (book : List Entry) → first_broken Either [] book ≡ None
    → AreInEither (tags_by end Accepted book) (tags_by (other_end end) Made book)
    (tags_by end Made book)
honest_tags end book none =
    record { each = λ tag is. from_end end book tag (honest_each end [] book none tag is) }
