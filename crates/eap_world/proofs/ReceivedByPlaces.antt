-- Octets are heard from their end, place by place.
use Rattle.std.proofs.Common.{◌≡◌, ◌≤◌, ◌<◌, ℕ, ◌+◌, ◌-◌, Bool, true, false, ◌||◌, List, [], ◌∷◌}
use Rattle.std.proofs.Common.{length, get_or, take, drop, set, map, refl, sym, ap, subst, ◌∙◌}
use Rattle.std.proofs.Common.{arith}
use Rattle.std.specs.Prelude.{Decides, slice_index, All, eqb}
use Rattle.std.specs.Str.{bytes_eq}
use Rattle.std.proofs.lemmas.List.{drop_more, drop_all, take_all, length-drop, length-take}
use Rattle.std.proofs.lemmas.List.{length-take-le, get_or-set_same, get_or-set_other}
use Rattle.std.proofs.lemmas.List.Elements.{All-cons, All-head, All-more, All-nil, All-tail}
use Rattle.std.proofs.lemmas.List.Elements.{All-weaker}
use Rattle.std.proofs.lemmas.Slice.Eq.{bytes_eq-Decides}
use Rattle.std.proofs.lemmas.Bool.{false_from_ne_true, false≢true, true≢false}
use Rattle.std.proofs.lemmas.Bool.Decides.{Decides-eqb}
use Rattle.eap_world.specs.Conversations.{front, hears, occurs_in, waiting}
use Rattle.eap_world.specs.Receiving.{IsMarked, receives_at, is_first, starts_with}
use Rattle.eap_world.specs.TwoRecords.{AreMarked, waits}
use Rattle.eap_world.specs.declared.conversations.Waiting.{Waiting}

abbrev with_received : List ℕ → Bool → Waiting
with_received nonce heard = record { nonce = nonce; heard = heard }

or_last : (a b c : Bool) → ((a || b) || c) ≡ (a || (c || b))
or_last true b c = refl
or_last false true true = refl
or_last false true false = refl
or_last false false true = refl
or_last false false false = refl

-- one place more
one_more : (x : ℕ) (rest : List ℕ) (one : Waiting) → receives_at (x ∷ rest) (hears rest one)
    ≡ hears (x ∷ rest) one
unfolding occurs_in
one_more x rest one =
    ap (with_received one.nonce)
    (or_last one.heard (occurs_in (front one.nonce) rest)
    (starts_with (front one.nonce) (x ∷ rest)))

each_more : (x : ℕ) (rest : List ℕ) (left : List Waiting)
    → map (receives_at (x ∷ rest)) (map (hears rest) left) ≡ map (hears (x ∷ rest)) left
each_more x rest [] = refl
each_more x rest (one ∷ left) = rw (one_more x rest one, each_more x rest left) refl

at_front : (octets : List ℕ) (place : ℕ) (left : List Waiting) → place < length octets
    → map (receives_at (drop place octets)) (map (hears (drop (place + 1) octets)) left)
    ≡ map (hears (drop place octets)) left
at_front octets place left below =
    let next : drop place octets ≡ get_or octets place 0 ∷ drop (place + 1) octets =
    drop_more octets place 0 below in
    rw next (each_more (get_or octets place 0) (drop (place + 1) octets) left)

-- the same from the end
pub received_more : (octets : List ℕ) (back : ℕ) (left now : List Waiting) → back < length octets
    → now ≡ map (hears (drop (length octets - back) octets)) left
    → map (receives_at (take (length octets - (length octets - 1 - back))
    (drop (length octets - 1 - back) octets))) now
    ≡ map (hears (drop (length octets - (back + 1)) octets)) left
received_more octets back left now below is =
    let here : length octets - 1 - back ≡ length octets - (back + 1) = omega (arith, below) in
    let next : length octets - back ≡ length octets - (back + 1) + 1 = omega (arith, below) in
    let size = length-drop (length octets - (back + 1)) octets in
    let whole : take (length octets - (length octets - (back + 1))) (drop
    (length octets - (back + 1)) octets) ≡ drop (length octets - (back + 1)) octets =
    take_all (length octets - (length octets - (back + 1)))
    (drop (length octets - (back + 1)) octets) (omega (arith, size)) in
    rw (is, here, next, whole)
    (at_front octets (length octets - (back + 1)) left (omega (arith, below)))

-- a nonce of 32 octets doesn't stand in none
in_none : (part : List ℕ) → length part ≡ 16 → occurs_in part [] ≡ false
unfolding occurs_in
in_none [] size = absurd (cc size)
in_none (x ∷ part) size = refl

front_size : (nonce : List ℕ) → length nonce ≡ 32 → length (front nonce) ≡ 16
front_size nonce size = length-take-le 16 nonce (omega (arith, size))

or_false : (a b : Bool) → b ≡ false → (a || b) ≡ a
or_false true b is = refl
or_false false b is = is

unheard : (firsts : List Bool) (one : Waiting) → IsMarked firsts one → hears [] one ≡ one
unheard firsts one marked =
    ap (with_received one.nonce)
    (or_false one.heard (occurs_in (front one.nonce) [])
    (in_none (front one.nonce) (front_size one.nonce marked.size)))

each_unheard : (firsts : List Bool) (left : List Waiting) → All (IsMarked firsts) left
    → map (hears []) left ≡ left
each_unheard firsts [] marked = refl
each_unheard firsts (one ∷ left) marked =
    let first = unheard firsts one (All-head (IsMarked firsts) one left marked) in
    let others = each_unheard firsts left (All-tail (IsMarked firsts) one left marked) in
    rw (first, others) refl

pub none_received : (firsts : List Bool) (octets : List ℕ) (left : List Waiting)
    → All (IsMarked firsts) left
    → left ≡ map (hears (drop (length octets - 0) octets)) left
none_received firsts octets left marked =
    sym (rw (drop_all (length octets - 0) octets (omega arith)) (each_unheard firsts left marked))

-- what is marked of the nonces is marked of them with what has been heard
pub marked_waits : (firsts : List Bool) (nonces : List (List ℕ)) (marks : List Bool)
    → AreMarked firsts nonces → All (IsMarked firsts) (waits nonces marks)
marked_waits firsts [] marks marked = All-nil (IsMarked firsts)
marked_waits firsts (nonce ∷ nonces) [] marked = All-nil (IsMarked firsts)
marked_waits firsts (nonce ∷ nonces) (heard ∷ marks) marked =
    let first = All-head (λ (n : List ℕ). IsMarked firsts (waiting n)) nonce nonces marked in
    let others = All-tail (λ (n : List ℕ). IsMarked firsts (waiting n)) nonce nonces marked in
    All-cons (IsMarked firsts) (with_received nonce heard) (waits nonces marks)
    (record { size = first.size; first = first.first }) (marked_waits firsts nonces marks others)

-- octets whose first one is that of no nonce begin with none
other_first : (x y : ℕ) (part rest : List ℕ) → (x ≡ y → ⊥)
    → starts_with (y ∷ part) (x ∷ rest) ≡ false
other_first x y part rest differs =
    false_from_ne_true (starts_with (y ∷ part) (x ∷ rest))
    (λ same. differs (ap (λ (octets : List ℕ). get_or octets 0 0)
    ((bytes_eq-Decides (x ∷ take (length part) rest) (y ∷ part)).0 same)))

no_front : (firsts : List Bool) (nonce : List ℕ) (x : ℕ) (rest : List ℕ) → length nonce ≡ 32
    → is_first firsts (slice_index nonce 0) ≡ true
    → is_first firsts x ≡ false → starts_with (front nonce) (x ∷ rest) ≡ false
no_front firsts [] x rest size first unmarked = absurd (omega (arith, size))
no_front firsts (y ∷ more) x rest size first unmarked =
    other_first x y (take 15 more) rest
    (λ same. true≢false (sym first ∙ ap (is_first firsts) (sym same) ∙ unmarked))

not_here : (firsts : List Bool) (one : Waiting) (x : ℕ) (rest : List ℕ) → IsMarked firsts one
    → is_first firsts x ≡ false → receives_at (x ∷ rest) one ≡ one
not_here firsts one x rest marked unmarked =
    ap (with_received one.nonce)
    (or_false one.heard (starts_with (front one.nonce) (x ∷ rest))
    (no_front firsts one.nonce x rest marked.size marked.first unmarked))

each_not_here : (firsts : List Bool) (left : List Waiting) (x : ℕ) (rest : List ℕ)
    → All (IsMarked firsts) left → is_first firsts x ≡ false
    → map (receives_at (x ∷ rest)) left ≡ left
each_not_here firsts [] x rest marked unmarked = refl
each_not_here firsts (one ∷ left) x rest marked unmarked =
    let first = not_here firsts one x rest (All-head (IsMarked firsts) one left marked) unmarked in
    let others =
    each_not_here firsts left x rest (All-tail (IsMarked firsts) one left marked) unmarked in
    rw (first, others) refl

none_of : (firsts : List Bool) (left : List Waiting) (octets : List ℕ) → 0 < length octets
    → All (IsMarked firsts) left
    → is_first firsts (slice_index octets 0) ≡ false → left ≡ map (receives_at octets) left
none_of firsts left [] some marked unmarked = absurd (omega (arith, some))
none_of firsts left (x ∷ rest) some marked unmarked =
    sym (each_not_here firsts left x rest marked unmarked)

pub none_here : (firsts : List Bool) (nonces : List (List ℕ)) (marks : List Bool) (octets : List ℕ)
    → 0 < length octets → AreMarked firsts nonces
    → is_first firsts (slice_index octets 0) ≡ false
    → waits nonces marks ≡ map (receives_at octets) (waits nonces marks)
none_here firsts nonces marks octets some marked unmarked =
    none_of firsts (waits nonces marks) octets some
    (marked_waits firsts nonces marks marked) unmarked

-- an octet more is marked
marks_stay_by : (firsts : List Bool) (octet other : ℕ) (same : Bool) → Decides same (other ≡ octet)
    → octet < length firsts
    → is_first firsts other ≡ true → is_first (set firsts octet true) other ≡ true
marks_stay_by firsts octet other true same below was =
    rw (same.0 refl) (get_or-set_same firsts octet true false below)
marks_stay_by firsts octet other false same below was =
    get_or-set_other firsts octet other true false (λ e. false≢true (same.1 e)) ∙ was

pub marks_stay : (firsts : List Bool) (octet other : ℕ) → octet < length firsts
    → is_first firsts other ≡ true → is_first (set firsts octet true) other ≡ true
marks_stay firsts octet other below was =
    marks_stay_by firsts octet other (eqb other octet) (Decides-eqb other octet) below was

pub one_more_marked : (firsts after : List Bool) (nonces : List (List ℕ)) (i : ℕ) (d : List ℕ)
    → i < length nonces
    → length (get_or nonces i d) ≡ 32 → is_first after (slice_index (get_or nonces i d) 0) ≡ true
    → ((octet : ℕ) → is_first firsts octet ≡ true → is_first after octet ≡ true)
    → AreMarked firsts (take i nonces) → AreMarked after (take (i + 1) nonces)
one_more_marked firsts after nonces i d below size first stay so_far =
    All-more (λ (n : List ℕ). IsMarked after (waiting n)) nonces i d below
    (All-weaker (λ (n : List ℕ). IsMarked firsts (waiting n))
    (λ (n : List ℕ). IsMarked after (waiting n))
    (λ (other : List ℕ) (was : IsMarked firsts (waiting other)).
    record { size = was.size; first = stay (slice_index other 0) was.first })
    (take i nonces) so_far) (record { size = size; first = first })

pub all_marked : (firsts : List Bool) (nonces : List (List ℕ)) (i : ℕ) → length nonces ≤ i
    → AreMarked firsts (take i nonces) → AreMarked firsts nonces
all_marked firsts nonces i all marked = subst (AreMarked firsts) (take_all i nonces all) marked

-- octets begin with the front of a nonce where they are long enough and have its octets
pub starts_where_same : (octets nonce : List ℕ) → length nonce ≡ 32
    → starts_with (front nonce) octets ≡ bytes_eq (take 16 octets) (take 16 nonce)
starts_where_same octets nonce size =
    ap (λ (count : ℕ). bytes_eq (take count octets) (front nonce)) (front_size nonce size)

differs_by_length : (xs ys : List ℕ) → (length xs ≡ length ys → ⊥) → false ≡ bytes_eq xs ys
differs_by_length xs ys other = sym (false_from_ne_true (bytes_eq xs ys)
    (λ same. other (ap length ((bytes_eq-Decides xs ys).0 same))))

pub too_short : (octets nonce : List ℕ) → length nonce ≡ 32 → length octets < 16
    → false ≡ starts_with (front nonce) octets
too_short octets nonce size short =
    differs_by_length (take (length (front nonce)) octets) (front nonce)
    (λ same. (let whole = front_size nonce size in let most = length-take (length (front nonce))
    octets in absurd (omega (arith, same, whole, most, short))))
