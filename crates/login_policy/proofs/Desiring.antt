-- The list of an Expanded Nak by its entries of eight octets.
use Rattle.std.proofs.Common.{◌≡◌, ℕ, ◌<◌, Bool, true, false, List, [], ◌∷◌, ◌++◌, length, arith}
use Rattle.std.proofs.Common.{refl, ap, sym, ◌∙◌, append_assoc, append-nil}
use Rattle.std.specs.Prelude.{◌&&◌, not, if◌then◌else◌}
use Rattle.std.proofs.lemmas.Bool.Decides.{nat_tests}
use Rattle.octet_lists.specs.Among.{is_kind, is_among}
use Rattle.login_setup.specs.Setup.{are_kinds}
use Rattle.login_policy.specs.Expanded.{entry_of, nak_entries, type_in, names_new, kinds_in}
use Rattle.login_policy.specs.Laws.{EntriesAreRead}

if_so : {A : Type 0} (b : Bool) (one other : A) → b ≡ true → (if b then one else other) ≡ one
if_so true one other e = refl
if_so false one other e = absurd cc

if_not : {A : Type 0} (b : Bool) (one other : A) → b ≡ false → (if b then one else other) ≡ other
if_not true one other e = absurd cc
if_not false one other e = refl

-- at an entry: its Type, where that is new, and what the entries behind it name
kinds_from_entry : (seen entry rest : List ℕ) → length entry ≡ 8 →
    kinds_in seen (entry ++ rest) ≡ (if names_new seen entry
    then type_in entry ∷ kinds_in (seen ++ type_in entry ∷ []) rest else kinds_in seen rest)
unfolding kinds_in
kinds_from_entry seen (a ∷ b ∷ c ∷ d ∷ e ∷ f ∷ g ∷ h ∷ []) rest sized = refl
kinds_from_entry seen (a ∷ b ∷ c ∷ d ∷ e ∷ f ∷ g ∷ h ∷ i ∷ more) rest sized = absurd (omega arith)
kinds_from_entry seen [] rest sized = absurd (omega arith)
kinds_from_entry seen (a ∷ []) rest sized = absurd (omega arith)
kinds_from_entry seen (a ∷ b ∷ []) rest sized = absurd (omega arith)
kinds_from_entry seen (a ∷ b ∷ c ∷ []) rest sized = absurd (omega arith)
kinds_from_entry seen (a ∷ b ∷ c ∷ d ∷ []) rest sized = absurd (omega arith)
kinds_from_entry seen (a ∷ b ∷ c ∷ d ∷ e ∷ []) rest sized = absurd (omega arith)
kinds_from_entry seen (a ∷ b ∷ c ∷ d ∷ e ∷ f ∷ []) rest sized = absurd (omega arith)
kinds_from_entry seen (a ∷ b ∷ c ∷ d ∷ e ∷ f ∷ g ∷ []) rest sized = absurd (omega arith)

-- fewer octets than an entry has name none
none_in_part : (seen list : List ℕ) → length list < 8 → kinds_in seen list ≡ []
unfolding kinds_in
none_in_part seen (a ∷ b ∷ c ∷ d ∷ e ∷ f ∷ g ∷ h ∷ rest) short = absurd (omega arith)
none_in_part seen [] short = refl
none_in_part seen (a ∷ []) short = refl
none_in_part seen (a ∷ b ∷ []) short = refl
none_in_part seen (a ∷ b ∷ c ∷ []) short = refl
none_in_part seen (a ∷ b ∷ c ∷ d ∷ []) short = refl
none_in_part seen (a ∷ b ∷ c ∷ d ∷ e ∷ []) short = refl
none_in_part seen (a ∷ b ∷ c ∷ d ∷ e ∷ f ∷ []) short = refl
none_in_part seen (a ∷ b ∷ c ∷ d ∷ e ∷ f ∷ g ∷ []) short = refl

-- then all are found
pub all_found : (seen list every : List ℕ) → seen ++ kinds_in seen list ≡ every → length list < 8
    → seen ≡ every
all_found seen list every is short = sym (append-nil seen)
    ∙ ap (λ (kinds : List ℕ). seen ++ kinds) (sym (none_in_part seen list short)) ∙ is

-- an entry that names a new Type appends it
pub kind_is_new : (seen entry rest list : List ℕ) → list ≡ entry ++ rest → length entry ≡ 8
    → names_new seen entry ≡ true →
    (seen ++ type_in entry ∷ []) ++ kinds_in (seen ++ type_in entry ∷ []) rest
    ≡ seen ++ kinds_in seen list
kind_is_new seen entry rest list joined sized is =
    append_assoc seen (type_in entry ∷ []) (kinds_in (seen ++ type_in entry ∷ []) rest)
    ∙ ap (λ (kinds : List ℕ). seen ++ kinds)
    (sym (ap (kinds_in seen) joined ∙ kinds_from_entry seen entry rest sized
    ∙ if_so (names_new seen entry) (type_in entry ∷ kinds_in (seen ++ type_in entry ∷ []) rest)
    (kinds_in seen rest) is))

-- any other is passed over
pub kind_is_not : (seen entry rest list : List ℕ) → list ≡ entry ++ rest → length entry ≡ 8
    → names_new seen entry ≡ false →
    seen ++ kinds_in seen rest ≡ seen ++ kinds_in seen list
kind_is_not seen entry rest list joined sized is =
    ap (λ (kinds : List ℕ). seen ++ kinds)
    (sym (ap (kinds_in seen) joined ∙ kinds_from_entry seen entry rest sized
    ∙ if_not (names_new seen entry) (type_in entry ∷ kinds_in (seen ++ type_in entry ∷ []) rest)
    (kinds_in seen rest) is))

-- a Type of the two methods that isn't among others of them finds at most one there
room_for : (kinds : List ℕ) (kind : ℕ) → are_kinds kinds ≡ true
    → (is_kind kind && not (is_among kinds kind)) ≡ true → length kinds < 2
room_for [] kind are new = omega arith
room_for (x ∷ []) kind are new = omega arith
room_for (x ∷ y ∷ rest) kind are new = absurd (grind (arith, nat_tests, are, new))

one_more : (kinds : List ℕ) (kind : ℕ) → are_kinds kinds ≡ true
    → (is_kind kind && not (is_among kinds kind)) ≡ true → are_kinds (kinds ++ kind ∷ []) ≡ true
one_more [] kind are new = grind (arith, nat_tests, new)
one_more (x ∷ []) kind are new = grind (arith, nat_tests, are, new)
one_more (x ∷ y ∷ rest) kind are new = absurd (grind (arith, nat_tests, are, new))

and_second : (b c : Bool) → (b && c) ≡ true → c ≡ true
and_second true c both = both
and_second false c both = absurd cc

pub has_room : (seen entry : List ℕ) → are_kinds seen ≡ true → names_new seen entry ≡ true
    → length seen < 2
has_room seen entry are is = room_for seen (type_in entry) are (and_second _ _ is)

pub stay_kinds : (seen entry : List ℕ) → are_kinds seen ≡ true → names_new seen entry ≡ true
    → are_kinds (seen ++ type_in entry ∷ []) ≡ true
stay_kinds seen entry are is = one_more seen (type_in entry) are (and_second _ _ is)

-- the entries of allowed Types are read as these
pub entries_are_read : EntriesAreRead
unfolding nak_entries kinds_in
entries_are_read [] are = refl
entries_are_read (kind ∷ []) are =
    if_so (names_new [] (entry_of kind)) (kind ∷ []) [] (grind (arith, nat_tests, are))
entries_are_read (kind ∷ other ∷ []) are =
    if_so (names_new [] (entry_of kind)) _ _ (grind (arith, nat_tests, are))
    ∙ ap (λ (kinds : List ℕ). kind ∷ kinds)
    (if_so (names_new (kind ∷ []) (entry_of other)) (other ∷ []) [] (grind (arith, nat_tests, are)))
entries_are_read (kind ∷ other ∷ third ∷ rest) are = absurd (grind (arith, nat_tests, are))
