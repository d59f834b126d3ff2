-- The lines of an input, one octet and one stretch of octets at a time.
use Rattle.std.proofs.Common.{◌≡◌, ◌≢◌, ℕ, zero, suc, ◌+◌, ◌<◌, ◌≤◌, Bool, true, false, List, []}
use Rattle.std.proofs.Common.{◌∷◌, ◌++◌, length, take, drop, ◌-◌, Option, Some, None, eqb, leb, ltb}
use Rattle.std.proofs.Common.{not, unwrap_or, refl, ap, ◌∙◌, sym, inl, inr, arith, append-nil}
use Rattle.std.proofs.Common.{append_assoc, length-append}
use Rattle.std.specs.List.{position, position_or_len}
use Rattle.std.proofs.lemmas.Bool.{cases_eq, cases_lt, ne_eqb, le-leb, lt-leb, lt-ltb, le-ltb}
use Rattle.std.proofs.lemmas.List.Sums.{prefix_len-le-length}
use Rattle.std.proofs.lemmas.Bool.Decides.{Decides-eqb}
use Rattle.std.proofs.lemmas.Slice.Eq.{ends_is}
use Rattle.std.specs.Cmp.Lexicographic.{pointwise}
use Rattle.octet_io.specs.declared.lines.NextLine.TheVariants.{Line, End, TooLong, TooMuch}
use Rattle.octet_io.specs.Known.{nothing_known}
use Rattle.octet_io.specs.Lines.{LineReading, lines_from, lines_left, Divides, without_cr}
use Rattle.octet_io.specs.LineSteps.{lines_within, StopsAt}
use Rattle.octet_io.specs.Lines.Lines.{ended, too_long, too_much, line}

pub lines_from_nil : (taken : ℕ) → lines_from taken [] [] ≡ ended
unfolding lines_from
lines_from_nil taken = refl

pub lines_from_start : (taken b : ℕ) (begun : List ℕ) → lines_from taken (b ∷ begun) []
    ≡ line (b ∷ begun) ended
unfolding lines_from
lines_from_start taken b begun = refl

-- an octet beside LF passes the limit of a line
pub lines_from_long : (taken : ℕ) (begun : List ℕ) (x : ℕ) (rest : List ℕ) → x ≢ 10
    → 4096 ≤ length begun → lines_from taken begun (x ∷ rest) ≡ too_long
unfolding lines_from
lines_from_long taken begun x rest other long =
    let no_lf : eqb x 10 ≡ false = ne_eqb x 10 other in
    let full : leb 4096 (length begun) ≡ true = le-leb 4096 (length begun) long in
    rw (no_lf, full) refl

-- an octet passes the limit of the input
pub lines_from_much : (taken : ℕ) (begun : List ℕ) (x : ℕ) (rest : List ℕ) → x ≢ 10
    → length begun < 4096 → 16777216 ≤ taken → lines_from taken begun (x ∷ rest) ≡ too_much
unfolding lines_from
lines_from_much taken begun x rest other short much =
    let no_lf : eqb x 10 ≡ false = ne_eqb x 10 other in
    let room : leb 4096 (length begun) ≡ false = lt-leb 4096 (length begun) short in
    let full : leb 16777216 taken ≡ true = le-leb 16777216 taken much in
    rw (no_lf, room, full) refl

-- so does an LF
pub lines_from_much_lf : (taken : ℕ) (begun rest : List ℕ) → 16777216 ≤ taken
    → lines_from taken begun (10 ∷ rest) ≡ too_much
unfolding lines_from
lines_from_much_lf taken begun rest much =
    let full : leb 16777216 taken ≡ true = le-leb 16777216 taken much in
    rw full refl

-- an LF ends the line
pub lines_from_lf : (taken : ℕ) (begun rest : List ℕ) → taken < 16777216
    → lines_from taken begun (10 ∷ rest) ≡ line (without_cr begun) (lines_from (taken + 1) [] rest)
unfolding lines_from
lines_from_lf taken begun rest few =
    let room : leb 16777216 taken ≡ false = lt-leb 16777216 taken few in
    rw room refl

-- any other octet goes on with it
pub lines_from_octet : (taken : ℕ) (begun : List ℕ) (x : ℕ) (rest : List ℕ)
    → x ≢ 10 → length begun < 4096 → taken < 16777216 → lines_from taken begun (x ∷ rest)
    ≡ lines_from (taken + 1) (begun ++ x ∷ []) rest
unfolding lines_from
lines_from_octet taken begun x rest other short few =
    let no_lf : eqb x 10 ≡ false = ne_eqb x 10 other in
    let room : leb 4096 (length begun) ≡ false = lt-leb 4096 (length begun) short in
    let more : leb 16777216 taken ≡ false = lt-leb 16777216 taken few in
    rw (no_lf, room, more) refl

-- so do as many octets before an LF as pass no limit
pub lines_from_stretch : (n taken : ℕ) (begun xs rest : List ℕ) → n ≤ position_or_len (λ b. eqb
    b 10) xs → length begun + n ≤ 4096 → taken + n ≤ 16777216 → lines_from taken begun (xs ++ rest)
    ≡ lines_from (taken + n) (begun ++ take n xs) (drop n xs ++ rest)
lines_from_stretch zero taken begun xs rest few short little =
    let same : taken ≡ taken + 0 = omega arith in rw (append-nil begun, ← same) refl
lines_from_stretch (suc n) taken begun [] rest few short little = absurd (omega arith)
lines_from_stretch (suc n) taken begun (x ∷ xs) rest few short little =
    elim (cases_eq x 10) [
      | inl same ↦
          let yes : eqb x 10 ≡ true = rw same refl in
          let none : suc n ≤ 0 = rw yes at few in
          absurd (omega arith)
      | inr other ↦
          let no_lf : eqb x 10 ≡ false = ne_eqb x 10 other in
          let fewer : suc n ≤ 1 + position_or_len (λ b. eqb b 10) xs = rw no_lf at few in
          let next =
          lines_from_octet taken begun x (xs ++ rest) other (omega arith) (omega arith) in
          let longer : length (begun ++ x ∷ []) + n ≤ 4096 =
          omega (arith, length-append begun (x ∷ [])) in
          let more = lines_from_stretch n (taken + 1) (begun ++ x ∷ []) xs rest (omega arith) longer
          (omega arith) in
          let joined : (begun ++ x ∷ []) ++ take n xs ≡ begun ++ x ∷ take n xs =
          append_assoc begun (x ∷ []) (take n xs) in
          let count : taken + 1 + n ≡ taken + suc n = omega arith in
          next ∙ rw (joined, count) at more
    ]

-- after them stands an LF, where anything does
pub lf_after : (octets : List ℕ) (x : ℕ) (rest : List ℕ)
    → drop (position_or_len (λ b. eqb b 10) octets) octets ≡ x ∷ rest → x ≡ 10
lf_after [] x rest is = absurd cc
lf_after (y ∷ octets) x rest is =
    elim (cases_eq y 10) [
      | inl same ↦
          let yes : eqb y 10 ≡ true = rw same refl in
          let here : y ∷ octets ≡ x ∷ rest = rw yes at is in
          cc
      | inr other ↦
          let no_lf : eqb y 10 ≡ false = ne_eqb y 10 other in
          let one : 1 + position_or_len (λ b. eqb b 10) octets
          ≡ suc (position_or_len (λ b. eqb b 10) octets) = omega arith in
          let later : drop (suc (position_or_len (λ b. eqb b 10) octets)) (y ∷ octets) ≡ x ∷ rest =
          rw (no_lf, one) at is in
          lf_after octets x rest later
    ]

-- a part of the octets before an LF ends there or at a limit
stops_at : (held begun : List ℕ) (taken : ℕ) → ((x : ℕ) (rest : List ℕ) → held ≡ x ∷ rest → x ≢ 10
    → length begun < 4096 → 16777216 ≤ taken) → StopsAt held begun taken
stops_at [] begun taken at = tt
stops_at (x ∷ rest) begun taken at = at x rest refl

pub stretch_stops : (n : ℕ) (held begun : List ℕ) (taken : ℕ)
    → n ≤ position_or_len (λ b. eqb b 10) held → (n < position_or_len (λ b. eqb b 10) held
    → length begun < 4096 → 16777216 ≤ taken) → StopsAt (drop n held) begun taken
stretch_stops n held begun taken most limit =
    stops_at (drop n held) begun taken (λ x rest is other short.
    elim (cases_lt n (position_or_len (λ b. eqb b 10) held)) [
      | inl less ↦ limit less short
      | inr all ↦
          let same : n ≡ position_or_len (λ b. eqb b 10) held = omega arith in
          absurd (other (lf_after held x rest (rw same at is)))
    ])

-- the first octet that passes, or the end of the list
pub place_or_all : (p : ℕ → Bool) (octets : List ℕ) → unwrap_or (position p octets) (length octets)
    ≡ position_or_len p octets
place_or_all p octets =
    elim (cases_lt (position_or_len p octets) (length octets)) [
      | inl less ↦ let there : ltb (position_or_len p octets) (length octets) ≡ true =
          lt-ltb (position_or_len p octets) (length octets) less in rw there refl
      | inr all ↦
          let none : ltb (position_or_len p octets) (length octets) ≡ false =
          le-ltb (position_or_len p octets) (length octets) all in
          rw none (omega (arith, prefix_len-le-length (λ x. not (p x)) octets))
    ]

-- the CR directly before an LF is dropped
pub without_cr_push : (front : List ℕ) → without_cr (front ++ 13 ∷ []) ≡ front
without_cr_push [] = refl
without_cr_push (x ∷ []) = refl
without_cr_push (x ∷ y ∷ rest) = ap (λ l. x ∷ l) (without_cr_push (y ∷ rest))

-- a line with no CR at its end stays
pub without_cr_other : (octets : List ℕ) → ((front : List ℕ) → octets ≡ front ++ 13 ∷ [] → ⊥)
    → without_cr octets ≡ octets
without_cr_other [] none = refl
without_cr_other (x ∷ []) none =
    let other : eqb x 13 ≡ false = ne_eqb x 13 (λ same. none [] (ap (λ n. n ∷ []) same)) in
    rw other refl
without_cr_other (x ∷ y ∷ rest) none =
    ap (λ l. x ∷ l)
    (without_cr_other (y ∷ rest) (λ front same. none (x ∷ front) (ap (λ l. x ∷ l) same)))

-- a CR at the end, as a test tells it
pub without_cr_cut : (octets : List ℕ) (test : Bool) → test ≡ pointwise eqb (13 ∷ []) (drop
    (length octets - 1) octets) → test ≡ true → without_cr octets ≡ take (length octets - 1) octets
without_cr_cut octets test is holds =
    let front = take (length octets - 1) octets in
    let split : octets ≡ front ++ 13 ∷ [] =
    (ends_is Decides-eqb octets (13 ∷ []) test is).0 holds in
    ap without_cr split ∙ without_cr_push front

pub without_cr_same : (octets : List ℕ) (test : Bool) → test ≡ pointwise eqb (13 ∷ []) (drop
    (length octets - 1) octets) → test ≡ false → without_cr octets ≡ octets
without_cr_same octets test is fails =
    without_cr_other octets (λ front same. let holds : test
    ≡ true = (ends_is Decides-eqb octets (13 ∷ []) test is).1 front same in cc)

-- the same where the source may not tell what it has left

pub goes_on : (before now : LineReading) (n : ℕ) (left : Option (List ℕ)) → n
    ≤ position_or_len (λ b. eqb b 10) before.held → length before.line + n ≤ 4096 → before.taken + n
    ≤ 16777216 → now.taken ≡ before.taken + n → now.line ≡ before.line ++ take n before.held
    → now.held ≡ drop n before.held → lines_within before left ≡ lines_within now left
goes_on before now n None few short little taken_is line_is held_is = refl
goes_on before now n (Some octets) few short little taken_is line_is held_is =
    rw (taken_is, line_is, held_is)
    (ap Some (lines_from_stretch n before.taken before.line before.held octets few short little))

pub passes_line : (before now : LineReading) (x : ℕ) (rest : List ℕ) (left : Option (List ℕ))
    → before.held ≡ x ∷ rest → x ≢ 10 → 4096 ≤ length before.line
    → Divides TooLong now.line (lines_within before left) (lines_left now left)
passes_line before now x rest None next other long = refl
passes_line before now x rest (Some octets) next other long =
    rw next (ap Some (lines_from_long before.taken before.line x (rest ++ octets) other long))

pub passes_input : (before now : LineReading) (x : ℕ) (rest : List ℕ) (left : Option (List ℕ))
    → before.held ≡ x ∷ rest → (x ≢ 10 → length before.line < 4096) → 16777216 ≤ before.taken
    → Divides TooMuch now.line (lines_within before left) (lines_left now left)
passes_input before now x rest None next short much = refl
passes_input before now x rest (Some octets) next short much =
    elim (cases_eq x 10) [
      | inl same ↦ rw (next, same)
          (ap Some (lines_from_much_lf before.taken before.line (rest ++ octets) much))
      | inr other ↦ rw next (ap Some
          (lines_from_much before.taken before.line x (rest ++ octets) other (short other) much))
    ]

pub ends_line : (before now : LineReading) (x : ℕ) (left : Option (List ℕ))
    → before.held ≡ x ∷ now.held → x ≡ 10
    → before.taken < 16777216 → now.taken ≡ before.taken + 1 → now.line ≡ without_cr before.line
    → Divides Line now.line (lines_within before left) (lines_left now left)
ends_line before now x None next lf few taken_is line_is = refl
ends_line before now x (Some octets) next lf few taken_is line_is =
    rw (next, lf, taken_is, line_is)
    (ap Some (lines_from_lf before.taken before.line (now.held ++ octets) few))

-- the end of the source, in no line and in one
pub ends_input : (now : LineReading) (left : Option (List ℕ)) → now.held ≡ [] → now.line ≡ []
    → left ≡ nothing_known left → Divides End now.line (lines_within now left) (lines_left now left)
ends_input now None held_is line_is nothing = refl
ends_input now (Some octets) held_is line_is nothing =
    let empty : octets ≡ [] = cc in
    rw (held_is, line_is, empty) (ap Some (lines_from_nil now.taken))

pub lines_from_last : (taken : ℕ) (begun : List ℕ) → begun ≢ []
    → lines_from taken begun [] ≡ line begun (lines_from taken [] [])
lines_from_last taken [] some = absurd (some refl)
lines_from_last taken (b ∷ begun) some =
    lines_from_start taken b begun ∙ ap (line (b ∷ begun)) (sym (lines_from_nil taken))

pub ends_last_line : (now : LineReading) (left : Option (List ℕ))
    → now.held ≡ [] → now.line ≢ [] → left ≡ nothing_known left
    → Divides Line now.line (lines_within now left) (lines_left now left)
ends_last_line now None held_is some nothing = refl
ends_last_line now (Some octets) held_is some nothing =
    let empty : octets ≡ [] = cc in
    rw (held_is, empty) (ap Some (lines_from_last now.taken now.line some))
