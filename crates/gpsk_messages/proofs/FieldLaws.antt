-- A field that is read is the field that is spelled, and what is spelled is read again.
use Rattle.std.proofs.Common.{◌≡◌, ℕ, zero, suc, ◌+◌, ◌*◌, ◌/◌, ◌%◌, ◌^◌, ◌<◌, true, eqb, leb, ltb}
use Rattle.std.proofs.Common.{List, [], ◌∷◌, ◌++◌, length, get_or, take, drop, Option, Some, None}
use Rattle.std.proofs.Common.{refl, sym, ap, subst, ◌∙◌, append_assoc, arith, inl, inr}
use Rattle.std.specs.Prelude.{◌&&◌}
use Rattle.std.specs.Int.{w32, from_be_bytes, to_be_bytes}
use Rattle.std.proofs.lemmas.Bool.{cases_lt, leb-true, le-leb, ltb-true, lt-ltb, eqb-true, eq-eqb}
use Rattle.std.proofs.lemmas.Bool.{ne_eqb, and_parts, and_from}
use Rattle.std.proofs.lemmas.List.{take_at, drop_at, take-append-drop, length-append}
use Rattle.std.proofs.lemmas.List.{length-take-le, get_or_past}
use Rattle.std.proofs.lemmas.List.Elements.{All-take, All-drop, All-tail}
use Rattle.std.proofs.lemmas.Nat.{be_bytes_4, from_be_bytes-to_be_bytes_4}
use Rattle.std.proofs.lemmas.Option.{cond_some, same_Some}
use Rattle.octet_lists.specs.declared.suite.Suite.{Suite}
use Rattle.octet_lists.specs.declared.suite.Suite.TheVariants.{Cmac, Hmac}
use Rattle.octet_lists.specs.Suite.{suite_octets}
use Rattle.eap_packet.specs.Packet.{IsOctets}
use Rattle.gpsk_messages.specs.Message.{field_with_length, IsIdentity, IsBlock, IsSuiteList}
use Rattle.gpsk_messages.specs.Reading.{and_then, exact_at, sized_at, identity_at, suites_at}
use Rattle.gpsk_messages.specs.Reading.{suite_at, code_at}

-- a step that gave something
pub step_of : {A B : Type 0} (read : Option A) (step : A → Option B) (y : B)
    → and_then read step ≡ Some y → (x : A) × (read ≡ Some x) × (step x ≡ Some y)
unfolding and_then
step_of None step y e = absurd cc
step_of (Some x) step y e = (x, refl, e)

pub step_again : {A B : Type 0} (read : Option A) (step : A → Option B) (x : A) → read ≡ Some x
    → and_then read step ≡ step x
unfolding and_then
step_again read step x e = rw e refl

-- what a reader took from the front
pub record PrefixedBy (octets text rest : List ℕ) : Type 0 where
  pub parts : octets ≡ text ++ rest
  pub rest_small : IsOctets rest

pub PrefixedBy_then : {a x b y c : List ℕ} → PrefixedBy a x b → PrefixedBy b y c
    → PrefixedBy a (x ++ y) c
PrefixedBy_then {a} {x} {b} {y} {c} p q = record {
  parts = p.parts ∙ ap (λ (t : List ℕ). x ++ t) q.parts ∙ sym (append_assoc x y c);
  rest_small = q.rest_small;
}

-- ---- what is read is spelled so

pub exact_consumes : (count : ℕ) (octets : List ℕ) (x : List ℕ × List ℕ) → IsOctets octets
    → exact_at count octets ≡ Some x →
    PrefixedBy octets x.0 x.1 × (length x.0 ≡ count)
unfolding exact_at
exact_consumes count octets x small e =
    let g = cond_some {A = List ℕ × List ℕ} (leb count (length octets))
    (take count octets, drop count octets) x e in
    let whole : PrefixedBy octets (take count octets) (drop count octets) = record {
      parts = sym (take-append-drop count octets);
      rest_small = All-drop (λ b. b < 256) count octets small;
    } in
    subst (λ (p : List ℕ × List ℕ). PrefixedBy octets p.0 p.1 × (length p.0 ≡ count)) g.1
    (whole, length-take-le count octets (leb-true count (length octets) g.0))

exact_small : (count : ℕ) (octets : List ℕ) (x : List ℕ × List ℕ) → IsOctets octets
    → exact_at count octets ≡ Some x → IsOctets x.0
unfolding exact_at
exact_small count octets x small e =
    let g = cond_some {A = List ℕ × List ℕ} (leb count (length octets))
    (take count octets, drop count octets) x e in
    subst (λ (p : List ℕ × List ℕ). IsOctets p.0) g.1 (All-take (λ b. b < 256) count octets small)

pub sized_consumes : (octets : List ℕ) (x : List ℕ × List ℕ) → IsOctets octets
    → sized_at octets ≡ Some x → PrefixedBy octets (field_with_length x.0) x.1 × IsBlock x.0
unfolding sized_at
sized_consumes [] x small e = absurd cc
sized_consumes (high ∷ []) x small e = absurd cc
sized_consumes (high ∷ low ∷ octets) x small e =
    let high_small : high < 256 = small 0 0 (omega arith) in
    let low_small : low < 256 = small 1 0 (omega arith) in
    let tail =
    All-tail (λ b. b < 256) low octets (All-tail (λ b. b < 256) high (low ∷ octets) small) in
    let t = exact_consumes (256 * high + low) octets x tail e in
    let count = t.1 in
    let first : length x.0 / 256 ≡ high = omega arith in
    let second : length x.0 % 256 ≡ low = omega arith in
    let joined = t.0.parts in
    (record { parts = cc; rest_small = t.0.rest_small }, omega arith)

pub identity_consumes : (octets : List ℕ) (x : List ℕ × List ℕ) → IsOctets octets
    → identity_at octets ≡ Some x → PrefixedBy octets (field_with_length x.0) x.1 × IsIdentity x.0
unfolding identity_at
identity_consumes octets x small e =
    let s = step_of _ _ _ e in
    let g = cond_some (leb (length s.0.0) 253) s.0 x s.2 in
    subst (λ (p : List ℕ × List ℕ). PrefixedBy octets (field_with_length p.0) p.1 × IsIdentity p.0)
    g.1 ((sized_consumes octets s.0 small s.1).0, leb-true (length s.0.0) 253 g.0)

pub suites_consume : (octets : List ℕ) (x : List ℕ × List ℕ) → IsOctets octets
    → suites_at octets ≡ Some x → PrefixedBy octets (field_with_length x.0) x.1 × IsSuiteList x.0
unfolding suites_at
suites_consume octets x small e =
    let s = step_of _ _ _ e in
    let size = length s.0.0 in
    let g = cond_some (ltb 0 size && eqb (size % 6) 0) s.0 x s.2 in
    let tests = and_parts (ltb 0 size) (eqb (size % 6) 0) g.0 in
    let t = sized_consumes octets s.0 small s.1 in
    let list : IsSuiteList s.0.0 =
    record { some = ltb-true 0 size tests.0; whole = eqb-true (size % 6) 0 tests.1; size = t.1 } in
    subst (λ (p : List ℕ × List ℕ). PrefixedBy octets (field_with_length p.0) p.1 × IsSuiteList p.0)
    g.1 (t.0, list)

suite_front : (suite : Suite) (octets : List ℕ) (x : Suite × List ℕ)
    → IsOctets (suite_octets suite ++ octets) → (suite, octets) ≡ x →
    PrefixedBy (suite_octets suite ++ octets) (suite_octets x.0) x.1
suite_front suite octets x small e =
    let taken : PrefixedBy (suite_octets suite ++ octets) (suite_octets suite) octets = record {
      parts = refl;
      rest_small = All-drop (λ b. b < 256) 6 (suite_octets suite ++ octets) small;
    } in
    subst (λ (p : Suite × List ℕ). PrefixedBy (suite_octets suite ++ octets) (suite_octets p.0) p.1)
    e taken

pub suite_consumes : (octets : List ℕ) (x : Suite × List ℕ) → IsOctets octets
    → suite_at octets ≡ Some x → PrefixedBy octets (suite_octets x.0) x.1
unfolding suite_at
suite_consumes (zero ∷ zero ∷ zero ∷ zero ∷ zero ∷ suc zero ∷ octets) x small e =
    suite_front Cmac octets x small (same_Some (Cmac, octets) x e)
suite_consumes (zero ∷ zero ∷ zero ∷ zero ∷ zero ∷ suc (suc zero) ∷ octets) x small e =
    suite_front Hmac octets x small (same_Some (Hmac, octets) x e)
suite_consumes (zero ∷ zero ∷ zero ∷ zero ∷ zero ∷ suc (suc (suc n)) ∷ octets) x small e =
    let first = ne_eqb (suc (suc (suc n))) 1 (omega arith) in
    let second = ne_eqb (suc (suc (suc n))) 2 (omega arith) in
    absurd (cc (first, second, e))
suite_consumes octets x small e = absurd cc

-- an octet at any place
small_at : (octets : List ℕ) → IsOctets octets → (i : ℕ) → get_or octets i 0 < 256
small_at octets small i =
    elim (cases_lt i (length octets)) [
      | inl within ↦ small i 0 within
      | inr past ↦ rw (get_or_past octets i 0 past) (omega arith)
    ]

pub code_consumes : (octets : List ℕ) (x : ℕ × List ℕ) → IsOctets octets → code_at octets ≡ Some x
    → PrefixedBy octets (to_be_bytes w32 x.0) x.1 × (x.0 < 2 ^ 32)
unfolding code_at
code_consumes octets x small e =
    let s = step_of _ _ _ e in
    let front = s.0.0 in
    let t = exact_consumes 4 octets s.0 small s.1 in
    let fits = small_at front (exact_small 4 octets s.0 small s.1) in
    let back : to_be_bytes w32 (from_be_bytes w32 front) ≡ front =
    be_bytes_4 front (from_be_bytes w32 front) t.1 fits refl in
    let below : from_be_bytes w32 front < 2 ^ 32 = omega (arith, fits 0, fits 1, fits 2, fits 3) in
    let taken : PrefixedBy octets (to_be_bytes w32 (from_be_bytes w32 front)) s.0.1 = record {
      parts = t.0.parts ∙ ap (λ (f : List ℕ). f ++ s.0.1) (sym back);
      rest_small = t.0.rest_small;
    } in
    subst (λ (p : ℕ × List ℕ). PrefixedBy octets (to_be_bytes w32 p.0) p.1 × (p.0 < 2 ^ 32))
    (same_Some (from_be_bytes w32 front, s.0.1) x s.2) (taken, below)

-- ---- what is spelled so is read

pub exact_again : (count : ℕ) (field rest : List ℕ) → length field ≡ count
    → exact_at count (field ++ rest) ≡ Some (field, rest)
unfolding exact_at
exact_again count field rest size =
    let fits : leb count (length (field ++ rest)) ≡ true =
    le-leb _ _ (omega (arith, length-append field rest)) in
    rw (fits, take_at field rest count size, drop_at field rest count size) refl

pub sized_again : (field rest : List ℕ) → sized_at (field_with_length field ++ rest)
    ≡ Some (field, rest)
unfolding sized_at
sized_again field rest =
    let n = length field in
    exact_again (256 * (n / 256) + n % 256) field rest (omega arith)

pub identity_again : (field rest : List ℕ) → IsIdentity field
    → identity_at (field_with_length field ++ rest) ≡ Some (field, rest)
unfolding identity_at and_then
identity_again field rest fits = rw (sized_again field rest, le-leb (length field) 253 fits) refl

pub suites_again : (field rest : List ℕ) → IsSuiteList field
    → suites_at (field_with_length field ++ rest) ≡ Some (field, rest)
unfolding suites_at and_then
suites_again field rest list =
    rw (
      sized_again field rest,
      and_from _ _ (lt-ltb 0 (length field) list.some) (eq-eqb (length field % 6) 0 list.whole),
    ) refl

pub suite_again : (suite : Suite) (rest : List ℕ) → suite_at (suite_octets suite ++ rest)
    ≡ Some (suite, rest)
unfolding suite_at
suite_again Cmac rest = refl
suite_again Hmac rest = refl

pub code_again : (code : ℕ) (rest : List ℕ) → code < 2 ^ 32 → code_at (to_be_bytes w32 code ++ rest)
    ≡ Some (code, rest)
unfolding code_at and_then
code_again code rest fits =
    rw (exact_again 4 (to_be_bytes w32 code) rest refl, from_be_bytes-to_be_bytes_4 code fits) refl
