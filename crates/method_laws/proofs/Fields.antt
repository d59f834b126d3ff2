-- Two joins that are equal, cut into their parts.
use Rattle.std.proofs.Common.{◌≡◌, ℕ, ◌/◌, ◌%◌, List, ◌∷◌, ◌++◌, length, take, drop, refl, sym, ap}
use Rattle.std.proofs.Common.{◌∙◌, length-append, take_at, arith}
use Rattle.std.proofs.lemmas.List.{drop_at}
use Rattle.octet_lists.specs.declared.suite.Suite.{Suite}
use Rattle.octet_lists.specs.declared.suite.Suite.TheVariants.{Cmac, Hmac}
use Rattle.octet_lists.specs.Suite.{suite_octets}
use Rattle.gpsk_messages.specs.Message.{field_with_length}

-- fronts of equal length
pub fronts : (n : ℕ) (x r y s : List ℕ) → length x ≡ n → length y ≡ n → x ++ r ≡ y ++ s
    → (x ≡ y) × (r ≡ s)
fronts n x r y s x_size y_size e = (
  sym (take_at x r n x_size) ∙ ap (λ (l : List ℕ). take n l) e ∙ take_at y s n y_size,
  sym (drop_at x r n x_size) ∙ ap (λ (l : List ℕ). drop n l) e ∙ drop_at y s n y_size,
)

-- ends of equal length
pub ends : (n : ℕ) (x r y s : List ℕ) → length r ≡ n → length s ≡ n → x ++ r ≡ y ++ s
    → (x ≡ y) × (r ≡ s)
ends n x r y s r_size s_size e =
    let whole : length (x ++ r) ≡ length (y ++ s) = ap length e in
    fronts (length x) x r y s refl (omega (arith, length-append x r, length-append y s)) e

-- fields behind their lengths
pub sized_fronts : (x r y s : List ℕ) → field_with_length x ++ r ≡ field_with_length y ++ s
    → (x ≡ y) × (r ≡ s)
sized_fronts x r y s e =
    let high : length x / 256 ≡ length y / 256 = cc in
    let low : length x % 256 ≡ length y % 256 = cc in
    let rest : x ++ r ≡ y ++ s = cc in
    fronts (length x) x r y s refl (omega arith) rest

number_fronts : (x y : ℕ) (r s : List ℕ)
    → ◌≡◌ {A = List ℕ} (0 ∷ 0 ∷ 0 ∷ 0 ∷ 0 ∷ x ∷ r) (0 ∷ 0 ∷ 0 ∷ 0 ∷ 0 ∷ y ∷ s) → x ≡ y
number_fronts x y r s e = cc

-- suites
pub suite_fronts : (one other : Suite) (r s : List ℕ)
    → suite_octets one ++ r ≡ suite_octets other ++ s → one ≡ other
suite_fronts Cmac Cmac r s e = refl
suite_fronts Cmac Hmac r s e =
    let n : ◌≡◌ {A = ℕ} 1 2 = number_fronts 1 2 r s e in absurd (omega (arith, n))
suite_fronts Hmac Cmac r s e =
    let n : ◌≡◌ {A = ℕ} 2 1 = number_fronts 2 1 r s e in absurd (omega (arith, n))
suite_fronts Hmac Hmac r s e = refl
