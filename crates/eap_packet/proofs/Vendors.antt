-- Type-Data of the IETF's Types by the fields and by the octets.
use Rattle.std.proofs.Common.{◌≡◌, ℕ, ◌<◌, List, [], ◌∷◌, Bool, true, false, refl, sym, arith}
use Rattle.std.specs.Prelude.{◌↔◌, ◌==◌, ◌&&◌}
use Rattle.std.proofs.lemmas.Bool.Decides.{nat_tests}
use Rattle.eap_packet.specs.Expanded.{is_ietf, is_nak_body, vendor_of, vendor_type_of}
use Rattle.eap_packet.specs.Laws.{IsOfIetf, IetfIsVendorZero, NakIsVendorZero}

-- seven octets or more
seven : (a b c d e f g : ℕ) (rest : List ℕ) → g < 256 →
    (let body = a ∷ b ∷ c ∷ d ∷ e ∷ f ∷ g ∷ rest in (is_ietf body ≡ true) ↔ IsOfIetf body)
seven a b c d e f g rest fits = (
  λ is. record {
    whole = omega arith;
    vendor = grind (arith, nat_tests, is);
    small = grind (arith, nat_tests, is, fits);
    inner = grind (arith, nat_tests, is);
  },
  λ w. grind (arith, nat_tests, w.vendor, w.small),
)

pub ietf_is_vendor_zero : IetfIsVendorZero
ietf_is_vendor_zero (a ∷ b ∷ c ∷ d ∷ e ∷ f ∷ g ∷ rest) small =
    seven a b c d e f g rest (small 6 0 (omega arith))
ietf_is_vendor_zero [] small = (λ is. absurd cc, λ w. absurd (omega (arith, w.whole)))
ietf_is_vendor_zero (a ∷ []) small = (λ is. absurd cc, λ w. absurd (omega (arith, w.whole)))
ietf_is_vendor_zero (a ∷ b ∷ []) small = (λ is. absurd cc, λ w. absurd (omega (arith, w.whole)))
ietf_is_vendor_zero (a ∷ b ∷ c ∷ []) small = (λ is. absurd cc, λ w. absurd (omega (arith, w.whole)))
ietf_is_vendor_zero (a ∷ b ∷ c ∷ d ∷ []) small =
    (λ is. absurd cc, λ w. absurd (omega (arith, w.whole)))
ietf_is_vendor_zero (a ∷ b ∷ c ∷ d ∷ e ∷ []) small =
    (λ is. absurd cc, λ w. absurd (omega (arith, w.whole)))
ietf_is_vendor_zero (a ∷ b ∷ c ∷ d ∷ e ∷ f ∷ []) small =
    (λ is. absurd cc, λ w. absurd (omega (arith, w.whole)))

same_test : (b c : Bool) → (b ≡ true → c ≡ true) → (c ≡ true → b ≡ true) → b ≡ c
same_test true c so back = sym (so refl)
same_test false true so back = back refl
same_test false false so back = refl

nak_of_seven : (a b c d e f g : ℕ) (rest : List ℕ) →
    (let body = a ∷ b ∷ c ∷ d ∷ e ∷ f ∷ g ∷ rest in
    is_nak_body body ≡ ((vendor_of body == 0) && (vendor_type_of body == 3)))
nak_of_seven a b c d e f g rest =
    let body = a ∷ b ∷ c ∷ d ∷ e ∷ f ∷ g ∷ rest in
    same_test (is_nak_body body) ((vendor_of body == 0) && (vendor_type_of body == 3))
    (λ is. grind (arith, nat_tests, is)) (λ is. grind (arith, nat_tests, is))

pub nak_is_vendor_zero : NakIsVendorZero
nak_is_vendor_zero (a ∷ b ∷ c ∷ d ∷ e ∷ f ∷ g ∷ rest) whole = nak_of_seven a b c d e f g rest
nak_is_vendor_zero [] whole = absurd (omega (arith, whole))
nak_is_vendor_zero (a ∷ []) whole = absurd (omega (arith, whole))
nak_is_vendor_zero (a ∷ b ∷ []) whole = absurd (omega (arith, whole))
nak_is_vendor_zero (a ∷ b ∷ c ∷ []) whole = absurd (omega (arith, whole))
nak_is_vendor_zero (a ∷ b ∷ c ∷ d ∷ []) whole = absurd (omega (arith, whole))
nak_is_vendor_zero (a ∷ b ∷ c ∷ d ∷ e ∷ []) whole = absurd (omega (arith, whole))
nak_is_vendor_zero (a ∷ b ∷ c ∷ d ∷ e ∷ f ∷ []) whole = absurd (omega (arith, whole))
