-- What the tests of the turns tell.
use Rattle.std.proofs.Common.{◌≡◌, ℕ, ◌<◌, List, Bool, true, false, refl, sym, ap, Option, arith}
use Rattle.std.specs.Prelude.{◌/◌, ◌%◌, ◌==◌, not}
use Rattle.std.specs.Str.{bytes_eq}
use Rattle.std.proofs.lemmas.Bool.{false≢true, eqb-false, or_parts}
use Rattle.std.proofs.lemmas.Slice.Eq.{bytes_eq-Decides}
use Rattle.octet_lists.specs.declared.suite.Suite.{Suite}
use Rattle.octet_lists.specs.declared.suite.Suite.TheVariants.{Cmac, Hmac}
use Rattle.eax_mode.specs.Eax.{eax_accepts, eax_tag}
use Rattle.eap_packet.specs.declared.cause.Cause.{Cause}
use Rattle.eap_method.specs.Turns.{fault_if}
use Rattle.eap_method.specs.GpskTags.{same_suite}
use Rattle.eap_method.specs.PskTags.{result_of, is_extended, done_success, done_failure}

pub of_not : (test : Bool) → not test ≡ false → test ≡ true
of_not true e = refl
of_not false e = sym e

pub equal_octets : (xs ys : List ℕ) → bytes_eq xs ys ≡ true → xs ≡ ys
equal_octets xs ys e = (bytes_eq-Decides xs ys).0 e

pub equal_suites : (one other : Suite) → same_suite one other ≡ true → one ≡ other
equal_suites Cmac Cmac e = refl
equal_suites Cmac Hmac e = absurd (false≢true e)
equal_suites Hmac Cmac e = absurd (false≢true e)
equal_suites Hmac Hmac e = refl

-- the tag that EAX accepts is the one that it makes
pub equal_tags : (key nonce header ciphertext tag : List ℕ)
    → eax_accepts key nonce header ciphertext tag ≡ true
    → eax_tag key nonce header ciphertext ≡ tag
unfolding eax_accepts
equal_tags key nonce header ciphertext tag e =
    equal_octets (eax_tag key nonce header ciphertext) tag e

-- of an octet that is no fault, R is 3 where it isn't 2
pub failure_left : (octet : ℕ) → (result_of octet == 0) ≡ false → is_extended octet ≡ false
    → (result_of octet == done_success) ≡ false
    → octet < 256 → result_of octet ≡ done_failure
failure_left octet not_zero is_plain not_two fits =
    let not_0 = eqb-false (result_of octet) 0 not_zero in
    let not_1 = eqb-false (result_of octet) 1
    (or_parts (octet / 32 % 2 == 1) (result_of octet == 1) is_plain).1 in
    let not_2 = eqb-false (result_of octet) 2 not_two in
    omega arith

-- ---- what a test gives where it holds

pub bytes_same : (octets : List ℕ) → bytes_eq octets octets ≡ true
bytes_same octets = (bytes_eq-Decides octets octets).1 refl

pub no_fault : (test : Bool) (cause : Cause) (rest : Option Cause) → test ≡ true
    → fault_if (not test) cause rest ≡ rest
no_fault test cause rest e = ap (λ t. fault_if (not t) cause rest) e
