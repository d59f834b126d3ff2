-- The soundness of settings at worked values.
use Rattle.std.proofs.Common.{◌≡◌, true, false, [], ◌∷◌, replicate, refl}
use Rattle.login_setup.specs.Setup.{are_kinds, are_method_kinds, are_suites, is_valid_for}

pub both_kinds : are_kinds (51 ∷ 47 ∷ []) ≡ true
both_kinds = refl

pub no_kinds : are_kinds [] ≡ true
no_kinds = refl

pub kind_twice : are_kinds (51 ∷ 51 ∷ []) ≡ false
kind_twice = refl

pub other_kind : are_kinds (4 ∷ 47 ∷ []) ≡ false
other_kind = refl

-- Types of methods begin at 4, and 254 is that of Expanded Types
pub method_kinds : are_method_kinds (4 ∷ 253 ∷ 255 ∷ 47 ∷ []) ≡ true
method_kinds = refl

pub no_method_kinds : (are_method_kinds (3 ∷ []) ≡ false) × (are_method_kinds (254 ∷ []) ≡ false)
no_method_kinds = (refl, refl)

pub method_kind_twice : are_method_kinds (255 ∷ 255 ∷ []) ≡ false
method_kind_twice = refl

pub both_suites : are_suites (2 ∷ 1 ∷ []) ≡ true
both_suites = refl

pub no_suites : are_suites [] ≡ false
no_suites = refl

pub suite_twice : are_suites (1 ∷ 1 ∷ []) ≡ false
suite_twice = refl

pub suite_three : are_suites (3 ∷ []) ≡ false
suite_three = refl

pub psk_key : is_valid_for 47 (replicate 16 7) ≡ true
psk_key = refl

pub long_psk_key : is_valid_for 47 (replicate 17 7) ≡ false
long_psk_key = refl

pub short_gpsk_key : is_valid_for 51 (replicate 31 7) ≡ false
short_gpsk_key = refl

pub gpsk_keys : (is_valid_for 51 (replicate 32 7) ≡ true)
    × (is_valid_for 51 (replicate 64 7) ≡ true)
gpsk_keys = (refl, refl)

pub long_gpsk_key : is_valid_for 51 (replicate 65 7) ≡ false
long_gpsk_key = refl

pub other_keys : (is_valid_for 255 [] ≡ true) × (is_valid_for 4 (replicate 65 7) ≡ false)
other_keys = (refl, refl)
