-- What it means that no cause applies: each condition by name.
use Rattle.std.proofs.Common.{◌≡◌, ◌≢◌, ℕ, ◌<◌, ◌≤◌, List, [], ◌∷◌, length, None, Bool, true, false}
use Rattle.std.proofs.Common.{refl, arith}
use Rattle.std.proofs.lemmas.Bool.Decides.{nat_tests}
use Rattle.eap_packet.specs.declared.cause.Cause.{Cause}
use Rattle.eap_packet.specs.Fault.{fault, fault_table, first_cause, code_of, length_of, type_of}

-- The fields of octets that begin with a packet: how many octets there are, the Code, the Length
-- and the Type.
pub record AreFields (count code size kind : ℕ) : Type 0 where
  pub four : 4 ≤ count
  pub low : 1 ≤ code
  pub high : code ≤ 4
  pub typed : code ≤ 2 → 5 ≤ size
  pub plain : 2 < code → size ≡ 4
  pub whole : size ≤ count
  pub fits : size ≤ 1500
  pub no_nak : code ≡ 1 → kind ≢ 3
  pub desires : code ≡ 2 → kind ≡ 3 → size ≢ 5

-- The octets begin with a packet.
abbrev pub StartsAt : List ℕ → Type 0
StartsAt octets = AreFields (length octets) (code_of octets) (length_of octets) (type_of octets)

-- None of the conditions holds.
abbrev AllFail : List (Bool × Cause) → Type 0
AllFail [] = Unit {0}
AllFail ((test, cause) ∷ rest) = (test ≡ false) × AllFail rest

AllFail_from_none : (rows : List (Bool × Cause)) → first_cause rows ≡ None → AllFail rows
AllFail_from_none [] e = tt
AllFail_from_none ((true, cause) ∷ rest) e = cc
AllFail_from_none ((false, cause) ∷ rest) e = (refl, AllFail_from_none rest e)

first_cause_fail : (rows : List (Bool × Cause)) → AllFail rows → first_cause rows ≡ None
first_cause_fail [] fail = refl
first_cause_fail ((true, cause) ∷ rest) fail = cc (fail.0)
first_cause_fail ((false, cause) ∷ rest) fail = first_cause_fail rest fail.1

pub starts_if_none : (octets : List ℕ) → fault octets ≡ None → StartsAt octets
unfolding fault
starts_if_none octets e =
    let fail = AllFail_from_none (fault_table octets) e in
    let bad_code = fail.1.0 in
    let bad_length = fail.1.1.0 in
    let nak_request = fail.1.1.1.1.1.0 in
    let bad_nak = fail.1.1.1.1.1.1.0 in
    record {
      four = grind (arith, nat_tests, fail.0);
      low = grind (arith, nat_tests, bad_code);
      high = grind (arith, nat_tests, bad_code);
      typed = λ h. grind (arith, nat_tests, bad_length);
      plain = λ h. grind (arith, nat_tests, bad_length);
      whole = grind (arith, nat_tests, fail.1.1.1.0);
      fits = grind (arith, nat_tests, fail.1.1.1.1.0);
      no_nak = λ h k. grind (arith, nat_tests, nak_request);
      desires = λ h k s. grind (arith, nat_tests, bad_nak);
    }

pub none_if_starts : (octets : List ℕ) → StartsAt octets → fault octets ≡ None
unfolding fault
none_if_starts octets b =
    first_cause_fail (fault_table octets) (
      grind (arith, nat_tests),
      (
        grind (arith, nat_tests),
        (
          grind (arith, nat_tests),
          (
            grind (arith, nat_tests),
            (grind (arith, nat_tests), (grind (arith, nat_tests), (grind (arith, nat_tests), tt))),
          ),
        ),
      ),
    )
