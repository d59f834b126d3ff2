-- What it means that no cause applies: each condition by name.
use Rattle.std.proofs.Common.{◌≡◌, ℕ, ◌≤◌, List, [], ◌∷◌, ◌++◌, length, Some, None, Bool, true}
use Rattle.std.proofs.Common.{false, not, IsTrue, refl, arith}
use Rattle.std.proofs.lemmas.Bool.Decides.{nat_tests}
use Rattle.radius_carry.specs.Packet.{is_code, count, eap_of, tag_of}
use Rattle.radius_carry.specs.Fault.{fault, first_cause, head_table, body_table, body_of, code_of}
use Rattle.radius_carry.specs.Fault.{length_of, attributes_of, left_of}
use Rattle.radius_carry.specs.declared.cause.RadiusCause.{RadiusCause}

-- the fields before the attributes
pub record HasHead (octets : List ℕ) : Type 0 where
  pub twenty : 20 ≤ length octets
  pub known : IsTrue (is_code (code_of octets))
  pub low : 20 ≤ length_of octets
  pub high : length_of octets ≤ 4096
  pub whole : length_of octets ≤ length octets

-- the attributes
pub record HasBody (body : List ℕ) : Type 0 where
  pub none_left : length (left_of body) ≡ 0
  pub carries : 1 ≤ count 79 (attributes_of body)
  pub eap_bounded : length (eap_of (attributes_of body)) ≤ 1500
  pub lone_tag : count 80 (attributes_of body) ≡ 1
  pub tag_size : length (tag_of (attributes_of body)) ≡ 16

-- none of the conditions holds
abbrev AllFail : List (Bool × RadiusCause) → Type 0
AllFail [] = Unit {0}
AllFail ((test, cause) ∷ rest) = (test ≡ false) × AllFail rest

AllFail_from_none : (rows : List (Bool × RadiusCause)) → first_cause rows ≡ None → AllFail rows
AllFail_from_none [] e = tt
AllFail_from_none ((true, cause) ∷ rest) e = cc
AllFail_from_none ((false, cause) ∷ rest) e = (refl, AllFail_from_none rest e)

first_cause_fail : (rows : List (Bool × RadiusCause)) → AllFail rows → first_cause rows ≡ None
first_cause_fail [] fail = refl
first_cause_fail ((true, cause) ∷ rest) fail = cc (fail.0)
first_cause_fail ((false, cause) ∷ rest) fail = first_cause_fail rest fail.1

not_false : (b : Bool) → not b ≡ false → IsTrue b
not_false true e = refl
not_false false e = cc

not_true : (b : Bool) → IsTrue b → not b ≡ false
not_true true e = refl
not_true false e = cc

-- the first cause of two tables
pub first_of_both : (rows more : List (Bool × RadiusCause)) → first_cause rows ≡ None
    → first_cause (rows ++ more) ≡ first_cause more
first_of_both [] more e = refl
first_of_both ((true, cause) ∷ rows) more e = cc
first_of_both ((false, cause) ∷ rows) more e = first_of_both rows more e

pub first_of_head : (rows more : List (Bool × RadiusCause)) (found : RadiusCause)
    → first_cause rows ≡ Some found →
    first_cause (rows ++ more) ≡ Some found
first_of_head [] more found e = cc
first_of_head ((true, cause) ∷ rows) more found e = e
first_of_head ((false, cause) ∷ rows) more found e = first_of_head rows more found e

none_of_first : (rows more : List (Bool × RadiusCause)) → first_cause (rows ++ more) ≡ None
    → first_cause rows ≡ None
none_of_first [] more e = refl
none_of_first ((true, cause) ∷ rows) more e = cc
none_of_first ((false, cause) ∷ rows) more e = none_of_first rows more e

none_of_more : (rows more : List (Bool × RadiusCause)) → first_cause (rows ++ more) ≡ None
    → first_cause more ≡ None
none_of_more [] more e = e
none_of_more ((true, cause) ∷ rows) more e = cc
none_of_more ((false, cause) ∷ rows) more e = none_of_more rows more e

pub head_if_none : (octets : List ℕ) → first_cause (head_table octets) ≡ None → HasHead octets
head_if_none octets e =
    let fail = AllFail_from_none (head_table octets) e in
    record {
      twenty = grind (arith, nat_tests, fail.0);
      known = not_false (is_code (code_of octets)) fail.1.0;
      low = grind (arith, nat_tests, fail.1.1.0);
      high = grind (arith, nat_tests, fail.1.1.0);
      whole = grind (arith, nat_tests, fail.1.1.1.0);
    }

body_if_none : (body : List ℕ) → first_cause (body_table body) ≡ None → HasBody body
body_if_none body e =
    let fail = AllFail_from_none (body_table body) e in
    record {
      none_left = grind (arith, nat_tests, fail.0);
      carries = grind (arith, nat_tests, fail.1.0);
      eap_bounded = grind (arith, nat_tests, fail.1.1.0);
      lone_tag = grind (arith, nat_tests, fail.1.1.1.0);
      tag_size = grind (arith, nat_tests, fail.1.1.1.0);
    }

-- what octets without a fault begin with
pub record StartsAt (octets : List ℕ) : Type 0 where
  pub head : HasHead octets
  pub body : HasBody (body_of octets)

pub starts_if_none : (octets : List ℕ) → fault octets ≡ None → StartsAt octets
unfolding fault
starts_if_none octets e = record {
  head = head_if_none octets (none_of_first (head_table octets) (body_table (body_of octets)) e);
  body = body_if_none (body_of octets)
      (none_of_more (head_table octets) (body_table (body_of octets)) e);
}

pub head_if_faultless : (octets : List ℕ) → fault octets ≡ None → HasHead octets
head_if_faultless octets e = (starts_if_none octets e).head

pub none_if_starts : (octets : List ℕ) → StartsAt octets → fault octets ≡ None
unfolding fault
none_if_starts octets b =
    let head = b.head in
    let body = b.body in
    first_cause_fail (head_table octets ++ body_table (body_of octets)) (
      grind (arith, nat_tests),
      (
        not_true (is_code (code_of octets)) head.known,
        (
          grind (arith, nat_tests),
          (
            grind (arith, nat_tests),
            (
              grind (arith, nat_tests),
              (
                grind (arith, nat_tests),
                (grind (arith, nat_tests), (grind (arith, nat_tests), tt)),
              ),
            ),
          ),
        ),
      ),
    )
