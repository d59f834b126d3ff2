-- The grammar at worked values.
use Rattle.std.proofs.Common.{◌≡◌, ℕ, List, [], ◌∷◌, ◌++◌, replicate, ◌*◌, Some, None, Ok, Err}
use Rattle.std.proofs.Common.{refl}
use Rattle.octet_lists.specs.declared.suite.Suite.TheVariants.{Cmac, Hmac}
use Rattle.eap_packet.specs.declared.cause.Cause.TheVariants.{GpskShape, ListTooLong}
use Rattle.gpsk_messages.specs.Message.{gpsk1, gpsk2, gpsk3, gpsk4, fail, protected_fail}
use Rattle.gpsk_messages.specs.Message.{covered_of, spelled}
use Rattle.gpsk_messages.specs.Reading.{and_then, exact_at, sized_at, identity_at, suites_at}
use Rattle.gpsk_messages.specs.Reading.{suite_at, code_at, gpsk1_at, gpsk2_at, gpsk3_at, gpsk4_at}
use Rattle.gpsk_messages.specs.Reading.{fail_at, protected_fail_at, fields_at, loose_of, read_of}

-- the name srv, and both suites of the standard in a list
srv : List ℕ
srv = 115 ∷ 114 ∷ 118 ∷ []

suite_1 : List ℕ
suite_1 = 0 ∷ 0 ∷ 0 ∷ 0 ∷ 0 ∷ 1 ∷ []

suite_2 : List ℕ
suite_2 = 0 ∷ 0 ∷ 0 ∷ 0 ∷ 0 ∷ 2 ∷ []

rand : List ℕ
rand = replicate 32 34

-- a server's first message, octet by octet
first_octets : List ℕ
first_octets = 1 ∷ 0 ∷ 3 ∷ 115 ∷ 114 ∷ 118 ∷ rand ++ (0 ∷ 12 ∷ suite_1 ++ suite_2)

first_encoded : spelled (gpsk1 srv rand (suite_1 ++ suite_2)) ≡ first_octets
unfolding spelled covered_of first_octets srv suite_1 suite_2 rand
first_encoded = refl

first_read : read_of None first_octets ≡ Ok (gpsk1 srv rand (suite_1 ++ suite_2))
unfolding read_of loose_of fields_at gpsk1_at and_then exact_at sized_at identity_at suites_at
    first_octets srv suite_1 suite_2 rand
first_read = refl

-- an octet after the last field, or no list, spells nothing
octet_after : read_of None (5 ∷ 0 ∷ 0 ∷ 0 ∷ 1 ∷ 9 ∷ []) ≡ Err GpskShape
unfolding read_of loose_of fields_at fail_at code_at and_then exact_at
octet_after = refl

no_list : read_of None (1 ∷ 0 ∷ 0 ∷ rand ++ (0 ∷ 0 ∷ [])) ≡ Err GpskShape
unfolding read_of loose_of fields_at gpsk1_at and_then exact_at sized_at identity_at suites_at rand
no_list = refl

other_op_code : read_of None (7 ∷ []) ≡ Err GpskShape
unfolding read_of loose_of fields_at and_then
other_op_code = refl

a_failure : read_of None (5 ∷ 0 ∷ 0 ∷ 1 ∷ 2 ∷ []) ≡ Ok (fail 258)
unfolding read_of loose_of fields_at fail_at code_at and_then exact_at
a_failure = refl

-- lists of 20 and of 21 suites
suites : ℕ → List ℕ
suites count = replicate (6 * count) 0

twenty : read_of None (1 ∷ 0 ∷ 0 ∷ rand ++ (0 ∷ 120 ∷ suites 20)) ≡ Ok (gpsk1 [] rand (suites 20))
unfolding read_of loose_of fields_at gpsk1_at and_then exact_at sized_at identity_at
    suites_at rand suites
twenty = refl

twenty_one : read_of None (1 ∷ 0 ∷ 0 ∷ rand ++ (0 ∷ 126 ∷ suites 21)) ≡ Err ListTooLong
unfolding read_of loose_of fields_at gpsk1_at and_then exact_at sized_at identity_at
    suites_at rand suites
twenty_one = refl

-- the MAC of GPSK-4 has KS octets, and 16 or 32 where the suite isn't known
fourth : ℕ → List ℕ
fourth size = 4 ∷ 0 ∷ 1 ∷ 7 ∷ replicate size 9

fourth_short : read_of None (fourth 16) ≡ Ok (gpsk4 (7 ∷ []) (replicate 16 9))
unfolding read_of loose_of fields_at gpsk4_at and_then exact_at sized_at fourth
fourth_short = refl

fourth_long : read_of (Some 32) (fourth 32) ≡ Ok (gpsk4 (7 ∷ []) (replicate 32 9))
unfolding read_of loose_of fields_at gpsk4_at and_then exact_at sized_at fourth
fourth_long = refl

fourth_other : read_of (Some 32) (fourth 16) ≡ Err GpskShape
unfolding read_of loose_of fields_at gpsk4_at and_then exact_at sized_at fourth
fourth_other = refl

-- a peer's answer, and what its MAC covers
second_read : read_of None (spelled (gpsk2 srv srv rand rand suite_2 Hmac [] (replicate 32 9)))
    ≡ Ok (gpsk2 srv srv rand rand suite_2 Hmac [] (replicate 32 9))
unfolding read_of loose_of fields_at gpsk2_at and_then exact_at sized_at identity_at suites_at
    suite_at spelled covered_of srv suite_2 rand
second_read = refl

second_short : read_of None (spelled (gpsk2 srv srv rand rand suite_2 Hmac [] (replicate 16 9)))
    ≡ Err GpskShape
unfolding read_of loose_of fields_at gpsk2_at and_then exact_at sized_at identity_at suites_at
    suite_at spelled covered_of srv suite_2 rand
second_short = refl

third_read : read_of None (spelled (gpsk3 rand rand srv Cmac [] (replicate 16 9)))
    ≡ Ok (gpsk3 rand rand srv Cmac [] (replicate 16 9))
unfolding read_of loose_of fields_at gpsk3_at and_then exact_at sized_at identity_at suite_at
    spelled covered_of srv rand
third_read = refl

covered_third : covered_of (gpsk3 rand rand srv Cmac [] (replicate 16 9))
    ≡ rand ++ rand ++ (0 ∷ 3 ∷ srv) ++ suite_1 ++ 0 ∷ 0 ∷ []
unfolding covered_of srv rand suite_1
covered_third = refl

protected_failure : read_of (Some 16) (6 ∷ 0 ∷ 0 ∷ 0 ∷ 3 ∷ replicate 16 9)
    ≡ Ok (protected_fail 3 (replicate 16 9))
unfolding read_of loose_of fields_at protected_fail_at code_at and_then exact_at
protected_failure = refl
