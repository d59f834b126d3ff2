-- Reading Type-Data as an EAP-GPSK message (RFC 5433 section 9), field by field.
use Rattle.std.specs.Prelude.{ℕ, zero, ◌+◌, ◌*◌, ◌%◌, List, [], ◌∷◌, length, take, drop, Bool}
use Rattle.std.specs.Prelude.{nat_lt, nat_le, ◌==◌, ◌&&◌, ◌||◌, if◌then◌else◌, Option, Some, None}
use Rattle.std.specs.Prelude.{option_map, Result, Ok, Err}
use Rattle.std.specs.Int.{w32, from_be_bytes}
use Rattle.octet_lists.specs.declared.suite.Suite.{Suite}
use Rattle.octet_lists.specs.Suite.{ks_of, suite_numbered}
use Rattle.octet_lists.specs.Sizes.{max_name}
use Rattle.eap_packet.specs.declared.cause.Cause.{Cause}
use Rattle.eap_packet.specs.declared.cause.Cause.TheVariants.{GpskShape, ListTooLong}
use Rattle.gpsk_messages.specs.Message.{Message, gpsk1, gpsk2, gpsk3, gpsk4, fail, protected_fail}
use Rattle.gpsk_messages.specs.Message.{list_of}

-- what a step gives to the next; nothing if it read nothing
unfoldable pub and_then : {A B : Type 0} → Option A → (A → Option B) → Option B
and_then None step = None
and_then (Some x) step = step x

infixl 10 ◌>>=◌
abbrev pub ◌>>=◌ : {A B : Type 0} → Option A → (A → Option B) → Option B
read >>= step = and_then read step

abbrev pub some_if : {A : Type 0} → Bool → A → Option A
some_if test x = if test then Some x else None

-- each field is read with the octets after it

-- this many octets
unfoldable pub exact_at : ℕ → List ℕ → Option (List ℕ × List ℕ)
exact_at count octets =
    some_if (nat_le count (length octets)) (take count octets, drop count octets)

-- a field behind its length in two octets
unfoldable pub sized_at : List ℕ → Option (List ℕ × List ℕ)
sized_at (high ∷ low ∷ octets) = exact_at (256 * high + low) octets
sized_at octets = None

unfoldable pub identity_at : List ℕ → Option (List ℕ × List ℕ)
identity_at octets = do
  field ← sized_at octets
  some_if (nat_le (length field.0) max_name) field

-- a list of suites, of six octets each
unfoldable pub suites_at : List ℕ → Option (List ℕ × List ℕ)
suites_at octets = do
  field ← sized_at octets
  some_if (nat_lt 0 (length field.0) && (length field.0 % 6 == 0)) field

-- one of the two suites that the standard defines
unfoldable pub suite_at : List ℕ → Option (Suite × List ℕ)
suite_at (zero ∷ zero ∷ zero ∷ zero ∷ zero ∷ number ∷ octets) =
    option_map (λ suite. (suite, octets)) (suite_numbered number)
suite_at octets = None

-- a Failure-Code, in four octets
unfoldable pub code_at : List ℕ → Option (ℕ × List ℕ)
code_at octets = do
  field ← exact_at 4 octets
  Some (from_be_bytes w32 field.0, field.1)

-- each message is read without its MAC, with the octets after its last field before the MAC

unfoldable pub gpsk1_at : List ℕ → Option (Message × List ℕ)
gpsk1_at octets = do
  id_s ← identity_at octets
  rand_s ← exact_at 32 id_s.1
  list ← suites_at rand_s.1
  Some (gpsk1 id_s.0 rand_s.0 list.0, list.1)

unfoldable pub gpsk2_at : List ℕ → Option (Message × List ℕ)
gpsk2_at octets = do
  id_p ← identity_at octets
  id_s ← identity_at id_p.1
  rand_p ← exact_at 32 id_s.1
  rand_s ← exact_at 32 rand_p.1
  list ← suites_at rand_s.1
  suite ← suite_at list.1
  pd ← sized_at suite.1
  Some (gpsk2 id_p.0 id_s.0 rand_p.0 rand_s.0 list.0 suite.0 pd.0 [], pd.1)

unfoldable pub gpsk3_at : List ℕ → Option (Message × List ℕ)
gpsk3_at octets = do
  rand_p ← exact_at 32 octets
  rand_s ← exact_at 32 rand_p.1
  id_s ← identity_at rand_s.1
  suite ← suite_at id_s.1
  pd ← sized_at suite.1
  Some (gpsk3 rand_p.0 rand_s.0 id_s.0 suite.0 pd.0 [], pd.1)

unfoldable pub gpsk4_at : List ℕ → Option (Message × List ℕ)
gpsk4_at octets = do
  pd ← sized_at octets
  Some (gpsk4 pd.0 [], pd.1)

unfoldable pub fail_at : List ℕ → Option (Message × List ℕ)
fail_at octets = do
  code ← code_at octets
  Some (fail code.0, code.1)

unfoldable pub protected_fail_at : List ℕ → Option (Message × List ℕ)
protected_fail_at octets = do
  code ← code_at octets
  Some (protected_fail code.0 [], code.1)

-- the fields after this OP-Code
unfoldable pub fields_at : ℕ → List ℕ → Option (Message × List ℕ)
fields_at op octets =
    if op == 1 then gpsk1_at octets
    else if op == 2 then gpsk2_at octets
    else if op == 3 then gpsk3_at octets
    else if op == 4 then gpsk4_at octets
    else if op == 5 then fail_at octets
    else if op == 6 then protected_fail_at octets
    else None

-- whether a MAC whose suite the message doesn't give may have this size
abbrev pub is_mac_size : Option ℕ → ℕ → Bool
is_mac_size (Some ks) size = size == ks
is_mac_size None size = (size == 16) || (size == 32)

-- whether so many octets behind the fields are the message's MAC; nothing follows it
abbrev pub accepts_mac : Option ℕ → Message → ℕ → Bool
accepts_mac ks (gpsk1 id_s rand_s list) size = size == 0
accepts_mac ks (gpsk2 id_p id_s rand_p rand_s list suite pd mac) size = size == ks_of suite
accepts_mac ks (gpsk3 rand_p rand_s id_s suite pd mac) size = size == ks_of suite
accepts_mac ks (gpsk4 pd mac) size = is_mac_size ks size
accepts_mac ks (fail code) size = size == 0
accepts_mac ks (protected_fail code mac) size = is_mac_size ks size

-- the message with this MAC
abbrev pub with_mac : Message → List ℕ → Message
with_mac (gpsk1 id_s rand_s list) mac = gpsk1 id_s rand_s list
with_mac (gpsk2 id_p id_s rand_p rand_s list suite pd none) mac =
    gpsk2 id_p id_s rand_p rand_s list suite pd mac
with_mac (gpsk3 rand_p rand_s id_s suite pd none) mac = gpsk3 rand_p rand_s id_s suite pd mac
with_mac (gpsk4 pd none) mac = gpsk4 pd mac
with_mac (fail code) mac = fail code
with_mac (protected_fail code none) mac = protected_fail code mac

abbrev pub message_if_mac_matches : Option ℕ → Message × List ℕ → Option Message
message_if_mac_matches ks fields =
    some_if (accepts_mac ks fields.0 (length fields.1)) (with_mac fields.0 fields.1)

-- the message that the octets encode, with any number of suites in a list
unfoldable pub loose_of : Option ℕ → List ℕ → Option Message
loose_of ks [] = None
loose_of ks (op ∷ octets) = do
  fields ← fields_at op octets
  message_if_mac_matches ks fields

-- a list has at most 20 suites
abbrev pub outcome_of : Option Message → Result Message Cause
outcome_of None = Err GpskShape
outcome_of (Some message) =
    if nat_le (length (list_of message)) (6 * 20) then Ok message else Err ListTooLong

-- the message that the octets encode, or why there is none
unfoldable pub read_of : Option ℕ → List ℕ → Result Message Cause
read_of ks octets = outcome_of (loose_of ks octets)
