-- EAP-GPSK messages (RFC 5433 section 9): message values, their encoding, their limits.
use Rattle.std.specs.Prelude.{◌≡◌, ℕ, ◌+◌, ◌*◌, ◌^◌, ◌%◌, ◌<◌, ◌≤◌, ◌⊎◌, List, [], ◌∷◌, ◌++◌}
use Rattle.std.specs.Prelude.{length, Option, Some, None, Result, Ok, Err}
use Rattle.std.specs.Int.{w32, to_be_bytes}
use Rattle.octet_lists.specs.declared.suite.Suite.{Suite}
use Rattle.octet_lists.specs.Suite.{ks_of, suite_octets}
use Rattle.octet_lists.specs.Sizes.{max_name}
use Rattle.eap_packet.specs.declared.cause.Cause.{Cause}
use Rattle.eap_packet.specs.Packet.{two_octets}
use Rattle.gpsk_messages.specs.declared.view.GpskMessage.{GpskMessage}
use Rattle.gpsk_messages.specs.declared.view.GpskMessage.TheVariants as view

-- a message, with its fields in their order
pub data Message : Type 0 where
  -- ID_Server, RAND_Server, CSuite_List
  gpsk1 : List ℕ → List ℕ → List ℕ → Message
  -- ID_Peer, ID_Server, RAND_Peer, RAND_Server, CSuite_List, CSuite_Sel, PD block, MAC
  gpsk2 : List ℕ → List ℕ → List ℕ → List ℕ → List ℕ → Suite → List ℕ → List ℕ → Message
  -- RAND_Peer, RAND_Server, ID_Server, CSuite_Sel, PD block, MAC
  gpsk3 : List ℕ → List ℕ → List ℕ → Suite → List ℕ → List ℕ → Message
  -- PD block, MAC
  gpsk4 : List ℕ → List ℕ → Message
  -- Failure-Code
  fail : ℕ → Message
  -- Failure-Code, MAC
  protected_fail : ℕ → List ℕ → Message

abbrev pub op_code : Message → ℕ
op_code (gpsk1 id_s rand_s list) = 1
op_code (gpsk2 id_p id_s rand_p rand_s list suite pd mac) = 2
op_code (gpsk3 rand_p rand_s id_s suite pd mac) = 3
op_code (gpsk4 pd mac) = 4
op_code (fail code) = 5
op_code (protected_fail code mac) = 6

-- the MAC, which GPSK-1 and GPSK-Fail don't have
abbrev pub mac_of : Message → List ℕ
mac_of (gpsk1 id_s rand_s list) = []
mac_of (gpsk2 id_p id_s rand_p rand_s list suite pd mac) = mac
mac_of (gpsk3 rand_p rand_s id_s suite pd mac) = mac
mac_of (gpsk4 pd mac) = mac
mac_of (fail code) = []
mac_of (protected_fail code mac) = mac

-- CSuite_List, if there is one
abbrev pub list_of : Message → List ℕ
list_of (gpsk1 id_s rand_s list) = list
list_of (gpsk2 id_p id_s rand_p rand_s list suite pd mac) = list
list_of (gpsk3 rand_p rand_s id_s suite pd mac) = []
list_of (gpsk4 pd mac) = []
list_of (fail code) = []
list_of (protected_fail code mac) = []

-- a field behind its length in two octets
abbrev pub field_with_length : List ℕ → List ℕ
field_with_length field = two_octets (length field) ++ field

-- what the MAC covers: the octets after the OP-Code up to the MAC
unfoldable pub covered_of : Message → List ℕ
covered_of (gpsk1 id_s rand_s list) = field_with_length id_s ++ (rand_s ++ field_with_length list)
covered_of (gpsk2 id_p id_s rand_p rand_s list suite pd mac) =
    field_with_length id_p ++ (field_with_length id_s ++ (rand_p
    ++ (rand_s ++ (field_with_length list ++ (suite_octets suite ++ field_with_length pd)))))
covered_of (gpsk3 rand_p rand_s id_s suite pd mac) =
    rand_p ++ (rand_s ++ (field_with_length id_s ++ (suite_octets suite ++ field_with_length pd)))
covered_of (gpsk4 pd mac) = field_with_length pd
covered_of (fail code) = to_be_bytes w32 code
covered_of (protected_fail code mac) = to_be_bytes w32 code

-- the Type-Data of a message
unfoldable pub spelled : Message → List ℕ
spelled message = op_code message ∷ covered_of message ++ mac_of message

-- the octets of the Type-Data, where each OP-Code has one and each length of a field two
abbrev pub size_of : Message → ℕ
size_of (gpsk1 id_s rand_s list) = 5 + length id_s + length rand_s + length list
size_of (gpsk2 id_p id_s rand_p rand_s list suite pd mac) =
    15 + length id_p + length id_s + length rand_p + length rand_s + length list + length pd
    + length mac
size_of (gpsk3 rand_p rand_s id_s suite pd mac) =
    11 + length rand_p + length rand_s + length id_s + length pd + length mac
size_of (gpsk4 pd mac) = 3 + length pd + length mac
size_of (fail code) = 5
size_of (protected_fail code mac) = 5 + length mac

-- the sizes of fields
abbrev pub IsIdentity : List ℕ → Type 0
IsIdentity name = length name ≤ max_name

abbrev pub IsRand : List ℕ → Type 0
IsRand rand = length rand ≡ 32

abbrev pub IsBlock : List ℕ → Type 0
IsBlock block = length block < 2 ^ 16

-- one suite or more, of six octets each
pub record IsSuiteList (list : List ℕ) : Type 0 where
  pub some : 0 < length list
  pub whole : length list % 6 ≡ 0
  pub size : length list < 2 ^ 16

-- the most octets of a CSuite_List that is read: 20 entries
abbrev pub max_list : ℕ
max_list = 120

-- the limits of the fields before the MAC, but for the most suites of a list
abbrev pub AreFields : Message → Type 0
AreFields (gpsk1 id_s rand_s list) = IsIdentity id_s × IsRand rand_s × IsSuiteList list
AreFields (gpsk2 id_p id_s rand_p rand_s list suite pd mac) =
    IsIdentity id_p × IsIdentity id_s × IsRand rand_p × IsRand rand_s × IsSuiteList list
    × IsBlock pd
AreFields (gpsk3 rand_p rand_s id_s suite pd mac) =
    IsRand rand_p × IsRand rand_s × IsIdentity id_s × IsBlock pd
AreFields (gpsk4 pd mac) = IsBlock pd
AreFields (fail code) = code < 2 ^ 32
AreFields (protected_fail code mac) = code < 2 ^ 32

-- the size of a MAC whose suite the message doesn't give: KS if it is known, else 16 or 32
abbrev pub IsMacSize : Option ℕ → ℕ → Type 0
IsMacSize (Some ks) size = size ≡ ks
IsMacSize None size = (size ≡ 16) ⊎ (size ≡ 32)

-- the MAC has the size of its suite
abbrev pub HasMac : Option ℕ → Message → Type 0
HasMac ks (gpsk1 id_s rand_s list) = Unit {0}
HasMac ks (gpsk2 id_p id_s rand_p rand_s list suite pd mac) = length mac ≡ ks_of suite
HasMac ks (gpsk3 rand_p rand_s id_s suite pd mac) = length mac ≡ ks_of suite
HasMac ks (gpsk4 pd mac) = IsMacSize ks (length mac)
HasMac ks (fail code) = Unit {0}
HasMac ks (protected_fail code mac) = IsMacSize ks (length mac)

-- the octets are the message's encoding, with any number of suites in a list
pub record IsGpskLoose (ks : Option ℕ) (message : Message) (octets : List ℕ) : Type 0 where
  pub fields : AreFields message
  pub mac : HasMac ks message
  pub encoding_of : octets ≡ spelled message

-- the octets are the message's encoding, and a list has at most 20 suites
pub record IsGpsk (ks : Option ℕ) (message : Message) (octets : List ℕ) : Type 0 where
  pub loosely : IsGpskLoose ks message octets
  pub suites : length (list_of message) ≤ 6 * 20

-- the message without its MAC
abbrev pub without_mac : Message → Message
without_mac (gpsk1 id_s rand_s list) = gpsk1 id_s rand_s list
without_mac (gpsk2 id_p id_s rand_p rand_s list suite pd mac) =
    gpsk2 id_p id_s rand_p rand_s list suite pd []
without_mac (gpsk3 rand_p rand_s id_s suite pd mac) = gpsk3 rand_p rand_s id_s suite pd []
without_mac (gpsk4 pd mac) = gpsk4 pd []
without_mac (fail code) = fail code
without_mac (protected_fail code mac) = protected_fail code []

-- the message that a view shows
abbrev pub message_of : GpskMessage → Message
message_of (view.M1 m) = gpsk1 m.id_s.now m.rand_s m.list.now
message_of (view.M2 m) =
    gpsk2 m.id_p.now m.id_s.now m.rand_p m.rand_s m.list.now m.suite m.pd.now m.mac.now
message_of (view.M3 m) = gpsk3 m.rand_p m.rand_s m.id_s.now m.suite m.pd.now m.mac.now
message_of (view.M4 m) = gpsk4 m.pd.now m.mac.now
message_of (view.Fail code) = fail code
message_of (view.ProtectedFail code mac) = protected_fail code mac.now

-- a reader's answer, with the message in place of the view
abbrev pub read_value : Result GpskMessage Cause → Result Message Cause
read_value (Ok shown) = Ok (message_of shown)
read_value (Err cause) = Err cause
