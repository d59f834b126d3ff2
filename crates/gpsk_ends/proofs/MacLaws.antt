-- A packet up to its MAC, and the MAC that is put behind it.
use Rattle.std.proofs.Common.{◌≡◌, ℕ, ◌+◌, ◌-◌, ◌≤◌, List, ◌∷◌, ◌++◌, length, take, drop, IsTrue}
use Rattle.std.proofs.Common.{ap, refl, sym, subst, ◌∙◌, arith, length-append}
use Rattle.std.proofs.lemmas.List.{take_at}
use Rattle.octet_lists.specs.declared.suite.Suite.{Suite}
use Rattle.octet_lists.specs.declared.suite.Suite.TheVariants.{Cmac, Hmac}
use Rattle.octet_lists.specs.Suite.{ks_of}
use Rattle.eap_packet.specs.declared.packet.Code.{Code}
use Rattle.eap_packet.specs.declared.packet.Code.TheVariants.{Request, Response, Success, Failure}
use Rattle.eap_packet.specs.Packet.{has_type, value_with, number_of, frame_of, two_octets}
use Rattle.eap_packet.specs.Packet as packets
use Rattle.gpsk_messages.specs.Message.{Message, gpsk1, gpsk2, gpsk3, gpsk4, fail, protected_fail}
use Rattle.gpsk_messages.specs.Message.{op_code, covered_of, mac_of, size_of, spelled, without_mac}
use Rattle.gpsk_messages.specs.Reading.{with_mac}
use Rattle.login_keys.specs.Gpsk.{gpsk_tag_of}
use Rattle.eap_method.specs.declared.tags.Label.TheVariants.{Sk}
use Rattle.eap_method.specs.declared.tags.TagRecord.{TagRecord}
use Rattle.eap_method.specs.GpskTags.{message_with_mac}
use Rattle.gpsk_ends.specs.Sealed.{packet_of, record_of}

-- ---- a message and its MAC

-- the MAC is not among the covered octets
covered_with : (message : Message) (mac : List ℕ) → covered_of (with_mac message mac)
    ≡ covered_of message
unfolding covered_of
covered_with (gpsk1 id_s rand_s list) mac = refl
covered_with (gpsk2 id_p id_s rand_p rand_s list suite pd none) mac = refl
covered_with (gpsk3 rand_p rand_s id_s suite pd none) mac = refl
covered_with (gpsk4 pd none) mac = refl
covered_with (fail code) mac = refl
covered_with (protected_fail code none) mac = refl

covered_without : (message : Message) → covered_of (without_mac message) ≡ covered_of message
unfolding covered_of
covered_without (gpsk1 id_s rand_s list) = refl
covered_without (gpsk2 id_p id_s rand_p rand_s list suite pd mac) = refl
covered_without (gpsk3 rand_p rand_s id_s suite pd mac) = refl
covered_without (gpsk4 pd mac) = refl
covered_without (fail code) = refl
covered_without (protected_fail code mac) = refl

op_with : (message : Message) (mac : List ℕ) → op_code (with_mac message mac) ≡ op_code message
op_with (gpsk1 id_s rand_s list) mac = refl
op_with (gpsk2 id_p id_s rand_p rand_s list suite pd none) mac = refl
op_with (gpsk3 rand_p rand_s id_s suite pd none) mac = refl
op_with (gpsk4 pd none) mac = refl
op_with (fail code) mac = refl
op_with (protected_fail code none) mac = refl

with_without : (message : Message) (mac : List ℕ) → with_mac (without_mac message) mac
    ≡ with_mac message mac
with_without (gpsk1 id_s rand_s list) mac = refl
with_without (gpsk2 id_p id_s rand_p rand_s list suite pd none) mac = refl
with_without (gpsk3 rand_p rand_s id_s suite pd none) mac = refl
with_without (gpsk4 pd none) mac = refl
with_without (fail code) mac = refl
with_without (protected_fail code none) mac = refl

-- a MAC of KS octets is some
ks_some : (suite : Suite) → 1 ≤ ks_of suite
ks_some Cmac = omega arith
ks_some Hmac = omega arith

none_is_short : {P : Type 0} (suite : Suite) → 0 ≡ ks_of suite → P
none_is_short suite e = let some = ks_some suite in absurd (omega arith)

-- a message that has a MAC has the one that is put to it
mac_with : (suite : Suite) (message : Message) (mac : List ℕ)
    → length (mac_of message) ≡ ks_of suite → mac_of (with_mac message mac) ≡ mac
mac_with suite (gpsk1 id_s rand_s list) mac e = none_is_short suite e
mac_with suite (gpsk2 id_p id_s rand_p rand_s list chosen pd none) mac e = refl
mac_with suite (gpsk3 rand_p rand_s id_s chosen pd none) mac e = refl
mac_with suite (gpsk4 pd none) mac e = refl
mac_with suite (fail code) mac e = none_is_short suite e
mac_with suite (protected_fail code none) mac e = refl

encoding_with : (suite : Suite) (message : Message) (mac : List ℕ)
    → length (mac_of message) ≡ ks_of suite →
    spelled (with_mac message mac) ≡ op_code message ∷ covered_of message ++ mac
unfolding spelled
encoding_with suite message mac e =
    let o = op_with message mac in
    let c = covered_with message mac in
    let m = mac_with suite message mac e in
    cc

-- and keeps its size, where the one that is put has KS octets too
pub size_with : (suite : Suite) (message : Message) (mac : List ℕ)
    → length (mac_of message) ≡ ks_of suite → length mac ≡ ks_of suite →
    size_of (with_mac message mac) ≡ size_of message
size_with suite (gpsk1 id_s rand_s list) mac e f = refl
size_with suite (gpsk2 id_p id_s rand_p rand_s list chosen pd none) mac e f = omega arith
size_with suite (gpsk3 rand_p rand_s id_s chosen pd none) mac e f = omega arith
size_with suite (gpsk4 pd none) mac e f = omega arith
size_with suite (fail code) mac e f = refl
size_with suite (protected_fail code none) mac e f = omega arith

-- ---- a packet up to the MAC

-- the octets before the MAC, where the Length field counts so many octets
front_of : ℕ → ℕ → ℕ → ℕ → List ℕ → List ℕ
front_of code id count op covered = code ∷ id ∷ two_octets count ++ (51 ∷ op ∷ covered)

-- the packet is its front with the MAC
parts : (code id op : ℕ) (covered mac : List ℕ) →
    frame_of code id (51 ∷ op ∷ covered ++ mac)
    ≡ front_of code id (length (51 ∷ op ∷ covered ++ mac) + 4) op covered ++ mac
unfolding front_of
parts code id op covered mac = refl

front_cut : (code id count op ks : ℕ) (covered mac : List ℕ) → length mac ≡ ks →
    (let packet = front_of code id count op covered ++ mac in
    take (length packet - ks) packet ≡ front_of code id count op covered)
front_cut code id count op ks covered mac e =
    let size = length-append (front_of code id count op covered) mac in
    take_at (front_of code id count op covered) mac _ (omega arith)

front_starts : (code id count op : ℕ) (covered : List ℕ)
    → 6 ≤ length (front_of code id count op covered)
unfolding front_of
front_starts code id count op covered = omega arith

front_covered : (code id count op : ℕ) (covered : List ℕ)
    → drop 6 (front_of code id count op covered) ≡ covered
unfolding front_of
front_covered code id count op covered = refl

-- a MAC of the same size behind the front makes the packet with it
front_joined : (code id op : ℕ) (covered mac tag : List ℕ) → length tag ≡ length mac →
    front_of code id (length (51 ∷ op ∷ covered ++ mac) + 4) op covered ++ tag
    ≡ frame_of code id (51 ∷ op ∷ covered ++ tag)
front_joined code id op covered mac tag e =
    let one = length-append covered mac in
    let other = length-append covered tag in
    let size : length (51 ∷ op ∷ covered ++ mac) + 4 ≡ length (51 ∷ op ∷ covered ++ tag) + 4 =
    omega arith in
    ap (λ count. front_of code id count op covered ++ tag) size ∙ sym (parts code id op covered tag)

-- a Request and a Response have a Type
typed : (code : Code) (id : ℕ) (body : List ℕ) → IsTrue (has_type code)
    → packets.spelled (value_with code id 51 body) ≡ frame_of (number_of code) id (51 ∷ body)
unfolding packets.spelled
typed Request id body t = refl
typed Response id body t = refl
typed Success id body t = cc
typed Failure id body t = cc

-- the octets are those of the message's packet up to its MAC of KS octets
pub record IsFront (code : Code) (id : ℕ) (suite : Suite) (message : Message)
    (octets : List ℕ) : Type 0 where
  pub begins : 6 ≤ length octets
  pub covered : drop 6 octets ≡ covered_of message
  pub sealed : (tag : List ℕ) → length tag ≡ ks_of suite
      → octets ++ tag ≡ packets.spelled (value_with code id 51 (spelled (with_mac message tag)))

-- the packet of a message, in parts
in_parts : (code : Code) (id : ℕ) (message : Message) (packet : List ℕ) → IsTrue (has_type code) →
    packet ≡ packets.spelled (value_with code id 51 (spelled message)) →
    (let count = length (51 ∷ op_code message ∷ covered_of message ++ mac_of message) + 4 in
    packet ≡ front_of (number_of code) id count (op_code message) (covered_of
    message) ++ mac_of message)
unfolding spelled
in_parts code id message packet t e = e ∙ typed code id (spelled message) t
    ∙ parts (number_of code) id (op_code message) (covered_of message) (mac_of message)

pub mac_length_bounded : (code : Code) (id : ℕ) (suite : Suite) (message : Message)
    (packet : List ℕ) → IsTrue (has_type code) → length (mac_of message) ≡ ks_of suite →
    packet ≡ packets.spelled (value_with code id 51 (spelled message)) → ks_of suite ≤ length packet
mac_length_bounded code id suite message packet t m e =
    let count = length (51 ∷ op_code message ∷ covered_of message ++ mac_of message) + 4 in
    let front = front_of (number_of code) id count (op_code message) (covered_of message) in
    let size =
    ap length (in_parts code id message packet t e) ∙ length-append front (mac_of message) in
    omega arith

pub is_front : (code : Code) (id : ℕ) (suite : Suite) (message : Message) (packet octets : List ℕ)
    → IsTrue (has_type code) →
    length (mac_of message) ≡ ks_of suite
    → packet ≡ packets.spelled (value_with code id 51 (spelled message)) →
    octets ≡ take (length packet - ks_of suite) packet → IsFront code id suite message octets
is_front code id suite message packet octets t m e o =
    let op = op_code message in
    let covered = covered_of message in
    let mac = mac_of message in
    let n = number_of code in
    let count = length (51 ∷ op ∷ covered ++ mac) + 4 in
    let cut : octets ≡ front_of n id count op covered =
    o ∙ ap (λ (l : List ℕ). take (length l - ks_of suite) l) (in_parts code id message packet t e)
    ∙ front_cut n id count op (ks_of suite) covered mac m in
    record {
      begins = subst (λ (l : List ℕ). 6 ≤ length l) (sym cut) (front_starts n id count op covered);
      covered = ap (λ (l : List ℕ). drop 6 l) cut ∙ front_covered n id count op covered;
      sealed = λ tag h.
          ap (λ (l : List ℕ). l ++ tag) cut ∙ front_joined n id op covered mac tag (h ∙ sym m)
          ∙ ap (λ (l : List ℕ). frame_of n id (51 ∷ l)) (sym (encoding_with suite message tag m))
          ∙ sym (typed code id (spelled (with_mac message tag)) t);
    }

-- ---- the packet with its MAC, and the MAC's record

-- the MAC of the covered octets, and the message with it
tag_of : (suite : Suite) (sk : List ℕ) (message : Message) (octets tag : List ℕ)
    → octets ≡ covered_of message →
    tag ≡ gpsk_tag_of suite sk octets → message_with_mac suite sk (without_mac message)
    ≡ with_mac message tag
tag_of suite sk message octets tag o t =
    let same : gpsk_tag_of suite sk (covered_of (without_mac message)) ≡ tag =
    ap (gpsk_tag_of suite sk) (covered_without message ∙ sym o) ∙ sym t in
    ap (with_mac (without_mac message)) same ∙ with_without message tag

pub packet_sealed : (code : Code) (id : ℕ) (suite : Suite) (sk : List ℕ) (message : Message)
    (octets tag packet : List ℕ) →
    octets ≡ covered_of message → tag ≡ gpsk_tag_of suite sk octets →
    packet ≡ packets.spelled (value_with code id 51 (spelled (with_mac message tag))) →
    packet ≡ packet_of code id suite sk (without_mac message)
packet_sealed code id suite sk message octets tag packet o t p =
    p ∙ ap (λ m. packets.spelled (value_with code id 51 (spelled m))) (sym
    (tag_of suite sk message octets tag o t))

pub record_sealed : (suite : Suite) (sk psk : List ℕ) (message : Message) (octets tag : List ℕ) →
    length (mac_of message) ≡ ks_of suite → octets ≡ covered_of message
    → tag ≡ gpsk_tag_of suite sk octets →
    (let made : TagRecord =
    record { method = 51; label = Sk; psk = psk; octets = octets; tag = tag } in
    made ≡ record_of suite sk psk (without_mac message))
record_sealed suite sk psk message octets tag h o t =
    let whole = tag_of suite sk message octets tag o t in
    let d = covered_with message tag in
    let m = mac_with suite message tag h in
    cc
