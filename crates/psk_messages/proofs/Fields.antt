-- The fields of a message: read off its octets, and its octets read off them.
use Rattle.std.proofs.Common.{◌≡◌, ℕ, ◌<◌, ◌≤◌, List, ◌++◌, length, suc, zero, take, drop, true}
use Rattle.std.proofs.Common.{refl, ap, ◌∙◌, arith, length-append}
use Rattle.std.proofs.lemmas.Bool.Decides.{nat_tests}
use Rattle.std.proofs.lemmas.List.{take_at, drop_at, take-append-drop, length-take-le, length-drop}
use Rattle.std.proofs.lemmas.List.Elements.{All-drop}
use Rattle.eap_packet.specs.Packet.{IsOctets}
use Rattle.psk_messages.specs.Message.{Message, psk1, psk2, psk3, psk4, t_of, fields_of, channel}
use Rattle.psk_messages.specs.Message.{AreFields}
use Rattle.psk_messages.specs.Reading.{is_size, nonce_at, tag_at, sealed_at, message_at, psk1_at}
use Rattle.psk_messages.specs.Reading.{psk2_at, psk3_at, psk4_at}
use Rattle.psk_messages.proofs.ChannelParts.{nonce_at_channel, tag_at_channel, sealed_at_channel}
use Rattle.psk_messages.proofs.ChannelParts.{length_channel, parts}

-- The octets after Flags are as many as T says.
pub is_size_fields : (message : Message) → AreFields message
    → is_size (t_of message) (length (fields_of message)) ≡ true
is_size_fields (psk1 rand_s id_s) p = grind (arith, nat_tests, length-append rand_s id_s)
is_size_fields (psk2 rand_s rand_p mac id_p) p =
    grind (
      arith,
      nat_tests,
      length-append rand_s (rand_p ++ (mac ++ id_p)),
      length-append rand_p (mac ++ id_p),
      length-append mac id_p,
    )
is_size_fields (psk3 rand_s mac nonce tag sealed) p =
    let octets = channel nonce tag sealed in
    grind (
      arith,
      nat_tests,
      length-append rand_s (mac ++ octets),
      length-append mac octets,
      length_channel nonce sealed tag p.3,
    )
is_size_fields (psk4 rand_s nonce tag sealed) p =
    let octets = channel nonce tag sealed in
    grind (arith, nat_tests, length-append rand_s octets, length_channel nonce sealed tag p.2)

psk1_at_fields : (rand_s id_s : List ℕ) → length rand_s ≡ 16
    → psk1_at (rand_s ++ id_s) ≡ psk1 rand_s id_s
psk1_at_fields rand_s id_s p =
    let field = take_at rand_s id_s 16 p in
    let rest = drop_at rand_s id_s 16 p in
    cc

psk2_at_fields : (rand_s rand_p mac id_p : List ℕ) → length rand_s ≡ 16 → length rand_p ≡ 16
    → length mac ≡ 16 →
    psk2_at (rand_s ++ (rand_p ++ (mac ++ id_p))) ≡ psk2 rand_s rand_p mac id_p
psk2_at_fields rand_s rand_p mac id_p p q r =
    let field = take_at rand_s (rand_p ++ (mac ++ id_p)) 16 p in
    let rest = drop_at rand_s (rand_p ++ (mac ++ id_p)) 16 p in
    let second = take_at rand_p (mac ++ id_p) 16 q in
    let behind_second = drop_at rand_p (mac ++ id_p) 16 q in
    let third = take_at mac id_p 16 r in
    let behind_third = drop_at mac id_p 16 r in
    cc

psk3_at_fields : (rand_s mac octets : List ℕ) → length rand_s ≡ 16 → length mac ≡ 16 →
    psk3_at (rand_s ++ (mac ++ octets))
    ≡ psk3 rand_s mac (nonce_at octets) (tag_at octets) (sealed_at octets)
psk3_at_fields rand_s mac octets p q =
    let field = take_at rand_s (mac ++ octets) 16 p in
    let rest = drop_at rand_s (mac ++ octets) 16 p in
    let second = take_at mac octets 16 q in
    let behind_second = drop_at mac octets 16 q in
    cc

psk4_at_fields : (rand_s octets : List ℕ) → length rand_s ≡ 16 →
    psk4_at (rand_s ++ octets) ≡ psk4 rand_s (nonce_at octets) (tag_at octets) (sealed_at octets)
psk4_at_fields rand_s octets p =
    let field = take_at rand_s octets 16 p in
    let rest = drop_at rand_s octets 16 p in
    cc

-- The message is read off the octets after Flags.
pub message_at_fields : (message : Message) → AreFields message
    → message_at (t_of message) (fields_of message) ≡ message
message_at_fields (psk1 rand_s id_s) p = psk1_at_fields rand_s id_s p.0
message_at_fields (psk2 rand_s rand_p mac id_p) p =
    psk2_at_fields rand_s rand_p mac id_p p.0 p.1 p.2
message_at_fields (psk3 rand_s mac nonce tag sealed) p =
    let first = psk3_at_fields rand_s mac (channel nonce tag sealed) p.0 p.1 in
    let number = nonce_at_channel nonce sealed tag p.2 in
    let sign = tag_at_channel nonce sealed tag p.3 in
    let octet = sealed_at_channel nonce sealed tag p.3 in
    cc
message_at_fields (psk4 rand_s nonce tag sealed) p =
    let first = psk4_at_fields rand_s (channel nonce tag sealed) p.0 in
    let number = nonce_at_channel nonce sealed tag p.1 in
    let sign = tag_at_channel nonce sealed tag p.2 in
    let octet = sealed_at_channel nonce sealed tag p.2 in
    cc

-- The message that is read keeps the limits, has this T, and these are its octets after Flags.
pub record IsReadFrom (t : ℕ) (octets : List ℕ) (message : Message) : Type 0 where
  pub fields : AreFields message
  pub same_t : t ≡ t_of message
  pub encoding_of : fields_of message ≡ octets

pub is_read_from : (t : ℕ) (octets : List ℕ) → t < 4 → IsOctets octets
    → is_size t (length octets) ≡ true → IsReadFrom t octets (message_at t octets)
is_read_from zero octets low small fits =
    let least : 16 ≤ length octets = grind (arith, nat_tests) in
    let most : length octets ≤ 269 = grind (arith, nat_tests) in
    record {
      fields = (length-take-le 16 octets least, omega (arith, length-drop 16 octets));
      same_t = refl;
      encoding_of = take-append-drop 16 octets;
    }
is_read_from (suc zero) octets low small fits =
    let least : 48 ≤ length octets = grind (arith, nat_tests) in
    let most : length octets ≤ 301 = grind (arith, nat_tests) in
    let second = drop 16 octets in
    let third = drop 16 second in
    let second_size = length-drop 16 octets in
    let third_size = length-drop 16 second in
    record {
      fields = (
        length-take-le 16 octets (omega arith),
        length-take-le 16 second (omega arith),
        length-take-le 16 third (omega arith),
        omega (arith, length-drop 16 third),
      );
      same_t = refl;
      encoding_of =
          ap (λ xs. take 16 octets ++ (take 16 second ++ xs)) (take-append-drop 16 third)
          ∙ ap (λ xs. take 16 octets ++ xs) (take-append-drop 16 second)
          ∙ take-append-drop 16 octets;
    }
is_read_from (suc (suc zero)) octets low small fits =
    let size : length octets ≡ 53 = grind (arith, nat_tests) in
    let second = drop 16 octets in
    let third = drop 16 second in
    let second_size = length-drop 16 octets in
    let third_size = length-drop 16 second in
    let channel_parts = parts third
    (All-drop (λ b. b < 256) 16 second (All-drop (λ b. b < 256) 16 octets small)) (omega arith) in
    record {
      fields = (
        length-take-le 16 octets (omega arith),
        length-take-le 16 second (omega arith),
        channel_parts.nonce,
        channel_parts.tag,
      );
      same_t = refl;
      encoding_of =
          ap (λ xs. take 16 octets ++ (take 16 second ++ xs)) channel_parts.encoding_of
          ∙ ap (λ xs. take 16 octets ++ xs) (take-append-drop 16 second)
          ∙ take-append-drop 16 octets;
    }
is_read_from (suc (suc (suc zero))) octets low small fits =
    let size : length octets ≡ 37 = grind (arith, nat_tests) in
    let second = drop 16 octets in
    let channel_parts =
    parts second (All-drop (λ b. b < 256) 16 octets small) (omega (arith, length-drop 16 octets)) in
    record {
      fields = (length-take-le 16 octets (omega arith), channel_parts.nonce, channel_parts.tag);
      same_t = refl;
      encoding_of =
          ap (λ xs. take 16 octets ++ xs) channel_parts.encoding_of ∙ take-append-drop 16 octets;
    }
is_read_from (suc (suc (suc (suc t)))) octets low small fits = absurd (omega arith)
