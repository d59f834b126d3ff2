-- The laws of the grammar.
use Rattle.std.proofs.Common.{◌≡◌, ℕ, ◌/◌, ◌<◌, ◌*◌, List, [], ◌∷◌, length, Bool, true, false}
use Rattle.std.proofs.Common.{if◌then◌else◌, Result, Ok, Err, refl, ap, ◌∙◌, sym, subst, arith}
use Rattle.std.proofs.Common.{IfOk, IfErr, length-append}
use Rattle.std.proofs.lemmas.List.Elements.{All-tail}
use Rattle.eap_packet.specs.declared.cause.Cause.{Cause}
use Rattle.eap_packet.specs.declared.cause.Cause.TheVariants.{PskShape}
use Rattle.eap_packet.specs.Packet.{IsOctets}
use Rattle.psk_messages.specs.declared.view.PskMessage.{PskMessage}
use Rattle.psk_messages.specs.Message.{Message, psk1, psk2, psk3, psk4, t_of, fields_of, AreFields}
use Rattle.psk_messages.specs.Message.{IsPsk, EncodesNone, spelled, message_of, read_value}
use Rattle.psk_messages.specs.Reading.{is_size, message_at, read_of}
use Rattle.psk_messages.specs.Laws.{ReadsTheEncoding, EncodingsAreApart, RefusesTheRest, SentIsRead}
use Rattle.psk_messages.specs.Laws.{EncodingsAreSized}
use Rattle.psk_messages.proofs.Fields.{is_size_fields, message_at_fields, IsReadFrom, is_read_from}

pub read_of_fields : (flags : ℕ) (message : Message) → AreFields message
    → flags / 64 ≡ t_of message →
    read_of (flags ∷ fields_of message) ≡ Ok message
unfolding read_of
read_of_fields flags message p e =
    let octets = fields_of message in
    let high = is_size_fields message p in
    let same = message_at_fields message p in
    rw e (rw high (ap Ok same))

pub read_if_psk : (octets : List ℕ) (message : Message) → IsPsk message octets
    → read_of octets ≡ Ok message
read_if_psk octets message p =
    ap read_of p.encoding_of ∙ read_of_fields p.flags message p.fields p.high_bits

if_ok : (fits : Bool) (one other : Message) →
    (let answer : Result Message Cause = if fits then Ok one else Err PskShape in answer) ≡ Ok other
    → (fits ≡ true) × (one ≡ other)
if_ok true one other e = (refl, cc)
if_ok false one other e = cc

psk_if_read : (octets : List ℕ) (message : Message) → IsOctets octets → read_of octets ≡ Ok message
    → IsPsk message octets
unfolding read_of
psk_if_read [] message small e = cc
psk_if_read (flags ∷ octets) message small e =
    let found =
    if_ok (is_size (flags / 64) (length octets)) (message_at (flags / 64) octets) message e in
    let whole = is_read_from (flags / 64) octets (omega (arith, small 0 0 (omega arith)))
    (All-tail (λ b. b < 256) flags octets small) found.0 in
    let read = subst (IsReadFrom (flags / 64) octets) found.1 whole in
    record {
      fields = read.fields;
      flags = flags;
      high_bits = read.same_t;
      encoding_of = ap (λ xs. flags ∷ xs) (sym read.encoding_of);
      fit = small;
    }

pub reads_the_encoding : ReadsTheEncoding
reads_the_encoding octets message small =
    (psk_if_read octets message small, read_if_psk octets message)

pub encodings_are_apart : EncodingsAreApart
encodings_are_apart octets one other p q =
    let same = sym (read_if_psk octets one p) ∙ read_if_psk octets other q in
    cc

if_err : (fits : Bool) (one : Message) →
    (let answer : Result Message Cause = if fits then Ok one else Err PskShape in
    ¬ ((message : Message) × (answer ≡ Ok message)) → answer ≡ Err PskShape)
if_err true one none = absurd (none (one, refl))
if_err false one none = refl

-- an answer is a message or the one cause
either : (octets : List ℕ) → ¬ ((message : Message) × (read_of octets ≡ Ok message))
    → read_of octets ≡ Err PskShape
unfolding read_of
either [] none = refl
either (flags ∷ octets) none =
    if_err (is_size (flags / 64) (length octets)) (message_at (flags / 64) octets) none

pub refuses_the_rest : RefusesTheRest
refuses_the_rest octets small = (
  λ e w. (let same = sym e ∙ read_if_psk octets w.0 w.1 in cc),
  λ none. either octets (λ w. none (w.0, psk_if_read octets w.0 small w.1)),
)

one_cause : (fits : Bool) (one : Message) (cause : Cause) →
    (let answer : Result Message Cause = if fits then Ok one else Err PskShape in answer)
    ≡ Err cause → cause ≡ PskShape
one_cause true one cause e = absurd cc
one_cause false one cause e = cc

refused_for_shape : (octets : List ℕ) (cause : Cause) → read_of octets ≡ Err cause
    → cause ≡ PskShape
unfolding read_of
refused_for_shape [] cause e = cc
refused_for_shape (flags ∷ octets) cause e =
    one_cause (is_size (flags / 64) (length octets)) (message_at (flags / 64) octets) cause e

-- a reader's answer: a message that the octets spell
pub encoding_if_received : (answer : Result PskMessage Cause) (octets : List ℕ) → IsOctets octets
    → read_value answer ≡ read_of octets →
    IfOk answer (λ view. IsPsk (message_of view) octets)
encoding_if_received (Ok view) octets small e = psk_if_read octets (message_of view) small (sym e)
encoding_if_received (Err cause) octets small e = tt

-- or none, where they spell none
pub none_if_refused : (answer : Result PskMessage Cause) (octets : List ℕ)
    → read_value answer ≡ read_of octets →
    IfErr answer (λ cause. (cause ≡ PskShape) × EncodesNone octets)
none_if_refused (Ok view) octets e = tt
none_if_refused (Err cause) octets e = (
  refused_for_shape octets cause (sym e),
  λ message p. (let same = e ∙ read_if_psk octets message p in cc),
)

pub encodings_are_sized : EncodingsAreSized
unfolding spelled
encodings_are_sized (psk1 rand_s id_s) = simp length-append (omega arith)
encodings_are_sized (psk2 rand_s rand_p mac id_p) = simp length-append (omega arith)
encodings_are_sized (psk3 rand_s mac nonce tag sealed) = simp length-append (omega arith)
encodings_are_sized (psk4 rand_s nonce tag sealed) = simp length-append (omega arith)

pub sent_is_read : SentIsRead
unfolding spelled
sent_is_read message p = read_of_fields (64 * t_of message) message p (omega arith)
