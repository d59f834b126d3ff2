-- The laws of the grammar.
use Rattle.std.proofs.Common.{◌≡◌, ℕ, ◌*◌, ◌<◌, ◌≤◌, true, eqb, leb, List, [], ◌∷◌, ◌++◌, length}
use Rattle.std.proofs.Common.{Option, Some, None, Result, Ok, Err, refl, sym, ap, subst, ◌∙◌, arith}
use Rattle.std.proofs.Common.{inl, inr, length-append, IfOk, IfErr}
use Rattle.std.specs.Prelude.{◌⊎◌}
use Rattle.std.proofs.lemmas.Bool.{eqb-true, eq-eqb, leb-true, le-leb, leb-false, lt-leb, or_cases}
use Rattle.std.proofs.lemmas.Bool.{or_left, or_right, cond-true, cond-false, cond_both, cases_lt}
use Rattle.std.proofs.lemmas.List.{nil_from_length, take_at}
use Rattle.std.proofs.lemmas.Option.{cond_some, same_Some, none-some}
use Rattle.eap_packet.specs.declared.cause.Cause.{Cause}
use Rattle.eap_packet.specs.declared.cause.Cause.TheVariants.{GpskShape, ListTooLong}
use Rattle.eap_packet.specs.Packet.{IsOctets}
use Rattle.gpsk_messages.specs.declared.view.GpskMessage.{GpskMessage}
use Rattle.gpsk_messages.specs.Message.{Message, message_of, read_value, gpsk1, gpsk2, gpsk3, gpsk4}
use Rattle.gpsk_messages.specs.Message.{fail, protected_fail, op_code, mac_of, list_of, covered_of}
use Rattle.gpsk_messages.specs.Message.{without_mac, spelled, AreFields, HasMac, IsMacSize, IsGpsk}
use Rattle.gpsk_messages.specs.Message.{IsGpskLoose}
use Rattle.gpsk_messages.specs.Reading.{fields_at, is_mac_size, accepts_mac, with_mac}
use Rattle.gpsk_messages.specs.Reading.{message_if_mac_matches, loose_of, outcome_of, read_of}
use Rattle.gpsk_messages.specs.Laws.{EncodingsAreRead, ReadsTheEncoding, EncodingsAreApart}
use Rattle.gpsk_messages.specs.Laws.{ShapelessEncodesNothing, EncodesALongList, Refuses}
use Rattle.gpsk_messages.specs.Laws.{LongListsAreNamed, EncodingsAreSized, CoveredIsTheMiddle}
use Rattle.gpsk_messages.specs.Laws.{CoveredOctetsFixFields}
use Rattle.gpsk_messages.proofs.FieldLaws.{step_of, step_again}
use Rattle.gpsk_messages.proofs.Reader.{fields_consume, fields_again}

-- ---- the MAC

size_reported : (ks : Option ℕ) (size : ℕ) → is_mac_size ks size ≡ true → IsMacSize ks size
size_reported (Some ks) size e = eqb-true size ks e
size_reported None size e =
    elim (or_cases (eqb size 16) (eqb size 32) e) [
      | inl short ↦ inl (eqb-true size 16 short)
      | inr long ↦ inr (eqb-true size 32 long)
    ]

size_fits : (ks : Option ℕ) (size : ℕ) → IsMacSize ks size → is_mac_size ks size ≡ true
size_fits (Some ks) size h = eq-eqb size ks h
size_fits None size h =
    elim h [
      | inl short ↦ or_left (eqb size 16) (eqb size 32) (eq-eqb size 16 short)
      | inr long ↦ or_right (eqb size 16) (eqb size 32) (eq-eqb size 32 long)
    ]

-- nothing stands behind the fields of a message without a MAC
ends : (front rest : List ℕ) → eqb (length rest) 0 ≡ true → front ++ rest ≡ front ++ []
ends front rest e =
    ap (λ (r : List ℕ). front ++ r) (nil_from_length rest (eqb-true (length rest) 0 e))

-- fields and the MAC behind them are the message with this MAC
seals : (ks : Option ℕ) (message : Message) (mac : List ℕ) → AreFields message
    → accepts_mac ks message (length mac) ≡ true →
    IsGpskLoose ks (with_mac message mac) (op_code message ∷ covered_of message ++ mac)
unfolding spelled covered_of
seals ks (gpsk1 id_s rand_s list) mac f e = record {
  fields = f;
  mac = tt;
  encoding_of = ap (λ (r : List ℕ). 1 ∷ r) (ends (covered_of (gpsk1 id_s rand_s list)) mac e);
}
seals ks (gpsk2 id_p id_s rand_p rand_s list suite pd none) mac f e =
    record { fields = f; mac = eqb-true _ _ e; encoding_of = refl }
seals ks (gpsk3 rand_p rand_s id_s suite pd none) mac f e =
    record { fields = f; mac = eqb-true _ _ e; encoding_of = refl }
seals ks (gpsk4 pd none) mac f e =
    record { fields = f; mac = size_reported ks (length mac) e; encoding_of = refl }
seals ks (fail code) mac f e = record {
  fields = f;
  mac = tt;
  encoding_of = ap (λ (r : List ℕ). 5 ∷ r) (ends (covered_of (fail code)) mac e);
}
seals ks (protected_fail code none) mac f e =
    record { fields = f; mac = size_reported ks (length mac) e; encoding_of = refl }

-- the fields of a message and its MAC are sealed to it
seals_again : (ks : Option ℕ) (message : Message) → HasMac ks message
    → message_if_mac_matches ks (without_mac message, mac_of message) ≡ Some message
seals_again ks (gpsk1 id_s rand_s list) h = refl
seals_again ks (gpsk2 id_p id_s rand_p rand_s list suite pd mac) h = cond-true _ _ _ (eq-eqb _ _ h)
seals_again ks (gpsk3 rand_p rand_s id_s suite pd mac) h = cond-true _ _ _ (eq-eqb _ _ h)
seals_again ks (gpsk4 pd mac) h = cond-true _ _ _ (size_fits ks (length mac) h)
seals_again ks (fail code) h = refl
seals_again ks (protected_fail code mac) h = cond-true _ _ _ (size_fits ks (length mac) h)

-- ---- whatever the number of suites

pub loose_consumes : (ks : Option ℕ) (octets : List ℕ) (message : Message) → IsOctets octets
    → loose_of ks octets ≡ Some message → IsGpskLoose ks message octets
unfolding loose_of
loose_consumes ks [] message small e = absurd cc
loose_consumes ks (op ∷ octets) message small e =
    let s = step_of _ _ _ e in
    let t = fields_consume op octets s.0 small s.1 in
    let g = cond_some (accepts_mac ks s.0.0 (length s.0.1)) (with_mac s.0.0 s.0.1) message s.2 in
    let joined : op_code s.0.0 ∷ covered_of s.0.0 ++ s.0.1 ≡ op ∷ octets =
    let p = t.parts in let o = t.op in cc in
    subst (λ (m : Message). IsGpskLoose ks m (op ∷ octets)) g.1
    (subst (IsGpskLoose ks (with_mac s.0.0 s.0.1)) joined (seals ks s.0.0 s.0.1 t.fields g.0))

loose_again : (ks : Option ℕ) (message : Message) → AreFields message → HasMac ks message
    → loose_of ks (spelled message) ≡ Some message
unfolding loose_of spelled
loose_again ks message f h =
    step_again _ _ _ (fields_again message (mac_of message) f) ∙ seals_again ks message h

pub loose_if_encoded : (ks : Option ℕ) (octets : List ℕ) (message : Message)
    → IsGpskLoose ks message octets → loose_of ks octets ≡ Some message
loose_if_encoded ks octets message g =
    ap (loose_of ks) g.encoding_of ∙ loose_again ks message g.fields g.mac

-- ---- the judgement on the number of suites

-- what a judgement comes from
abbrev Judged : Option Message → Result Message Cause → Type 0
Judged found (Ok message) = (found ≡ Some message) × (length (list_of message) ≤ 6 * 20)
Judged found (Err cause) = ((cause ≡ GpskShape) × (found ≡ None)) ⊎ ((cause ≡ ListTooLong)
    × ((message : Message) × (found ≡ Some message) × (6 * 20 < length (list_of message))))

judgement : (found : Option Message) → Judged found (outcome_of found)
judgement None = inl (refl, refl)
judgement (Some message) =
    cond_both (leb (length (list_of message)) (6 * 20)) (Ok message) (Err ListTooLong)
    (Judged (Some message)) (λ within. (refl, leb-true (length (list_of message)) (6 * 20) within))
    (λ long. inr (refl, (message, refl, leb-false (length (list_of message)) (6 * 20) long)))

judged_within : (message : Message) → length (list_of message) ≤ 6 * 20
    → outcome_of (Some message) ≡ Ok message
judged_within message within = cond-true _ _ _ (le-leb (length (list_of message)) (6 * 20) within)

judged_long : (message : Message) → 6 * 20 < length (list_of message)
    → outcome_of (Some message) ≡ Err ListTooLong
judged_long message long = cond-false _ _ _ (lt-leb (length (list_of message)) (6 * 20) long)

-- what each answer comes from
read_judged : (ks : Option ℕ) (octets : List ℕ) (answer : Result Message Cause)
    → read_of ks octets ≡ answer → Judged (loose_of ks octets) answer
unfolding read_of
read_judged ks octets answer e =
    subst (Judged (loose_of ks octets)) e (judgement (loose_of ks octets))

judged_again : (ks : Option ℕ) (octets : List ℕ) (found : Option Message) (answer : Result Message
    Cause) → loose_of ks octets ≡ found → outcome_of found ≡ answer → read_of ks octets ≡ answer
unfolding read_of
judged_again ks octets found answer e j = ap outcome_of e ∙ j

-- ---- the laws

pub encodings_are_read : EncodingsAreRead
encodings_are_read ks octets message g =
    judged_again ks octets (Some message) (Ok message)
    (loose_if_encoded ks octets message g.loosely) (judged_within message g.suites)

pub encoding_if_read : (ks : Option ℕ) (octets : List ℕ) (message : Message) → IsOctets octets
    → read_of ks octets ≡ Ok message → IsGpsk ks message octets
encoding_if_read ks octets message small e =
    let j = read_judged ks octets (Ok message) e in
    record { loosely = loose_consumes ks octets message small j.0; suites = j.1 }

pub reads_the_encoding : ReadsTheEncoding
reads_the_encoding ks octets message small =
    (encoding_if_read ks octets message small, encodings_are_read ks octets message)

pub encodings_are_apart : EncodingsAreApart
encodings_are_apart ks octets one other g h =
    same_Some one other
    (sym (loose_if_encoded ks octets one g) ∙ loose_if_encoded ks octets other h)

none_if_unencoded : (ks : Option ℕ) (octets : List ℕ) (found : Option Message) → IsOctets octets
    → loose_of ks octets ≡ found →
    ((message : Message) → ¬ IsGpskLoose ks message octets) → found ≡ None
none_if_unencoded ks octets None small e not_encoded = refl
none_if_unencoded ks octets (Some message) small e not_encoded =
    absurd (not_encoded message (loose_consumes ks octets message small e))

pub shapeless_encodes_nothing : ShapelessEncodesNothing
shapeless_encodes_nothing ks octets small = (
  λ e message g. elim (read_judged ks octets (Err GpskShape) e) [
    | inl none ↦ none-some message (sym none.1 ∙ loose_if_encoded ks octets message g)
    | inr long ↦ absurd (let c = long.0 in cc)
  ],
  λ not_encoded. judged_again ks octets None (Err GpskShape)
      (none_if_unencoded ks octets (loose_of ks octets) small refl not_encoded) refl,
)

-- a message with a long list has no other reading
long_is_alone : (ks : Option ℕ) (octets : List ℕ) (message : Message)
    → IsGpskLoose ks message octets → 6 * 20 < length (list_of message) →
    (other : Message) → ¬ IsGpsk ks other octets
long_is_alone ks octets message g long other h =
    let same = encodings_are_apart ks octets other message h.loosely g in
    let within = h.suites in
    let size : length (list_of other) ≡ length (list_of message) =
    ap (λ (m : Message). length (list_of m)) same in
    omega arith

long_if_reported : (ks : Option ℕ) (octets : List ℕ) → IsOctets octets
    → read_of ks octets ≡ Err ListTooLong → EncodesALongList ks octets
long_if_reported ks octets small e =
    elim (read_judged ks octets (Err ListTooLong) e) [
      | inl none ↦ absurd (let c = none.0 in cc)
      | inr long ↦ (
          let spells = loose_consumes ks octets long.1.0 small long.1.1 in
          record {
            message = long.1.0;
            spells = spells;
            no_other = long_is_alone ks octets long.1.0 spells long.1.2;
          }
          )
    ]

reported_if_long : (ks : Option ℕ) (octets : List ℕ) → EncodesALongList ks octets
    → read_of ks octets ≡ Err ListTooLong
reported_if_long ks octets s =
    let size = length (list_of s.message) in
    elim (cases_lt (6 * 20) size) [
      | inl long ↦ judged_again ks octets (Some s.message) (Err ListTooLong)
          (loose_if_encoded ks octets s.message s.spells) (judged_long s.message long)
      | inr within ↦ absurd (s.no_other s.message (record { loosely = s.spells; suites = within }))
    ]

pub long_lists_are_named : LongListsAreNamed
long_lists_are_named ks octets small =
    (long_if_reported ks octets small, reported_if_long ks octets)

-- a reader's answer: a message that the octets spell
pub encoding_if_received : (ks : Option ℕ) (answer : Result GpskMessage Cause) (octets : List ℕ)
    → IsOctets octets → read_value answer ≡ read_of ks octets →
    IfOk answer (λ view. IsGpsk ks (message_of view) octets)
encoding_if_received ks (Ok view) octets small e =
    encoding_if_read ks octets (message_of view) small (sym e)
encoding_if_received ks (Err cause) octets small e = tt

-- or the cause, where they spell none
pub refused_if_received : (ks : Option ℕ) (answer : Result GpskMessage Cause) (octets : List ℕ)
    → IsOctets octets → read_value answer ≡ read_of ks octets →
    IfErr answer (Refuses ks octets)
refused_if_received ks (Ok view) octets small e = tt
refused_if_received ks (Err cause) octets small e =
    elim (read_judged ks octets (Err cause) (sym e)) [
      | inl none ↦
          inl (none.0, (shapeless_encodes_nothing ks octets small).0 (sym e ∙ ap Err none.0))
      | inr long ↦ inr (long.0, long_if_reported ks octets small (sym e ∙ ap Err long.0))
    ]

pub encodings_are_sized : EncodingsAreSized
unfolding spelled covered_of
encodings_are_sized (gpsk1 id_s rand_s list) = simp length-append (omega arith)
encodings_are_sized (gpsk2 id_p id_s rand_p rand_s list suite pd mac) =
    simp length-append (omega arith)
encodings_are_sized (gpsk3 rand_p rand_s id_s suite pd mac) = simp length-append (omega arith)
encodings_are_sized (gpsk4 pd mac) = simp length-append (omega arith)
encodings_are_sized (fail code) = refl
encodings_are_sized (protected_fail code mac) = simp length-append (omega arith)

pub covered_is_the_middle : CoveredIsTheMiddle
unfolding spelled
covered_is_the_middle ks message size =
    let count = length-append (covered_of message) (mac_of message) in
    take_at (covered_of message) (mac_of message) _ (omega arith)

pub covered_octets_fix_fields : CoveredOctetsFixFields
covered_octets_fix_fields one other f g ops covered =
    let at_one = fields_again one [] f in
    let at_other = fields_again other [] g in
    let same : fields_at (op_code one) (covered_of one ++ [])
    ≡ fields_at (op_code other) (covered_of other ++ []) = cc in
    ap (λ (x : Message × List ℕ). x.0) (same_Some _ _ (sym at_one ∙ same ∙ at_other))
