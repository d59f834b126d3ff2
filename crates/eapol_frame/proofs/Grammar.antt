-- The laws of the grammar.
use Rattle.std.proofs.Common.{◌≡◌, ◌≤◌, ◌<◌, ◌-◌, ◌+◌, ◌*◌, ◌/◌, ◌%◌, ℕ, List, [], ◌∷◌, ◌++◌}
use Rattle.std.proofs.Common.{length, length-append, take, drop, Bool, true, false, Err, Ok, refl, ap, ◌∙◌, sym, subst, arith}
use Rattle.std.specs.Prelude.{if◌then◌else◌}
use Rattle.std.proofs.lemmas.Bool.Decides.{nat_tests}
use Rattle.std.proofs.lemmas.List.{take_at, length-take-le, take-append-drop}
use Rattle.std.proofs.lemmas.List.Elements.{All-take, All-drop}
use Rattle.eap_packet.specs.Packet.{IsOctets}
use Rattle.eap_packet.specs.Fault.{length_of}
use Rattle.eapol_frame.specs.declared.frame.FrameCause.TheVariants.{FrameShort, FrameTruncated}
use Rattle.eapol_frame.specs.Frame.{FrameValue, frame_of, fields_of, spelled, is_short}
use Rattle.eapol_frame.specs.Frame.{is_truncated}
use Rattle.eapol_frame.specs.Laws.{FramesAreApart, FramesAreRead, ReadsTheFrame, IsPrefixed}

-- octets that have a head and the whole body are read
pub read_if : (octets : List ℕ) → 4 ≤ length octets → length_of octets ≤ length octets - 4
    → frame_of octets ≡ Ok (fields_of octets)
unfolding frame_of
read_if octets four whole = grind (arith, nat_tests)

length_encoded : (frame : FrameValue) (rest : List ℕ)
    → length_of (spelled frame ++ rest) ≡ length frame.body
length_encoded frame rest = omega arith

fields_encoded : (frame : FrameValue) (rest : List ℕ) → fields_of (spelled frame ++ rest) ≡ frame
fields_encoded frame rest =
    ap (λ b. record { version = frame.version; kind = frame.kind; body = b })
    (take_at frame.body rest (length_of (spelled frame ++ rest)) (sym (length_encoded frame rest)))

pub frames_are_read : FramesAreRead
frames_are_read frame rest p =
    let count = length-append frame.body rest in
    read_if (spelled frame ++ rest) (omega arith) (omega (arith, count))
    ∙ ap Ok (fields_encoded frame rest)

pub frames_are_apart : FramesAreApart
frames_are_apart one other rest others p q e =
    let same = sym (frames_are_read one rest p) ∙ ap frame_of e ∙ frames_are_read other others q in
    cc

-- what is read has a head and the whole body
by_tests : (short truncated : Bool) (octets : List ℕ) (frame : FrameValue)
    → (if short then Err FrameShort else if truncated then Err FrameTruncated
    else Ok (fields_of octets)) ≡ Ok frame
    → (short ≡ false) × (truncated ≡ false) × (fields_of octets ≡ frame)
by_tests true truncated octets frame e = cc
by_tests false true octets frame e = cc
by_tests false false octets frame e = (refl, refl, cc)

if_read : (octets : List ℕ) (frame : FrameValue) → frame_of octets ≡ Ok frame
    → (is_short octets ≡ false) × (is_truncated octets ≡ false) × (fields_of octets ≡ frame)
unfolding frame_of
if_read octets frame e = by_tests (is_short octets) (is_truncated octets) octets frame e

joined_front : (a b high low : ℕ) (tail : List ℕ) → low < 256 → 256 * high + low ≤ length tail →
    (let octets = a ∷ b ∷ high ∷ low ∷ tail in
    octets ≡ spelled (fields_of octets) ++ drop (256 * high + low) tail)
joined_front a b high low tail small whole =
    let n = 256 * high + low in
    let count : length (take n tail) ≡ n = length-take-le n tail whole in
    let first : length (take n tail) / 256 ≡ high = omega arith in
    let second : length (take n tail) % 256 ≡ low = omega arith in
    let joined : take n tail ++ drop n tail ≡ tail = take-append-drop n tail in
    cc

prefixed_front : (a b high low : ℕ) (tail : List ℕ) →
    (let octets = a ∷ b ∷ high ∷ low ∷ tail in IsOctets octets
    → 256 * high + low ≤ length tail → IsPrefixed octets (fields_of octets))
prefixed_front a b high low tail small whole = record {
  is_frame = record {
    version = small 0 0 (omega arith);
    kind = small 1 0 (omega arith);
    octets = All-take (λ b. b < 256) (256 * high + low) tail (All-drop (λ b. b < 256) 4
        (a ∷ b ∷ high ∷ low ∷ tail) small);
    size = omega (
      arith,
      length-take-le (256 * high + low) tail whole,
      small 2 0 (omega arith),
      small 3 0 (omega arith),
    );
  };
  rest = drop (256 * high + low) tail;
  joined = joined_front a b high low tail (small 3 0 (omega arith)) whole;
}

prefixed : (octets : List ℕ) → IsOctets octets → is_short octets ≡ false
    → is_truncated octets ≡ false → IsPrefixed octets (fields_of octets)
prefixed [] small long whole = absurd cc
prefixed (a ∷ []) small long whole = absurd cc
prefixed (a ∷ b ∷ []) small long whole = absurd cc
prefixed (a ∷ b ∷ c ∷ []) small long whole = absurd cc
prefixed (a ∷ b ∷ high ∷ low ∷ tail) small long whole =
    prefixed_front a b high low tail small (grind (arith, nat_tests))

pub reads_the_frame : ReadsTheFrame
reads_the_frame octets frame small = (
  λ e. let read = if_read octets frame e in
      subst (IsPrefixed octets) read.2 (prefixed octets small read.0 read.1),
  λ b. ap frame_of b.joined ∙ frames_are_read frame b.rest b.is_frame,
)
