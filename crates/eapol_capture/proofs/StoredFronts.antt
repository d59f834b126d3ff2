-- What is kept of a frame carries the same as the frame.
use Rattle.std.proofs.Common.{◌≡◌, slice_index, ℕ, ◌+◌, ◌-◌, ◌≤◌, List, length, take, drop, Bool, true, false}
use Rattle.std.proofs.Common.{ltb, Ok, refl, ap, ◌∙◌, sym, inl, inr, ◌<◌, arith}
use Rattle.std.specs.Int.{w16, from_be_bytes}
use Rattle.std.proofs.lemmas.Bool.{cases_lt, lt-ltb, le-ltb}
use Rattle.std.proofs.lemmas.List.{take_all, take-take, drop-take, get_or-take, length-take-le, length-drop}
use Rattle.eap_packet.specs.Fault.{length_of}
use Rattle.eapol_frame.specs.Frame.{FrameValue, frame_of, fields_of}
use Rattle.eapol_frame.proofs.Grammar.{read_if}
use Rattle.eapol_capture.specs.Frames.{cut, type_of, packet_type, packet_in, body_of, contents_of}
use Rattle.eapol_capture.specs.Laws.{FrontsCarryTheSame}

-- frames with EAPOL's whole header carry the same where their fields are the same
same_fields : (a b : List ℕ) → 18 ≤ length a → 18 ≤ length b → type_of a ≡ type_of b
    → packet_type a ≡ packet_type b → body_of a ≡ body_of b →
    contents_of a ≡ contents_of b
unfolding contents_of
same_fields a b long other types kinds bodies =
    let a_type : ltb (length a) 14 ≡ false = le-ltb (length a) 14 (omega arith) in
    let b_type : ltb (length b) 14 ≡ false = le-ltb (length b) 14 (omega arith) in
    let a_header : ltb (length a) 18 ≡ false = le-ltb (length a) 18 long in
    let b_header : ltb (length b) 18 ≡ false = le-ltb (length b) 18 other in
    rw (a_type, b_type, a_header, b_header, types, kinds, bodies) refl

-- a part of what is kept
kept_field : (most place size : ℕ) (octets : List ℕ) → place + size ≤ most
    → take size (drop place (take most octets)) ≡ take size (drop place octets)
kept_field most place size octets fits =
    let whole : most ≡ place + (most - place) = omega arith in
    let cut_is : drop place (take most octets) ≡ take (most - place) (drop place octets) =
    ap (λ n. drop place (take n octets)) whole ∙ drop-take place (most - place) octets in
    ap (take size) cut_is ∙ take-take size (most - place) (drop place octets) (omega arith)

abbrev frame_with : ℕ → ℕ → List ℕ → FrameValue
frame_with version kind body = record { version = version; kind = kind; body = body }

alike : (v w k l : ℕ) (b d : List ℕ) → v ≡ w → k ≡ l → b ≡ d → frame_with v k b ≡ frame_with w l d
alike v w k l b d p q r = rw (p, q, r) refl

-- a packet of over 2,000 octets isn't read, whether all of it is there or not
too_long : (octets : List ℕ) → 4 ≤ length octets → 2000 < length_of octets
    → packet_in (frame_of octets) ≡ cut
unfolding frame_of
too_long octets four much =
    let headed : ltb (length octets) 4 ≡ false = le-ltb (length octets) 4 four in
    elim (cases_lt (length octets - 4) (length_of octets)) [
      | inl missing ↦
          let truncated : ltb (length octets - 4) (length_of octets) ≡ true =
          lt-ltb (length octets - 4) (length_of octets) missing in
          rw (headed, truncated) refl
      | inr whole ↦
          let count : length (fields_of octets).body ≡ length_of octets =
          length-take-le (length_of octets) (drop 4 octets) (omega (arith, length-drop 4 octets)) in
          let over : ltb 2000 (length (fields_of octets).body) ≡ true =
          lt-ltb 2000 (length (fields_of octets).body) (omega (arith, count)) in
          ap packet_in (read_if octets four whole) ∙ rw over refl
    ]

-- a packet within 2,000 octets ends within what is kept
kept_body : (octets : List ℕ) → 4082 ≤ length octets
    → packet_in (frame_of (take 4082 octets)) ≡ packet_in (frame_of octets)
kept_body octets long =
    let kept = take 4082 octets in
    let count : length kept ≡ 4082 = length-take-le 4082 octets long in
    let version = get_or-take 4082 octets 0 0 (omega arith) in
    let kind = get_or-take 4082 octets 1 0 (omega arith) in
    let high = get_or-take 4082 octets 2 0 (omega arith) in
    let low = get_or-take 4082 octets 3 0 (omega arith) in
    let sizes : length_of kept ≡ length_of octets = rw (high, low) refl in
    elim (cases_lt 2000 (length_of octets)) [
      | inl much ↦
          too_long kept (omega (arith, count)) (omega (arith, sizes))
          ∙ sym (too_long octets (omega arith) much)
      | inr fits ↦
          let body : (fields_of kept).body ≡ (fields_of octets).body =
          ap (λ n. take n (drop 4 kept)) sizes
          ∙ kept_field 4082 4 (length_of octets) octets (omega arith) in
          let same : fields_of kept ≡ fields_of octets =
          alike (slice_index kept 0) (slice_index octets 0) (slice_index kept 1)
          (slice_index octets 1) (fields_of kept).body (fields_of octets).body version kind body in
          ap packet_in (read_if kept (omega (arith, count)) (omega (arith, count, sizes))
          ∙ ap Ok same ∙ sym (read_if octets (omega arith) (omega arith)))
    ]

pub fronts_carry_the_same : FrontsCarryTheSame
fronts_carry_the_same frame =
    elim (cases_lt (length frame) 4096) [
      | inl short ↦ ap contents_of (take_all 4096 frame (omega arith))
      | inr long ↦
          let kept : length (take 4096 frame) ≡ 4096 = length-take-le 4096 frame long in
          let types : type_of (take 4096 frame) ≡ type_of frame =
          ap (from_be_bytes w16) (kept_field 4096 12 2 frame (omega arith)) in
          let kinds : packet_type (take 4096 frame) ≡ packet_type frame =
          get_or-take 4096 frame 15 0 (omega arith) in
          let bodies : body_of (take 4096 frame) ≡ body_of frame =
          ap (λ octets. packet_in (frame_of octets)) (drop-take 14 4082 frame)
          ∙ kept_body (drop 14 frame) (omega (arith, length-drop 14 frame)) in
          same_fields (take 4096 frame) frame (omega (arith, kept)) (omega arith) types kinds bodies
    ]
