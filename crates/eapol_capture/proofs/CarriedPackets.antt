-- A spelled frame carries its packet.
use Rattle.std.proofs.Common.{◌≡◌, ◌≤◌, ◌+◌, ◌-◌, ◌∷◌, ◌++◌, Ok, length, take, drop, false, ltb, refl, ap}
use Rattle.std.proofs.Common.{◌∙◌, sym, subst, arith, length-append, slice_index}
use Rattle.std.specs.Int.{w16, from_be_bytes, to_be_bytes}
use Rattle.std.proofs.Math.Seq.{drop-append-add}
use Rattle.std.proofs.lemmas.Bool.{le-ltb}
use Rattle.std.proofs.lemmas.List.{take_at, drop_at, get_or-append-add}
use Rattle.eap_packet.specs.Fault.{length_of}
use Rattle.eapol_frame.specs.Frame.{FrameValue, frame_of, fields_of}
use Rattle.eapol_frame.proofs.Grammar.{read_if}
use Rattle.eapol_capture.specs.Frames.{eap, type_of, eapol_type, packet_type, packet_in, body_of}
use Rattle.eapol_capture.specs.Frames.{contents_of}
use Rattle.eapol_capture.specs.Laws.{encoded_frame, EncodedFramesCarryTheirPackets}

-- a frame whose body is within 2,000 octets
within : (frame : FrameValue) → length frame.body ≤ 2000 → packet_in (Ok frame) ≡ eap frame.body
within frame short = rw (le-ltb 2000 (length frame.body) short) refl

pub encoded_frames_carry_their_packets : EncodedFramesCarryTheirPackets
unfolding contents_of
encoded_frames_carry_their_packets addresses version packet padding twelve short =
    let frame = encoded_frame addresses version packet padding in
    let eapol = version ∷ 0 ∷ (to_be_bytes w16 (length packet) ++ (packet ++ padding)) in
    let tail = to_be_bytes w16 eapol_type ++ eapol in
    let behind : length tail ≡ 6 + length (packet ++ padding) = omega arith in
    let size : length frame ≡ 18 + length (packet ++ padding) =
    omega (arith, length-append addresses tail, twelve, behind) in
    let types : type_of frame ≡ eapol_type =
    ap (λ l. from_be_bytes w16 (take 2 l)) (drop_at addresses tail 12 twelve) in
    let fifteen : 15 ≡ length addresses + 3 = omega (arith, twelve) in
    let kind : packet_type frame ≡ 0 =
    ap (λ n. slice_index frame n) fifteen ∙ get_or-append-add addresses tail 3 0 in
    let fourteen : 14 ≡ length addresses + 2 = omega (arith, twelve) in
    let inner : drop 14 frame ≡ eapol =
    ap (λ n. drop n frame) fourteen ∙ drop-append-add addresses tail 2 in
    let lengths : length_of eapol ≡ length packet = omega (arith, short) in
    let whole : length_of eapol ≤ length eapol - 4 =
    omega (arith, lengths, length-append packet padding) in
    let body : (fields_of eapol).body ≡ packet = take_at packet padding (length_of eapol)
    (sym lengths) in
    let bodies : body_of frame ≡ eap packet =
    ap packet_in (ap frame_of inner ∙ read_if eapol (omega arith) whole)
    ∙ within (fields_of eapol) (subst (λ l. length l ≤ 2000) (sym body) short) ∙ ap eap body in
    let addressed : ltb (length frame) 14 ≡ false =
    le-ltb (length frame) 14 (omega (arith, size)) in
    let headed : ltb (length frame) 18 ≡ false = le-ltb (length frame) 18 (omega (arith, size)) in
    rw (addressed, types, headed, kind) bodies
