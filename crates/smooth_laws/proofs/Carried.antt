-- A packet as it travels: as it is, or wrapped (RFC 3748 section 5.7).
use Rattle.std.proofs.Common.{◌≡◌, ◌≢◌, ℕ, ◌+◌, ◌-◌, ◌≤◌, take, drop, List, ◌∷◌, ◌++◌, length, Bool}
use Rattle.std.proofs.Common.{true, false, Ok, refl, sym, ap, ◌∙◌, arith}
use Rattle.std.specs.Prelude.{◌==◌, ◌||◌, nat_lt}
use Rattle.std.proofs.lemmas.Bool.{and_from, and_left, and_right, eqb-false, le-leb, le-ltb}
use Rattle.std.proofs.lemmas.List.{take_all}
use Rattle.octet_lists.specs.Among.{expanded_kind, ietf}
use Rattle.eap_packet.specs.Packet.{request, response, spelled, frame_of, two_octets}
use Rattle.eap_packet.specs.Fault.{length_of, packet_of}
use Rattle.eap_packet.specs.Expanded.{has_plain, is_ietf, is_nak_body, is_plain_body, is_bad_body}
use Rattle.eap_packet.specs.Expanded.{expanded_form}
use Rattle.pass_through.specs.PassTable.{without_padding}
use Rattle.smooth_laws.proofs.Packets.{request_read, response_read, request_whole, response_whole}

-- a Type that is no Identity, no Notification and no Nak, and that has a plain form
pub record IsMethod (kind : ℕ) : Type 0 where
  pub not_identity : (kind == 1) ≡ false
  pub not_notification : (kind == 2) ≡ false
  pub not_nak : (kind == 3) ≡ false
  pub not_expanded : (kind == expanded_kind) ≡ false
  pub has_plain : has_plain kind ≡ true

abbrev pub carried : Bool → List ℕ → List ℕ
carried false octets = octets
carried true octets = expanded_form octets

-- the Type and the Type-Data that it then has
abbrev pub kind_as : Bool → ℕ → ℕ
kind_as false kind = kind
kind_as true kind = expanded_kind

abbrev pub body_as : Bool → ℕ → List ℕ → List ℕ
body_as false kind body = body
body_as true kind body = ietf ++ kind ∷ body

-- the octets of a wrapped packet, where nothing stands past its Length
trailing_length : (code id kind : ℕ) (body : List ℕ)
    → (let octets = frame_of code id (kind ∷ body) in take (length_of octets - 4) (drop 4 octets)
    ≡ kind ∷ body)
trailing_length code id kind body = take_all _ (kind ∷ body) (omega arith)

wrapped_framed : (code id kind : ℕ) (body : List ℕ) → expanded_form (frame_of code id (kind ∷ body))
    ≡ frame_of code id (expanded_kind ∷ ietf ++ kind ∷ body)
wrapped_framed code id kind body =
    ap (λ (tail : List ℕ). code ∷ id ∷ two_octets (length_of (frame_of code id (kind ∷ body))
    + 7) ++ expanded_kind ∷ ietf ++ tail) (trailing_length code id kind body)
    ∙ ap (λ (size : ℕ). code ∷ id ∷ two_octets size ++ expanded_kind ∷ ietf ++ kind ∷ body)
    (omega arith)

pub carried_request : (w : Bool) (id kind : ℕ) (body : List ℕ)
    → carried w (spelled (request id kind body))
    ≡ spelled (request id (kind_as w kind) (body_as w kind body))
unfolding spelled
carried_request false id kind body = refl
carried_request true id kind body = wrapped_framed 1 id kind body

pub carried_response : (w : Bool) (id kind : ℕ) (body : List ℕ)
    → carried w (spelled (response id kind body))
    ≡ spelled (response id (kind_as w kind) (body_as w kind body))
unfolding spelled
carried_response false id kind body = refl
carried_response true id kind body = wrapped_framed 2 id kind body

not_nak : (w : Bool) (kind : ℕ) → kind ≢ 3 → kind_as w kind ≢ 3
not_nak false kind differs = differs
not_nak true kind differs = λ e. omega (arith, e)

body_bounded : (w : Bool) (kind : ℕ) (body : List ℕ) → length body ≤ 1488
    → length (body_as w kind body) ≤ 1495
body_bounded false kind body fits = omega (arith, fits)
body_bounded true kind body fits = omega (arith, fits)

-- it is read as what it has
pub request_carried : (w : Bool) (id kind : ℕ) (body : List ℕ) → length body ≤ 1488 → kind ≢ 3
    → packet_of (carried w (spelled (request id kind body)))
    ≡ Ok (request id (kind_as w kind) (body_as w kind body))
request_carried w id kind body fits differs =
    ap packet_of (carried_request w id kind body) ∙ request_read id (kind_as w kind) (body_as w kind
    body) (body_bounded w kind body fits) (not_nak w kind differs)

pub response_carried : (w : Bool) (id kind : ℕ) (body : List ℕ) → length body ≤ 1488 → kind ≢ 3
    → packet_of (carried w (spelled (response id kind body)))
    ≡ Ok (response id (kind_as w kind) (body_as w kind body))
response_carried w id kind body fits differs =
    ap packet_of (carried_response w id kind body)
    ∙ response_read id (kind_as w kind) (body_as w kind body) (body_bounded w kind body fits)
    (λ e. absurd (not_nak w kind differs e))

-- nothing stands past its Length
pub request_carried_whole : (w : Bool) (id kind : ℕ) (body : List ℕ)
    → without_padding (carried w (spelled (request id kind body)))
    ≡ carried w (spelled (request id kind body))
request_carried_whole w id kind body =
    let is = carried_request w id kind body in
    ap without_padding is ∙ (request_whole id (kind_as w kind) (body_as w kind body) ∙ sym is)

pub response_carried_whole : (w : Bool) (id kind : ℕ) (body : List ℕ)
    → without_padding (carried w (spelled (response id kind body)))
    ≡ carried w (spelled (response id kind body))
response_carried_whole w id kind body =
    let is = carried_response w id kind body in
    ap without_padding is ∙ (response_whole id (kind_as w kind) (body_as w kind body) ∙ sym is)

-- a wrapped packet of a method has a plain form, and is one that a party takes
pub of_ietf : (kind : ℕ) (body : List ℕ) → is_ietf (ietf ++ kind ∷ body) ≡ true
of_ietf kind body = and_from _ _ (le-leb 7 (length (ietf ++ kind ∷ body)) (omega arith)) refl

pub wrapped_plain : (kind : ℕ) (body : List ℕ) → IsMethod kind
    → is_plain_body (ietf ++ kind ∷ body) ≡ true
wrapped_plain kind body is = and_from _ _ (of_ietf kind body) is.has_plain

pub not_under : (kind : ℕ) (body : List ℕ) → nat_lt (length (ietf ++ kind ∷ body)) 7 ≡ false
not_under kind body = le-ltb (length (ietf ++ kind ∷ body)) 7 (omega arith)

pub or_none : (x y : Bool) → x ≡ false → y ≡ false → (x || y) ≡ false
or_none false false e f = refl
or_none true y e f = absurd cc
or_none false true e f = absurd cc

pub wrapped_accepted : (is_asked : Bool) (kind : ℕ) (body : List ℕ) → IsMethod kind
    → is_bad_body is_asked (ietf ++ kind ∷ body) ≡ false
wrapped_accepted is_asked kind body is =
    or_none (nat_lt (length (ietf ++ kind ∷ body)) 7) _ (not_under kind body)
    (and_left (is_nak_body (ietf ++ kind ∷ body)) _
    (and_right (is_ietf (ietf ++ kind ∷ body)) (kind == 3) is.not_nak))

-- so are a method's packets
pub asks_read : (w : Bool) (id kind : ℕ) (body : List ℕ) → IsMethod kind → length body ≤ 1488
    → packet_of (carried w (spelled (request id kind body)))
    ≡ Ok (request id (kind_as w kind) (body_as w kind body))
asks_read w id kind body is fits = request_carried w id kind body fits (eqb-false kind 3 is.not_nak)

pub answers_read : (w : Bool) (id kind : ℕ) (body : List ℕ) → IsMethod kind → length body ≤ 1488
    → packet_of (carried w (spelled (response id kind body)))
    ≡ Ok (response id (kind_as w kind) (body_as w kind body))
answers_read w id kind body is fits =
    response_carried w id kind body fits (eqb-false kind 3 is.not_nak)
