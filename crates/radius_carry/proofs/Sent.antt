-- What is written is read back, and is good.
use Rattle.std.proofs.Common.{◌≡◌, ℕ, zero, suc, ◌+◌, ◌*◌, ◌≤◌, List, [], ◌∷◌, ◌++◌, length, take}
use Rattle.std.proofs.Common.{drop, replicate, Bool, true, false, cond, ◌==◌}
use Rattle.std.proofs.Common.{IsTrue, refl, ap, ◌∙◌, sym, arith, append_assoc, length-append}
use Rattle.std.proofs.lemmas.List.{append-nil, length-take, length-drop, take-append-drop}
use Rattle.hmac_mac.specs.Hmac.{hmac}
use Rattle.md5.specs.Md5.{md5}
use Rattle.md5.proofs.StandardFacts.{length-md5}
use Rattle.radius_carry.specs.Packet.{Attribute, RadiusPacket, IsRadius, count, eap_of, is_code}
use Rattle.radius_carry.specs.Packet.{value_of_kind, octets_of, spelled, tag_of}
use Rattle.radius_carry.specs.Tags.{asked_text, blank_text, blank_attributes, hmac_md5}
use Rattle.radius_carry.specs.Written.{attributes_before_tag, field, pieces, pieces_in}
use Rattle.radius_carry.specs.Written.{sealed_packet, packet_with_tag}
use Rattle.radius_carry.specs.Laws.{AreFields, RequestsAreReadBack, RequestsAreGood}
use Rattle.radius_carry.specs.Laws.{RepliesAreReadBack, RepliesAreGood}
use Rattle.radius_carry.proofs.Grammar.{encodings_are_read}
use Rattle.radius_carry.proofs.Pieced.{octets_of_append, pieces_more}
use Rattle.radius_carry.proofs.Places.{has_none}

-- ---- attributes that follow each other

cond_add : (b : Bool) (m n : ℕ) → cond b (1 + (m + n)) (m + n) ≡ cond b (1 + m) m + n
cond_add true m n = omega arith
cond_add false m n = refl

cond_append : (b : Bool) (value l m : List ℕ) → cond b (value ++ (l ++ m)) (l ++ m)
    ≡ cond b (value ++ l) l ++ m
cond_append true value l m = sym (append_assoc value l m)
cond_append false value l m = refl

count_append : (kind : ℕ) (xs ys : List Attribute)
    → count kind (xs ++ ys) ≡ count kind xs + count kind ys
unfolding count
count_append kind [] ys = omega arith
count_append kind ((other, value) ∷ xs) ys =
    ap (λ n. cond (other == kind) (1 + n) n) (count_append kind xs ys)
    ∙ cond_add (other == kind) (count kind xs) (count kind ys)

joined_append : (kind : ℕ) (xs ys : List Attribute)
    → value_of_kind kind (xs ++ ys) ≡ value_of_kind kind xs ++ value_of_kind kind ys
unfolding value_of_kind
joined_append kind [] ys = refl
joined_append kind ((other, value) ∷ xs) ys =
    ap (λ (l : List ℕ). cond (other == kind) (value ++ l) l) (joined_append kind xs ys)
    ∙ cond_append (other == kind) value (value_of_kind kind xs) (value_of_kind kind ys)

blanked_append : (xs ys : List Attribute)
    → blank_attributes (xs ++ ys) ≡ blank_attributes xs ++ blank_attributes ys
unfolding blank_attributes
blanked_append [] ys = refl
blanked_append ((kind, value) ∷ xs) ys =
    ap (λ (l : List Attribute). (kind, cond (kind == 80) (replicate (length value) 0) value) ∷ l)
    (blanked_append xs ys)

-- ---- a name or a state

record FieldOf (kind : ℕ) (value : List ℕ) : Type 0 where
  no_eap : count 79 (field kind value) ≡ 0
  joins_none : value_of_kind 79 (field kind value) ≡ []
  no_tag : count 80 (field kind value) ≡ 0
  size : length (octets_of (field kind value)) ≤ length value + 2

user_field : (value : List ℕ) → FieldOf 1 value
unfolding count value_of_kind octets_of
user_field [] = record { no_eap = refl; joins_none = refl; no_tag = refl; size = omega arith }
user_field (octet ∷ rest) = record {
  no_eap = refl;
  joins_none = refl;
  no_tag = refl;
  size = omega (arith, ap length (append-nil rest));
}

state_field : (value : List ℕ) → FieldOf 24 value
unfolding count value_of_kind octets_of
state_field [] = record { no_eap = refl; joins_none = refl; no_tag = refl; size = omega arith }
state_field (octet ∷ rest) = record {
  no_eap = refl;
  joins_none = refl;
  no_tag = refl;
  size = omega (arith, ap length (append-nil rest));
}

-- ---- an EAP packet in pieces

record PiecesOf (most : ℕ) (eap : List ℕ) : Type 0 where
  joins : value_of_kind 79 (pieces_in most eap) ≡ eap
  no_tag : count 80 (pieces_in most eap) ≡ 0
  none : length (octets_of (pieces_in most eap)) ≤ 255 * length eap
  size : 253 * length (octets_of (pieces_in most eap)) ≤ 255 * length eap + 504

pieces_of_none : (most : ℕ) → PiecesOf most []
unfolding count value_of_kind octets_of pieces_in
pieces_of_none zero = record { joins = refl; no_tag = refl; none = omega arith; size = omega arith }
pieces_of_none (suc most) =
    record { joins = refl; no_tag = refl; none = omega arith; size = omega arith }

in_more : (most : ℕ) (eap : List ℕ) → 1 ≤ length eap
    → pieces_in (suc most) eap ≡ (79, take 253 eap) ∷ pieces_in most (drop 253 eap)
unfolding pieces_in
in_more most [] some = absurd (omega arith)
in_more most (octet ∷ rest) some = refl

-- one piece before others
piece_joins : (value : List ℕ) (rest : List Attribute) → value_of_kind 79 ((79, value) ∷ rest)
    ≡ value ++ value_of_kind 79 rest
unfolding value_of_kind
piece_joins value rest = refl

piece_no_tag : (value : List ℕ) (rest : List Attribute)
    → count 80 ((79, value) ∷ rest) ≡ count 80 rest
unfolding count
piece_no_tag value rest = refl

piece_size : (value : List ℕ) (rest : List Attribute) → length (octets_of ((79, value) ∷ rest))
    ≡ 2 + length value + length (octets_of rest)
unfolding octets_of
piece_size value rest = omega (arith, length-append value (octets_of rest))

pieces_of_more : (most : ℕ) (eap : List ℕ) → 1 ≤ length eap → PiecesOf most (drop 253 eap)
    → PiecesOf (suc most) eap
pieces_of_more most eap some tail =
    let more = in_more most eap some in
    let value : List ℕ = take 253 eap in
    let rest : List Attribute = pieces_in most (drop 253 eap) in
    let later = length-drop 253 eap in
    let front = length-take 253 eap in
    let octets = ap length (ap octets_of more) ∙ piece_size value rest in
    record {
      joins = ap (value_of_kind 79) more ∙ piece_joins value rest
          ∙ ap (λ (l : List ℕ). value ++ l) tail.joins ∙ take-append-drop 253 eap;
      no_tag = ap (count 80) more ∙ piece_no_tag value rest ∙ tail.no_tag;
      none = omega (arith, tail.none);
      size = omega (arith, tail.size, tail.none);
    }

fewer : (most : ℕ) (eap : List ℕ) → 1 ≤ length eap → length eap ≤ suc most
    → length (drop 253 eap) ≤ most
fewer most eap some fits = omega (arith, length-drop 253 eap)

pieces_of : (most : ℕ) (eap : List ℕ) → length eap ≤ most → PiecesOf most eap
pieces_of most [] fits = pieces_of_none most
pieces_of zero (octet ∷ rest) fits = absurd (omega arith)
pieces_of (suc most) (octet ∷ rest) fits =
    pieces_of_more most (octet ∷ rest) (omega arith)
    (pieces_of most (drop 253 (octet ∷ rest)) (fewer most (octet ∷ rest) (omega arith) fits))

some_pieces : (eap : List ℕ) → 1 ≤ length eap → 1 ≤ count 79 (pieces eap)
unfolding count
some_pieces eap some = rw pieces_more (omega arith)

-- ---- a packet with its tag

record CarriedOf (user state eap : List ℕ) : Type 0 where
  carries : 1 ≤ count 79 (attributes_before_tag user state eap)
  joins : value_of_kind 79 (attributes_before_tag user state eap) ≡ eap
  no_tag : count 80 (attributes_before_tag user state eap) ≡ 0
  size : 253 * length (octets_of (attributes_before_tag user state eap))
      ≤ 253 * (length user + length state + 4) + 255 * length eap + 504

carried_of : (user state eap : List ℕ) → 1 ≤ length eap → CarriedOf user state eap
unfolding pieces
carried_of user state eap some =
    let one = user_field user in
    let two = state_field state in
    let three = pieces_of (length eap) eap (omega arith) in
    let more : 1 ≤ count 79 (pieces eap) = some_pieces eap some in
    let rest : List Attribute = field 24 state ++ pieces eap in
    record {
      carries = omega (
        arith,
        count_append 79 (field 1 user) rest,
        count_append 79 (field 24 state) (pieces eap),
      );
      joins =
          joined_append 79 (field 1 user) rest
          ∙ ap (λ (l : List ℕ). l ++ value_of_kind 79 rest) one.joins_none
          ∙ joined_append 79 (field 24 state) (pieces eap)
          ∙ ap (λ (l : List ℕ). l ++ value_of_kind 79 (pieces eap)) two.joins_none
          ∙ three.joins;
      no_tag = omega (
        arith,
        count_append 80 (field 1 user) rest,
        count_append 80 (field 24 state) (pieces eap),
        one.no_tag,
        two.no_tag,
        three.no_tag,
      );
      size =
          omega (
            arith,
            ap length (octets_of_append (field 1 user) rest),
            length-append (octets_of (field 1 user)) (octets_of rest),
            ap length (octets_of_append (field 24 state) (pieces eap)),
            length-append (octets_of (field 24 state)) (octets_of (pieces eap)),
            one.size,
            two.size,
            three.size,
          );
    }

record TaggedOf (code id : ℕ) (authenticator user state eap tag : List ℕ) : Type 0 where
  is_radius : IsRadius
      (packet_with_tag code id authenticator (attributes_before_tag user state eap) tag)
      (spelled (packet_with_tag code id authenticator (attributes_before_tag user state eap) tag))
  carries : eap_of (packet_with_tag code id authenticator (attributes_before_tag user state eap)
      tag).attributes ≡ eap
  tag_there : tag_of (packet_with_tag code id authenticator (attributes_before_tag user state eap)
      tag).attributes ≡ tag
  blank : blank_attributes (packet_with_tag code id authenticator (attributes_before_tag user state
      eap) tag).attributes ≡ attributes_before_tag user state eap ++ (80, replicate 16 0) ∷ []

-- the tag alone
record LastTag (tag : List ℕ) : Type 0 where
  no_eap : count 79 ((80, tag) ∷ []) ≡ 0
  joins_none : value_of_kind 79 ((80, tag) ∷ []) ≡ []
  lone : count 80 ((80, tag) ∷ []) ≡ 1
  joins : value_of_kind 80 ((80, tag) ∷ []) ≡ tag
  blank : blank_attributes ((80, tag) ∷ []) ≡ (80, replicate (length tag) 0) ∷ []
  size : length (octets_of ((80, tag) ∷ [])) ≡ length tag + 2

last_tag : (tag : List ℕ) → LastTag tag
unfolding count value_of_kind blank_attributes octets_of
last_tag tag = record {
  no_eap = refl;
  joins_none = refl;
  lone = refl;
  joins = append-nil tag;
  blank = refl;
  size = omega (arith, ap length (append-nil tag));
}

encoding_size : (packet : RadiusPacket) → length (spelled packet)
    ≡ 4 + length packet.authenticator + length (octets_of packet.attributes)
unfolding spelled
encoding_size packet =
    omega (arith, length-append packet.authenticator (octets_of packet.attributes))

tagged_of : (code id : ℕ) (authenticator user state eap tag : List ℕ) → IsTrue (is_code code)
    → AreFields authenticator user state eap → length tag ≡ 16 →
    TaggedOf code id authenticator user state eap tag
unfolding packet_with_tag
tagged_of code id authenticator user state eap tag known fields sixteen =
    let list : List Attribute = attributes_before_tag user state eap in
    let last : List Attribute = (80, tag) ∷ [] in
    let of = carried_of user state eap fields.some_eap in
    let end = last_tag tag in
    let none = has_none list of.no_tag in
    let eaps = count_append 79 list last in
    let tags = count_append 80 list last in
    let octets = ap length (octets_of_append list last) in
    let both = length-append (octets_of list) (octets_of last) in
    let packet = packet_with_tag code id authenticator list tag in
    let carries : value_of_kind 79 (list ++ last) ≡ eap =
    joined_append 79 list last ∙ ap (λ (l : List ℕ). value_of_kind 79 list ++ l) end.joins_none
    ∙ append-nil (value_of_kind 79 list) ∙ of.joins in
    let there : value_of_kind 80 (list ++ last) ≡ tag =
    joined_append 80 list last ∙ ap (λ (l : List ℕ). l ++ value_of_kind 80 last) none.none_joined
    ∙ end.joins in
    record {
      is_radius = record {
        encoding_of = refl;
        known = known;
        authenticator = fields.sixteen;
        size = omega (
          arith,
          encoding_size packet,
          of.size,
          end.size,
          fields.user_bounded,
          fields.state_bounded,
          fields.eap_bounded,
          fields.sixteen,
        );
        carries = omega (arith, of.carries);
        eap_bounded = omega (arith, ap length carries, fields.eap_bounded);
        lone_tag = omega (arith, of.no_tag, end.lone);
        tag_size = ap length there ∙ sixteen;
      };
      carries = carries;
      tag_there = there;
      blank =
          blanked_append list last
          ∙ ap (λ (l : List Attribute). l ++ blank_attributes last) none.unblanked
          ∙ ap (λ (l : List Attribute). list ++ l) end.blank
          ∙ ap (λ n. list ++ (80, replicate n 0) ∷ []) sixteen;
    }

-- ---- what is written

length_hmac_md5 : (key text : List ℕ) → length (hmac_md5 key text) ≡ 16
unfolding hmac
length_hmac_md5 key text = length-md5 _

pub requests_are_read_back : RequestsAreReadBack
unfolding sealed_packet
requests_are_read_back secret authenticator user state eap rest id fields =
    let of = tagged_of 1 id authenticator user state eap _ refl fields (length_hmac_md5 secret _) in
    record { read = encodings_are_read _ rest of.is_radius; carries = of.carries }

pub requests_are_good : RequestsAreGood
unfolding sealed_packet packet_with_tag blank_text
requests_are_good secret authenticator user state eap id fields =
    let blank : RadiusPacket =
    packet_with_tag 1 id authenticator (attributes_before_tag user state eap) (replicate 16 0) in
    let tag : List ℕ = hmac_md5 secret (spelled blank) in
    let of = tagged_of 1 id authenticator user state eap tag refl fields
    (length_hmac_md5 secret (spelled blank)) in
    record {
      is_request = refl;
      tag =
          of.tag_there
          ∙ sym (ap (λ (l : List Attribute).
          hmac_md5 secret (spelled (record blank { attributes = l }))) of.blank);
    }

pub replies_are_read_back : RepliesAreReadBack
unfolding sealed_packet packet_with_tag asked_text
replies_are_read_back secret asked state eap rest code id reply fields =
    let blank : RadiusPacket =
    packet_with_tag code id asked (attributes_before_tag [] state eap) (replicate 16 0) in
    let tag : List ℕ = hmac_md5 secret (spelled blank) in
    let response : List ℕ = md5
    (spelled (packet_with_tag code id asked (attributes_before_tag [] state eap) tag) ++ secret) in
    let of =
    tagged_of code id response [] state eap tag reply.known (record {
      sixteen = length-md5 _;
      user_bounded = fields.user_bounded;
      state_bounded = fields.state_bounded;
      some_eap = fields.some_eap;
      eap_bounded = fields.eap_bounded;
    }) (length_hmac_md5 secret (spelled blank)) in
    record { read = encodings_are_read _ rest of.is_radius; carries = of.carries }

pub replies_are_good : RepliesAreGood
unfolding sealed_packet packet_with_tag asked_text blank_text
replies_are_good secret asked state eap code id reply fields =
    let blank : RadiusPacket =
    packet_with_tag code id asked (attributes_before_tag [] state eap) (replicate 16 0) in
    let tag : List ℕ = hmac_md5 secret (spelled blank) in
    let of = tagged_of code id asked [] state eap tag reply.known fields
    (length_hmac_md5 secret (spelled blank)) in
    record {
      is_reply = reply.is_reply;
      tag =
          of.tag_there
          ∙ sym (ap (λ (l : List Attribute).
          hmac_md5 secret (spelled (record blank { attributes = l }))) of.blank);
      authenticator = refl;
    }
