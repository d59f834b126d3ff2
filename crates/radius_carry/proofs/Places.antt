-- Where the tag of a packet stands, and what its authenticators cover.
use Rattle.std.proofs.Common.{◌≡◌, ℕ, ◌+◌, ◌/◌, ◌%◌, ◌≤◌, List, [], ◌∷◌, ◌++◌, length, take, drop}
use Rattle.std.proofs.Common.{replicate, true, false, cond, ◌==◌}
use Rattle.std.proofs.Common.{refl, ap, ◌∙◌, sym, arith, append_assoc, length-append}
use Rattle.std.proofs.lemmas.List.{append-nil, length-replicate, take_at, drop_at}
use Rattle.radius_carry.specs.Packet.{Attribute, RadiusPacket, IsRadius, attribute_octets, count}
use Rattle.radius_carry.specs.Packet.{head_of, value_of_kind, octets_of, spelled, tag_of}
use Rattle.radius_carry.specs.Place.{tag_place}
use Rattle.radius_carry.proofs.ReadAttributes.{both_ways}
use Rattle.radius_carry.specs.Tags.{blank_attributes, blank_text, asked_text}

-- the steps, by the Type of the first attribute
count_same : (kind other : ℕ) (value : List ℕ) (rest : List Attribute) → (other == kind) ≡ true
    → count kind ((other, value) ∷ rest) ≡ 1 + count kind rest
unfolding count
count_same kind other value rest b = ap (λ t. cond t (1 + count kind rest) (count kind rest)) b

count_other : (kind other : ℕ) (value : List ℕ) (rest : List Attribute) → (other == kind) ≡ false
    → count kind ((other, value) ∷ rest) ≡ count kind rest
unfolding count
count_other kind other value rest b = ap (λ t. cond t (1 + count kind rest) (count kind rest)) b

joined_same : (kind other : ℕ) (value : List ℕ) (rest : List Attribute) → (other == kind) ≡ true →
    value_of_kind kind ((other, value) ∷ rest) ≡ value ++ value_of_kind kind rest
unfolding value_of_kind
joined_same kind other value rest b =
    ap (λ t. cond t (value ++ value_of_kind kind rest) (value_of_kind kind rest)) b

joined_other : (kind other : ℕ) (value : List ℕ) (rest : List Attribute) → (other == kind) ≡ false
    → value_of_kind kind ((other, value) ∷ rest) ≡ value_of_kind kind rest
unfolding value_of_kind
joined_other kind other value rest b =
    ap (λ t. cond t (value ++ value_of_kind kind rest) (value_of_kind kind rest)) b

blanked_same : (kind : ℕ) (value : List ℕ) (rest : List Attribute) → (kind == 80) ≡ true →
    blank_attributes ((kind, value) ∷ rest)
    ≡ (kind, replicate (length value) 0) ∷ blank_attributes rest
unfolding blank_attributes
blanked_same kind value rest b =
    ap (λ t. (kind, cond t (replicate (length value) 0) value) ∷ blank_attributes rest) b

blanked_other : (kind : ℕ) (value : List ℕ) (rest : List Attribute) → (kind == 80) ≡ false
    → blank_attributes ((kind, value) ∷ rest) ≡ (kind, value) ∷ blank_attributes rest
unfolding blank_attributes
blanked_other kind value rest b =
    ap (λ t. (kind, cond t (replicate (length value) 0) value) ∷ blank_attributes rest) b

place_same : (kind : ℕ) (value : List ℕ) (rest : List Attribute) → (kind == 80) ≡ true
    → tag_place ((kind, value) ∷ rest) ≡ 2
unfolding tag_place
place_same kind value rest b = ap (λ t. cond t 2 (2 + length value + tag_place rest)) b

place_other : (kind : ℕ) (value : List ℕ) (rest : List Attribute) → (kind == 80) ≡ false
    → tag_place ((kind, value) ∷ rest) ≡ 2 + length value + tag_place rest
unfolding tag_place
place_other kind value rest b = ap (λ t. cond t 2 (2 + length value + tag_place rest)) b

-- where there is no attribute of a Type, no value is joined and nothing is blanked
pub record HasNone (attributes : List Attribute) : Type 0 where
  pub none_joined : value_of_kind 80 attributes ≡ []
  pub unblanked : blank_attributes attributes ≡ attributes

pub has_none : (attributes : List Attribute) → count 80 attributes ≡ 0 → HasNone attributes
unfolding value_of_kind blank_attributes
has_none [] e = record { none_joined = refl; unblanked = refl }
has_none ((kind, value) ∷ rest) e =
    both_ways (HasNone ((kind, value) ∷ rest)) (kind == 80)
    (λ b. let more = count_same 80 kind value rest b in absurd (omega arith))
    (λ b.
    let tail = has_none rest (sym (count_other 80 kind value rest b) ∙ e) in
    record {
      none_joined = joined_other 80 kind value rest b ∙ tail.none_joined;
      unblanked = blanked_other kind value rest b
          ∙ ap (λ (l : List Attribute). (kind, value) ∷ l) tail.unblanked;
    })

-- the octets of attributes round their one tag
pub record Split (attributes : List Attribute) : Type 0 where
  pub before : List ℕ
  pub after : List ℕ
  pub whole : octets_of attributes ≡ before ++ (tag_of attributes ++ after)
  pub blank : octets_of (blank_attributes attributes)
      ≡ before ++ (replicate (length (tag_of attributes)) 0 ++ after)
  pub place : length before ≡ tag_place attributes

split_first : (kind : ℕ) (value : List ℕ) (rest : List Attribute) → count 80 rest ≡ 0
    → (kind == 80) ≡ true → Split ((kind, value) ∷ rest)
unfolding octets_of
split_first kind value rest e b =
    let tail = has_none rest e in
    let tag : tag_of ((kind, value) ∷ rest) ≡ value =
    joined_same 80 kind value rest b ∙ ap (λ (l : List ℕ). value ++ l) tail.none_joined
    ∙ append-nil value in
    record {
      before = kind ∷ (length value + 2) ∷ [];
      after = octets_of rest;
      whole = ap (λ (l : List ℕ). kind ∷ (length value + 2) ∷ (l ++ octets_of rest)) (sym tag);
      blank =
          ap octets_of (blanked_same kind value rest b)
          ∙ ap (λ (l : List Attribute). octets_of ((kind, replicate (length value) 0) ∷ l))
          tail.unblanked
          ∙ ap (λ n. kind ∷ (n + 2) ∷ (replicate (length value) 0 ++ octets_of rest))
          (length-replicate (length value) 0)
          ∙ ap (λ (l : List ℕ).
          kind ∷ (length value + 2) ∷ (replicate (length l) 0 ++ octets_of rest)) (sym tag);
      place = sym (place_same kind value rest b);
    }

split_after : (kind : ℕ) (value : List ℕ) (rest : List Attribute) → Split rest
    → (kind == 80) ≡ false → Split ((kind, value) ∷ rest)
unfolding octets_of
split_after kind value rest tail b =
    let tag : tag_of ((kind, value) ∷ rest) ≡ tag_of rest = joined_other 80 kind value rest b in
    let front : List ℕ = attribute_octets (kind, value) in
    record {
      before = front ++ tail.before;
      after = tail.after;
      whole =
          ap (λ (l : List ℕ). front ++ l) tail.whole
          ∙ sym (append_assoc front tail.before (tag_of rest ++ tail.after))
          ∙ ap (λ (l : List ℕ). (front ++ tail.before) ++ (l ++ tail.after)) (sym tag);
      blank =
          ap octets_of (blanked_other kind value rest b)
          ∙ ap (λ (l : List ℕ). front ++ l) tail.blank
          ∙ sym (append_assoc front tail.before (replicate (length (tag_of rest)) 0 ++ tail.after))
          ∙ ap (λ (l : List ℕ). (front ++ tail.before) ++ (replicate (length l) 0 ++ tail.after))
          (sym tag);
      place =
          let size = length-append value tail.before in
          let there = tail.place in
          let on = place_other kind value rest b in
          omega arith;
    }

pub split_at_tag : (attributes : List Attribute) → count 80 attributes ≡ 1 → Split attributes
unfolding count
split_at_tag [] e = absurd (omega arith)
split_at_tag ((kind, value) ∷ rest) e =
    both_ways (Split ((kind, value) ∷ rest)) (kind == 80)
    (λ b. let more = count_same 80 kind value rest b in split_first kind value rest (omega arith) b)
    (λ b. split_after kind value rest
    (split_at_tag rest (sym (count_other 80 kind value rest b) ∙ e)) b)

-- ---- what the authenticators cover

-- the octets of a packet, cut for its authenticators
pub record Cut (packet : RadiusPacket) (whole : List ℕ) : Type 0 where
  pub room : 20 ≤ length whole
  pub head : take 4 whole ≡ head_of packet.code packet.id (length (octets_of packet.attributes))
  pub body : drop 20 whole ≡ octets_of packet.attributes
  pub place : tag_place packet.attributes + 16 ≤ length (drop 20 whole)
  pub tag : take 16 (drop (tag_place packet.attributes) (drop 20 whole)) ≡ tag_of packet.attributes
  pub blank :
      take (tag_place packet.attributes) (drop 20
      whole) ++ (replicate 16 0 ++ drop (tag_place packet.attributes + 16) (drop 20 whole))
      ≡ octets_of (blank_attributes packet.attributes)
  pub same_size : length (octets_of (blank_attributes packet.attributes))
      ≡ length (octets_of packet.attributes)

-- how many zeros there are
length_zeros : (n : ℕ) → (let zeros : List ℕ = replicate n 0 in length zeros ≡ n)
length_zeros n = length-replicate n 0

-- sixteen octets behind four
drop_twenty : (a b c d : ℕ) (front rest : List ℕ) → length front ≡ 16
    → drop 20 (a ∷ b ∷ c ∷ d ∷ (front ++ rest)) ≡ rest
drop_twenty a b c d front rest sixteen = drop_at front rest 16 sixteen

pub cut_whole : (packet : RadiusPacket) (whole : List ℕ) → IsRadius packet whole → Cut packet whole
unfolding spelled
cut_whole packet whole is =
    let octets = octets_of packet.attributes in
    let sixteen = is.authenticator in
    let split = split_at_tag packet.attributes is.lone_tag in
    let place : ℕ = tag_place packet.attributes in
    let tag : List ℕ = tag_of packet.attributes in
    let size : ℕ = 20 + length octets in
    let body : drop 20 whole ≡ octets =
    ap (drop 20) is.encoding_of ∙ drop_twenty packet.code packet.id (size / 256) (size
    % 256) packet.authenticator octets sixteen in
    let parts : drop 20 whole ≡ split.before ++ (tag ++ split.after) = body ∙ split.whole in
    let at : drop place (split.before ++ (tag ++ split.after)) ≡ tag ++ split.after =
    drop_at split.before (tag ++ split.after) place split.place in
    let past : drop (place + 16) (split.before ++ (tag ++ split.after)) ≡ split.after =
    ap (drop (place + 16)) (sym (append_assoc split.before tag split.after))
    ∙ drop_at (split.before ++ tag) split.after (place + 16)
    (omega (arith, length-append split.before tag, split.place, is.tag_size)) in
    let zeros = length_zeros (length tag) in
    let blank : List ℕ = replicate (length tag) 0 in
    record {
      room = omega (arith, ap length is.encoding_of, length-append packet.authenticator octets);
      head = ap (take 4) is.encoding_of;
      body = body;
      place = omega (
        arith,
        ap length parts,
        length-append split.before (tag ++ split.after),
        length-append tag split.after,
        split.place,
        is.tag_size,
      );
      tag = ap (λ (l : List ℕ). take 16 (drop place l)) parts ∙ ap (take 16) at
          ∙ take_at tag split.after 16 is.tag_size;
      blank =
          ap (λ (l : List ℕ). take place l ++ (replicate 16 0 ++ drop (place + 16) l)) parts
          ∙ ap (λ (l : List ℕ).
          l ++ (replicate 16 0 ++ drop (place + 16) (split.before ++ (tag ++ split.after))))
          (take_at split.before (tag ++ split.after) place split.place)
          ∙ ap (λ (l : List ℕ). split.before ++ (replicate 16 0 ++ l)) past
          ∙ ap (λ n. split.before ++ (replicate n 0 ++ split.after)) (sym is.tag_size)
          ∙ sym split.blank;
      same_size =
          omega (
            arith,
            ap length split.blank,
            ap length split.whole,
            length-append split.before (tag ++ split.after),
            length-append tag split.after,
            length-append split.before (blank ++ split.after),
            length-append blank split.after,
            zeros,
          );
    }

-- the text under a tag, in the pieces that are fed
pub covered_by_tag : (packet : RadiusPacket) (whole authenticator : List ℕ)
    → IsRadius packet whole →
    (let body = drop 20 whole in let place = tag_place packet.attributes in
    ((((([] ++ take 4 whole) ++ authenticator) ++ take place body) ++ replicate 16 0) ++ drop
    (place + 16) body)
    ≡ blank_text authenticator packet)
unfolding spelled blank_text
covered_by_tag packet whole authenticator is =
    let cut = cut_whole packet whole is in
    let body : List ℕ = drop 20 whole in
    let place : ℕ = tag_place packet.attributes in
    let head : List ℕ = take 4 whole in
    append_assoc ((head ++ authenticator) ++ take place body) (replicate 16 0)
    (drop (place + 16) body)
    ∙ append_assoc (head ++ authenticator) (take place body)
    (replicate 16 0 ++ drop (place + 16) body)
    ∙ append_assoc head authenticator
    (take place body ++ (replicate 16 0 ++ drop (place + 16) body))
    ∙ ap (λ (l : List ℕ). head ++ (authenticator ++ l)) cut.blank
    ∙ ap (λ (l : List ℕ). l ++ (authenticator ++ octets_of (blank_attributes packet.attributes)))
    cut.head
    ∙ ap (λ n. head_of packet.code packet.id n ++ (authenticator ++ octets_of (blank_attributes
    packet.attributes))) (sym cut.same_size)

-- the text of the Response Authenticator, in the pieces that are fed
pub covered_by_response : (packet : RadiusPacket) (whole asked secret : List ℕ)
    → IsRadius packet whole →
    ((([] ++ take 4 whole) ++ asked) ++ drop 20 whole) ++ secret ≡ asked_text asked secret packet
unfolding spelled asked_text
covered_by_response packet whole asked secret is =
    let cut = cut_whole packet whole is in
    ap (λ (l : List ℕ). l ++ secret)
    (append_assoc (take 4 whole) asked (drop 20 whole)
    ∙ ap (λ (l : List ℕ). take 4 whole ++ (asked ++ l)) cut.body
    ∙ ap (λ (l : List ℕ). l ++ (asked ++ octets_of packet.attributes)) cut.head)
