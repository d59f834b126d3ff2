-- An EAP packet in attributes EAP-Message, and the attributes round it.
use Rattle.std.proofs.Common.{◌≡◌, ℕ, zero, suc, ◌+◌, ◌≤◌, List, [], ◌∷◌, ◌++◌, length, take, drop}
use Rattle.std.proofs.Common.{min, refl, ap, ◌∙◌, sym, arith, append_assoc, length-append}
use Rattle.std.proofs.lemmas.List.{append-nil, length-drop, nil_from_length, take_min, drop_min}
use Rattle.radius_carry.specs.Packet.{Attribute, attribute_octets, head_of, octets_of, spelled}
use Rattle.radius_carry.specs.Written.{field, pieces, pieces_in, attributes_before_tag}
use Rattle.radius_carry.specs.Written.{packet_with_tag}

-- more room than octets changes nothing
same_pieces : (most other : ℕ) (eap : List ℕ) → length eap ≤ most → length eap ≤ other
    → pieces_in most eap ≡ pieces_in other eap
unfolding pieces_in
same_pieces zero zero eap h k = refl
same_pieces zero (suc other) [] h k = refl
same_pieces zero (suc other) (octet ∷ rest) h k = absurd (omega arith)
same_pieces (suc most) zero [] h k = refl
same_pieces (suc most) zero (octet ∷ rest) h k = absurd (omega arith)
same_pieces (suc most) (suc other) [] h k = refl
same_pieces (suc most) (suc other) (octet ∷ rest) h k =
    let eap : List ℕ = octet ∷ rest in
    let size = length-drop 253 eap in
    ap (λ (l : List Attribute). (79, take 253 eap) ∷ l)
    (same_pieces most other (drop 253 eap) (omega arith) (omega arith))

pub pieces_none : pieces [] ≡ []
unfolding pieces pieces_in
pieces_none = refl

-- the first piece, and the pieces of the rest
pub pieces_more : (eap : List ℕ) → 1 ≤ length eap
    → pieces eap ≡ (79, take 253 eap) ∷ pieces (drop 253 eap)
unfolding pieces pieces_in
pieces_more [] some = absurd (omega arith)
pieces_more (octet ∷ rest) some =
    let eap : List ℕ = octet ∷ rest in
    let size = length-drop 253 eap in
    let whole : length eap ≡ suc (length rest) = omega arith in
    same_pieces (length eap) (suc (length rest)) eap (omega arith) (omega arith)
    ∙ ap (λ (l : List Attribute). (79, take 253 eap) ∷ l)
    (same_pieces (length rest) (length (drop 253 eap)) (drop 253 eap) (omega arith) (omega arith))

-- the octets of attributes that follow each other
pub octets_of_append : (xs ys : List Attribute)
    → octets_of (xs ++ ys) ≡ octets_of xs ++ octets_of ys
unfolding octets_of
octets_of_append [] ys = refl
octets_of_append ((kind, value) ∷ xs) ys =
    let front : List ℕ = attribute_octets (kind, value) in
    ap (λ (l : List ℕ). front ++ l) (octets_of_append xs ys)
    ∙ sym (append_assoc front (octets_of xs) (octets_of ys))

pub octets_of_one : (kind : ℕ) (value : List ℕ)
    → octets_of ((kind, value) ∷ []) ≡ attribute_octets (kind, value)
unfolding octets_of
octets_of_one kind value = append-nil (attribute_octets (kind, value))

octets_of_more : (kind : ℕ) (value : List ℕ) (rest : List Attribute)
    → octets_of ((kind, value) ∷ rest) ≡ attribute_octets (kind, value) ++ octets_of rest
unfolding octets_of
octets_of_more kind value rest = refl

-- the octets of the first piece and of the rest
pub octets_of_pieces : (eap front piece later : List ℕ) (size : ℕ) → 1 ≤ length eap
    → size ≡ min 253 (length eap) →
    piece ≡ take size eap → later ≡ drop size eap →
    (front ++ attribute_octets (79, piece)) ++ octets_of (pieces later)
    ≡ front ++ octets_of (pieces eap)
octets_of_pieces eap front piece later size some e p l =
    let first : piece ≡ take 253 eap = p ∙ ap (λ n. take n eap) e ∙ take_min 253 eap in
    let rest : later ≡ drop 253 eap = l ∙ ap (λ n. drop n eap) e ∙ drop_min 253 eap in
    append_assoc front (attribute_octets (79, piece)) (octets_of (pieces later))
    ∙ ap (λ (o : List ℕ). front ++ o)
    (sym (octets_of_more 79 piece (pieces later))
    ∙ ap (λ (v : List ℕ). octets_of ((79, v) ∷ pieces later)) first
    ∙ ap (λ (v : List ℕ). octets_of ((79, take 253 eap) ∷ pieces v)) rest
    ∙ ap octets_of (sym (pieces_more eap some)))

-- nothing is left
pub octets_of_none : (front rest : List ℕ) → length rest ≡ 0
    → front ++ octets_of (pieces rest) ≡ front
unfolding octets_of
octets_of_none front rest none =
    ap (λ (l : List ℕ). front ++ octets_of (pieces l)) (nil_from_length rest none)
    ∙ ap (λ (l : List Attribute). front ++ octets_of l) pieces_none
    ∙ append-nil front

-- the attributes before the tag, as they are written
pub carried_encoded : (user state eap : List ℕ) →
    (octets_of (field 1 user) ++ octets_of (field 24 state)) ++ octets_of (pieces eap)
    ≡ octets_of (attributes_before_tag user state eap)
carried_encoded user state eap =
    append_assoc (octets_of (field 1 user)) (octets_of (field 24 state)) (octets_of (pieces eap))
    ∙ ap (λ (l : List ℕ). octets_of (field 1 user) ++ l)
    (sym (octets_of_append (field 24 state) (pieces eap)))
    ∙ sym (octets_of_append (field 1 user) (field 24 state ++ pieces eap))

-- a packet with its tag, as it is written
pub tagged_encoded : (code id : ℕ) (authenticator attributes tag : List ℕ) (list : List Attribute)
    → length tag ≡ 16 → attributes ≡ octets_of list →
    ((head_of code id (length attributes + 18) ++ authenticator) ++ attributes)
    ++ attribute_octets (80, tag)
    ≡ spelled (packet_with_tag code id authenticator list tag)
unfolding spelled packet_with_tag
tagged_encoded code id authenticator attributes tag list sixteen e =
    let all : octets_of (list ++ (80, tag) ∷ []) ≡ attributes ++ attribute_octets (80, tag) =
    octets_of_append list ((80, tag) ∷ [])
    ∙ ap (λ (l : List ℕ). octets_of list ++ l) (octets_of_one 80 tag)
    ∙ ap (λ (l : List ℕ). l ++ attribute_octets (80, tag)) (sym e) in
    let size : length attributes + 18 ≡ length (octets_of (list ++ (80, tag) ∷ [])) =
    omega (arith, ap length all, length-append attributes (attribute_octets (80, tag))) in
    append_assoc (head_of code id (length attributes + 18) ++ authenticator) attributes
    (attribute_octets (80, tag))
    ∙ append_assoc (head_of code id (length attributes + 18)) authenticator
    (attributes ++ attribute_octets (80, tag))
    ∙ ap (λ (l : List ℕ). head_of code id (length attributes + 18) ++ (authenticator ++ l))
    (sym all)
    ∙ ap (λ n. head_of code id n ++ (authenticator ++ octets_of (list ++ (80, tag) ∷ []))) size
