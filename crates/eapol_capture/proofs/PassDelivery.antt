-- A reader of records that hands out octets.
use Rattle.std.proofs.Common.{◌≡◌, ℕ, ◌+◌, ◌-◌, ◌≤◌, min, List, [], ◌++◌, length, take, drop}
use Rattle.std.proofs.Common.{Option, Some, None, refl, ap, sym, ◌∙◌, inl, inr, arith}
use Rattle.std.proofs.Common.{append_assoc, length-append}
use Rattle.std.proofs.lemmas.Bool.{cases_lt}
use Rattle.std.proofs.lemmas.List.{take_all, take-take, take-append-le, take-append-drop}
use Rattle.std.proofs.lemmas.List.{length-take, length-take-le, length-drop}
use Rattle.std.proofs.Math.Seq.{take-append-add}
use Rattle.octet_io.specs.Known.{prepend_known}
use Rattle.octet_io.specs.Lines.{max_input}
use Rattle.eapol_capture.specs.Files.{max_stored}
use Rattle.eapol_capture.specs.Reading.{Reading, octets_left}
use Rattle.eapol_capture.specs.Parts.{Preserves, ConsumesPart}

-- a front of a front with more behind it
take_front : (m : ℕ) (xs ys : List ℕ) → take m (take m xs ++ ys) ≡ take m (xs ++ ys)
take_front m xs ys =
    elim (cases_lt m (length xs)) [
      | inl less ↦
          let full : length (take m xs) ≡ m = length-take-le m xs (omega arith) in
          take-append-le m (take m xs) ys (omega arith) ∙ take-take m m xs (omega arith)
          ∙ sym (take-append-le m xs ys (omega arith))
      | inr all ↦ rw (take_all m xs (omega arith)) refl
    ]

-- what is kept of some octets, where so many are kept already
front_part : (k count : ℕ) (held : List ℕ) → take (min count k) held ≡ take k (take count held)
front_part k count held =
    elim (cases_lt k count) [
      | inl less ↦ let least : min count k ≡ k =
          omega arith in rw least (sym (take-take k count held (omega arith)))
      | inr all ↦
          let least : min count k ≡ count = omega arith in
          let short : length (take count held) ≤ k = omega (arith, length-take count held) in
          rw least (sym (take_all k (take count held) short))
    ]

pub kept_part : (m : ℕ) (frame held : List ℕ) (count : ℕ) → length frame ≤ m →
    frame ++ take (min count (m - length frame)) held ≡ take m (frame ++ take count held)
kept_part m frame held count room =
    let whole : m ≡ length frame + (m - length frame) = omega arith in
    ap (λ l. frame ++ l) (front_part (m - length frame) count held)
    ∙ sym (ap (λ k. take k (frame ++ take count held)) whole
    ∙ take-append-add frame (take count held) (m - length frame))

pub prepend_append : (front back : List ℕ) (known : Option (List ℕ))
    → prepend_known (front ++ back) known ≡ prepend_known front (prepend_known back known)
prepend_append front back None = refl
prepend_append front back (Some octets) = ap Some (append_assoc front back octets)

pub prepend_nil : (known : Option (List ℕ)) → prepend_known [] known ≡ known
prepend_nil None = refl
prepend_nil (Some octets) = refl

-- octets after octets
pub passes_more : (part more : List ℕ) (before now after : Reading)
    (was left_now left : Option (List ℕ)) → ConsumesPart part before now was left_now →
    ConsumesPart more now after left_now left → ConsumesPart (part ++ more) before after was left
passes_more part more before now after was left_now left one other = record {
  octets = one.octets ∙ ap (prepend_known part) other.octets
      ∙ sym (prepend_append part more (octets_left after left));
  taken = omega (arith, one.taken, other.taken, length-append part more);
  spent = omega (arith, one.spent, other.spent, length-append part more);
}

-- what stays true while so many octets of a part are missing
pub record InPart (count missing : ℕ) (before now : Reading) (was left : Option (List ℕ))
    (faults_before faults_now : ℕ) : Type 0 where
  pub part : List ℕ
  pub all : length part + missing ≡ count
  pub hands : ConsumesPart part before now was left
  pub kept : now.frame ≡ take max_stored part
  pub keeps : Preserves before now
  pub bounded : now.taken ≤ max_input
  pub faults : faults_now ≡ faults_before

pub in_part : (count : ℕ) (before now : Reading) (was : Option (List ℕ)) (faults : ℕ)
    → now ≡ record before { frame = [] } → before.taken ≤ max_input →
    InPart count count before now was was faults faults
in_part count before now was faults is bounded =
    let held : now.held ≡ before.held = ap (λ (r : Reading). r.held) is in
    let taken : now.taken ≡ before.taken = ap (λ (r : Reading). r.taken) is in
    let none : now.frame ≡ [] = ap (λ (r : Reading). r.frame) is in
    record {
      part = [];
      all = omega arith;
      hands = record {
        octets = sym (prepend_nil (octets_left now was) ∙ ap (λ l. prepend_known l was) held);
        taken = omega (arith, taken);
        spent = omega (arith, ap length held);
      };
      kept = none ∙ sym (take_all max_stored [] (omega arith));
      keeps = record {
        order = ap (λ (r : Reading). r.order) is;
        number = ap (λ (r : Reading). r.number) is;
        over = ap (λ (r : Reading). r.over) is;
      };
      bounded = omega (arith, taken);
      faults = refl;
    }

-- a look at what is left changes no more than what is held
pub record Looks (before after : Reading) (was left : Option (List ℕ)) : Type 0 where
  pub keeps : Preserves before after
  pub taken : after.taken ≡ before.taken
  pub frame : after.frame ≡ before.frame
  pub octets : octets_left before was ≡ octets_left after left
  pub held : length before.held ≤ length after.held

-- some of the octets that are held are handed out
pub record ConsumesSome (count : ℕ) (before after : Reading) : Type 0 where
  pub keeps : Preserves before after
  pub there : count ≤ length before.held
  pub taken : after.taken ≡ before.taken + count
  pub held : after.held ≡ drop count before.held
  pub kept : after.frame ≡ take max_stored (before.frame ++ take count before.held)
  pub bounded : after.taken ≤ max_input

keeps_both : (a b c : Reading) → Preserves a b → Preserves b c → Preserves a c
keeps_both a b c one other = record {
  order = other.order ∙ one.order;
  number = other.number ∙ one.number;
  over = other.over ∙ one.over;
}

hands_held : (count : ℕ) (now mid after : Reading) (left_now left : Option (List ℕ))
    → Looks now mid left_now left → ConsumesSome count mid after →
    ConsumesPart (take count mid.held) now after left_now left
hands_held count now mid after left_now left looks takes =
    let size : length (take count mid.held) ≡ count = length-take-le count mid.held takes.there in
    let joined : prepend_known (take count mid.held) (prepend_known (drop count mid.held) left)
    ≡ prepend_known mid.held left =
    sym (prepend_append (take count mid.held) (drop count mid.held) left)
    ∙ ap (λ l. prepend_known l left) (take-append-drop count mid.held) in
    record {
      octets = looks.octets ∙ rw takes.held (sym joined);
      taken = omega (arith, takes.taken, looks.taken, size);
      spent = omega (arith, looks.held, size, ap length takes.held, length-drop count mid.held);
    }

pub more_part : (count missing n missing' : ℕ) (before now mid after : Reading)
    (was left_now left : Option (List ℕ)) (faults_before faults_now faults : ℕ) →
    InPart count missing before now was left_now faults_before faults_now
    → Looks now mid left_now left → ConsumesSome n mid after → missing' + n ≡ missing →
    faults ≡ faults_now → InPart count missing' before after was left faults_before faults
more_part count missing n missing' before now mid after was left_now left faults_before faults_now
    faults p looks takes fewer same =
    let size : length (take n mid.held) ≡ n = length-take-le n mid.held takes.there in
    record {
      part = p.part ++ take n mid.held;
      all = omega (arith, p.all, length-append p.part (take n mid.held), size);
      hands = passes_more p.part (take n mid.held) before now after was left_now left p.hands
          (hands_held n now mid after left_now left looks takes);
      kept =
          takes.kept ∙ rw (looks.frame, p.kept) (take_front max_stored p.part (take n mid.held));
      keeps = keeps_both before mid after (keeps_both before now mid p.keeps looks.keeps)
          takes.keeps;
      bounded = takes.bounded;
      faults = same ∙ p.faults;
    }
