-- Octets that stand in others, one after the other.
use Rattle.std.proofs.Common.{◌≡◌, ℕ, List, [], ◌∷◌, ◌++◌, take, drop, refl, sym, ap, ◌∙◌}
use Rattle.std.proofs.Common.{append_assoc, append-nil}
use Rattle.std.proofs.lemmas.List.{take-append-drop}

pub record Occurrence (part whole : List ℕ) : Type 0 where
  pub before : List ℕ
  pub after : List ℕ
  pub joined : whole ≡ before ++ (part ++ after)

regroup : (p q a r s : List ℕ) → p ++ ((q ++ (a ++ r)) ++ s) ≡ (p ++ q) ++ (a ++ (r ++ s))
regroup p q a r s = simp append_assoc

pub within : (a b c : List ℕ) → Occurrence a b → Occurrence b c → Occurrence a c
within a b c x y = record {
  before = y.before ++ x.before;
  after = x.after ++ y.after;
  joined = y.joined ∙ (ap (λ (l : List ℕ). y.before ++ (l ++ y.after)) x.joined
      ∙ regroup y.before x.before a x.after y.after);
}

pub front_within : (n : ℕ) (part whole : List ℕ) → Occurrence part whole
    → Occurrence (take n part) whole
front_within n part whole x = record {
  before = x.before;
  after = drop n part ++ x.after;
  joined = x.joined
      ∙ ap (λ (l : List ℕ). x.before ++ l)
      (ap (λ (l : List ℕ). l ++ x.after) (sym (take-append-drop n part))
      ∙ append_assoc (take n part) (drop n part) x.after);
}

pub part_of : (n : ℕ) (octets : List ℕ) → Occurrence (take n octets) octets
part_of n octets =
    record { before = []; after = drop n octets; joined = sym (take-append-drop n octets) }

pub rest_of : (n : ℕ) (octets : List ℕ) → Occurrence (drop n octets) octets
rest_of n octets = record {
  before = take n octets;
  after = [];
  joined = sym (ap (λ (l : List ℕ). take n octets ++ l) (append-nil (drop n octets))
      ∙ take-append-drop n octets);
}

pub none_within : (octets : List ℕ) → Occurrence [] octets
none_within octets = record { before = []; after = octets; joined = refl }

pub trailing_of : (n m : ℕ) (octets : List ℕ) → Occurrence (take m (drop n octets)) octets
trailing_of n m octets = record {
  before = take n octets;
  after = drop m (drop n octets);
  joined = sym (take-append-drop n octets)
      ∙ ap (λ (l : List ℕ). take n octets ++ l) (sym (take-append-drop m (drop n octets)));
}

pub one_more : (x : ℕ) (part whole : List ℕ) → Occurrence part whole → Occurrence part (x ∷ whole)
one_more x part whole s =
    record { before = x ∷ s.before; after = s.after; joined = ap (λ (l : List ℕ). x ∷ l) s.joined }
