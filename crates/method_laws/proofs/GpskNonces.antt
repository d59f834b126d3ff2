-- The nonces of GPSK-1 and GPSK-2 stand in their octets.
use Rattle.std.proofs.Common.{◌≡◌, ℕ, ◌+◌, ◌*◌, eqb, leb, List, [], ◌∷◌, ◌++◌, length, take, drop}
use Rattle.std.proofs.Common.{Option, Some, Ok, sym, ap, subst, ◌∙◌, append_assoc}
use Rattle.std.proofs.lemmas.List.{take-append-drop}
use Rattle.std.proofs.lemmas.Option.{cond_some, same_Some}
use Rattle.gpsk_messages.specs.Message.{Message, gpsk1, gpsk2, gpsk3, gpsk4, fail, protected_fail}
use Rattle.gpsk_messages.specs.Reading.{exact_at, sized_at, identity_at, gpsk1_at, gpsk2_at}
use Rattle.gpsk_messages.specs.Reading.{gpsk3_at, gpsk4_at, fail_at, protected_fail_at, fields_at}
use Rattle.gpsk_messages.specs.Reading.{with_mac, accepts_mac, loose_of, read_of}
use Rattle.gpsk_messages.proofs.FieldLaws.{step_of}
use Rattle.method_laws.proofs.GpskFields.{judged_loose, tested}
use Rattle.method_laws.proofs.Occurrence.{Occurrence, one_more}

record EndsWith (whole rest : List ℕ) : Type 0 where
  pub before : List ℕ
  pub joined : whole ≡ before ++ rest

ends_trailing : (a b c : List ℕ) → EndsWith a b → EndsWith b c → EndsWith a c
ends_trailing a b c x y = record {
  before = x.before ++ y.before;
  joined = x.joined
      ∙ (ap (λ (l : List ℕ). x.before ++ l) y.joined ∙ sym (append_assoc x.before y.before c));
}

between : (whole rest part after : List ℕ) → EndsWith whole rest → rest ≡ part ++ after
    → Occurrence part whole
between whole rest part after e parts =
    record {
      before = e.before;
      after = after;
      joined = e.joined ∙ ap (λ (l : List ℕ). e.before ++ l) parts;
    }

exact_parts : (count : ℕ) (octets : List ℕ) (x : List ℕ × List ℕ) → exact_at count octets ≡ Some x
    → octets ≡ x.0 ++ x.1
unfolding exact_at
exact_parts count octets x e =
    let g = cond_some {A = List ℕ × List ℕ} (leb count (length octets))
    (take count octets, drop count octets) x e in
    subst (λ (p : List ℕ × List ℕ). octets ≡ p.0 ++ p.1) g.1 (sym (take-append-drop count octets))

sized_ends : (octets : List ℕ) (x : List ℕ × List ℕ) → sized_at octets ≡ Some x
    → EndsWith octets x.1
unfolding sized_at
sized_ends [] x e = absurd cc
sized_ends (high ∷ []) x e = absurd cc
sized_ends (high ∷ low ∷ octets) x e =
    record {
      before = high ∷ low ∷ x.0;
      joined = ap (λ (l : List ℕ). high ∷ low ∷ l) (exact_parts (256 * high + low) octets x e);
    }

identity_ends : (octets : List ℕ) (x : List ℕ × List ℕ) → identity_at octets ≡ Some x
    → EndsWith octets x.1
unfolding identity_at
identity_ends octets x e =
    let field = step_of _ _ _ e in
    let g = cond_some {A = List ℕ × List ℕ} (leb (length field.0.0) 253) field.0 x field.2 in
    subst (λ (p : List ℕ × List ℕ). EndsWith octets p.1) g.1 (sized_ends octets field.0 field.1)

abbrev pub OccursInMessage : List ℕ → Message → Type 0
OccursInMessage octets (gpsk1 id_s rand_s list) = Occurrence rand_s octets
OccursInMessage octets (gpsk2 id_p id_s rand_p rand_s list suite pd mac) = Occurrence rand_p octets
OccursInMessage octets message = Unit {0}

gpsk1_occurs : (octets : List ℕ) (x : Message × List ℕ) → gpsk1_at octets ≡ Some x
    → OccursInMessage octets x.0
unfolding gpsk1_at
gpsk1_occurs octets x e =
    let id_s = step_of _ _ _ e in
    let rand_s = step_of _ _ _ id_s.2 in
    let list = step_of _ _ _ rand_s.2 in
    let found : Message × List ℕ = (gpsk1 id_s.0.0 rand_s.0.0 list.0.0, list.0.1) in
    subst (λ (y : Message × List ℕ). OccursInMessage octets y.0) {x = found}
    (same_Some found x list.2) (between octets id_s.0.1 rand_s.0.0 rand_s.0.1
    (identity_ends octets id_s.0 id_s.1) (exact_parts 32 id_s.0.1 rand_s.0 rand_s.1))

gpsk2_occurs : (octets : List ℕ) (x : Message × List ℕ) → gpsk2_at octets ≡ Some x
    → OccursInMessage octets x.0
unfolding gpsk2_at
gpsk2_occurs octets x e =
    let id_p = step_of _ _ _ e in
    let id_s = step_of _ _ _ id_p.2 in
    let rand_p = step_of _ _ _ id_s.2 in
    let rand_s = step_of _ _ _ rand_p.2 in
    let list = step_of _ _ _ rand_s.2 in
    let suite = step_of _ _ _ list.2 in
    let pd = step_of _ _ _ suite.2 in
    let found : Message × List ℕ =
    (gpsk2 id_p.0.0 id_s.0.0 rand_p.0.0 rand_s.0.0 list.0.0 suite.0.0 pd.0.0 [], pd.0.1) in
    subst (λ (y : Message × List ℕ). OccursInMessage octets y.0) {x = found}
    (same_Some found x pd.2) (between octets id_s.0.1 rand_p.0.0 rand_p.0.1
    (ends_trailing octets id_p.0.1 id_s.0.1 (identity_ends octets id_p.0 id_p.1)
    (identity_ends id_p.0.1 id_s.0 id_s.1)) (exact_parts 32 id_s.0.1 rand_p.0 rand_p.1))

gpsk3_occurs : (octets : List ℕ) (x : Message × List ℕ) → gpsk3_at octets ≡ Some x
    → OccursInMessage octets x.0
unfolding gpsk3_at
gpsk3_occurs octets x e =
    let rand_p = step_of _ _ _ e in
    let rand_s = step_of _ _ _ rand_p.2 in
    let id_s = step_of _ _ _ rand_s.2 in
    let suite = step_of _ _ _ id_s.2 in
    let pd = step_of _ _ _ suite.2 in
    let found : Message × List ℕ =
    (gpsk3 rand_p.0.0 rand_s.0.0 id_s.0.0 suite.0.0 pd.0.0 [], pd.0.1) in
    subst (λ (y : Message × List ℕ). OccursInMessage octets y.0) {x = found}
    (same_Some found x pd.2) tt

gpsk4_occurs : (octets : List ℕ) (x : Message × List ℕ) → gpsk4_at octets ≡ Some x
    → OccursInMessage octets x.0
unfolding gpsk4_at
gpsk4_occurs octets x e =
    let pd = step_of _ _ _ e in
    let found : Message × List ℕ = (gpsk4 pd.0.0 [], pd.0.1) in
    subst (λ (y : Message × List ℕ). OccursInMessage octets y.0) {x = found}
    (same_Some found x pd.2) tt

fail_occurs : (octets : List ℕ) (x : Message × List ℕ) → fail_at octets ≡ Some x
    → OccursInMessage octets x.0
unfolding fail_at
fail_occurs octets x e =
    let code = step_of _ _ _ e in
    let found : Message × List ℕ = (fail code.0.0, code.0.1) in
    subst (λ (y : Message × List ℕ). OccursInMessage octets y.0) {x = found}
    (same_Some found x code.2) tt

protected_fail_occurs : (octets : List ℕ) (x : Message × List ℕ) → protected_fail_at octets ≡ Some x
    → OccursInMessage octets x.0
unfolding protected_fail_at
protected_fail_occurs octets x e =
    let code = step_of _ _ _ e in
    let found : Message × List ℕ = (protected_fail code.0.0 [], code.0.1) in
    subst (λ (y : Message × List ℕ). OccursInMessage octets y.0) {x = found}
    (same_Some found x code.2) tt

fields_occur : (op : ℕ) (octets : List ℕ) (x : Message × List ℕ) → fields_at op octets ≡ Some x
    → OccursInMessage octets x.0
unfolding fields_at
fields_occur op octets x =
    tested (OccursInMessage octets x.0) (eqb op 1) x _ _ (gpsk1_occurs octets x)
    (tested (OccursInMessage octets x.0) (eqb op 2) x _ _ (gpsk2_occurs octets x)
    (tested (OccursInMessage octets x.0) (eqb op 3) x _ _ (gpsk3_occurs octets x)
    (tested (OccursInMessage octets x.0) (eqb op 4) x _ _ (gpsk4_occurs octets x)
    (tested (OccursInMessage octets x.0) (eqb op 5) x _ _ (fail_occurs octets x)
    (tested (OccursInMessage octets x.0) (eqb op 6) x _ _ (protected_fail_occurs octets x)
    (λ e. absurd cc))))))

with_mac_occurs : (op : ℕ) (octets : List ℕ) (message : Message) (mac : List ℕ)
    → OccursInMessage octets message → OccursInMessage (op ∷ octets) (with_mac message mac)
with_mac_occurs op octets (gpsk1 id_s rand_s list) mac s = one_more op rand_s octets s
with_mac_occurs op octets (gpsk2 id_p id_s rand_p rand_s list suite pd none) mac s =
    one_more op rand_p octets s
with_mac_occurs op octets (gpsk3 rand_p rand_s id_s suite pd none) mac s = tt
with_mac_occurs op octets (gpsk4 pd none) mac s = tt
with_mac_occurs op octets (fail code) mac s = tt
with_mac_occurs op octets (protected_fail code none) mac s = tt

loose_occurs : (ks : Option ℕ) (octets : List ℕ) (message : Message)
    → loose_of ks octets ≡ Some message → OccursInMessage octets message
unfolding loose_of
loose_occurs ks [] message e = absurd cc
loose_occurs ks (op ∷ octets) message e =
    let fields = step_of _ _ _ e in
    let g = cond_some {A = Message} (accepts_mac ks fields.0.0 (length fields.0.1))
    (with_mac fields.0.0 fields.0.1) message fields.2 in
    subst (OccursInMessage (op ∷ octets)) g.1
    (with_mac_occurs op octets fields.0.0 fields.0.1 (fields_occur op octets fields.0 fields.1))

pub read_occurs : (ks : Option ℕ) (octets : List ℕ) (message : Message)
    → read_of ks octets ≡ Ok message → OccursInMessage octets message
unfolding read_of
read_occurs ks octets message e =
    loose_occurs ks octets message (judged_loose (loose_of ks octets) message e)
