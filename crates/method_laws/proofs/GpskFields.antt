-- The sizes of the nonces that a reader of EAP-GPSK gives.
use Rattle.std.proofs.Common.{◌≡◌, ℕ, ◌*◌, cond, eqb, leb, List, [], ◌∷◌, length, take, drop}
use Rattle.std.proofs.Common.{Option, Some, None, Result, Ok, Err, Bool, sym, subst, ◌∙◌}
use Rattle.std.proofs.Common.{length-take-le, inl, inr}
use Rattle.std.proofs.lemmas.Bool.{cases_Bool, leb-true, cond-true, cond-false}
use Rattle.std.proofs.lemmas.Option.{cond_some, same_Some}
use Rattle.gpsk_messages.specs.Message.{Message, gpsk1, gpsk2, gpsk3, gpsk4, fail, protected_fail}
use Rattle.gpsk_messages.specs.Message.{list_of}
use Rattle.eap_packet.specs.declared.cause.Cause.{Cause}
use Rattle.eap_packet.specs.declared.cause.Cause.TheVariants.{ListTooLong}
use Rattle.gpsk_messages.specs.Reading.{exact_at, gpsk1_at, gpsk2_at, gpsk3_at, gpsk4_at, fail_at}
use Rattle.gpsk_messages.specs.Reading.{protected_fail_at, fields_at, with_mac, accepts_mac}
use Rattle.gpsk_messages.specs.Reading.{loose_of, outcome_of, read_of}
use Rattle.gpsk_messages.proofs.FieldLaws.{step_of}

exact_size : (count : ℕ) (octets : List ℕ) (x : List ℕ × List ℕ) → exact_at count octets ≡ Some x
    → length x.0 ≡ count
unfolding exact_at
exact_size count octets x e =
    let g = cond_some {A = List ℕ × List ℕ} (leb count (length octets))
    (take count octets, drop count octets) x e in
    subst (λ (p : List ℕ × List ℕ). length p.0 ≡ count) g.1
    (length-take-le count octets (leb-true count (length octets) g.0))

-- the nonces of a message have 32 octets
abbrev pub HasRands : Message → Type 0
HasRands (gpsk1 id_s rand_s list) = length rand_s ≡ 32
HasRands (gpsk2 id_p id_s rand_p rand_s list suite pd mac) =
    (length rand_p ≡ 32) × (length rand_s ≡ 32)
HasRands message = Unit {0}

gpsk1_rands : (octets : List ℕ) (x : Message × List ℕ) → gpsk1_at octets ≡ Some x → HasRands x.0
unfolding gpsk1_at
gpsk1_rands octets x e =
    let id_s = step_of _ _ _ e in
    let rand_s = step_of _ _ _ id_s.2 in
    let list = step_of _ _ _ rand_s.2 in
    let found : Message × List ℕ = (gpsk1 id_s.0.0 rand_s.0.0 list.0.0, list.0.1) in
    subst (λ (y : Message × List ℕ). HasRands y.0) {x = found} (same_Some found x list.2)
    (exact_size 32 id_s.0.1 rand_s.0 rand_s.1)

gpsk2_rands : (octets : List ℕ) (x : Message × List ℕ) → gpsk2_at octets ≡ Some x → HasRands x.0
unfolding gpsk2_at
gpsk2_rands octets x e =
    let id_p = step_of _ _ _ e in
    let id_s = step_of _ _ _ id_p.2 in
    let rand_p = step_of _ _ _ id_s.2 in
    let rand_s = step_of _ _ _ rand_p.2 in
    let list = step_of _ _ _ rand_s.2 in
    let suite = step_of _ _ _ list.2 in
    let pd = step_of _ _ _ suite.2 in
    let found : Message × List ℕ =
    (gpsk2 id_p.0.0 id_s.0.0 rand_p.0.0 rand_s.0.0 list.0.0 suite.0.0 pd.0.0 [], pd.0.1) in
    subst (λ (y : Message × List ℕ). HasRands y.0) {x = found} (same_Some found x pd.2)
    (exact_size 32 id_s.0.1 rand_p.0 rand_p.1, exact_size 32 rand_p.0.1 rand_s.0 rand_s.1)

gpsk3_rands : (octets : List ℕ) (x : Message × List ℕ) → gpsk3_at octets ≡ Some x → HasRands x.0
unfolding gpsk3_at
gpsk3_rands octets x e =
    let rand_p = step_of _ _ _ e in
    let rand_s = step_of _ _ _ rand_p.2 in
    let id_s = step_of _ _ _ rand_s.2 in
    let suite = step_of _ _ _ id_s.2 in
    let pd = step_of _ _ _ suite.2 in
    let found : Message × List ℕ =
    (gpsk3 rand_p.0.0 rand_s.0.0 id_s.0.0 suite.0.0 pd.0.0 [], pd.0.1) in
    subst (λ (y : Message × List ℕ). HasRands y.0) {x = found} (same_Some found x pd.2) tt

gpsk4_rands : (octets : List ℕ) (x : Message × List ℕ) → gpsk4_at octets ≡ Some x → HasRands x.0
unfolding gpsk4_at
gpsk4_rands octets x e =
    let pd = step_of _ _ _ e in
    let found : Message × List ℕ = (gpsk4 pd.0.0 [], pd.0.1) in
    subst (λ (y : Message × List ℕ). HasRands y.0) {x = found} (same_Some found x pd.2) tt

fail_rands : (octets : List ℕ) (x : Message × List ℕ) → fail_at octets ≡ Some x → HasRands x.0
unfolding fail_at
fail_rands octets x e =
    let code = step_of _ _ _ e in
    let found : Message × List ℕ = (fail code.0.0, code.0.1) in
    subst (λ (y : Message × List ℕ). HasRands y.0) {x = found} (same_Some found x code.2) tt

protected_fail_rands : (octets : List ℕ) (x : Message × List ℕ) → protected_fail_at octets ≡ Some x
    → HasRands x.0
unfolding protected_fail_at
protected_fail_rands octets x e =
    let code = step_of _ _ _ e in
    let found : Message × List ℕ = (protected_fail code.0.0 [], code.0.1) in
    subst (λ (y : Message × List ℕ). HasRands y.0) {x = found} (same_Some found x code.2) tt

-- what holds of a message that either of two readers gives
pub tested : (P : Type 0) (test : Bool) (x : Message × List ℕ)
    (then_read else_read : Option (Message × List ℕ))
    → (then_read ≡ Some x → P) → (else_read ≡ Some x → P)
    → cond test then_read else_read ≡ Some x → P
tested P test x then_read else_read good other e =
    elim (cases_Bool test) [
      | inl same ↦ good (sym (cond-true _ _ _ same) ∙ e)
      | inr differs ↦ other (sym (cond-false _ _ _ differs) ∙ e)
    ]

fields_rands : (op : ℕ) (octets : List ℕ) (x : Message × List ℕ) → fields_at op octets ≡ Some x
    → HasRands x.0
unfolding fields_at
fields_rands op octets x =
    tested (HasRands x.0) (eqb op 1) x _ _ (gpsk1_rands octets x)
    (tested (HasRands x.0) (eqb op 2) x _ _ (gpsk2_rands octets x)
    (tested (HasRands x.0) (eqb op 3) x _ _ (gpsk3_rands octets x)
    (tested (HasRands x.0) (eqb op 4) x _ _ (gpsk4_rands octets x)
    (tested (HasRands x.0) (eqb op 5) x _ _ (fail_rands octets x)
    (tested (HasRands x.0) (eqb op 6) x _ _ (protected_fail_rands octets x) (λ e. absurd cc))))))

with_mac_rands : (message : Message) (mac : List ℕ) → HasRands message
    → HasRands (with_mac message mac)
with_mac_rands (gpsk1 id_s rand_s list) mac h = h
with_mac_rands (gpsk2 id_p id_s rand_p rand_s list suite pd none) mac h = h
with_mac_rands (gpsk3 rand_p rand_s id_s suite pd none) mac h = h
with_mac_rands (gpsk4 pd none) mac h = h
with_mac_rands (fail code) mac h = h
with_mac_rands (protected_fail code none) mac h = h

loose_rands : (ks : Option ℕ) (octets : List ℕ) (message : Message)
    → loose_of ks octets ≡ Some message → HasRands message
unfolding loose_of
loose_rands ks [] message e = absurd cc
loose_rands ks (op ∷ octets) message e =
    let fields = step_of _ _ _ e in
    let g = cond_some {A = Message} (accepts_mac ks fields.0.0 (length fields.0.1))
    (with_mac fields.0.0 fields.0.1) message fields.2 in
    subst HasRands g.1
    (with_mac_rands fields.0.0 fields.0.1 (fields_rands op octets fields.0 fields.1))

pub judged_loose : (loose : Option Message) (message : Message) → outcome_of loose ≡ Ok message
    → loose ≡ Some message
judged_loose None message e = absurd cc
judged_loose (Some found) message e =
    elim (cases_Bool (leb (length (list_of found)) (6 * 20))) [
      | inl short ↦ let same : ◌≡◌ {A = Result Message Cause} (Ok found) (Ok message) =
          sym (cond-true _ _ _ short) ∙ e in cc
      | inr long ↦ let same : ◌≡◌ {A = Result Message Cause} (Err ListTooLong) (Ok message) =
          sym (cond-false _ _ _ long) ∙ e in absurd cc
    ]

pub read_rands : (ks : Option ℕ) (octets : List ℕ) (message : Message)
    → read_of ks octets ≡ Ok message → HasRands message
unfolding read_of
read_rands ks octets message e =
    loose_rands ks octets message (judged_loose (loose_of ks octets) message e)
