-- The messages: what is read is spelled so, and what is spelled so is read.
use Rattle.std.proofs.Common.{◌≡◌, ℕ, ◌<◌, cond, eqb, List, [], ◌∷◌, ◌++◌, Option, Some, refl, sym}
use Rattle.std.proofs.Common.{ap, subst, ◌∙◌, append_assoc, inl, inr}
use Rattle.std.proofs.lemmas.Bool.{cases_Bool, eqb-true, cond-true, cond-false}
use Rattle.std.proofs.lemmas.List.Elements.{All-tail}
use Rattle.std.proofs.lemmas.Option.{same_Some}
use Rattle.octet_lists.specs.declared.suite.Suite.{Suite}
use Rattle.octet_lists.specs.Suite.{suite_octets}
use Rattle.eap_packet.specs.Packet.{IsOctets}
use Rattle.gpsk_messages.specs.Message.{Message, gpsk1, gpsk2, gpsk3, gpsk4, fail, protected_fail}
use Rattle.gpsk_messages.specs.Message.{op_code, field_with_length, covered_of, without_mac}
use Rattle.gpsk_messages.specs.Message.{AreFields}
use Rattle.gpsk_messages.specs.Reading.{and_then, gpsk1_at, gpsk2_at, gpsk3_at, gpsk4_at, fail_at}
use Rattle.gpsk_messages.specs.Reading.{protected_fail_at, fields_at}
use Rattle.gpsk_messages.proofs.FieldLaws.{step_of, step_again, PrefixedBy_then, exact_consumes}
use Rattle.gpsk_messages.proofs.FieldLaws.{sized_consumes, identity_consumes, suites_consume}
use Rattle.gpsk_messages.proofs.FieldLaws.{suite_consumes, code_consumes, exact_again, sized_again}
use Rattle.gpsk_messages.proofs.FieldLaws.{identity_again, suites_again, suite_again, code_again}

-- what is read behind an OP-Code: the fields of a message, within their limits
pub record ConsumesFields (code : ℕ) (octets : List ℕ) (x : Message × List ℕ) : Type 0 where
  pub op : op_code x.0 ≡ code
  pub fields : AreFields x.0
  pub parts : octets ≡ covered_of x.0 ++ x.1

gpsk1_consumes : (octets : List ℕ) (x : Message × List ℕ) → IsOctets octets
    → gpsk1_at octets ≡ Some x → ConsumesFields 1 octets x
unfolding gpsk1_at covered_of
gpsk1_consumes octets x small e =
    let id_s = step_of _ _ _ e in
    let rand_s = step_of _ _ _ id_s.2 in
    let list = step_of _ _ _ rand_s.2 in
    let t0 = identity_consumes octets id_s.0 small id_s.1 in
    let t1 = exact_consumes 32 id_s.0.1 rand_s.0 t0.0.rest_small rand_s.1 in
    let t2 = suites_consume rand_s.0.1 list.0 t1.0.rest_small list.1 in
    let joined = PrefixedBy_then t0.0 (PrefixedBy_then t1.0 t2.0) in
    let found : Message × List ℕ = (gpsk1 id_s.0.0 rand_s.0.0 list.0.0, list.0.1) in
    subst (ConsumesFields 1 octets) {x = found} (same_Some found x list.2)
    (record { op = refl {a = 1}; fields = (t0.1, t1.1, t2.1); parts = joined.parts })

gpsk2_consumes : (octets : List ℕ) (x : Message × List ℕ) → IsOctets octets
    → gpsk2_at octets ≡ Some x → ConsumesFields 2 octets x
unfolding gpsk2_at covered_of
gpsk2_consumes octets x small e =
    let id_p = step_of _ _ _ e in
    let id_s = step_of _ _ _ id_p.2 in
    let rand_p = step_of _ _ _ id_s.2 in
    let rand_s = step_of _ _ _ rand_p.2 in
    let list = step_of _ _ _ rand_s.2 in
    let suite = step_of _ _ _ list.2 in
    let pd = step_of _ _ _ suite.2 in
    let t0 = identity_consumes octets id_p.0 small id_p.1 in
    let t1 = identity_consumes id_p.0.1 id_s.0 t0.0.rest_small id_s.1 in
    let t2 = exact_consumes 32 id_s.0.1 rand_p.0 t1.0.rest_small rand_p.1 in
    let t3 = exact_consumes 32 rand_p.0.1 rand_s.0 t2.0.rest_small rand_s.1 in
    let t4 = suites_consume rand_s.0.1 list.0 t3.0.rest_small list.1 in
    let t5 = suite_consumes list.0.1 suite.0 t4.0.rest_small suite.1 in
    let t6 = sized_consumes suite.0.1 pd.0 t5.rest_small pd.1 in
    let joined = PrefixedBy_then t0.0 (PrefixedBy_then t1.0 (PrefixedBy_then t2.0
    (PrefixedBy_then t3.0 (PrefixedBy_then t4.0 (PrefixedBy_then t5 t6.0))))) in
    let found : Message × List ℕ =
    (gpsk2 id_p.0.0 id_s.0.0 rand_p.0.0 rand_s.0.0 list.0.0 suite.0.0 pd.0.0 [], pd.0.1) in
    subst (ConsumesFields 2 octets) {x = found} (same_Some found x pd.2) (record {
      op = refl {a = 2};
      fields = (t0.1, t1.1, t2.1, t3.1, t4.1, t6.1);
      parts = joined.parts;
    })

gpsk3_consumes : (octets : List ℕ) (x : Message × List ℕ) → IsOctets octets
    → gpsk3_at octets ≡ Some x → ConsumesFields 3 octets x
unfolding gpsk3_at covered_of
gpsk3_consumes octets x small e =
    let rand_p = step_of _ _ _ e in
    let rand_s = step_of _ _ _ rand_p.2 in
    let id_s = step_of _ _ _ rand_s.2 in
    let suite = step_of _ _ _ id_s.2 in
    let pd = step_of _ _ _ suite.2 in
    let t0 = exact_consumes 32 octets rand_p.0 small rand_p.1 in
    let t1 = exact_consumes 32 rand_p.0.1 rand_s.0 t0.0.rest_small rand_s.1 in
    let t2 = identity_consumes rand_s.0.1 id_s.0 t1.0.rest_small id_s.1 in
    let t3 = suite_consumes id_s.0.1 suite.0 t2.0.rest_small suite.1 in
    let t4 = sized_consumes suite.0.1 pd.0 t3.rest_small pd.1 in
    let joined =
    PrefixedBy_then t0.0 (PrefixedBy_then t1.0 (PrefixedBy_then t2.0 (PrefixedBy_then t3 t4.0))) in
    let found : Message × List ℕ =
    (gpsk3 rand_p.0.0 rand_s.0.0 id_s.0.0 suite.0.0 pd.0.0 [], pd.0.1) in
    subst (ConsumesFields 3 octets) {x = found} (same_Some found x pd.2)
    (record { op = refl {a = 3}; fields = (t0.1, t1.1, t2.1, t4.1); parts = joined.parts })

gpsk4_consumes : (octets : List ℕ) (x : Message × List ℕ) → IsOctets octets
    → gpsk4_at octets ≡ Some x → ConsumesFields 4 octets x
unfolding gpsk4_at covered_of
gpsk4_consumes octets x small e =
    let pd = step_of _ _ _ e in
    let t = sized_consumes octets pd.0 small pd.1 in
    subst (ConsumesFields 4 octets) (same_Some _ x pd.2)
    (record { op = refl; fields = t.1; parts = t.0.parts })

fail_consumes : (octets : List ℕ) (x : Message × List ℕ) → IsOctets octets → fail_at octets ≡ Some x
    → ConsumesFields 5 octets x
unfolding fail_at covered_of
fail_consumes octets x small e =
    let code = step_of _ _ _ e in
    let t = code_consumes octets code.0 small code.1 in
    subst (ConsumesFields 5 octets) (same_Some _ x code.2)
    (record { op = refl; fields = t.1; parts = t.0.parts })

protected_fail_consumes : (octets : List ℕ) (x : Message × List ℕ) → IsOctets octets
    → protected_fail_at octets ≡ Some x → ConsumesFields 6 octets x
unfolding protected_fail_at covered_of
protected_fail_consumes octets x small e =
    let code = step_of _ _ _ e in
    let t = code_consumes octets code.0 small code.1 in
    subst (ConsumesFields 6 octets) (same_Some _ x code.2)
    (record { op = refl; fields = t.1; parts = t.0.parts })

-- the test of an OP-Code, and what stands behind it
tested : (op code : ℕ) (octets : List ℕ) (x : Message × List ℕ)
    (then_read else_read : Option (Message × List ℕ)) →
    (then_read ≡ Some x → ConsumesFields code octets x)
    → (else_read ≡ Some x → ConsumesFields op octets x) →
    cond (eqb op code) then_read else_read ≡ Some x → ConsumesFields op octets x
tested op code octets x then_read else_read good other e =
    elim (cases_Bool (eqb op code)) [
      | inl same ↦ subst (λ (c : ℕ). ConsumesFields c octets x) (sym (eqb-true op code same))
          (good (sym (cond-true _ _ _ same) ∙ e))
      | inr differs ↦ other (sym (cond-false _ _ _ differs) ∙ e)
    ]

pub fields_consume : (op : ℕ) (octets : List ℕ) (x : Message × List ℕ) → IsOctets (op ∷ octets)
    → fields_at op octets ≡ Some x → ConsumesFields op octets x
unfolding fields_at
fields_consume op octets x small =
    let tail = All-tail (λ b. b < 256) op octets small in
    tested op 1 octets x _ _ (gpsk1_consumes octets x tail)
    (tested op 2 octets x _ _ (gpsk2_consumes octets x tail)
    (tested op 3 octets x _ _ (gpsk3_consumes octets x tail)
    (tested op 4 octets x _ _ (gpsk4_consumes octets x tail)
    (tested op 5 octets x _ _ (fail_consumes octets x tail)
    (tested op 6 octets x _ _ (protected_fail_consumes octets x tail) (λ e. absurd cc))))))

-- ---- what is spelled so is read

regroup2 : (a b c rest : List ℕ) → (a ++ (b ++ c)) ++ rest ≡ a ++ (b ++ (c ++ rest))
regroup2 a b c rest = simp append_assoc

regroup4 : (a b c d e rest : List ℕ) → (a ++ (b ++ (c ++ (d ++ e)))) ++ rest
    ≡ a ++ (b ++ (c ++ (d ++ (e ++ rest))))
regroup4 a b c d e rest = simp append_assoc

regroup6 : (a b c d e f g rest : List ℕ) → (a ++ (b ++ (c ++ (d ++ (e ++ (f ++ g)))))) ++ rest
    ≡ a ++ (b ++ (c ++ (d ++ (e ++ (f ++ (g ++ rest))))))
regroup6 a b c d e f g rest = simp append_assoc

gpsk1_again : (id_s rand_s list rest : List ℕ) → AreFields (gpsk1 id_s rand_s list) →
    gpsk1_at (covered_of (gpsk1 id_s rand_s list) ++ rest) ≡ Some (gpsk1 id_s rand_s list, rest)
unfolding gpsk1_at covered_of
gpsk1_again id_s rand_s list rest f =
    ap gpsk1_at (regroup2 (field_with_length id_s) rand_s (field_with_length list) rest)
    ∙ step_again _ _ _ (identity_again id_s (rand_s ++ (field_with_length list ++ rest)) f.0)
    ∙ step_again _ _ _ (exact_again 32 rand_s (field_with_length list ++ rest) f.1)
    ∙ step_again _ _ _ (suites_again list rest f.2)

gpsk2_again : (id_p id_s rand_p rand_s list : List ℕ) (suite : Suite) (pd mac rest : List ℕ)
    → AreFields (gpsk2 id_p id_s rand_p rand_s list suite pd mac) →
    gpsk2_at (covered_of (gpsk2 id_p id_s rand_p rand_s list suite pd mac) ++ rest)
    ≡ Some (gpsk2 id_p id_s rand_p rand_s list suite pd [], rest)
unfolding gpsk2_at covered_of
gpsk2_again id_p id_s rand_p rand_s list suite pd mac rest f =
    let after_suite = field_with_length pd ++ rest in
    let after_list = suite_octets suite ++ after_suite in
    let after_rands = field_with_length list ++ after_list in
    ap gpsk2_at (regroup6 (field_with_length id_p) (field_with_length id_s) rand_p rand_s
    (field_with_length list) (suite_octets suite) (field_with_length pd) rest)
    ∙ step_again _ _ _
    (identity_again id_p (field_with_length id_s ++ (rand_p ++ (rand_s ++ after_rands))) f.0)
    ∙ step_again _ _ _ (identity_again id_s (rand_p ++ (rand_s ++ after_rands)) f.1)
    ∙ step_again _ _ _ (exact_again 32 rand_p (rand_s ++ after_rands) f.2)
    ∙ step_again _ _ _ (exact_again 32 rand_s after_rands f.3)
    ∙ step_again _ _ _ (suites_again list after_list f.4)
    ∙ step_again _ _ _ (suite_again suite after_suite)
    ∙ step_again _ _ _ (sized_again pd rest)

gpsk3_again : (rand_p rand_s id_s : List ℕ) (suite : Suite) (pd mac rest : List ℕ)
    → AreFields (gpsk3 rand_p rand_s id_s suite pd mac) →
    gpsk3_at (covered_of (gpsk3 rand_p rand_s id_s suite pd mac) ++ rest)
    ≡ Some (gpsk3 rand_p rand_s id_s suite pd [], rest)
unfolding gpsk3_at covered_of
gpsk3_again rand_p rand_s id_s suite pd mac rest f =
    let after_suite = field_with_length pd ++ rest in
    let after_name = suite_octets suite ++ after_suite in
    ap gpsk3_at (regroup4 rand_p rand_s (field_with_length id_s) (suite_octets suite)
    (field_with_length pd) rest)
    ∙ step_again _ _ _
    (exact_again 32 rand_p (rand_s ++ (field_with_length id_s ++ after_name)) f.0)
    ∙ step_again _ _ _ (exact_again 32 rand_s (field_with_length id_s ++ after_name) f.1)
    ∙ step_again _ _ _ (identity_again id_s after_name f.2)
    ∙ step_again _ _ _ (suite_again suite after_suite)
    ∙ step_again _ _ _ (sized_again pd rest)

-- the fields of a message, with any octets behind them, are read as they are
pub fields_again : (message : Message) (rest : List ℕ) → AreFields message →
    fields_at (op_code message) (covered_of message ++ rest) ≡ Some (without_mac message, rest)
unfolding fields_at and_then gpsk4_at fail_at protected_fail_at covered_of
fields_again (gpsk1 id_s rand_s list) rest f = gpsk1_again id_s rand_s list rest f
fields_again (gpsk2 id_p id_s rand_p rand_s list suite pd mac) rest f =
    gpsk2_again id_p id_s rand_p rand_s list suite pd mac rest f
fields_again (gpsk3 rand_p rand_s id_s suite pd mac) rest f =
    gpsk3_again rand_p rand_s id_s suite pd mac rest f
fields_again (gpsk4 pd mac) rest f = rw (sized_again pd rest) refl
fields_again (fail code) rest f = rw (code_again code rest f) refl
fields_again (protected_fail code mac) rest f = rw (code_again code rest f) refl
