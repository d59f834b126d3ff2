-- An Expanded Nak (RFC 3748 section 5.3.2) is read as the Nak that it was written for.
use Rattle.std.proofs.Common.{◌≡◌, ℕ, ◌≤◌, List, [], ◌∷◌, ◌++◌, length, Bool, true, false, Ok, refl}
use Rattle.std.proofs.Common.{sym, ap, ◌∙◌, arith}
use Rattle.std.specs.Prelude.{◌==◌, ◌||◌, nat_lt, not}
use Rattle.std.specs.List.{list_all}
use Rattle.std.proofs.lemmas.Bool.{and_parts, and_from, and_right, or_parts, not-true, cond-true}
use Rattle.std.proofs.lemmas.Bool.{eqb-false, ne_eqb}
use Rattle.octet_lists.specs.Among.{is_kind, is_among, are_distinct, expanded_kind, ietf}
use Rattle.login_setup.specs.Setup.{are_kinds}
use Rattle.eap_packet.specs.Packet.{response}
use Rattle.eap_packet.specs.Fault.{packet_of}
use Rattle.eap_packet.specs.Expanded.{is_nak_body, is_bad_body, are_expanded, are_entries}
use Rattle.login_policy.specs.Policy.{nak_of}
use Rattle.login_policy.specs.Expanded.{nak_entries, kinds_in, expanded_kinds}
use Rattle.peer_machine.specs.PeerTable.{nak_response}
use Rattle.peer_machine.specs.Expanded.{expanded_nak_response}
use Rattle.pass_through.specs.PassTable.{without_padding}
use Rattle.smooth_laws.proofs.Carried.{of_ietf, not_under, or_none}
use Rattle.smooth_laws.proofs.Packets.{response_read, response_whole}

-- the Nak of a peer that allows these methods, by the form of the Request
abbrev pub nak_as : Bool → ℕ → List ℕ → List ℕ
nak_as false id methods = nak_response id methods
nak_as true id methods = expanded_nak_response id methods

-- the Type and the Type-Data that it has
abbrev pub nak_kind : Bool → ℕ
nak_kind false = 3
nak_kind true = expanded_kind

abbrev pub nak_body : Bool → List ℕ → List ℕ
nak_body false methods = nak_of methods
nak_body true methods = ietf ++ 3 ∷ nak_entries (nak_of methods)

-- its list has the form that is asked, and says the methods
pub record ReadsBack (methods : List ℕ) : Type 0 where
  pub entries : are_entries (nak_entries (nak_of methods)) ≡ true
  pub back : nak_of (expanded_kinds (nak_entries (nak_of methods))) ≡ nak_of methods
  pub some : 1 ≤ length (nak_of methods)
  pub few : length (nak_of methods) ≤ 2
  pub size : length (nak_entries (nak_of methods)) ≤ 16

of_none : ReadsBack []
unfolding nak_of nak_entries kinds_in are_expanded
of_none = record {
  entries = refl;
  back = refl;
  some = omega arith;
  few = omega arith;
  size = omega arith;
}

of_one : (a : ℕ) → is_kind a ≡ true → ReadsBack (a ∷ [])
unfolding nak_of nak_entries kinds_in are_expanded
of_one a is = record {
  entries = refl;
  back = ap nak_of (cond-true _ _ _ (and_from (is_kind a) true is refl));
  some = omega arith;
  few = omega arith;
  size = omega arith;
}

-- two Types of which each is another
of_both : (a b : ℕ) → is_kind a ≡ true → is_kind b ≡ true → (a == b) ≡ false
    → ReadsBack (a ∷ b ∷ [])
unfolding nak_of nak_entries kinds_in are_expanded
of_both a b is_a is_b other = record {
  entries = refl;
  back = ap nak_of (cond-true _ _ _ (and_from (is_kind a) true is_a refl)
      ∙ ap (λ (rest : List ℕ). a ∷ rest)
      (cond-true _ _ _ (and_from (is_kind b) _ is_b (ap (λ (t : Bool). not (t || false)) other))));
  some = omega arith;
  few = omega arith;
  size = omega arith;
}

pub reads_back : (methods : List ℕ) → are_kinds methods ≡ true → length methods ≤ 2
    → ReadsBack methods
reads_back [] h few = of_none
reads_back (a ∷ []) h few = of_one a (and_parts (is_kind a) true (and_parts _ _ h).0).0
reads_back (a ∷ b ∷ []) h few =
    let parts = and_parts (list_all is_kind (a ∷ b ∷ [])) (are_distinct (a ∷ b ∷ [])) h in
    let kinds = and_parts (is_kind a) _ parts.0 in
    let apart =
    or_parts (b == a) false (not-true (is_among (b ∷ []) a) (and_parts _ _ parts.1).0) in
    of_both a b kinds.0 (and_parts (is_kind b) true kinds.1).0
    (ne_eqb a b (λ e. eqb-false b a apart.0 (sym e)))
reads_back (a ∷ b ∷ c ∷ rest) h few = absurd (omega (arith, few))

-- it is read as what it has, and nothing stands past its Length
pub nak_read : (form : Bool) (id : ℕ) (methods : List ℕ) → ReadsBack methods
    → packet_of (nak_as form id methods) ≡ Ok (response id (nak_kind form) (nak_body form methods))
nak_read false id methods is = let few = is.few in let some = is.some in
    response_read id 3 (nak_of methods) (omega arith) (λ e. omega arith)
nak_read true id methods is =
    let size = is.size in
    response_read id expanded_kind (ietf ++ 3 ∷ nak_entries (nak_of methods)) (omega arith)
    (λ e. omega arith)

pub nak_whole : (form : Bool) (id : ℕ) (methods : List ℕ) → without_padding (nak_as form id methods)
    ≡ nak_as form id methods
nak_whole false id methods = response_whole id 3 (nak_of methods)
nak_whole true id methods =
    response_whole id expanded_kind (ietf ++ 3 ∷ nak_entries (nak_of methods))

-- it is an Expanded Nak, of a form that a server takes
pub is_nak : (methods : List ℕ) → is_nak_body (nak_body true methods) ≡ true
is_nak methods = and_from _ _ (of_ietf 3 (nak_entries (nak_of methods))) refl

pub entries_consumed : (methods : List ℕ) → ReadsBack methods
    → is_bad_body false (nak_body true methods) ≡ false
entries_consumed methods is =
    or_none (nat_lt (length (nak_body true methods)) 7) _
    (not_under 3 (nak_entries (nak_of methods)))
    (and_right (is_nak_body (nak_body true methods)) _ (ap not is.entries))
