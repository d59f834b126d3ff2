-- Where an end has an object of both methods, it has one of each method that settings can name.
use Rattle.std.proofs.Common.{◌≡◌, ℕ, List, [], ◌∷◌, true, eqb, refl, subst, sym, inl, inr}
use Rattle.std.specs.Prelude.{IsTrue}
use Rattle.std.specs.List.{list_all}
use Rattle.std.proofs.lemmas.Bool.{or_cases, eqb-true, and_parts, and_from}
use Rattle.octet_lists.specs.Among.{psk_kind, gpsk_kind, is_kind, is_among, are_distinct}
use Rattle.login_setup.specs.Setup.{are_kinds}
use Rattle.eap_method.specs.Peer.{have_each}

abbrev both : List ℕ
both = gpsk_kind ∷ psk_kind ∷ []

is_listed : (kind : ℕ) → is_kind kind ≡ true → is_among both kind ≡ true
is_listed kind known =
    elim (or_cases (eqb kind psk_kind) (eqb kind gpsk_kind) known) [
      | inl is_psk ↦ subst (λ k. is_among both k ≡ true) (sym (eqb-true kind psk_kind is_psk)) refl
      | inr is_gpsk ↦ subst (λ k. is_among both k ≡ true)
          (sym (eqb-true kind gpsk_kind is_gpsk)) refl
    ]

are_listed : (kinds : List ℕ) → list_all is_kind kinds ≡ true → have_each both kinds ≡ true
are_listed [] known = refl
are_listed (kind ∷ rest) known =
    let parts = and_parts (is_kind kind) (list_all is_kind rest) known in
    and_from (is_among both kind) (list_all (is_among both) rest) (is_listed kind parts.0)
    (are_listed rest parts.1)

pub all_have : (methods : List ℕ) → methods ≡ gpsk_kind ∷ psk_kind ∷ [] → (kinds : List ℕ)
    → IsTrue (are_kinds kinds) → have_each methods kinds ≡ true
all_have methods are_both kinds sound =
    rw are_both (are_listed kinds (and_parts (list_all is_kind kinds) (are_distinct kinds) sound).0)
