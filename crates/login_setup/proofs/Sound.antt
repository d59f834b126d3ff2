-- Users pass their test exactly where each is of a method and has a key that fits it; Types of the
-- two methods are Types of methods; settings with another nonce are sound.
use Rattle.std.proofs.Common.{◌≡◌, ℕ, ◌<◌, List, [], ◌∷◌, length, true, refl, IsTrue, inl, inr}
use Rattle.std.proofs.Common.{slice_index_or, subst, sym}
use Rattle.std.specs.Prelude.{◌==◌, All}
use Rattle.std.specs.List.{list_all}
use Rattle.std.proofs.lemmas.Bool.{and_parts, and_from, or_cases, eqb-true}
use Rattle.std.proofs.lemmas.List.Sums.{AllPass-from_list_all, list_all-from_AllPass}
use Rattle.login_setup.specs.declared.users.User.{User}
use Rattle.octet_lists.specs.Among.{psk_kind, gpsk_kind, is_kind, are_distinct}
use Rattle.login_setup.specs.Setup.{has_valid_key, is_method_kind, are_kinds, are_method_kinds}
use Rattle.login_setup.specs.Setup.{ServerSetup, IsSoundPeer, IsSoundServer}
use Rattle.login_setup.specs.declared.setup.PeerSetup.{PeerSetup}
use Rattle.login_setup.specs.Soundness.{is_sound_user}

-- where users pass, each is of a method, and has a key that fits it
module _ (users : List User) (ok : list_all is_sound_user users ≡ true) where
  parts : (k : ℕ) (d : User) → k < length users
      → (is_method_kind (slice_index_or users k d).kind ≡ true)
      × (has_valid_key (slice_index_or users k d) ≡ true)
  parts k d below =
      let user = slice_index_or users k d in
      and_parts (is_method_kind user.kind) (has_valid_key user)
      (AllPass-from_list_all is_sound_user users ok k d below)

  pub have_keys : All (λ user. IsTrue (has_valid_key user)) users
  have_keys = λ k d below. (parts k d below).1

  pub have_kinds : All (λ user. IsTrue (is_method_kind user.kind)) users
  have_kinds = λ k d below. (parts k d below).0

-- a list of users of methods whose keys fit passes
pub passes : (users : List User) → All (λ user. IsTrue (is_method_kind user.kind)) users
    → All (λ user. IsTrue (has_valid_key user)) users
    → list_all is_sound_user users ≡ true
passes users kinds keys = list_all-from_AllPass is_sound_user users (λ k d below.
    let user = slice_index_or users k d in
    and_from (is_method_kind user.kind) (has_valid_key user) (kinds k d below) (keys k d below))

-- the Types of the two methods are Types of methods
pub kind_is_of_method : (kind : ℕ) → is_kind kind ≡ true → is_method_kind kind ≡ true
kind_is_of_method kind is =
    elim (or_cases (kind == psk_kind) (kind == gpsk_kind) is) [
      | inl psk ↦ subst (λ (k : ℕ). is_method_kind k ≡ true) (sym (eqb-true kind psk_kind psk)) refl
      | inr gpsk ↦ subst (λ (k : ℕ). is_method_kind k ≡ true)
          (sym (eqb-true kind gpsk_kind gpsk)) refl
    ]

all_of_methods : (kinds : List ℕ) → list_all is_kind kinds ≡ true
    → list_all is_method_kind kinds ≡ true
all_of_methods [] are = refl
all_of_methods (kind ∷ rest) are =
    let both = and_parts (is_kind kind) (list_all is_kind rest) are in
    and_from (is_method_kind kind) (list_all is_method_kind rest) (kind_is_of_method kind both.0)
    (all_of_methods rest both.1)

pub kinds_are_of_methods : (kinds : List ℕ) → IsTrue (are_kinds kinds)
    → IsTrue (are_method_kinds kinds)
kinds_are_of_methods kinds are =
    let both = and_parts (list_all is_kind kinds) (are_distinct kinds) are in
    and_from (list_all is_method_kind kinds) (are_distinct kinds) (all_of_methods kinds both.0) both.1

-- the nonce of settings is no part of their soundness
pub peer_with_nonce : (setup : PeerSetup) (nonce : List ℕ) → IsSoundPeer setup
    → IsSoundPeer (record setup { nonce = nonce })
peer_with_nonce setup nonce is =
    record { methods = is.methods; suites = is.suites; psk47 = is.psk47; psk51 = is.psk51 }

pub server_with_nonce : (setup : ServerSetup) (nonce : List ℕ) → IsSoundServer setup
    → IsSoundServer (record setup { nonce = nonce })
server_with_nonce setup nonce is =
    record { methods = is.methods; suites = is.suites; kinds = is.kinds; keys = is.keys }
