-- The key that a peer brings into a method that it allows fits it.
use Rattle.std.proofs.Common.{◌≡◌, ℕ, List, [], true, IsTrue, Option, Some, None, inl, inr, refl}
use Rattle.std.proofs.Common.{subst, sym}
use Rattle.std.specs.Prelude.{◌==◌, unwrap_or, is_some, IfSome}
use Rattle.std.proofs.lemmas.Bool.{cases_Bool, eqb-true}
use Rattle.login_setup.specs.declared.setup.PeerSetup.{PeerSetup}
use Rattle.octet_lists.specs.Among.{psk_kind, gpsk_kind, is_among}
use Rattle.login_setup.specs.Setup.{key_of, has_key, is_valid_for, IsSoundPeer, HasKeys}
use Rattle.eap_method.specs.Peer.{PeerShown, peer_kind, credential_for}
use Rattle.eap_method.proofs.Amongs.{each_one}

-- a key that is there fits its method
key_is_valid : (kind : ℕ) (key : Option (List ℕ)) → IfSome key (λ octets. IsTrue
    (is_valid_for kind octets)) → is_some key ≡ true → IsTrue (is_valid_for kind (unwrap_or key []))
key_is_valid kind None fits is_there = absurd (cc is_there)
key_is_valid kind (Some octets) fits is_there = fits

-- by the Type: one of the two for which there is a key, or one of a maker, which gets no octets
abbrev Fits : PeerSetup → ℕ → Type 0
Fits setup kind = has_key setup kind ≡ true
    → IsTrue (is_valid_for kind (unwrap_or (key_of setup kind) []))

fits_each : (setup : PeerSetup) (kind : ℕ) → IsSoundPeer setup → Fits setup kind
fits_each setup kind sound =
    elim (cases_Bool (kind == psk_kind)) [
      | inl is ↦ subst (Fits setup) (sym (eqb-true kind psk_kind is))
          (key_is_valid psk_kind setup.psk47 sound.psk47)
      | inr not_psk ↦ elim (cases_Bool (kind == gpsk_kind)) [
        | inl is ↦ subst (Fits setup) (sym (eqb-true kind gpsk_kind is))
            (key_is_valid gpsk_kind setup.psk51 sound.psk51)
        | inr not_gpsk ↦ λ is_there. rw (not_psk, not_gpsk) refl
      ]
    ]

pub credential_bounded : (setup : PeerSetup) (s : PeerShown) → IsSoundPeer setup → HasKeys setup
    → is_among setup.methods (peer_kind s) ≡ true
    → IsTrue (is_valid_for (peer_kind s) (credential_for setup (peer_kind s)).psk)
unfolding credential_for
credential_bounded setup s sound keys is_allowed =
    let is_there = each_one (has_key setup) setup.methods
    (peer_kind s) keys is_allowed in fits_each setup (peer_kind s) sound is_there
