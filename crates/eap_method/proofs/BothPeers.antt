-- A peer whose objects are of EAP-PSK and EAP-GPSK, one at least of each method that it allows,
-- begins as one that has one of each.
use Rattle.std.proofs.Common.{◌≡◌, ℕ, List, [], ◌∷◌, true, Some, None, inl, inr, refl, sym, ap}
use Rattle.std.proofs.Common.{subst, ◌∙◌}
use Rattle.std.proofs.Math.Path.{fun_ext}
use Rattle.std.specs.Prelude.{◌==◌, option_map}
use Rattle.std.specs.List.{list_all}
use Rattle.std.proofs.lemmas.Bool.{cases_Bool, cond-true, cond-false, and_parts, eqb-true}
use Rattle.std.proofs.lemmas.Bool.{false≢true}
use Rattle.std.proofs.lemmas.Option.{same_Some}
use Rattle.login_setup.specs.declared.setup.PeerSetup.{PeerSetup}
use Rattle.octet_lists.specs.Among.{psk_kind, gpsk_kind, is_among}
use Rattle.eap_method.specs.BothPeers.{is_one, are_both, IsOne, is_psk, is_gpsk, both_of}
use Rattle.eap_method.specs.PskPeer as psk_peer
use Rattle.eap_method.specs.GpskPeer as gpsk_peer
use Rattle.eap_method.specs.Peer.{Method, by_psk, by_gpsk, by_other, View, kind_of, PeerShown, psk}
use Rattle.eap_method.specs.Peer.{gpsk, peer_kind, peer_kinds, peer_methods, first_of, peer_views}
use Rattle.eap_method.specs.Peer.{peer_started_in, views_started, have_each}
use Rattle.eap_method.proofs.Amongs.{each_one}
use Rattle.eap_method.proofs.PeerViews.{begins}

record Found (kind : ℕ) (shown : List PeerShown) : Type 0 where
  one : PeerShown
  is : first_of kind shown ≡ Some one

found : (kind : ℕ) (shown : List PeerShown) → is_among (peer_kinds shown) kind ≡ true
    → Found kind shown
found kind [] e = cc
found kind (s ∷ rest) e =
    elim (cases_Bool (peer_kind s == kind)) [
      | inl is ↦ record { one = s; is = cond-true _ _ _ is }
      | inr apart ↦ let later = found kind rest (rw apart at e) in
          record { one = later.one; is = cond-false _ _ _ apart ∙ later.is }
    ]

-- the first object of a Type is one of the two
of_one : (m : Method) (view : View m) → is_one m ≡ true
    → (let s : PeerShown = record { method = m; view = view } in IsOne (kind_of m) s)
of_one by_psk view e = is_psk refl view
of_one by_gpsk view e = is_gpsk refl view
of_one (by_other custom) view e = absurd (false≢true e)

ones : (kind : ℕ) (shown : List PeerShown) → are_both shown ≡ true → (s : PeerShown)
    → first_of kind shown ≡ Some s → IsOne kind s
ones kind [] both s e = cc
ones kind (first ∷ rest) both s e =
    let parts = and_parts (is_one first.method) (list_all is_one (peer_methods rest)) both in
    elim (cases_Bool (peer_kind first == kind)) [
      | inl is ↦ subst (λ (t : PeerShown). IsOne kind t)
          (same_Some _ _ (sym (cond-true _ _ _ is) ∙ e))
          (subst (λ (k : ℕ). IsOne k first) (eqb-true (peer_kind first) kind is)
          (of_one first.method first.view parts.0))
      | inr apart ↦ ones kind rest parts.1 s (sym (cond-false _ _ _ apart) ∙ e)
    ]

module _ (setup : PeerSetup) where
  same_start : (kind : ℕ) (s : PeerShown) → IsOne kind s → is_among setup.methods kind ≡ true
      → option_map (peer_started_in setup) (Some s)
      ≡ option_map (peer_started_in setup) (both_of setup.methods kind)
  same_start kind _ (is_psk same view) named =
      subst (λ (k : ℕ). is_among setup.methods k ≡ true → option_map (peer_started_in setup) (Some
      (psk view)) ≡ option_map (peer_started_in setup) (both_of setup.methods k))
      (sym same)
      (λ here. ap (λ (t : PeerShown). Some t)
      (sym (begins setup (psk view) here) ∙ begins setup (psk psk_peer.unset) here)
      ∙ ap (option_map (peer_started_in setup))
      (sym (cond-true (is_among setup.methods psk_kind) (Some (psk psk_peer.unset)) None here)))
      named
  same_start kind _ (is_gpsk same view) named =
      subst (λ (k : ℕ). is_among setup.methods k ≡ true → option_map (peer_started_in setup) (Some
      (gpsk view)) ≡ option_map (peer_started_in setup) (both_of setup.methods k))
      (sym same)
      (λ here. ap (λ (t : PeerShown). Some t)
      (sym (begins setup (gpsk view) here) ∙ begins setup (gpsk gpsk_peer.unset) here)
      ∙ ap (option_map (peer_started_in setup))
      (sym (cond-true (is_among setup.methods gpsk_kind) (Some (gpsk gpsk_peer.unset)) None here)))
      named

  pub starts_as_both : (shown : List PeerShown) → are_both shown ≡ true
      → have_each (peer_kinds shown) setup.methods ≡ true
      → views_started setup (peer_views setup.methods shown)
      ≡ views_started setup (both_of setup.methods)
  unfolding views_started peer_views
  starts_as_both shown both have =
      fun_ext (λ kind. elim (cases_Bool (is_among setup.methods kind)) [
        | inl named ↦
            let it = found kind shown
            (each_one (is_among (peer_kinds shown)) setup.methods kind have named) in
            ap (option_map (peer_started_in setup)) (cond-true _ _ _ named ∙ it.is)
            ∙ same_start kind it.one (ones kind shown both it.one it.is) named
        | inr barred ↦ ap (option_map (peer_started_in setup))
            (cond-false _ _ _ barred ∙ sym (cond-false _ _ _ barred))
      ])
