-- A peer's objects stay of their methods; those of EAP-PSK and EAP-GPSK, one of each method that it
-- allows, stay so.
use Rattle.std.proofs.Common.{◌≡◌, ℕ, List, Bool, true, false, Option, Some, None, inl, inr, refl}
use Rattle.std.proofs.Common.{sym, ap, ◌∙◌}
use Rattle.std.specs.Prelude.{◌==◌, if◌then◌else◌, option_map}
use Rattle.std.proofs.lemmas.Bool.{cases_Bool, cond-true, cond-false, eqb-true}
use Rattle.login_setup.specs.declared.setup.PeerSetup.{PeerSetup}
use Rattle.octet_lists.specs.Among.{psk_kind, gpsk_kind, is_among}
use Rattle.eap_method.specs.BothPeers.{IsOne, both_of, is_gpsk, is_one as is_of_two, is_psk}
use Rattle.eap_method.specs.GpskPeer as gpsk_peer
use Rattle.eap_method.specs.Peer.{Method, PeerShown, PeerViews, View, by_gpsk, by_other, by_psk}
use Rattle.eap_method.specs.Peer.{gpsk, method_of, peer_started_in, peer_turn, psk, put, turned}
use Rattle.eap_method.specs.Peer.{kind_of, peer_kind, views_started}
use Rattle.eap_method.specs.PskPeer as psk_peer
use Rattle.eap_method.proofs.PeerViews.{started_method, step_method}
use Rattle.method_laws.specs.Both.{PeerHasBoth}
use Rattle.method_laws.specs.Objects.{PeerHasOwn, PeerHasMethods}

-- ---- of any methods

-- it begins with these
pub first_methods : {methods : List ℕ} {first : PeerViews} → PeerHasOwn methods first
    → PeerHasMethods methods first first
first_methods own = record { own = own; same = λ kind. refl }

some_method : (m : Method) (found : Option PeerShown) → Some m ≡ option_map method_of found
    → (s : PeerShown) × ((found ≡ Some s) × (m ≡ s.method))
some_method m None e = absurd cc
some_method m (Some s) e = (s, (refl, (let same : m ≡ s.method = cc in same)))

module _ {methods : List ℕ} {first views : PeerViews}
    (objects : PeerHasMethods methods first views) where
  -- the object with which the peer began at a Type
  first_at : (kind : ℕ) (s : PeerShown) → views kind ≡ Some s
      → (was : PeerShown) × ((first kind ≡ Some was) × (s.method ≡ was.method))
  first_at kind s is = some_method s.method (first kind)
      (sym (ap (option_map method_of) is) ∙ objects.same kind)

  -- each is of a method that the peer allows
  pub are_allowed : (kind : ℕ) (s : PeerShown) → views kind ≡ Some s
      → is_among methods (peer_kind s) ≡ true
  are_allowed kind s is =
      let was = first_at kind s is in
      ap (is_among methods) (ap kind_of was.1.1 ∙ objects.own.at_own kind was.0 was.1.0)
      ∙ objects.own.allowed kind was.0 was.1.0

  methods_put : (kind : ℕ) (s after : PeerShown) → views kind ≡ Some s → method_of after
      ≡ method_of s
      → PeerHasMethods methods first (put kind after views)
  methods_put kind s after is same = record {
    own = objects.own;
    same = λ other. elim (cases_Bool (other == kind)) [
      | inl here ↦ ap (option_map method_of) (cond-true _ _ _ here)
          ∙ (ap (λ (m : Method). Some m) same ∙ (sym (ap (option_map method_of)
          (ap views (eqb-true other kind here) ∙ is)) ∙ objects.same other))
      | inr apart ↦ ap (option_map method_of) (cond-false _ _ _ apart) ∙ objects.same other
    ];
  }

  after_found : (kind : ℕ) (octets : List ℕ) (found : Option PeerShown) → views kind ≡ found
      → PeerHasMethods methods first (turned kind views octets found).after
  after_found kind octets None is = objects
  after_found kind octets (Some s) is = methods_put kind s _ is (step_method s octets)

  pub methods_after : (kind : ℕ) (octets : List ℕ)
      → PeerHasMethods methods first (peer_turn kind views octets).after
  unfolding peer_turn
  methods_after kind octets = after_found kind octets (views kind) refl

found_started : (setup : PeerSetup) (found : Option PeerShown)
    → option_map method_of (option_map (peer_started_in setup) found) ≡ option_map method_of found
found_started setup None = refl
found_started setup (Some s) = ap (λ (m : Method). Some m) (started_method setup s)

pub methods_started : (setup : PeerSetup) (first views : PeerViews)
    → PeerHasMethods setup.methods first views
    → PeerHasMethods setup.methods first (views_started setup views)
unfolding views_started
methods_started setup first views objects = record {
  own = objects.own;
  same = λ kind. found_started setup (views kind) ∙ objects.same kind;
}

-- ---- of the two

-- what stands at a Type is of its method
by_tests : (kind : ℕ) (named at_psk at_gpsk : Bool) (m : Method) (view : View m)
    → Some m ≡ option_map method_of (if named then (if at_psk then Some (psk psk_peer.unset)
    else if at_gpsk then Some (gpsk gpsk_peer.unset) else None) else None)
    → (at_psk ≡ true → kind ≡ psk_kind) → (at_gpsk ≡ true → kind ≡ gpsk_kind)
    → (let s : PeerShown = record { method = m; view = view } in IsOne kind s)
by_tests kind true true at_gpsk by_psk view e of_psk of_gpsk = is_psk (of_psk refl) view
by_tests kind true true at_gpsk by_gpsk view e of_psk of_gpsk = absurd cc
by_tests kind true true at_gpsk (by_other custom) view e of_psk of_gpsk = absurd cc
by_tests kind true false true by_psk view e of_psk of_gpsk = absurd cc
by_tests kind true false true by_gpsk view e of_psk of_gpsk = is_gpsk (of_gpsk refl) view
by_tests kind true false true (by_other custom) view e of_psk of_gpsk = absurd cc
by_tests kind true false false m view e of_psk of_gpsk = absurd cc
by_tests kind false at_psk at_gpsk m view e of_psk of_gpsk = absurd cc

kind_is : (kind : ℕ) (s : PeerShown) → IsOne kind s → peer_kind s ≡ kind
kind_is kind _ (is_psk same view) = sym same
kind_is kind _ (is_gpsk same view) = sym same

two_are : (kind : ℕ) (s : PeerShown) → IsOne kind s → is_of_two s.method ≡ true
two_are kind _ (is_psk same view) = refl
two_are kind _ (is_gpsk same view) = refl

named_by : (named : Bool) (found : Option PeerShown) (m : Method)
    → Some m ≡ option_map method_of (if named then found else None) → named ≡ true
named_by true found m e = refl
named_by false found m e = absurd cc

own_one : (methods : List ℕ) (kind : ℕ) (s : PeerShown) → both_of methods kind ≡ Some s
    → IsOne kind s
own_one methods kind s is =
    by_tests kind (is_among methods kind) (kind == psk_kind) (kind == gpsk_kind) s.method s.view
    (sym (ap (option_map method_of) is)) (eqb-true kind psk_kind) (eqb-true kind gpsk_kind)

pub both_own : (methods : List ℕ) → PeerHasOwn methods (both_of methods)
both_own methods = record {
  allowed = λ kind s is. named_by (is_among methods kind) _ s.method
      (sym (ap (option_map method_of) is));
  at_own = λ kind s is. kind_is kind s (own_one methods kind s is);
}

-- what it begins with is so
pub both_are : (methods : List ℕ) → PeerHasBoth methods (both_of methods)
both_are methods = first_methods (both_own methods)

-- a method with which it begins is one of the two
pub begins_of_two : (methods : List ℕ) (kind : ℕ) (s : PeerShown)
    → option_map method_of (both_of methods kind) ≡ Some s.method → is_of_two s.method ≡ true
begins_of_two methods kind s same = two_are kind s
    (by_tests kind (is_among methods kind) (kind == psk_kind) (kind == gpsk_kind) s.method s.view
    (sym same) (eqb-true kind psk_kind) (eqb-true kind gpsk_kind))

module _ {methods : List ℕ} {views : PeerViews} (both : PeerHasBoth methods views) where
  pub is_one : (kind : ℕ) (s : PeerShown) → views kind ≡ Some s → IsOne kind s
  is_one kind s is =
      by_tests kind (is_among methods kind) (kind == psk_kind) (kind == gpsk_kind) s.method s.view
      (sym (ap (option_map method_of) is) ∙ both.same kind)
      (eqb-true kind psk_kind) (eqb-true kind gpsk_kind)

  pub is_one_of_two : (kind : ℕ) (s : PeerShown) → views kind ≡ Some s → is_of_two s.method ≡ true
  is_one_of_two kind s is = two_are kind s (is_one kind s is)

  pub is_named : (kind : ℕ) (s : PeerShown) → views kind ≡ Some s → is_among methods kind ≡ true
  is_named kind s is = named_by (is_among methods kind) _ s.method
      (sym (ap (option_map method_of) is) ∙ both.same kind)
