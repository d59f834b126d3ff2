-- A server's objects stay of their methods; those of EAP-PSK and EAP-GPSK, one of each method that
-- it proposes, stay so.
use Rattle.std.proofs.Common.{◌≡◌, ℕ, List, Bool, true, false, Option, Some, None, inl, inr, refl}
use Rattle.std.proofs.Common.{sym, ap, ◌∙◌}
use Rattle.std.specs.Prelude.{◌==◌, if◌then◌else◌, option_map}
use Rattle.std.proofs.lemmas.Bool.{cases_Bool, cond-true, cond-false, eqb-true}
use Rattle.login_setup.specs.Setup.{ServerSetup}
use Rattle.login_setup.specs.declared.users.User.{User}
use Rattle.octet_lists.specs.Among.{psk_kind, gpsk_kind, is_among}
use Rattle.eap_method.specs.declared.values.ServerSide.{ServerSide}
use Rattle.eap_method.specs.BothServers.{IsOne, both_of, is_gpsk, is_one as is_of_two, is_psk}
use Rattle.eap_method.specs.GpskServer as gpsk_server
use Rattle.eap_method.specs.Server.{Method, ServerShown, ServerViews, View, by_gpsk, by_other}
use Rattle.eap_method.specs.Server.{by_psk, gpsk, method_of, offered, psk, put}
use Rattle.eap_method.specs.Server.{server_started_in, server_turn, started_server, turned}
use Rattle.eap_method.specs.Server.{kind_of, server_kind, views_started}
use Rattle.eap_method.specs.PskServer as psk_server
use Rattle.eap_method.proofs.ServerViews.{started_method, first_method, step_method}
use Rattle.method_laws.specs.Both.{ServerHasBoth}
use Rattle.method_laws.specs.Objects.{ServerHasOwn, ServerHasMethods}

-- ---- of any methods

-- it begins with these
pub first_methods : {methods : List ℕ} {first : ServerViews} → ServerHasOwn methods first
    → ServerHasMethods methods first first
first_methods own = record { own = own; same = λ kind. refl }

some_method : (m : Method) (found : Option ServerShown) → Some m ≡ option_map method_of found
    → (s : ServerShown) × ((found ≡ Some s) × (m ≡ s.method))
some_method m None e = absurd cc
some_method m (Some s) e = (s, (refl, (let same : m ≡ s.method = cc in same)))

module _ {methods : List ℕ} {first views : ServerViews}
    (objects : ServerHasMethods methods first views) where
  -- the object with which the server began at a Type
  first_at : (kind : ℕ) (s : ServerShown) → views kind ≡ Some s
      → (was : ServerShown) × ((first kind ≡ Some was) × (s.method ≡ was.method))
  first_at kind s is = some_method s.method (first kind)
      (sym (ap (option_map method_of) is) ∙ objects.same kind)

  pub is_of_kind : (kind : ℕ) (s : ServerShown) → views kind ≡ Some s → server_kind s ≡ kind
  is_of_kind kind s is =
      let was = first_at kind s is in ap kind_of was.1.1 ∙ objects.own.at_own kind was.0 was.1.0

  -- each is of a method that the server proposes
  pub are_ordered : (kind : ℕ) (s : ServerShown) → views kind ≡ Some s
      → is_among methods (server_kind s) ≡ true
  are_ordered kind s is =
      let was = first_at kind s is in
      ap (is_among methods) (is_of_kind kind s is) ∙ objects.own.ordered kind was.0 was.1.0

  methods_put : (kind : ℕ) (s after : ServerShown) → views kind ≡ Some s → method_of after
      ≡ method_of s
      → ServerHasMethods methods first (put kind after views)
  methods_put kind s after is same = record {
    own = objects.own;
    same = λ other. elim (cases_Bool (other == kind)) [
      | inl here ↦ ap (option_map method_of) (cond-true _ _ _ here)
          ∙ (ap (λ (m : Method). Some m) same ∙ (sym (ap (option_map method_of)
          (ap views (eqb-true other kind here) ∙ is)) ∙ objects.same other))
      | inr apart ↦ ap (option_map method_of) (cond-false _ _ _ apart) ∙ objects.same other
    ];
  }

  module _ (users : List User) (id kind : ℕ) (octets : List ℕ) where
    after_found : (found : Option ServerShown) → views kind ≡ found
        → ServerHasMethods methods first (turned users id kind views octets found).after
    after_found None is = objects
    after_found (Some s) is = methods_put kind s _ is (step_method users id s octets)

    pub methods_after : ServerHasMethods methods first
        (server_turn users id kind views octets).after
    unfolding server_turn
    methods_after = after_found (views kind) refl

  module _ (own : ServerSide) (nonce : List ℕ) (kind id : ℕ) where
    pub offered_found : (found : Option ServerShown) → views kind ≡ found
        → ServerHasMethods methods first (offered own nonce kind id views found).after
    offered_found None is = objects
    offered_found (Some s) is = methods_put kind s _ is (first_method
        (started_server own nonce s) id)

found_started : (setup : ServerSetup) (found : Option ServerShown)
    → option_map method_of (option_map (server_started_in setup) found) ≡ option_map method_of found
found_started setup None = refl
found_started setup (Some s) = ap (λ (m : Method). Some m) (started_method setup s)

pub methods_started : (setup : ServerSetup) (first views : ServerViews)
    → ServerHasMethods setup.methods first views
    → ServerHasMethods setup.methods first (views_started setup views)
unfolding views_started
methods_started setup first views objects = record {
  own = objects.own;
  same = λ kind. found_started setup (views kind) ∙ objects.same kind;
}

-- ---- of the two

-- what stands at a Type is of its method
by_tests : (kind : ℕ) (named at_psk at_gpsk : Bool) (m : Method) (view : View m)
    → Some m ≡ option_map method_of (if named then (if at_psk then Some (psk psk_server.unset)
    else if at_gpsk then Some (gpsk gpsk_server.unset) else None) else None)
    → (at_psk ≡ true → kind ≡ psk_kind) → (at_gpsk ≡ true → kind ≡ gpsk_kind)
    → (let s : ServerShown = record { method = m; view = view } in IsOne kind s)
by_tests kind true true at_gpsk by_psk view e of_psk of_gpsk = is_psk (of_psk refl) view
by_tests kind true true at_gpsk by_gpsk view e of_psk of_gpsk = absurd cc
by_tests kind true true at_gpsk (by_other custom) view e of_psk of_gpsk = absurd cc
by_tests kind true false true by_psk view e of_psk of_gpsk = absurd cc
by_tests kind true false true by_gpsk view e of_psk of_gpsk = is_gpsk (of_gpsk refl) view
by_tests kind true false true (by_other custom) view e of_psk of_gpsk = absurd cc
by_tests kind true false false m view e of_psk of_gpsk = absurd cc
by_tests kind false at_psk at_gpsk m view e of_psk of_gpsk = absurd cc

kind_is : (kind : ℕ) (s : ServerShown) → IsOne kind s → server_kind s ≡ kind
kind_is kind _ (is_psk same view) = sym same
kind_is kind _ (is_gpsk same view) = sym same

two_are : (kind : ℕ) (s : ServerShown) → IsOne kind s → is_of_two s.method ≡ true
two_are kind _ (is_psk same view) = refl
two_are kind _ (is_gpsk same view) = refl

named_by : (named : Bool) (found : Option ServerShown) (m : Method)
    → Some m ≡ option_map method_of (if named then found else None) → named ≡ true
named_by true found m e = refl
named_by false found m e = absurd cc

own_one : (methods : List ℕ) (kind : ℕ) (s : ServerShown) → both_of methods kind ≡ Some s
    → IsOne kind s
own_one methods kind s is =
    by_tests kind (is_among methods kind) (kind == psk_kind) (kind == gpsk_kind) s.method s.view
    (sym (ap (option_map method_of) is)) (eqb-true kind psk_kind) (eqb-true kind gpsk_kind)

pub both_own : (methods : List ℕ) → ServerHasOwn methods (both_of methods)
both_own methods = record {
  ordered = λ kind s is. named_by (is_among methods kind) _ s.method
      (sym (ap (option_map method_of) is));
  at_own = λ kind s is. kind_is kind s (own_one methods kind s is);
}

-- what it begins with is so
pub both_are : (methods : List ℕ) → ServerHasBoth methods (both_of methods)
both_are methods = first_methods (both_own methods)

-- a method with which it begins is one of the two
pub begins_of_two : (methods : List ℕ) (kind : ℕ) (s : ServerShown)
    → option_map method_of (both_of methods kind) ≡ Some s.method → is_of_two s.method ≡ true
begins_of_two methods kind s same = two_are kind s
    (by_tests kind (is_among methods kind) (kind == psk_kind) (kind == gpsk_kind) s.method s.view
    (sym same) (eqb-true kind psk_kind) (eqb-true kind gpsk_kind))

module _ {methods : List ℕ} {views : ServerViews} (both : ServerHasBoth methods views) where
  pub is_one : (kind : ℕ) (s : ServerShown) → views kind ≡ Some s → IsOne kind s
  is_one kind s is =
      by_tests kind (is_among methods kind) (kind == psk_kind) (kind == gpsk_kind) s.method s.view
      (sym (ap (option_map method_of) is) ∙ both.same kind)
      (eqb-true kind psk_kind) (eqb-true kind gpsk_kind)

  pub is_one_of_two : (kind : ℕ) (s : ServerShown) → views kind ≡ Some s → is_of_two s.method ≡ true
  is_one_of_two kind s is = two_are kind s (is_one kind s is)

  pub is_named : (kind : ℕ) (s : ServerShown) → views kind ≡ Some s → is_among methods kind ≡ true
  is_named kind s is = named_by (is_among methods kind) _ s.method
      (sym (ap (option_map method_of) is) ∙ both.same kind)
