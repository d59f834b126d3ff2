-- The views of a server by Type: what each object does and keeps.
use Rattle.std.proofs.Common.{◌≡◌, ℕ, List, [], ◌∷◌, true, false, Option, None, inl, inr, map, refl}
use Rattle.std.proofs.Common.{ap, ◌∙◌}
use Rattle.std.proofs.Math.Path.{fun_ext}
use Rattle.std.specs.Prelude.{◌==◌, option_map}
use Rattle.std.proofs.lemmas.Bool.{cases_Bool, cond_both}
use Rattle.login_setup.specs.Setup.{ServerSetup}
use Rattle.login_setup.specs.declared.users.User.{User}
use Rattle.octet_lists.specs.Among.{identity_kind, is_among}
use Rattle.eap_method.specs.declared.values.ServerSide.{ServerSide}
use Rattle.eap_method.specs.Server.{Method, by_psk, by_gpsk, by_other, View, kind_of, method_of}
use Rattle.eap_method.specs.Server.{fresh, is_initiated, step, ServerShown, first_of, server_kind}
use Rattle.eap_method.specs.Server.{started_server, has_initiated, server_started_in}
use Rattle.eap_method.specs.Server.{server_first_step, server_step, server_views, views_started}
use Rattle.eap_method.specs.Server.{side_of}
use Rattle.eap_method.proofs.Discards.{ServerPreserves}
use Rattle.eap_method.proofs.PskDiscards as psk_discards
use Rattle.eap_method.proofs.GpskDiscards as gpsk_discards

-- ---- an object

no_identity : (m : Method) → (kind_of m == identity_kind) ≡ false
no_identity by_psk = refl
no_identity by_gpsk = refl
no_identity (by_other custom) = custom.no_identity

pub not_identity : (s : ServerShown) → (server_kind s == identity_kind) ≡ false
not_identity s = no_identity s.method

-- one that has begun may make its first Request
initiates : (m : Method) (own : ServerSide) (nonce : List ℕ)
    → is_initiated m (fresh m own nonce) ≡ true
initiates by_psk own nonce = refl
initiates by_gpsk own nonce = refl
initiates (by_other custom) own nonce = custom.initiates own nonce

pub begun_initiates : (m : Method) (own : ServerSide) (nonce : List ℕ) (s : ServerShown)
    → s ≡ record { method = m; view = fresh m own nonce } → has_initiated s ≡ true
begun_initiates m own nonce s is = ap has_initiated is ∙ initiates m own nonce

pub step_method : (users : List User) (next_id : ℕ) (s : ServerShown) (octets : List ℕ)
    → method_of (server_step users next_id s octets).after ≡ method_of s
unfolding server_step
step_method users next_id s octets = refl

preserves_of : (users : List User) (next_id : ℕ) (m : Method) (view : View m) (octets : List ℕ)
    → ServerPreserves view (step users next_id m view octets)
preserves_of users next_id by_psk view octets =
    psk_discards.server_preserves users next_id view octets
preserves_of users next_id by_gpsk view octets =
    gpsk_discards.server_preserves users next_id view octets
preserves_of users next_id (by_other custom) view octets =
    record { keeps = custom.discards users next_id view octets }

pub step_keeps : (users : List User) (next_id : ℕ) (s : ServerShown) (octets : List ℕ)
    → ServerPreserves s (server_step users next_id s octets)
unfolding server_step
step_keeps users next_id s octets =
    record {
      keeps = λ cause is_discard. ap (λ (view : View s.method).
          (let made : ServerShown = record { method = s.method; view = view } in made))
          ((preserves_of users next_id s.method s.view octets).keeps cause is_discard);
    }

pub first_method : (s : ServerShown) (id : ℕ) → method_of (server_first_step s id).after
    ≡ method_of s
unfolding server_first_step
first_method s id = refl

-- one whose method is proposed begins, any other stays
pub begins : (setup : ServerSetup) (s : ServerShown) → is_among setup.methods (server_kind s) ≡ true
    → started_server (side_of setup) setup.nonce s ≡ server_started_in setup s
unfolding server_started_in
begins setup s is_proposed = rw is_proposed refl

pub stays : (setup : ServerSetup) (s : ServerShown) → is_among setup.methods (server_kind s) ≡ false
    → s ≡ server_started_in setup s
unfolding server_started_in
stays setup s is_other = rw is_other refl

pub started_method : (setup : ServerSetup) (s : ServerShown) → method_of (server_started_in setup s)
    ≡ method_of s
unfolding server_started_in
started_method setup s = cond_both (is_among setup.methods (server_kind s)) _ _
    (λ (t : ServerShown). method_of t ≡ method_of s) (λ _. refl) (λ _. refl)

pub begun_kind : (setup : ServerSetup) (s : ServerShown) → server_kind (server_started_in setup s)
    ≡ server_kind s
begun_kind setup s = ap kind_of (started_method setup s)

-- ---- the views of a list

pub view_none : (order : List ℕ) (kind : ℕ) → server_views order [] kind ≡ None
unfolding server_views
view_none order kind = cond_both (is_among order kind) _ _
    (λ (found : Option ServerShown). found ≡ None) (λ _. refl) (λ _. refl)

found_started : (setup : ServerSetup) (kind : ℕ) (shown : List ServerShown)
    → first_of kind (map (server_started_in setup) shown)
    ≡ option_map (server_started_in setup) (first_of kind shown)
found_started setup kind [] = refl
found_started setup kind (s ∷ rest) =
    let rests = found_started setup kind rest in
    elim (cases_Bool (server_kind s == kind)) [
      | inl is ↦ rw (begun_kind setup s, is) refl
      | inr is ↦ rw (begun_kind setup s, is) rests
    ]

pub started_views : (setup : ServerSetup) (shown : List ServerShown)
    → server_views setup.methods (map (server_started_in setup) shown)
    ≡ views_started setup (server_views setup.methods shown)
unfolding server_views views_started
started_views setup shown =
    fun_ext (λ kind. elim (cases_Bool (is_among setup.methods kind)) [
      | inl is ↦ rw is (found_started setup kind shown)
      | inr is ↦ rw is refl
    ])
