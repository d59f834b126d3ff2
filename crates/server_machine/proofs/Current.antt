-- What the first object of the current method shows is the method's view.
use Rattle.std.proofs.Common.{◌≡◌, ℕ, List, [], ◌∷◌, Bool, true, false, Some, refl, sym, ◌∙◌, ap}
use Rattle.std.specs.Prelude.{◌==◌, ◌||◌, if◌then◌else◌}
use Rattle.std.proofs.lemmas.Bool.{eqb-true, eqb-false}
use Rattle.octet_lists.specs.Among.{is_among}
use Rattle.eap_method.specs.Server.{ServerShown, server_kind, server_views, view_of, first_of}
use Rattle.eap_method.proofs.ServerObjects.{view_hit, view_miss}
use Rattle.eap_method.proofs.ServerViews.{view_none, not_identity}
use Rattle.server_machine.specs.ServerTable.{is_current}

-- a current method that has an object isn't Identity
is_proposed : (order : List ℕ) (s : ServerShown) → is_current order (Some (server_kind s)) ≡ true
    → is_among order (server_kind s) ≡ true
is_proposed order s current =
    ap (λ test. test || is_among order (server_kind s)) (sym (not_identity s)) ∙ current

at_object : (order : List ℕ) (kind : ℕ) (first : ServerShown) (rest : List ServerShown)
    (test : Bool) → (server_kind first == kind) ≡ test
    → is_current order (Some kind) ≡ true
    → first_of kind rest ≡ view_of (server_views order rest) kind
    → (if test then Some first else first_of kind rest)
    ≡ view_of (server_views order (first ∷ rest)) kind
at_object order kind first rest true is_kind current rests =
    let same : server_kind first ≡ kind = eqb-true _ _ is_kind in
    rw (← same) (sym (view_hit order (server_kind first) first rest refl
    (is_proposed order first (rw same current))))
at_object order kind first rest false is_kind current rests =
    rests ∙ sym (view_miss order kind first rest (eqb-false _ _ is_kind))

pub found_is_view : (order : List ℕ) (kind : ℕ) (shown : List ServerShown)
    → is_current order (Some kind) ≡ true
    → first_of kind shown ≡ view_of (server_views order shown) kind
found_is_view order kind [] current = sym (view_none order kind)
found_is_view order kind (first ∷ rest) current =
    at_object order kind first rest (server_kind first == kind) refl current
    (found_is_view order kind rest current)
