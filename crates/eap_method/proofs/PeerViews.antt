-- The views of a peer's objects, in their order: the first of a method decides its turn and its
-- report.
use Rattle.std.proofs.Common.{◌≡◌, ℕ, List, [], ◌∷◌, true, false, Option, None, inl, inr, map, refl}
use Rattle.std.proofs.Common.{sym, ap}
use Rattle.std.specs.Prelude.{◌==◌, option_map}
use Rattle.std.proofs.Math.Path.{fun_ext}
use Rattle.std.proofs.lemmas.Bool.{cases_Bool, cond_both}
use Rattle.login_setup.specs.declared.setup.PeerSetup.{PeerSetup}
use Rattle.octet_lists.specs.Among.{is_among}
use Rattle.eap_packet.specs.declared.cause.Cause.TheVariants.{WrongOp}
use Rattle.eap_method.specs.Peer.{Method, by_psk, by_gpsk, by_other, View, step, kind_of, method_of}
use Rattle.eap_method.specs.Peer.{PeerShown, peer_kind, peer_step, peer_turn, peer_report_of}
use Rattle.eap_method.specs.Peer.{peer_views, first_of, turned, reported, started_peer}
use Rattle.eap_method.specs.Peer.{peer_started_in, views_started, credential_for}
use Rattle.eap_method.specs.Turns.{discarded}
use Rattle.eap_method.proofs.Discards.{PeerPreserves}
use Rattle.eap_method.proofs.PskDiscards as psk_discards
use Rattle.eap_method.proofs.GpskDiscards as gpsk_discards

-- ---- an object

pub step_method : (s : PeerShown) (octets : List ℕ) → method_of (peer_step s octets).after
    ≡ method_of s
unfolding peer_step
step_method s octets = refl

preserves_of : (m : Method) (view : View m) (octets : List ℕ)
    → PeerPreserves view (step m view octets)
preserves_of by_psk view octets = psk_discards.peer_preserves view octets
preserves_of by_gpsk view octets = gpsk_discards.peer_preserves view octets
preserves_of (by_other custom) view octets = record { keeps = custom.discards view octets }

pub step_keeps : (s : PeerShown) (octets : List ℕ) → PeerPreserves s (peer_step s octets)
unfolding peer_step
step_keeps s octets =
    record {
      keeps = λ cause is_discard. ap (λ (view : View s.method).
          (let made : PeerShown = record { method = s.method; view = view } in made))
          ((preserves_of s.method s.view octets).keeps cause is_discard);
    }

-- one whose method is allowed begins, any other stays
pub begins : (setup : PeerSetup) (s : PeerShown) → is_among setup.methods (peer_kind s) ≡ true
    → started_peer (credential_for setup (peer_kind s)) setup.nonce s ≡ peer_started_in setup s
unfolding peer_started_in
begins setup s is_allowed = rw is_allowed refl

pub stays : (setup : PeerSetup) (s : PeerShown) → is_among setup.methods (peer_kind s) ≡ false
    → s ≡ peer_started_in setup s
unfolding peer_started_in
stays setup s is_other = rw is_other refl

pub started_method : (setup : PeerSetup) (s : PeerShown) → method_of (peer_started_in setup s)
    ≡ method_of s
unfolding peer_started_in
started_method setup s = cond_both (is_among setup.methods (peer_kind s)) _ _
    (λ (t : PeerShown). method_of t ≡ method_of s) (λ _. refl) (λ _. refl)

pub begun_kind : (setup : PeerSetup) (s : PeerShown) → peer_kind (peer_started_in setup s)
    ≡ peer_kind s
begun_kind setup s = ap kind_of (started_method setup s)

-- ---- the views of a list

-- without an object a Request is discarded, and there is no report
none_there : (allowed : List ℕ) (kind : ℕ) → peer_views allowed [] kind ≡ None
unfolding peer_views
none_there allowed kind = cond_both (is_among allowed kind) _ _
    (λ (found : Option PeerShown). found ≡ None) (λ _. refl) (λ _. refl)

pub turn_none : (allowed octets : List ℕ) (kind : ℕ) → peer_turn kind (peer_views allowed []) octets
    ≡ discarded (peer_views allowed []) WrongOp
unfolding peer_turn
turn_none allowed octets kind =
    ap (turned kind (peer_views allowed []) octets) (none_there allowed kind)

pub report_none : (allowed : List ℕ) (kind : ℕ) → None ≡ peer_report_of kind (peer_views allowed [])
unfolding peer_report_of
report_none allowed kind = ap reported (sym (none_there allowed kind))

-- those of a peer that begins are those of the objects that have begun
found_started : (setup : PeerSetup) (kind : ℕ) (shown : List PeerShown)
    → first_of kind (map (peer_started_in setup) shown)
    ≡ option_map (peer_started_in setup) (first_of kind shown)
found_started setup kind [] = refl
found_started setup kind (s ∷ rest) =
    let rests = found_started setup kind rest in
    elim (cases_Bool (peer_kind s == kind)) [
      | inl is ↦ rw (begun_kind setup s, is) refl
      | inr is ↦ rw (begun_kind setup s, is) rests
    ]

pub started_views : (setup : PeerSetup) (shown : List PeerShown)
    → peer_views setup.methods (map (peer_started_in setup) shown)
    ≡ views_started setup (peer_views setup.methods shown)
unfolding peer_views views_started
started_views setup shown =
    fun_ext (λ kind. elim (cases_Bool (is_among setup.methods kind)) [
      | inl is ↦ rw is (found_started setup kind shown)
      | inr is ↦ rw is refl
    ])
