-- The objects of the methods that an end doesn't name stay, whichever of the others begins or has a
-- turn.
use Rattle.std.proofs.Common.{◌≡◌, ℕ, List, [], ◌∷◌, Bool, true, false, cond, not, map, inl, inr}
use Rattle.std.proofs.Common.{refl, sym, ◌∙◌, ap}
use Rattle.std.proofs.lemmas.Bool.{cases_Bool}
use Rattle.std.specs.List.{filter}
use Rattle.login_setup.specs.declared.setup.PeerSetup.{PeerSetup}
use Rattle.login_setup.specs.Setup.{ServerSetup}
use Rattle.octet_lists.specs.Among.{is_among}
use Rattle.eap_method.specs.Peer.{PeerShown, peer_kind, peer_started_in}
use Rattle.eap_method.specs.Server.{ServerShown, server_kind, server_started_in}
use Rattle.eap_method.specs.Unnamed.{peers_unnamed, servers_unnamed}
use Rattle.eap_method.proofs.PeerViews as peer
use Rattle.eap_method.proofs.ServerViews as server

-- one more element before two lists of which the same is left
one_more : {X : Type 0} (passes : Bool) (x : X) (after before : List X) → after ≡ before
    → cond passes (x ∷ after) after ≡ cond passes (x ∷ before) before
one_more true x after before same = ap (λ xs. x ∷ xs) same
one_more false x after before same = same

-- the first object is the one that is called
pub peer_hit : (named : List ℕ) (kind : ℕ) (s after : PeerShown) (rest : List PeerShown)
    → peer_kind after ≡ peer_kind s → peer_kind s ≡ kind
    → is_among named kind ≡ true → peers_unnamed named (after ∷ rest)
    ≡ peers_unnamed named (s ∷ rest)
unfolding peers_unnamed
peer_hit named kind s after rest same is is_named = rw (same, is, is_named) refl

pub server_hit : (named : List ℕ) (kind : ℕ) (s after : ServerShown) (rest : List ServerShown)
    → server_kind after ≡ server_kind s → server_kind s ≡ kind
    → is_among named kind ≡ true → servers_unnamed named (after ∷ rest)
    ≡ servers_unnamed named (s ∷ rest)
unfolding servers_unnamed
server_hit named kind s after rest same is is_named = rw (same, is, is_named) refl

-- the first object isn't
pub peer_miss : (named : List ℕ) (s : PeerShown) (rest after : List PeerShown)
    → peers_unnamed named after ≡ peers_unnamed named rest
    → peers_unnamed named (s ∷ after) ≡ peers_unnamed named (s ∷ rest)
unfolding peers_unnamed
peer_miss named s rest after same =
    let test : PeerShown → Bool = λ s. not (is_among named (peer_kind s)) in
    one_more (test s) s (filter test after) (filter test rest) same

pub server_miss : (named : List ℕ) (s : ServerShown) (rest after : List ServerShown)
    → servers_unnamed named after ≡ servers_unnamed named rest
    → servers_unnamed named (s ∷ after) ≡ servers_unnamed named (s ∷ rest)
unfolding servers_unnamed
server_miss named s rest after same =
    let test : ServerShown → Bool = λ s. not (is_among named (server_kind s)) in
    one_more (test s) s (filter test after) (filter test rest) same

-- each object of a method that is named begins
pub peers_started : (setup : PeerSetup) (shown : List PeerShown)
    → peers_unnamed setup.methods (map (peer_started_in setup) shown)
    ≡ peers_unnamed setup.methods shown
peers_started setup [] = refl
peers_started setup (s ∷ rest) =
    let after = map (peer_started_in setup) rest in
    elim (cases_Bool (is_among setup.methods (peer_kind s))) [
      | inl is ↦ peer_hit setup.methods (peer_kind s) s (peer_started_in setup s) after
          (peer.begun_kind setup s) refl is
      | inr is ↦ ap (λ s. peers_unnamed setup.methods (s ∷ after)) (sym (peer.stays setup s is))
    ]
    ∙ peer_miss setup.methods s rest after (peers_started setup rest)

pub servers_started : (setup : ServerSetup) (shown : List ServerShown)
    → servers_unnamed setup.methods (map (server_started_in setup) shown)
    ≡ servers_unnamed setup.methods shown
servers_started setup [] = refl
servers_started setup (s ∷ rest) =
    let after = map (server_started_in setup) rest in
    elim (cases_Bool (is_among setup.methods (server_kind s))) [
      | inl is ↦ server_hit setup.methods (server_kind s) s (server_started_in setup s) after
          (server.begun_kind setup s) refl is
      | inr is ↦ ap (λ s. servers_unnamed setup.methods (s ∷ after)) (sym (server.stays setup s is))
    ]
    ∙ server_miss setup.methods s rest after (servers_started setup rest)
