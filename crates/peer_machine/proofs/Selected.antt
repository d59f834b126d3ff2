-- What the first object of a method shows is the method's view.
use Rattle.std.proofs.Common.{◌≡◌, ℕ, List, true, Some, ◌∙◌}
use Rattle.std.proofs.lemmas.Bool.{cond-true}
use Rattle.octet_lists.specs.Among.{is_among}
use Rattle.eap_method.specs.Peer.{PeerShown, peer_views, view_of, first_of}
use Rattle.peer_machine.specs.PeerTable.{selected_view, is_allowed}
use Rattle.peer_machine.specs.declared.variables.PeerVariables.{PeerVariables}

-- at a method that the peer allows
found_is_view : (allowed : List ℕ) (kind : ℕ) (shown : List PeerShown) (s : PeerShown)
    → is_among allowed kind ≡ true → first_of kind shown ≡ Some s
    → view_of (peer_views allowed shown) kind ≡ Some s
unfolding peer_views
found_is_view allowed kind shown s is_allowed found = cond-true _ _ _ is_allowed ∙ found

-- at the selected method
pub selected_is_view : (vars : PeerVariables) (kind : ℕ) (shown : List PeerShown) (s : PeerShown)
    → is_allowed vars.setup.methods vars.selected ≡ true
    → vars.selected ≡ Some kind → first_of kind shown ≡ Some s
    → selected_view (record { vars = vars; views = peer_views vars.setup.methods shown }) ≡ Some s
selected_is_view vars kind shown s allowed selects found =
    rw selects (found_is_view vars.setup.methods kind shown s (rw selects at allowed) found)
