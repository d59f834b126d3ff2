use Rattle.eap_method.specs.Peer.{first_of}
use Rattle.std.proofs.Common.{map, ap, sym, ◌∙◌, List}
use Rattle.peer_machine.proofs.Selected.{selected_is_view}
use Rattle.peer_machine.proofs.machine.PeerMachine.selected.Goals as goal

pub returns-in-Some-clause-view : goal.returns-in-Some-clause-view
returns-in-Some-clause-view g c = λ shown found.
    let views = g.M.PeerMethod.peer_shown in
    let listed = ap (λ (items : List _). first_of c.in-Some.kind (map views items))
    (sym c.as_slice.ensures.value) in
    rw (← c.self.view_is)
    (selected_is_view c.self.inside.vars c.in-Some.kind (map views c.self.inside.methods.items)
    shown c.self.invariant.selected c.in-Some.is (listed ∙ (sym c.find_peer.ensures ∙ found)))
