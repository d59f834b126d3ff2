-- The fields before the Type-Data are those of the packet with this many octets of it.
use Rattle.std.proofs.Common.{List, ℕ, [], ◌∷◌, ◌++◌, ap, ◌∙◌}
use Rattle.eap_packet.proofs.IsEncodingOf.{encoding_from_front}
use Rattle.eap_packet.proofs.packet.init_into.Goals as goal

pub returns-clause-spells : goal.returns-clause-spells
returns-clause-spells c body size =
    let a = c.args in
    ap (λ (front : List ℕ). front ++ body) (c.put.ensures
    ∙ ap (λ (front : List ℕ). front ++ a.kind ∷ []) (c.set.ensures ∙ c.header.ensures))
    ∙ encoding_from_front a.code a.id a.kind a.size body c.requires.typed size
