use Rattle.std.proofs.Common.{◌∙◌, sym}
use Rattle.own_proof.proofs.Unmade.{none_unmade}
use Rattle.own_proof.proofs.ends.first_unmade.Goals as goal

pub returns-clause-honest : goal.returns-clause-honest
returns-clause-honest c none = none_unmade _ _ _ (sym c.place_of.ensures ∙ none)
