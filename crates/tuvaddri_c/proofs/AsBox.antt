-- A session's box, as the proofs of boxes take it.
use mir.Syntax.{impl, tnil, dnil}
use mathlib.Core.List.{[]}
use denote.Signature.{Slot, plain}
use Rattle.std_alloc.proofs.BoxSteps.Form.{Bx}
use Rattle.std.specs.contracts.alloc.Global as heap
use Rattle.std.specs.contracts.impls.GlobalAllocator.TheImpl.{ghosts, dict}
use Rattle.std.proofs.alloc.Global.TheLaws as heap_laws
use Rattle.tuvaddri_c.specs.contracts.session.Session as session
use Rattle.tuvaddri_c.proofs.session.Session.TheLaws as session_laws
use Rattle.tuvaddri_c.specs.contracts.parts.Parts as parts

abbrev pub E : Bx
E = record {
  row = session.the_row;
  laws = session_laws.the_row_laws;
  al = record {
    row = heap.the_row;
    laws = heap_laws.the_row_laws;
    g = ghosts;
    d = dict;
    drops = impl [] tnil dnil;
  };
}

abbrev pub From : Slot 0
From = plain (λ _. parts.the_row session.the_row heap.the_row ghosts)
