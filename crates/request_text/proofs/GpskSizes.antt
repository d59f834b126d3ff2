-- The sizes that the table gives the fields of a request for the keys of EAP-GPSK.
use Rattle.std.proofs.Common.{ℕ, List}
use Rattle.text_tables.specs.IsValidRow.{IsValidRow}
use Rattle.request_text.specs.Keys.{row_of, asked_of, HasSizes}
use Rattle.request_text.specs.declared.key_line.Request.{Request}
use Rattle.request_text.specs.declared.key_line.Request.TheVariants as request

pub asked_of_sizes : (r : Request) (ws : List (List ℕ)) → IsValidRow (row_of r) ws
    → HasSizes (asked_of r ws)
unfolding asked_of
asked_of_sizes request.Gpsk ws h = record {
  psk_low = h.fields.1.0.least;
  psk_high = h.fields.1.0.most;
  idp_high = h.fields.1.1.1.0.most;
  ids_high = h.fields.1.1.1.1.1.0.most;
}
asked_of_sizes other ws h = tt
