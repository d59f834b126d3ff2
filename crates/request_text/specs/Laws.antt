-- What the readers of lines promise, over their tables alone.
use Rattle.std.specs.Prelude.{◌≡◌, ℕ, List, false, Some, unwrap_or}
use Rattle.text_tables.specs.Words.{words, is_passed_over}
use Rattle.text_tables.specs.Rows.{keyword_in}
use Rattle.text_tables.specs.Laws.{Judges}
use Rattle.text_tables.specs.Texts.{AreJudged}
use Rattle.request_text.specs.Captures as captures
use Rattle.request_text.specs.Keys.{row_of, requests, asked_of, has_fault, key_line}
use Rattle.request_text.specs.Radius as radius
use Rattle.request_text.specs.declared.key_line.Request.TheVariants as request

-- a request for a cipher, a MAC or keys is judged by its words alone
abbrev pub RequestsAreJudged : Type 0
RequestsAreJudged =
    (line : List ℕ) → is_passed_over line ≡ false →
    Judges (key_line line) (has_fault line) (Some
    (asked_of (unwrap_or (keyword_in row_of requests (words line)) request.Name) (words line)))

-- a line of a capture by its words and its place
abbrev pub CapturesAreJudged : Type 0
CapturesAreJudged = AreJudged captures.row_of captures.capture

-- the same of a line of a text of RADIUS packets
abbrev pub RadiusLinesAreJudged : Type 0
RadiusLinesAreJudged = AreJudged radius.row_of radius.radius
