-- What a tag, that is right or not, tells and begins.
use Rattle.std.specs.Prelude.{ℕ, List, Bool, if◌then◌else◌, Result, Ok, Err}
use Rattle.capture_check.specs.declared.finding.Finding.{Finding}
use Rattle.capture_check.specs.declared.finding.Finding.TheVariants.{TagBad, TagGood}

-- the finding of a tag under the key of the user of this name
abbrev pub tag_finding : List ℕ → Bool → Finding
tag_finding name right = if right then TagGood name else TagBad

-- a login, if the tag that begins it is right
abbrev pub if_right : {L : Type 0} → Bool → L → Result L Finding
if_right right login = if right then Ok login else Err TagBad
