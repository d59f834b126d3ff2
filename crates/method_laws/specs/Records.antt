-- The tags of each end, selected from the book in their order.
use Rattle.std.specs.Prelude.{◌≡◌, ◌≤◌, ◌⊎◌, ℕ, List, [], ◌∷◌, length, filter, Bool, true, false}
use Rattle.std.specs.Prelude.{◌&&◌, nat_lt, if◌then◌else◌}
use Rattle.eap_method.specs.declared.tags.TagRecord.{TagRecord}
use Rattle.tag_book.specs.Book.{same_end}
use Rattle.tag_book.specs.declared.book.End.{End}
use Rattle.tag_book.specs.declared.book.Use.{Use}
use Rattle.tag_book.specs.declared.book.Use.TheVariants.{Accepted, Made}
use Rattle.tag_book.specs.declared.book.Entry.{Entry}

abbrev pub same_use : Use → Use → Bool
same_use Accepted Accepted = true
same_use Accepted Made = false
same_use Made Accepted = false
same_use Made Made = true

-- the tags that an end accepted, or made
unfoldable pub tags_by : End → Use → List Entry → List TagRecord
tags_by end how [] = []
tags_by end how (e ∷ rest) = if same_end e.end end && same_use e.used how
    then e.tag ∷ tags_by end how rest else tags_by end how rest

-- the entries of events after this one
abbrev pub is_after : ℕ → Entry → Bool
is_after event e = nat_lt event e.event

abbrev pub since : ℕ → List Entry → List Entry
since event book = filter (is_after event) book

-- a record is among these
pub data IsIn (tag : TagRecord) : List TagRecord → Type 0 where
  here : (rest : List TagRecord) → IsIn tag (tag ∷ rest)
  later : (other : TagRecord) (rest : List TagRecord) → IsIn tag rest → IsIn tag (other ∷ rest)

-- each tag that an end accepted is among those that the other made, or among its own
pub record AreInEither (accepted others own : List TagRecord) : Type 0 where
  pub each : (tag : TagRecord) → IsIn tag accepted → IsIn tag others ⊎ IsIn tag own

-- the first tag that an end accepted is among those that the other made, or among its own
pub record FirstInEither (accepted others own : List TagRecord) : Type 0 where
  pub is : (tag : TagRecord) (rest : List TagRecord) → accepted ≡ tag ∷ rest
      → IsIn tag others ⊎ IsIn tag own

-- at most two accepted and two made
pub record AreFew (accepted made : List TagRecord) : Type 0 where
  pub few_accepted : length accepted ≤ 2
  pub few_produced : length made ≤ 2

-- no tag at all
pub data AreNone : List TagRecord → List TagRecord → Type 0 where
  untagged : AreNone [] []
