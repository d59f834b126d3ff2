-- The book of tags: which tags each end made and accepted, in their order, and whether each
-- accepted tag was made earlier: by the other end, or by either.
use Rattle.std.specs.Prelude.{ℕ, List, [], ◌∷◌, ◌++◌, Bool, true, false, ◌&&◌, not}
use Rattle.std.specs.Prelude.{if◌then◌else◌, Option, Some, None, map}
use Rattle.std.specs.List.{list_any}
use Rattle.eap_method.specs.declared.tags.TagRecord.{TagRecord}
use Rattle.eap_method.specs.Tags.{Tags, is_under, same_tag}
use Rattle.tag_book.specs.declared.book.End.{End}
use Rattle.tag_book.specs.declared.book.End.TheVariants.{Peer, Server}
use Rattle.tag_book.specs.declared.book.Use.{Use}
use Rattle.tag_book.specs.declared.book.Use.TheVariants.{Accepted, Made}
use Rattle.tag_book.specs.declared.book.Entry.{Entry}
use Rattle.tag_book.specs.declared.book.RecordOwner.{RecordOwner}
use Rattle.tag_book.specs.declared.book.RecordOwner.TheVariants.{Other, Either}
use Rattle.tag_book.specs.declared.book.TagsVerdict.{TagsVerdict}
use Rattle.tag_book.specs.declared.book.TagsVerdict.TheVariants.{Honest, Broken}

abbrev pub entry : ℕ → End → Use → TagRecord → Entry
entry event end how tag = record { event = event; end = end; used = how; tag = tag }

-- the entries of an event: the accepted tags before those made
abbrev pub entries_of : ℕ → End → Tags → List Entry
entries_of event end tags =
    map (entry event end Accepted) tags.accepted ++ map (entry event end Made) tags.made

-- whether two ends are the same
abbrev pub same_end : End → End → Bool
same_end Peer Peer = true
same_end Peer Server = false
same_end Server Peer = false
same_end Server Server = true

abbrev pub is_accepted : Entry → Bool
is_accepted e = elim e.used [ Accepted ↦ true | Made ↦ false ]

-- whether a tag that the one end made vouches for one that the other accepted
abbrev pub may_make : RecordOwner → End → End → Bool
may_make Other made accepted = not (same_end made accepted)
may_make Either made accepted = true

-- whether an entry is that of the same tag, made by such an end
abbrev pub vouches : RecordOwner → Entry → Entry → Bool
vouches makers accepted made = not (is_accepted
    made) && (may_make makers made.end accepted.end && same_tag made.tag accepted.tag)

-- whether an entry is no accepted tag, or one that such an end made earlier
abbrev pub is_honest : RecordOwner → List Entry → Entry → Bool
is_honest makers earlier e = if is_accepted e then list_any (vouches makers e) earlier else true

-- the event of the first accepted tag which no such end made earlier
unfoldable pub first_broken : RecordOwner → List Entry → List Entry → Option ℕ
first_broken makers earlier [] = None
first_broken makers earlier (e ∷ rest) = if is_honest makers earlier e
    then first_broken makers (earlier ++ e ∷ []) rest else Some e.event

abbrev pub verdict_on : Option ℕ → TagsVerdict
verdict_on None = Honest
verdict_on (Some event) = Broken event

-- whether each accepted tag was made earlier by the other end
abbrev pub tags_verdict : List Entry → TagsVerdict
tags_verdict book = verdict_on (first_broken Other [] book)

-- whether each accepted tag was made earlier by either end: also by the one that accepts it, to
-- which it came back
abbrev pub tags_verdict_either : List Entry → TagsVerdict
tags_verdict_either book = verdict_on (first_broken Either [] book)

-- the entries of a book whose tags are under this shared key
unfoldable pub under : List ℕ → List Entry → List Entry
under key [] = []
under key (e ∷ rest) = if is_under key e.tag then e ∷ under key rest else under key rest
