-- The book of tags, entry by entry.
use Rattle.std.proofs.Common.{◌≡◌, ℕ, ◌+◌, ◌<◌, ◌≤◌, Bool, true, false, cond, List, [], ◌∷◌, ◌++◌}
use Rattle.std.proofs.Common.{length, take, drop, get_or, None, Some, refl, ap, ◌∙◌, sym}
use Rattle.std.proofs.lemmas.List.{drop_more, take_more, drop_all}
use Rattle.tag_book.specs.declared.book.Entry.{Entry}
use Rattle.tag_book.specs.declared.book.RecordOwner.{RecordOwner}
use Rattle.tag_book.specs.Book.{is_honest, first_broken}

-- an honest entry is passed over
pub passed : (makers : RecordOwner) (earlier rest : List Entry) (e : Entry)
    → is_honest makers earlier e ≡ true → first_broken makers earlier (e ∷ rest)
    ≡ first_broken makers (earlier ++ e ∷ []) rest
unfolding first_broken
passed makers earlier rest e honest =
    ap (λ (b : Bool). cond b (first_broken makers (earlier ++ e ∷ []) rest) (Some e.event)) honest

-- an entry that isn't is the answer
pub found : (makers : RecordOwner) (earlier rest : List Entry) (e : Entry)
    → is_honest makers earlier e ≡ false → first_broken makers earlier (e ∷ rest) ≡ Some e.event
unfolding first_broken
found makers earlier rest e broken =
    ap (λ (b : Bool). cond b (first_broken makers (earlier ++ e ∷ []) rest) (Some e.event)) broken

-- the same at a place of a book
pub broken_more : (makers : RecordOwner) (book : List Entry) (i : ℕ) (e : Entry) → i < length book
    → e ≡ get_or book i e → is_honest makers (take i book) e ≡ true →
    first_broken makers (take i book) (drop i book)
    ≡ first_broken makers (take (i + 1) book) (drop (i + 1) book)
broken_more makers book i e below read honest =
    let rest : drop i book ≡ e ∷ drop (i + 1) book =
    drop_more book i e below ∙ ap (λ (x : Entry). x ∷ drop (i + 1) book) (sym read) in
    let front : take (i + 1) book ≡ take i book ++ e ∷ [] =
    take_more book i e below ∙ ap (λ (x : Entry). take i book ++ x ∷ []) (sym read) in
    rw (rest, front) (passed makers (take i book) (drop (i + 1) book) e honest)

pub broken_here : (makers : RecordOwner) (book : List Entry) (i : ℕ) (e : Entry) → i < length book
    → e ≡ get_or book i e → is_honest makers (take i book) e ≡ false →
    first_broken makers (take i book) (drop i book) ≡ Some e.event
broken_here makers book i e below read broken =
    let rest : drop i book ≡ e ∷ drop (i + 1) book =
    drop_more book i e below ∙ ap (λ (x : Entry). x ∷ drop (i + 1) book) (sym read) in
    rw rest (found makers (take i book) (drop (i + 1) book) e broken)

-- at the end each was honest
pub broken_all : (makers : RecordOwner) (book : List Entry) (i : ℕ) → length book ≤ i
    → first_broken makers (take i book) (drop i book) ≡ None
unfolding first_broken
broken_all makers book i past = rw (drop_all i book past) refl
