-- How a run ends after a part of its text has been written.
use Rattle.std.proofs.Common.{◌≡◌, ℕ, List, [], ◌++◌, Option, refl, sym, ◌∙◌, ap, subst}
use Rattle.std.proofs.Common.{append_assoc, arith}
use Rattle.octet_io.specs.Known.{append_known}
use Rattle.octet_io.specs.Shown.{Shown}
use Rattle.answer_text.specs.Writes.{WritesFront}
use Rattle.answer_text.proofs.Fronts.{append_known_append, append_known_nil}
use Rattle.command_driver.specs.declared.status.Status.{Status}
use Rattle.command_driver.specs.Answers.{Answer, after_text, Ends, entire, cut_short, KeepsWrites}
use Rattle.command_driver.specs.Answers.{Finishes}

-- a text after what was written
pub front_after : (before mid now : Option (List ℕ)) (front text : List ℕ)
    → append_known before front ≡ mid
    → WritesFront mid now text → WritesFront before now (front ++ text)
front_after before mid now front text e w = record {
  front = front ++ w.front;
  rest = w.rest;
  split = ap (λ t. front ++ t) w.split ∙ sym (append_assoc front w.front w.rest);
  appended =
      append_known_append before front w.front ∙ ap (λ k. append_known k w.front) e ∙ w.appended;
}

pub ends_after : (s : Status) (before mid now : Option (List ℕ)) (front : List ℕ) (a : Answer)
    → append_known before front ≡ mid
    → Ends s mid now a → Ends s before now (after_text front a)
ends_after s before mid now front a e (entire text is) =
    entire (append_known_append before front a.text ∙ ap (λ k. append_known k a.text) e ∙ text) is
ends_after s before mid now front a e (cut_short why w) =
    cut_short why (front_after before mid now front a.text e w)

-- the count of failed writes
pub preserves_writes_from : (s : Status) (before mid now : ℕ) → mid ≡ before → KeepsWrites s mid now
    → KeepsWrites s before now
preserves_writes_from s before mid now e h = λ other. h other ∙ e

pub finishes_after : {S : Type 0} (shown : Shown S) (result : Status) (before mid now : S)
    (front : List ℕ) (a : Answer)
    → append_known (shown.octets before) front ≡ shown.octets mid
    → shown.faults mid ≡ shown.faults before
    → Finishes shown result mid now a → Finishes shown result before now (after_text front a)
finishes_after shown result before mid now front a e f w = record {
  ends = ends_after result (shown.octets before) (shown.octets mid) (shown.octets now)
      front a e w.ends;
  written_only = w.written_only;
  counted = λ is h. w.counted is (omega arith);
  uncounted = preserves_writes_from result (shown.faults before) (shown.faults mid)
      (shown.faults now) f w.uncounted;
  never_falls = omega arith;
}

-- the same answer
pub ends_same : (s : Status) (before now : Option (List ℕ)) (a b : Answer) → a ≡ b
    → Ends s before now b → Ends s before now a
ends_same s before now a b e w = subst (λ x. Ends s before now x) (sym e) w

pub front_same : (before now : Option (List ℕ)) (a b : Answer) → a ≡ b
    → WritesFront before now a.text → WritesFront before now b.text
front_same before now a b e w = subst (λ (x : Answer). WritesFront before now x.text) e w

-- what was written is a front of the whole answer, and the rest of it is another answer
pub record Progress (before now : Option (List ℕ)) (total rest : Answer) : Type 0 where
  pub front : List ℕ
  pub split : total ≡ after_text front rest
  pub appended : append_known before front ≡ now

pub ends_progress : (s : Status) (before mid now : Option (List ℕ)) (total rest : Answer)
    → Progress before mid total rest
    → Ends s mid now rest → Ends s before now total
ends_progress s before mid now total rest p w =
    ends_same s before now total (after_text p.front rest) p.split
    (ends_after s before mid now p.front rest p.appended w)

pub front_progress : (before mid now : Option (List ℕ)) (total rest : Answer)
    → Progress before mid total rest
    → WritesFront mid now rest.text → WritesFront before now total.text
front_progress before mid now total rest p w =
    subst (λ (x : Answer). WritesFront before now x.text) (sym p.split)
    (front_after before mid now p.front rest.text p.appended w)

-- nothing more of a text is written
pub front_none : (now : Option (List ℕ)) (text : List ℕ) → WritesFront now now text
front_none now text =
    record { front = []; rest = text; split = refl; appended = append_known_nil now }

-- a front of the first part of a text
pub front_first : (before now : Option (List ℕ)) (first second : List ℕ)
    → WritesFront before now first → WritesFront before now (first ++ second)
front_first before now first second w = record {
  front = w.front;
  rest = w.rest ++ second;
  split = ap (λ t. t ++ second) w.split ∙ append_assoc w.front w.rest second;
  appended = w.appended;
}
