-- A command on its way through lines.
use Rattle.std.proofs.Common.{◌≡◌, ℕ, ◌+◌, List, ◌++◌, Bool, true, false, ◌||◌, Option, Some, None}
use Rattle.std.proofs.Common.{refl, sym, ◌∙◌, ap, subst, append_assoc}
use Rattle.std.specs.Prelude.{option_map}
use Rattle.octet_io.specs.Known.{append_known}
use Rattle.octet_io.specs.Lines.{Lines, ended, too_long, too_much, line}
use Rattle.answer_text.specs.Writes.{WritesFront}
use Rattle.answer_text.proofs.Fronts.{append_known_append}
use Rattle.command_driver.specs.declared.status.Status.{Status}
use Rattle.command_driver.specs.Answers.{after_text, refusal, overlong, Ends}
use Rattle.command_driver.specs.Commands.{LineResult, Closing, after_ruling, lacking_after}
use Rattle.command_driver.specs.Commands.{closing_answer, answer, lacking, HasContinued, Stops}
use Rattle.command_driver.proofs.Endings.{Progress, ends_progress, front_progress, front_none}
use Rattle.command_driver.proofs.Endings.{front_first, ends_after}

-- an option that is made of another
pub record Made {A B : Type 0} (f : A → B) (o : Option A) (y : B) : Type 0 where
  pub from : A
  pub is : o ≡ Some from
  pub value : y ≡ f from

pub made : {A B : Type 0} (f : A → B) (o : Option A) (y : B) → Some y ≡ option_map f o → Made f o y
made f None y e = absurd cc
made f (Some x) y e = record { from = x; is = refl; value = cc }

or_true : (b : Bool) → (b || true) ≡ true
or_true true = refl
or_true false = refl

module _ {C : Type 0} (took : C → List ℕ → LineResult C) (closing : C → Closing)
    (lacks : C → List ℕ → Bool) where
  answer_line : (n : ℕ) (c : C) (l : List ℕ) (rest : Lines)
      → answer took closing n c (line l rest)
      ≡ after_text (took c l).text
      (after_ruling (n + 1) (took c l).ruling (answer took closing (n + 1) (took c l).after rest))
  unfolding answer
  answer_line n c l rest = refl

  answer_ended : (n : ℕ) (c : C)
      → answer took closing n c ended ≡ closing_answer (n + 1) (closing c)
  unfolding answer
  answer_ended n c = refl

  answer_too_long : (n : ℕ) (c : C) → answer took closing n c too_long ≡ overlong (n + 1)
  unfolding answer
  answer_too_long n c = refl

  answer_too_much : (n : ℕ) (c : C) → answer took closing n c too_much ≡ overlong (n + 1)
  unfolding answer
  answer_too_much n c = refl

  lacking_line : (c : C) (l : List ℕ) (rest : Lines)
      → lacking took lacks c (line l rest)
      ≡ (lacks c l || lacking_after (took c l).ruling (lacking took lacks (took c l).after rest))
  unfolding lacking
  lacking_line c l rest = refl

  -- after n lines the command is at the rest of the lines
  pub record Driving (before now : Option (List ℕ)) (begun : C) (all : Lines) (n : ℕ) (c : C)
      (rest : Lines) : Type 0 where
    pub progress : Progress before now (answer took closing 0 begun all)
        (answer took closing n c rest)
    pub memory : lacking took lacks c rest ≡ true → lacking took lacks begun all ≡ true

  -- a line is taken and the command goes on
  pub driving_proceeds : (before mid now : Option (List ℕ)) (begun : C) (all : Lines) (n : ℕ)
      (c new : C) (l : List ℕ) (rest : Lines)
      → Driving before mid begun all n c (line l rest) → HasContinued (took c l) mid now new
      → Driving before now begun all (n + 1) new rest
  driving_proceeds before mid now begun all n c new l rest d g = record {
    progress = record {
      front = d.progress.front ++ (took c l).text;
      split = d.progress.split ∙ ap (after_text d.progress.front) (answer_line n c l rest)
          ∙ rw (g.ruling, g.after, append_assoc) refl;
      appended = append_known_append before d.progress.front (took c l).text
          ∙ ap (λ k. append_known k (took c l).text) d.progress.appended ∙ g.text;
    };
    memory =
        λ e. d.memory (lacking_line c l rest ∙ rw (g.ruling, g.after, e) (or_true (lacks c l)));
  }

  -- a line is refused
  pub driving_stops : (before mid now after : Option (List ℕ)) (begun : C) (all : Lines) (n : ℕ)
      (c : C) (l : List ℕ) (rest : Lines) (word : List ℕ) (s result : Status)
      → Driving before mid begun all n c (line l rest) → Stops (took c l) mid now word s
      → Ends result now after (refusal (n + 1) word s)
      → Ends result before after (answer took closing 0 begun all)
  driving_stops before mid now after begun all n c l rest word s result d g w =
      ends_progress result before mid after _ _ d.progress (rw (answer_line n c l rest, g.ruling)
      (ends_after result mid now after (took c l).text (refusal (n + 1) word s) g.text w))

  -- the answer to a line is cut short
  pub driving_cut : (before mid now : Option (List ℕ)) (begun : C) (all : Lines) (n : ℕ) (c : C)
      (l : List ℕ) (rest : Lines)
      → Driving before mid begun all n c (line l rest) → WritesFront mid now (took c l).text
      → WritesFront before now (answer took closing 0 begun all).text
  driving_cut before mid now begun all n c l rest d w =
      front_progress before mid now _ _ d.progress
      (rw (answer_line n c l rest) (front_first mid now (took c l).text _ w))

  -- nothing more is written
  pub driving_rests : (before now : Option (List ℕ)) (begun : C) (all : Lines) (n : ℕ) (c : C)
      (rest : Lines)
      → Driving before now begun all n c rest
      → WritesFront before now (answer took closing 0 begun all).text
  driving_rests before now begun all n c rest d =
      front_progress before now now _ _ d.progress (front_none now _)

  -- memory is wanting at a line
  pub driving_lacks : (before now : Option (List ℕ)) (begun : C) (all : Lines) (n : ℕ) (c : C)
      (l : List ℕ) (rest : Lines)
      → Driving before now begun all n c (line l rest) → lacks c l ≡ true
      → lacking took lacks begun all ≡ true
  driving_lacks before now begun all n c l rest d e = d.memory (lacking_line c l rest ∙ rw e refl)

  -- the end of the input
  pub driving_ends : (before mid now : Option (List ℕ)) (begun : C) (all : Lines) (n : ℕ) (c : C)
      (result : Status)
      → Driving before mid begun all n c ended
      → Ends result mid now (closing_answer (n + 1) (closing c))
      → Ends result before now (answer took closing 0 begun all)
  driving_ends before mid now begun all n c result d w =
      ends_progress result before mid now _ _ d.progress (rw (answer_ended n c) w)

  -- a line or the input is too long
  pub driving_too_long : (before mid now : Option (List ℕ)) (begun : C) (all : Lines) (n : ℕ)
      (c : C) (result : Status)
      → Driving before mid begun all n c too_long → Ends result mid now (overlong (n + 1))
      → Ends result before now (answer took closing 0 begun all)
  driving_too_long before mid now begun all n c result d w =
      ends_progress result before mid now _ _ d.progress (rw (answer_too_long n c) w)

  pub driving_too_much : (before mid now : Option (List ℕ)) (begun : C) (all : Lines) (n : ℕ)
      (c : C) (result : Status)
      → Driving before mid begun all n c too_much → Ends result mid now (overlong (n + 1))
      → Ends result before now (answer took closing 0 begun all)
  driving_too_much before mid now begun all n c result d w =
      ends_progress result before mid now _ _ d.progress (rw (answer_too_much n c) w)

  -- the same, where the lines that are left are those of a reader
  pub record Underway (before now : Option (List ℕ)) (begun : C) (all : Lines) (n : ℕ) (c : C)
      (left : Option Lines) : Type 0 where
    pub rest : Lines
    pub known : left ≡ Some rest
    pub driving : Driving before now begun all n c rest

  -- a line comes
  at_line : (before now : Option (List ℕ)) (begun : C) (all : Lines) (n : ℕ) (c : C)
      (l text : List ℕ) (left next : Option Lines)
      → Underway before now begun all n c left → left ≡ option_map (line l) next → text ≡ l
      → (rest : Lines) × (next ≡ Some rest) × Driving before now begun all n c (line text rest)
  at_line before now begun all n c l text left next u e same =
      let m = made (line l) next u.rest (sym u.known ∙ e) in
      let P : Lines → Type 0 = λ r. Driving before now begun all n c r in
      (m.from, m.is, subst P (m.value ∙ ap (λ t. line t m.from) (sym same)) u.driving)

  pub underway_proceeds : (before mid now : Option (List ℕ)) (begun : C) (all : Lines)
      (n number : ℕ) (c new : C) (l text : List ℕ) (left next : Option Lines)
      → Underway before mid begun all n c left → left ≡ option_map (line l) next
      → number ≡ n + 1 → text ≡ l
      → HasContinued (took c text) mid now new → Underway before now begun all number new next
  underway_proceeds before mid now begun all n number c new l text left next u e count same g =
      let d = at_line before mid begun all n c l text left next u e same in
      let P : ℕ → Type 0 = λ k. Driving before now begun all k new d.0 in
      record {
        rest = d.0;
        known = d.1;
        driving =
            subst P (sym count) (driving_proceeds before mid now begun all n c new text d.0 d.2 g);
      }

  pub underway_stops : (before mid now after : Option (List ℕ)) (begun : C) (all : Lines)
      (n number : ℕ) (c : C) (l text word : List ℕ) (s result : Status) (left next : Option Lines)
      → Underway before mid begun all n c left → left ≡ option_map (line l) next
      → number ≡ n + 1 → text ≡ l
      → Stops (took c text) mid now word s → Ends result now after (refusal number word s)
      → Ends result before after (answer took closing 0 begun all)
  underway_stops before mid now after begun all n number c l text word s result left next u e
      count same g w =
      let d = at_line before mid begun all n c l text left next u e same in
      let P : ℕ → Type 0 = λ k. Ends result now after (refusal k word s) in
      driving_stops before mid now after begun all n c text d.0 word s result d.2 g
      (subst P count w)

  pub underway_cut : (before mid now : Option (List ℕ)) (begun : C) (all : Lines) (n : ℕ) (c : C)
      (l text : List ℕ) (left next : Option Lines)
      → Underway before mid begun all n c left → left ≡ option_map (line l) next → text ≡ l
      → WritesFront mid now (took c text).text
      → WritesFront before now (answer took closing 0 begun all).text
  underway_cut before mid now begun all n c l text left next u e same w =
      let d = at_line before mid begun all n c l text left next u e same in
      driving_cut before mid now begun all n c text d.0 d.2 w

  pub underway_lacks : (before now : Option (List ℕ)) (begun : C) (all : Lines) (n : ℕ) (c : C)
      (l text : List ℕ) (left next : Option Lines)
      → Underway before now begun all n c left → left ≡ option_map (line l) next → text ≡ l
      → lacks c text ≡ true → lacking took lacks begun all ≡ true
  underway_lacks before now begun all n c l text left next u e same lack =
      let d = at_line before now begun all n c l text left next u e same in
      driving_lacks before now begun all n c text d.0 d.2 lack

  pub underway_rests : (before now : Option (List ℕ)) (begun : C) (all : Lines) (n : ℕ) (c : C)
      (left : Option Lines)
      → Underway before now begun all n c left
      → WritesFront before now (answer took closing 0 begun all).text
  underway_rests before now begun all n c left u =
      driving_rests before now begun all n c u.rest u.driving

  -- the lines end so
  at_end : (before now : Option (List ℕ)) (begun : C) (all : Lines) (n : ℕ) (c : C) (end : Lines)
      (left next : Option Lines)
      → Underway before now begun all n c left → left ≡ option_map (λ _. end) next
      → Driving before now begun all n c end
  at_end before now begun all n c end left next u e =
      let m = made (λ _. end) next u.rest (sym u.known ∙ e) in
      let P : Lines → Type 0 = λ r. Driving before now begun all n c r in
      subst P m.value u.driving

  pub underway_ends : (before mid now : Option (List ℕ)) (begun : C) (all : Lines) (n number : ℕ)
      (c : C) (result : Status) (left next : Option Lines)
      → Underway before mid begun all n c left → left ≡ option_map (λ _. ended) next → number ≡ n
      → Ends result mid now (closing_answer (number + 1) (closing c))
      → Ends result before now (answer took closing 0 begun all)
  underway_ends before mid now begun all n number c result left next u e count w =
      let P : ℕ → Type 0 = λ k. Ends result mid now (closing_answer (k + 1) (closing c)) in
      driving_ends before mid now begun all n c result
      (at_end before mid begun all n c ended left next u e) (subst P count w)

  pub underway_too_long : (before mid now : Option (List ℕ)) (begun : C) (all : Lines)
      (n number : ℕ) (c : C) (result : Status) (left next : Option Lines)
      → Underway before mid begun all n c left → left ≡ option_map (λ _. too_long) next
      → number ≡ n + 1
      → Ends result mid now (overlong number)
      → Ends result before now (answer took closing 0 begun all)
  underway_too_long before mid now begun all n number c result left next u e count w =
      let P : ℕ → Type 0 = λ k. Ends result mid now (overlong k) in
      driving_too_long before mid now begun all n c result
      (at_end before mid begun all n c too_long left next u e) (subst P count w)

  pub underway_too_much : (before mid now : Option (List ℕ)) (begun : C) (all : Lines)
      (n number : ℕ) (c : C) (result : Status) (left next : Option Lines)
      → Underway before mid begun all n c left → left ≡ option_map (λ _. too_much) next
      → number ≡ n + 1
      → Ends result mid now (overlong number)
      → Ends result before now (answer took closing 0 begun all)
  underway_too_much before mid now begun all n number c result left next u e count w =
      let P : ℕ → Type 0 = λ k. Ends result mid now (overlong k) in
      driving_too_much before mid now begun all n c result
      (at_end before mid begun all n c too_much left next u e) (subst P count w)
