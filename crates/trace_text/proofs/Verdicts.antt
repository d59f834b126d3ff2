-- Which lines of the end tell the verdicts.
use Rattle.std.proofs.Common.{◌≡◌, ℕ, List, [], ◌∷◌, ◌++◌, Bool, Option, Some, None, true, false}
use Rattle.std.proofs.Common.{refl, sym, ap, ◌∙◌, codes, decimal, append_assoc}
use Rattle.std.proofs.lemmas.Bool.{true≢false}
use Rattle.eap_packet.specs.declared.state.State.{State}
use Rattle.tag_book.specs.declared.book.TagsVerdict.{TagsVerdict}
use Rattle.tag_book.specs.declared.book.TagsVerdict.TheVariants as tags
use Rattle.eap_world.specs.declared.told.Counts.{Counts}
use Rattle.eap_world.specs.declared.verdict.Verdict.{Verdict}
use Rattle.eap_world.specs.declared.verdict.Verdict.TheVariants as verdict
use Rattle.answer_text.specs.Lines.{HasLine, first}
use Rattle.trace_text.specs.Run.{fresh_text, tags_text, result_text, end_state_text, counts_text}
use Rattle.trace_text.specs.Run.{end_text_of}
use Rattle.answer_text.proofs.Plain.{over, passes, has_through, decimal_within}
use Rattle.trace_text.proofs.PlainTexts.{starts_verdict, occurs_plain, counts_plain}
use Rattle.answer_text.proofs.Scanning.{has_mark}

-- the lines
abbrev pub honest_line : List ℕ
honest_line = codes "tags honest\n"

abbrev pub apart_line : List ℕ
apart_line = codes "result apart\n"

abbrev pub fresh_line : List ℕ
fresh_line = codes "fresh yes\n"

no_honest : (v : Verdict) → has_mark honest_line false (codes "\n" ++ result_text v) ≡ false
unfolding result_text
no_honest verdict.Agree = refl
no_honest verdict.Apart = refl
no_honest verdict.Unfinished = refl

broken_is_not : (event : ℕ) (v : Verdict)
    → has_mark honest_line true (tags_text (tags.Broken event) ++ result_text v) ≡ false
unfolding tags_text
broken_is_not event v =
    ap (λ (text : List ℕ). has_mark honest_line false text)
    (append_assoc (decimal event) (codes "\n" ++ []) (result_text v))
    ∙ (has_through honest_line (decimal event) (codes "\n" ++ result_text v) (decimal_within event)
    ∙ no_honest v)

implies_honest : (t : TagsVerdict) (v : Verdict)
    → has_mark honest_line true (tags_text t ++ result_text v) ≡ true → t ≡ tags.Honest
implies_honest tags.Honest v h = refl
implies_honest (tags.Broken event) v h = absurd (true≢false (sym h ∙ broken_is_not event v))

over_tags : (t : TagsVerdict) (v : Verdict)
    → has_mark apart_line true (tags_text t ++ result_text v)
    ≡ has_mark apart_line true (result_text v)
unfolding tags_text
over_tags tags.Honest v = refl
over_tags (tags.Broken event) v =
    ap (λ (text : List ℕ). has_mark apart_line false text)
    (append_assoc (decimal event) (codes "\n" ++ []) (result_text v))
    ∙ has_through apart_line (decimal event) (codes "\n" ++ result_text v) (decimal_within event)

tells_apart : (v : Verdict) → has_mark apart_line true (result_text v) ≡ true → v ≡ verdict.Apart
unfolding result_text
tells_apart verdict.Agree h = absurd (true≢false (sym h))
tells_apart verdict.Apart h = refl
tells_apart verdict.Unfinished h = absurd (true≢false (sym h))

-- what comes after the line on freshness is found without it
over_fresh_tags : (f : Option Bool) (rest : List ℕ)
    → has_mark honest_line true (fresh_text f ++ rest) ≡ has_mark honest_line true rest
unfolding fresh_text
over_fresh_tags None rest = refl
over_fresh_tags (Some true) rest = refl
over_fresh_tags (Some false) rest = refl

over_fresh_result : (f : Option Bool) (rest : List ℕ)
    → has_mark apart_line true (fresh_text f ++ rest) ≡ has_mark apart_line true rest
unfolding fresh_text
over_fresh_result None rest = refl
over_fresh_result (Some true) rest = refl
over_fresh_result (Some false) rest = refl

-- no line after it tells freshness
no_fresh_result : (v : Verdict) → has_mark fresh_line false (codes "\n" ++ result_text v) ≡ false
unfolding result_text
no_fresh_result verdict.Agree = refl
no_fresh_result verdict.Apart = refl
no_fresh_result verdict.Unfinished = refl

no_fresh : (t : TagsVerdict) (v : Verdict)
    → has_mark fresh_line true (tags_text t ++ result_text v) ≡ false
unfolding tags_text
no_fresh tags.Honest v = no_fresh_result v
no_fresh (tags.Broken event) v =
    ap (λ (text : List ℕ). has_mark fresh_line false text)
    (append_assoc (decimal event) (codes "\n" ++ []) (result_text v))
    ∙ (has_through fresh_line (decimal event) (codes "\n" ++ result_text v) (decimal_within event)
    ∙ no_fresh_result v)

implies_fresh : (fresh : Bool) (t : TagsVerdict) (v : Verdict)
    → has_mark fresh_line true (fresh_text (Some fresh) ++ (tags_text t ++ result_text v)) ≡ true
    → fresh ≡ true
unfolding fresh_text
implies_fresh true t v h = refl
implies_fresh false t v h = absurd (true≢false (sym h ∙ no_fresh t v))

-- what the line on freshness says
abbrev pub fresh_words : Bool → List ℕ
fresh_words true = codes "yes"
fresh_words false = codes "no"

fresh_invariant : (fresh : Bool) (rest : List ℕ)
    → HasLine (codes "fresh " ++ fresh_words fresh) (fresh_text (Some fresh) ++ rest)
unfolding fresh_text
fresh_invariant true rest = first rest
fresh_invariant false rest = first rest

module _ (peer : State) (pass : Option State) (server : State) (counts : Counts) (f : Option Bool)
    (t : TagsVerdict) (v : Verdict) where
  over_states : (m : ℕ) (mark : List ℕ) → starts_verdict m ≡ true
      → has_mark (m ∷ mark) true (end_text_of peer pass server counts f t v)
      ≡ has_mark (m ∷ mark) true (fresh_text f ++ (tags_text t ++ result_text v))
  unfolding end_text_of
  over_states m mark bad =
      over starts_verdict m mark bad (end_state_text peer pass server)
      (counts_text counts ++ (fresh_text f ++ (tags_text t ++ result_text v))) true
      (occurs_plain peer pass server)
      ∙ over starts_verdict m mark bad (counts_text counts)
      (fresh_text f ++ (tags_text t ++ result_text v)) true (counts_plain counts)

  -- only honest tags are told by this line
  pub end_implies_honest : has_mark honest_line true (end_text_of peer pass server counts f t v)
      ≡ true → t ≡ tags.Honest
  end_implies_honest h = implies_honest t v (sym (over_fresh_tags f (tags_text t ++ result_text v))
      ∙ (sym (over_states 116 (codes "ags honest\n") refl) ∙ h))

  -- only ends that are apart are told by this line
  pub end_implies_apart : has_mark apart_line true (end_text_of peer pass server counts f t v)
      ≡ true → v ≡ verdict.Apart
  end_implies_apart h =
      tells_apart v
      (sym (over_tags t v) ∙ (sym (over_fresh_result f (tags_text t ++ result_text v))
      ∙ (sym (over_states 114 (codes "esult apart\n") refl) ∙ h)))

module _ (peer : State) (pass : Option State) (server : State) (counts : Counts) (fresh : Bool)
    (t : TagsVerdict) (v : Verdict) where
  -- only fresh nonces are told by this line
  pub end_implies_fresh : has_mark fresh_line true (end_text_of peer pass server counts
      (Some fresh) t v) ≡ true → fresh ≡ true
  end_implies_fresh h = implies_fresh fresh t v
      (sym (over_states peer pass server counts (Some fresh) t v 102 (codes "resh yes\n") refl) ∙ h)

  -- where freshness is told there is a line for it
  pub end_has_fresh : HasLine (codes "fresh " ++ fresh_words fresh)
      (end_text_of peer pass server counts (Some fresh) t v)
  unfolding end_text_of
  end_has_fresh =
      passes starts_verdict _ (end_state_text peer pass server) _ (occurs_plain peer pass server)
      (passes starts_verdict _ (counts_text counts) _ (counts_plain counts)
      (fresh_invariant fresh (tags_text t ++ result_text v)))
