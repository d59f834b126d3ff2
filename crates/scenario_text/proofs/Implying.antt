-- What a line can say at each place of a scenario; lines that are read in order are those of a
-- scenario.
use Rattle.std.proofs.Common.{◌≡◌, ℕ, List, Bool, true, false, cond, ◌==◌, Option, None, Result, Ok}
use Rattle.std.proofs.Common.{Err, is_err, inl, inr, refl, sym, ap, subst, ◌∙◌, [], ◌∷◌, ◌++◌, map}
use Rattle.std.proofs.Common.{Some}
use Rattle.std.proofs.lemmas.Bool.{cases_Bool}
use Rattle.std.proofs.lemmas.Slice.Eq.{bytes_eq-Decides}
use Rattle.std.specs.Str.{bytes_eq}
use Rattle.octet_lists.specs.Among.{psk_kind}
use Rattle.login_setup.specs.declared.setup.Setup.{Setup}
use Rattle.login_setup.specs.declared.event.Event.{Event}
use Rattle.text_tables.specs.Words.{words, is_passed_over}
use Rattle.text_tables.specs.Fields.{kind_of, word_in, ◌>>=◌}
use Rattle.text_tables.specs.Phases.{may_occur}
use Rattle.text_tables.specs.Texts as texts
use Rattle.text_tables.specs.Texts.{read_at, read_first_line, read_body}
use Rattle.scenario_text.specs.Entries.{keyword_of, item_of, meaning_by}
use Rattle.scenario_text.specs.Keywords.{row_of}
use Rattle.scenario_text.specs.Contents.{Entry}
use Rattle.scenario_text.specs.Contents as entry
use Rattle.scenario_text.specs.Reading.{Reading, ReadLine, line_of, has_setting, with_setting}
use Rattle.scenario_text.specs.Reading.{no_settings, settings_of_version, started_with, setup_of}
use Rattle.scenario_text.specs.Reading.{part_of, is_crowded, occurred_before, is_missing, ready}
use Rattle.scenario_text.specs.Reading.{scenario, line_of_entry, read_line}
use Rattle.scenario_text.specs.Versions.{header, version_of}
use Rattle.scenario_text.specs.Items as item
use Rattle.scenario_text.specs.Whole.{IsFaultless, no_values, MakesSetup, lines_that_count}
use Rattle.scenario_text.specs.Whole.{IsScenario, Script, no_script, with_item, read_lines}
use Rattle.scenario_text.specs.Whole.{read_all, IsScript, ScenariosAreRead}
use Rattle.text_tables.specs.declared.fault.LineFault.{LineFault}
use Rattle.scenario_text.specs.declared.keyword.Keyword.{Keyword}
use Rattle.scenario_text.specs.declared.keyword.Keyword.TheVariants as key
use Rattle.scenario_text.specs.declared.entry.Setting.{Setting}
use Rattle.scenario_text.specs.declared.entry.Setting.TheVariants as setting
use Rattle.scenario_text.specs.declared.settings.Settings.{Settings}
use Rattle.scenario_text.specs.declared.version.Version.{Version}
use Rattle.scenario_text.specs.declared.version.Version.TheVariants.{First, Second}
use Rattle.text_tables.specs.declared.phase.Phase.{Phase}
use Rattle.text_tables.specs.declared.phase.Phase.TheVariants as phase
use Rattle.scenario_text.proofs.Settling.{is_over, joined, AllNew, settings_after, gathers}
use Rattle.scenario_text.proofs.Settling.{none_kept, kept_after, version_after, same_version}
use Rattle.scenario_text.proofs.Settling.{all_given, all_new, all_set}
use Rattle.text_tables.proofs.Reading.{Entered, MayOccur, Passed, Stepped, enters, read_body_passed}
use Rattle.text_tables.proofs.Reading.{stepped}
use Rattle.std.proofs.lemmas.List.Elements.{All-from_recursion, recursion_from_All}
use Rattle.std.proofs.lemmas.Result.{IfOk-at_ok}
use Rattle.std.specs.List.{AllByRecursion}

-- a 17th user or nonce, by what the line says
abbrev is_late : Settings → Entry → Bool
is_late s (entry.Set v) = is_over s v
is_late s e = false

no_key : (s : Settings) (b : Bool) (k : List ℕ)
    → false ≡ is_over s (cond b (setting.PeerPsk47 k) (setting.PeerPsk51 k))
no_key s true k = refl
no_key s false k = refl

crowded : (s : Settings) (k : Keyword) (ws : List (List ℕ))
    → is_crowded s k ≡ is_late s (item_of k ws)
unfolding item_of
crowded s key.PeerPsk ws = no_key s (kind_of (word_in ws 1) == psk_kind) _
crowded s other ws = refl

-- nothing keeps a line from standing where it does
pub record MayArrive (p : Phase) (s : Settings) (e : Entry) : Type 0 where
  pub few : is_late s e ≡ false
  pub fresh : occurred_before s e ≡ false
  pub whole : is_missing s e ≡ false
  pub stands : may_occur p (part_of e) ≡ true

abbrev at : Phase → Settings → Reading
at p s = record { phase = p; settings = s }

module _ (p : Phase) (s : Settings) (line : List ℕ) where
  may_arriving : MayOccur row_of scenario (at p s) line → MayArrive p s (meaning_by s.version line)
  may_arriving m = record {
    few = sym (crowded s (keyword_of s.version line) (words line)) ∙ m.few;
    fresh = m.fresh;
    whole = m.whole;
    stands = m.stands;
  }

  may_stand : MayArrive p s (meaning_by s.version line) → MayOccur row_of scenario (at p s) line
  may_stand m = record {
    few = crowded s (keyword_of s.version line) (words line) ∙ m.few;
    fresh = m.fresh;
    whole = m.whole;
    stands = m.stands;
  }

  pub step_cases : (P : ReadLine → Type 0) → P (line_of item.Nothing p s)
      → (IsFaultless s.version line → MayArrive p s (meaning_by s.version line)
      → P (line_of_entry p s (meaning_by s.version line)))
      → (out : ReadLine) → Stepped row_of scenario (at p s) line out → P out
  step_cases P passed entered _ (Passed k) = passed
  step_cases P passed entered _ (Entered k own may) = entered own (may_arriving may)

-- before the line `events`: a line that is passed over, a new setting, or `events`
pub data FromSettings (s : Settings) : ReadLine → Type 0 where
  PassedBefore : FromSettings s (line_of item.Nothing phase.Settings s)
  NewSetting : (v : Setting) → has_setting s v ≡ false
      → FromSettings s (line_of item.Nothing phase.Settings (with_setting s v))
  AllSet : (setup : Setup) → setup_of s ≡ Ok setup
      → FromSettings s (line_of (item.Ready setup) phase.Events s)

-- before the line `end`: a line that is passed over, an event, or `end`
pub data FromEvents (s : Settings) : ReadLine → Type 0 where
  PassedBetween : FromEvents s (line_of item.Nothing phase.Events s)
  NewEvent : (event : Event) → FromEvents s (line_of (item.Event event) phase.Events s)
  AllRead : FromEvents s (line_of item.End phase.Ended s)

is_set : (s : Settings) (r : Result Setup LineFault) → setup_of s ≡ r → is_err r ≡ false
    → FromSettings s (line_of (ready r) phase.Events s)
is_set s (Ok setup) e h = AllSet setup e
is_set s (Err f) e h = absurd cc

settings_from : (s : Settings) (e : Entry) → MayArrive phase.Settings s e
    → FromSettings s (line_of_entry phase.Settings s e)
settings_from s (entry.Set v) may = NewSetting v may.fresh
settings_from s entry.Events may = is_set s (setup_of s) refl may.whole
settings_from s other may = let no = may.stands in absurd cc

events_from : (s : Settings) (e : Entry) → MayArrive phase.Events s e
    → FromEvents s (line_of_entry phase.Events s e)
events_from s (entry.Happens event) may = NewEvent event
events_from s entry.End may = AllRead
events_from s other may = let no = may.stands in absurd cc

none_stands : (e : Entry) → may_occur phase.Ended (part_of e) ≡ true → ⊥
none_stands (entry.Set v) h = absurd cc
none_stands entry.Events h = absurd cc
none_stands (entry.Happens e) h = absurd cc
none_stands entry.End h = absurd cc

-- the reading at a known place
read_line_at : (r : Reading) (p : Phase) (line : List ℕ) → r.phase ≡ p
    → read_line r line ≡ read_at row_of scenario p (at p r.settings) line
unfolding read_line texts.read_line
read_line_at r p line e = ap (λ q. read_at row_of scenario q (at q r.settings) line) e

-- the first line is the header of a version, and there are no settings then
pub record Starts (line : List ℕ) (out : ReadLine) : Type 0 where
  pub version : Version
  pub line_is : line ≡ header version
  pub out_is : out ≡ line_of item.Nothing phase.Settings (settings_of_version version)

header_of : (line : List ℕ) (version : Version) → version_of line ≡ Some version
    → line ≡ header version
header_of line version e =
    elim (cases_Bool (bytes_eq line (header First))) [
      | inl k ↦
          let found : Some First ≡ Some version = rw k at e in
          let is : First ≡ version = cc in
          subst (λ v. line ≡ header v) is ((bytes_eq-Decides line (header First)).0 k)
      | inr k ↦ elim (cases_Bool (bytes_eq line (header Second))) [
        | inl q ↦
            let found : Some Second ≡ Some version = rw (k, q) at e in
            let is : Second ≡ version = cc in
            subst (λ v. line ≡ header v) is ((bytes_eq-Decides line (header Second)).0 q)
        | inr q ↦ let found = rw (k, q) at e in absurd cc
      ]
    ]

starts_in : (line : List ℕ) (out : ReadLine) (found : Option Version) → version_of line ≡ found
    → read_first_line row_of scenario (started_with found) ≡ Ok out → Starts line out
starts_in line out None e h = absurd cc
starts_in line out (Some version) e h =
    record { version = version; line_is = header_of line version e; out_is = cc }

module _ (r : Reading) (line : List ℕ) (out : ReadLine) where
  pub read_line_from_unread : r.phase ≡ phase.Unread → read_line r line ≡ Ok out → Starts line out
  read_line_from_unread at h =
      starts_in line out (version_of line) refl (sym (read_line_at r phase.Unread line at) ∙ h)

  by_step : (p : Phase) (P : ReadLine → Type 0) → read_at row_of scenario p (at p r.settings) line
      ≡ read_body row_of scenario (at p r.settings) line
      → P (line_of item.Nothing p r.settings)
      → (MayArrive p r.settings (meaning_by r.settings.version line)
      → P (line_of_entry p r.settings (meaning_by r.settings.version line)))
      → r.phase ≡ p → read_line r line ≡ Ok out → P out
  by_step p P is passed entered e h =
      step_cases p r.settings line P passed (λ own. entered) out (stepped row_of scenario
      (at p r.settings) line out (sym is ∙ sym (read_line_at r p line e) ∙ h))

  -- a line before `events`, one before `end`, and one after it, which is passed over
  pub read_line_from_settings : r.phase ≡ phase.Settings → read_line r line ≡ Ok out
      → FromSettings r.settings out
  read_line_from_settings = by_step phase.Settings (FromSettings r.settings) refl PassedBefore
      (settings_from r.settings (meaning_by r.settings.version line))

  pub read_line_from_events : r.phase ≡ phase.Events → read_line r line ≡ Ok out
      → FromEvents r.settings out
  read_line_from_events = by_step phase.Events (FromEvents r.settings) refl PassedBetween
      (events_from r.settings (meaning_by r.settings.version line))

  pub read_line_from_ended : r.phase ≡ phase.Ended → read_line r line ≡ Ok out
      → out ≡ line_of item.Nothing phase.Ended r.settings
  read_line_from_ended = by_step phase.Ended (λ o. o ≡ line_of item.Nothing phase.Ended r.settings)
      refl refl (λ may. absurd (none_stands (meaning_by r.settings.version line) may.stands))

-- what is said in order, each where it may stand, and what it makes
data Runs : Phase → Settings → List Entry → Script → Type 0 where
  Over : (s : Settings) → Runs phase.Ended s [] no_script
  Then : {p : Phase} {s : Settings} {e : Entry} {es : List Entry} {m : Script} → MayArrive p s e →
      Runs (line_of_entry p s e).after.phase (line_of_entry p s e).after.settings es m
      → Runs p s (e ∷ es) (with_item (line_of_entry p s e).item m)

-- the same of lines, none of which has a fault of its own
record AreReported (version : Version) (p : Phase) (s : Settings) (kept : List (List ℕ))
    (script : Script) : Type 0 where
  pub faultless : AllByRecursion (IsFaultless version) kept
  pub runs : Runs p s (map (meaning_by version) kept) script

-- after the header
abbrev is_open : Phase → Bool
is_open phase.Unread = false
is_open other = true

body_at : (p : Phase) (s : Settings) (line : List ℕ) → is_open p ≡ true
    → read_line (at p s) line ≡ read_body row_of scenario (at p s) line
unfolding read_line texts.read_line
body_at phase.Unread s line o = absurd cc
body_at other s line o = refl

stays : (p : Phase) (s : Settings) (e : Entry) → is_open p ≡ true
    → is_open (line_of_entry p s e).after.phase ≡ true
stays p s (entry.Set v) o = o
stays p s (entry.Happens e) o = o
stays p s other o = refl

-- a line leaves the version
stays_in : (p : Phase) (s : Settings) (e : Entry) (version : Version) → s.version ≡ version
    → (line_of_entry p s e).after.settings.version ≡ version
stays_in p s (entry.Set v) version is = same_version s v ∙ is
stays_in p s (entry.Happens e) version is = is
stays_in p s other version is = is

-- one line, and the lines after it
bound : {A B : Type 0} (x : Result A LineFault) (f : A → Result B LineFault) (b : B)
    → (x >>= f) ≡ Ok b → (a : A) × (x ≡ Ok a) × (f a ≡ Ok b)
bound (Ok a) f b h = (a, refl, h)
bound (Err e) f b h = absurd cc

pub both : (r : Reading) (line : List ℕ) (rest : List (List ℕ)) (out : ReadLine) (more : Script) →
    read_line r line ≡ Ok out → read_lines out.after rest ≡ Ok more
    → read_lines r (line ∷ rest) ≡ Ok (with_item out.item more)
unfolding read_lines
both r line rest out more a b = rw (a, b) refl

pub record Proceed (r : Reading) (line : List ℕ) (rest : List (List ℕ))
    (script : Script) : Type 0 where
  pub out : ReadLine
  pub read : read_line r line ≡ Ok out
  pub more : Script
  pub rests : read_lines out.after rest ≡ Ok more
  pub is : with_item out.item more ≡ script

pub goes : (r : Reading) (line : List ℕ) (rest : List (List ℕ)) (script : Script)
    → read_lines r (line ∷ rest) ≡ Ok script → Proceed r line rest script
unfolding read_lines
goes r line rest script h =
    let a = bound (read_line r line) _ script h in
    let b = bound (read_lines (a.0).after rest) _ script (a.2) in
    let last : Ok (with_item (a.0).item (b.0)) ≡ Ok script = b.2 in
    record { out = a.0; read = a.1; more = b.0; rests = b.1; is = cc }

-- lines that are read are told
tells_line : (version : Version) (p : Phase) (s : Settings) (line : List ℕ) (rest : List (List ℕ))
    (out : ReadLine) (m : Script) → s.version ≡ version → is_open p ≡ true →
    Stepped row_of scenario (at p s) line out →
    ((q : Phase) (t : Settings) → t.version ≡ version → is_open q ≡ true
    → read_lines (at q t) rest ≡ Ok m → AreReported version q t (lines_that_count rest) m) →
    read_lines out.after rest ≡ Ok m
    → AreReported version p s (lines_that_count (line ∷ rest)) (with_item out.item m)
tells_line version p s line rest _ m v o (Passed k) more h = rw k (more p s v o h)
tells_line version p s line rest _ m v o (Entered k own may) more h =
    let i = more _ _ (stays_in p s (meaning_by s.version line) version v)
    (stays p s (meaning_by s.version line) o) h in
    rw k (subst (λ w. AreReported w p s (line ∷ lines_that_count rest)
    (with_item (line_of_entry p s (meaning_by s.version line)).item m)) v
    (record {
      faultless = (
        own,
        subst (λ w. AllByRecursion (IsFaultless w) (lines_that_count rest)) (sym v) (i.faultless),
      );
      runs = Then (may_arriving p s line may)
          (subst (λ w. Runs (line_of_entry p s (meaning_by s.version line)).after.phase
          (line_of_entry p s (meaning_by s.version line)).after.settings
          (map (meaning_by w) (lines_that_count rest)) m) (sym v) (i.runs));
    }))

tells : (lines : List (List ℕ)) (version : Version) (p : Phase) (s : Settings) (script : Script)
    → s.version ≡ version → is_open p ≡ true →
    read_lines (at p s) lines ≡ Ok script → AreReported version p s (lines_that_count lines) script
unfolding read_lines
tells [] version phase.Ended s script v o h = let is : no_script ≡ script = cc in
    subst (AreReported version phase.Ended s []) is (record { faultless = tt; runs = Over s })
tells [] version other s script v o h = absurd cc
tells (line ∷ rest) version p s script v o h =
    let g = goes (at p s) line rest script h in
    subst (AreReported version p s (lines_that_count (line ∷ rest))) (g.is)
    (tells_line version p s line rest (g.out) (g.more) v o (stepped row_of scenario (at p s) line
    (g.out) (sym (body_at p s line o) ∙ g.read)) (λ q t. tells rest version q t (g.more)) (g.rests))

-- and lines that are told are read
ends : (p : Phase) (s : Settings) (script : Script) → Runs p s [] script
    → read_lines (at p s) [] ≡ Ok script
unfolding read_lines
ends _ _ _ (Over s) = refl

reads_line : (version : Version) (p : Phase) (s : Settings) (line : List ℕ) (rest : List (List ℕ))
    (script : Script) → s.version ≡ version → is_open p ≡ true →
    is_passed_over line ≡ false → IsFaultless s.version line
    → AllByRecursion (IsFaultless version) (lines_that_count rest) →
    Runs p s (meaning_by s.version line ∷ map (meaning_by version) (lines_that_count rest)) script →
    ((q : Phase) (t : Settings) (m : Script) → t.version ≡ version → is_open q ≡ true
    → AreReported version q t (lines_that_count rest) m → read_lines (at q t) rest ≡ Ok m) →
    read_lines (at p s) (line ∷ rest) ≡ Ok script
reads_line version p s line rest _ v o k own others (Then {m = m} may next) more =
    let out : ReadLine = line_of_entry p s (meaning_by s.version line) in
    both (at p s) line rest out m
    (body_at p s line o ∙ enters row_of scenario (at p s) line k own (may_stand p s line may))
    (more _ _ m (stays_in p s (meaning_by s.version line) version v)
    (stays p s (meaning_by s.version line) o) (record { faultless = others; runs = next }))

reads : (lines : List (List ℕ)) (version : Version) (p : Phase) (s : Settings) (script : Script)
    → s.version ≡ version → is_open p ≡ true →
    AreReported version p s (lines_that_count lines) script → read_lines (at p s) lines ≡ Ok script
reads [] version p s script v o h = ends p s script (h.runs)
reads (line ∷ rest) version p s script v o h =
    elim (cases_Bool (is_passed_over line)) [
      | inl k ↦ both (at p s) line rest (line_of item.Nothing p s) script
          (body_at p s line o ∙ read_body_passed row_of scenario (at p s) line k)
          (reads rest version p s script v o (rw k at h))
      | inr k ↦
          let t : AreReported version p s (line ∷ lines_that_count rest) script = rw k at h in
          reads_line version p s line rest script v o k
          (subst (λ w. IsFaultless w line) (sym v) (t.faultless.0)) (t.faultless.1)
          (subst (λ w. Runs p s (meaning_by w line ∷ map (meaning_by version) (lines_that_count
          rest)) script) (sym v) (t.runs)) (reads rest version)
    ]

-- what is said is settings, the line `events`, events and the line `end`
abbrev events_in : List Event → List Entry
events_in events = map entry.Happens events ++ entry.End ∷ []

abbrev order_of : List Setting → List Event → List Entry
order_of settings events = map entry.Set settings ++ entry.Events ∷ events_in events

record AfterEvents (es : List Entry) (m : Script) : Type 0 where
  pub order : es ≡ events_in m.events
  pub unset : m.setup ≡ None

record AfterHeader (s : Settings) (es : List Entry) (m : Script) : Type 0 where
  pub settings : List Setting
  pub setup : Setup
  pub new : AllNew s settings
  pub made : setup_of (settings_after s settings) ≡ Ok setup
  pub order : es ≡ order_of settings m.events
  pub set : m.setup ≡ Some setup

after_end : (s : Settings) (es : List Entry) (m : Script) → Runs phase.Ended s es m
    → AfterEvents (entry.End ∷ es) m
after_end _ _ _ (Over s) = record { order = refl; unset = refl }
after_end _ _ _ (Then {e = e} may next) = absurd (none_stands e may.stands)

after_events : (s : Settings) (es : List Entry) (m : Script) → Runs phase.Events s es m
    → AfterEvents es m
after_events _ _ _ (Then {s = s} {e = entry.Happens e} {es = es} {m = m} may next) =
    let i = after_events s es m next in
    record { order = ap (λ l. entry.Happens e ∷ l) (i.order); unset = i.unset }
after_events _ _ _ (Then {s = s} {e = entry.End} {es = es} {m = m} may next) = after_end s es m next
after_events _ _ _ (Then {e = other} may next) = let no = may.stands in absurd cc

settled : (s : Settings) (es : List Entry) (m : Script) (r : Result Setup LineFault)
    → setup_of s ≡ r → is_err r ≡ false → AfterEvents es m →
    AfterHeader s (entry.Events ∷ es) (with_item (ready r) m)
settled s es m (Ok setup) made there i = record {
  settings = [];
  setup = setup;
  new = tt;
  made = made;
  order = ap (λ l. entry.Events ∷ l) (i.order);
  set = refl;
}
settled s es m (Err f) made there i = absurd cc

after_header : (s : Settings) (es : List Entry) (m : Script) → Runs phase.Settings s es m
    → AfterHeader s es m
after_header _ _ _ (Then {s = s} {e = entry.Set v} {es = es} {m = m} may next) =
    let i = after_header _ es m next in
    record {
      settings = v ∷ i.settings;
      setup = i.setup;
      new = (may.few, may.fresh, i.new);
      made = i.made;
      order = ap (λ l. entry.Set v ∷ l) (i.order);
      set = i.set;
    }
after_header _ _ _ (Then {s = s} {e = entry.Events} {es = es} {m = m} may next) =
    settled s es m (setup_of s) refl (may.whole) (after_events s es m next)
after_header _ _ _ (Then {e = other} may next) = let no = may.stands in absurd cc

run_events : (s : Settings) (events : List Event)
    → Runs phase.Events s (events_in events) (record { setup = None; events = events })
run_events s [] = Then (record { few = refl; fresh = refl; whole = refl; stands = refl }) (Over s)
run_events s (e ∷ more) =
    Then (record { few = refl; fresh = refl; whole = refl; stands = refl }) (run_events s more)

run_settings : (s : Settings) (settings : List Setting) (setup : Setup) (events : List Event)
    → AllNew s settings → setup_of (settings_after s settings) ≡ Ok setup →
    Runs phase.Settings s (order_of settings events)
    (record { setup = Some setup; events = events })
run_settings s [] setup events new made =
    subst (λ r. Runs phase.Settings s (order_of [] events)
    (with_item (ready r) (record { setup = None; events = events }))) made
    (Then (record { few = refl; fresh = refl; whole = ap is_err made; stands = refl })
    (run_events s events))
run_settings s (v ∷ more) setup events new made =
    Then (record { few = new.0; fresh = new.1; whole = refl; stands = refl })
    (run_settings (with_setting s v) more setup events (new.2) made)

starts_with : (version : Version) → read_line (at phase.Unread no_settings) (header version)
    ≡ Ok (line_of item.Nothing phase.Settings (settings_of_version version))
unfolding read_line texts.read_line
starts_with First = refl
starts_with Second = refl

no_lines : (script : Script) → read_all [] ≡ Ok script → IsScript [] script
unfolding read_lines
no_lines script h = absurd cc

read_taken : (lines : List (List ℕ)) (setup : Setup) (events : List Event)
    → IsScenario lines setup events
    → read_all lines ≡ Ok (record { setup = Some setup; events = events })
read_taken lines setup events h =
    let none = settings_of_version h.version in
    let script : Script = record { setup = Some setup; events = events } in
    let new = all_new none (h.settings) setup (h.made) in
    let after = settings_after none (h.settings) in
    let gathered =
    subst (λ v. MakesSetup h.version v setup) (gathers none (h.settings) new) (h.made) in
    let made = all_set after setup (subst (λ w. MakesSetup w (joined after no_values) setup)
    (sym (version_after none (h.settings))) gathered) in
    let runs = subst (λ es. Runs phase.Settings none es script) (sym (h.order))
    (run_settings none (h.settings) setup events new made) in
    let rests = reads (h.body) h.version phase.Settings none _ refl refl
    (record {
      faultless =
          recursion_from_All (IsFaultless h.version) (lines_that_count (h.body)) (h.faultless);
      runs = runs;
    }) in
    subst (λ all. read_all all ≡ Ok script) (sym (h.begins))
    (both (at phase.Unread no_settings) (header h.version) (h.body)
    (line_of item.Nothing phase.Settings none) _ (starts_with h.version) rests)

read_only : (lines : List (List ℕ)) (script : Script) → read_all lines ≡ Ok script
    → IsScript lines script
read_only [] script h = no_lines script h
read_only (line ∷ rest) script h =
    let g = goes (at phase.Unread no_settings) line rest script h in
    let b = read_line_from_unread (at phase.Unread no_settings) line (g.out) refl (g.read) in
    let none = settings_of_version b.version in
    let rests : read_lines (at phase.Settings none) rest ≡ Ok (g.more) =
    subst (λ o. read_lines o.after rest ≡ Ok (g.more)) (b.out_is) (g.rests) in
    let same : g.more ≡ script =
    subst (λ o. with_item o.item (g.more) ≡ script) (b.out_is) (g.is) in
    let told-of = tells rest b.version phase.Settings none (g.more) refl refl rests in
    let i = subst (AfterHeader none (map (meaning_by b.version) (lines_that_count rest))) same
    (after_header none _ (g.more) (told-of.runs)) in
    let after = settings_after none (i.settings) in
    let given = IfOk-at_ok (MakesSetup after.version (joined after no_values)) (i.made)
    (all_given after (kept_after none (i.settings) (none_kept b.version))) in
    record {
      setup = i.setup;
      whole = i.set;
      scenario = record {
        version = b.version;
        body = rest;
        settings = i.settings;
        begins = ap (λ l. l ∷ rest) (b.line_is);
        faultless =
            All-from_recursion (IsFaultless b.version) (lines_that_count rest) (told-of.faultless);
        order = i.order;
        made = subst (λ v. MakesSetup b.version v (i.setup))
            (sym (gathers none (i.settings) (i.new))) (subst (λ w. MakesSetup w
            (joined after no_values) (i.setup)) (version_after none (i.settings)) given);
      };
    }

pub scenarios_are_read : ScenariosAreRead
scenarios_are_read = record { taken = read_taken; only = read_only }
