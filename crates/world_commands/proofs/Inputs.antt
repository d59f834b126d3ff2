-- Reading an input line by line gives the scenario that its octets are.
use Rattle.std.proofs.Common.{◌≡◌, ℕ, ◌+◌, ◌≤◌, List, [], ◌∷◌, length, Bool, true, false, cond}
use Rattle.std.proofs.Common.{◌&&◌, nat_le, Some, Result, Ok, Err, inl, inr, refl, sym, ap, subst}
use Rattle.std.proofs.Common.{◌∙◌, arith}
use Rattle.std.proofs.lemmas.Bool.{cases_Bool, leb-false, lt-leb}
use Rattle.octet_io.specs.Lines.{Lines, ended, too_long, too_much, line, without_cr}
use Rattle.octet_io.specs.Cutting.{pieces, last_of, whole_lines, last_line, is_past_line, is_within}
use Rattle.login_setup.specs.declared.event.Event.{Event}
use Rattle.login_setup.specs.declared.setup.Setup.{Setup}
use Rattle.octet_io.proofs.Cut.{lines_are_the_pieces, lines_end_at_a_limit, some_octet_is_past}
use Rattle.text_tables.specs.Fields.{◌>>=◌}
use Rattle.scenario_text.specs.Items.{Item}
use Rattle.scenario_text.specs.Items as item
use Rattle.scenario_text.specs.Reading.{Reading, ReadLine, no_settings, read_line, finish_of}
use Rattle.scenario_text.specs.Whole.{Script, no_script, with_item, read_lines}
use Rattle.text_tables.specs.declared.fault.LineFault.{LineFault}
use Rattle.text_tables.specs.declared.phase.Phase.TheVariants as phase
use Rattle.scenario_text.proofs.Implying.{scenarios_are_read, goes, both}
use Rattle.world_commands.specs.Replay.{max_events}
use Rattle.world_commands.specs.Scenario.{whole, Scenario, stops, adds, is_event, too_much_at}
use Rattle.world_commands.specs.Scenario.{finish_outcome, read_after, events_after, with_line}
use Rattle.world_commands.specs.Scenario.{scenario_from, scenario_of}
use Rattle.world_commands.specs.Whole.{lines_of, IsInputOf, IsReadWhole, InputsAreScenarios}

-- these lines, and then those
abbrev lines_then : List (List ℕ) → Lines → Lines
lines_then [] ending = ending
lines_then (l ∷ rest) ending = line l (lines_then rest ending)

listed_lines : (list : List (List ℕ)) → whole_lines list (last_line (last_of list))
    ≡ lines_then (lines_of list) ended
listed_lines [] = refl
listed_lines ([] ∷ []) = refl
listed_lines ((octet ∷ rest) ∷ []) = refl
listed_lines (piece ∷ next ∷ rest) = ap (line (without_cr piece)) (listed_lines (next ∷ rest))

-- what a script reads as
abbrev read_as : Script → Scenario
read_as s = record { setup = s.setup; events = s.events; outcome = whole }

abbrev counted : ℕ → Item → ℕ
counted k i = cond (is_event i) (k + 1) k

-- one line more: its item is added, where it isn't an event too many
adds_item : (i : Item) (m : Script) → adds i (read_as m) ≡ read_as (with_item i m)
adds_item (item.Event e) m = refl
adds_item other m = refl

has_room : (k : ℕ) (i : Item) (m : Script) → k + length (with_item i m).events ≤ max_events
    → (is_event i && nat_le max_events k) ≡ false
has_room k (item.Event e) m h = lt-leb max_events k (omega arith)
has_room k other m h = refl

few_more : (k : ℕ) (i : Item) (m : Script) → k + length (with_item i m).events ≤ max_events
    → counted k i + length m.events ≤ max_events
few_more k (item.Event e) m h = omega arith
few_more k other m h = h

taken_line : (number k : ℕ) (x : ReadLine) (m : Script) → k + length (with_item x.item m).events
    ≤ max_events →
    with_line number k (Ok x) (read_as m) ≡ read_as (with_item x.item m)
taken_line number k x m h = let room = has_room k x.item m h in rw room (adds_item x.item m)

-- lines that are read without a fault are a whole scenario
finished : (n k : ℕ) (r : Reading) (script : Script) (x : Result (Unit {0}) LineFault)
    → finish_of r ≡ x → (x >>= λ done. Ok no_script) ≡ Ok script →
    stops (finish_outcome (n + 1) x) ≡ read_as script
finished n k r script (Ok done) e h = let is : no_script ≡ script = cc in ap read_as is
finished n k r script (Err f) e h = absurd cc

reads_whole : (ls : List (List ℕ)) (n k : ℕ) (r : Reading) (script : Script)
    → read_lines r ls ≡ Ok script → k + length script.events ≤ max_events →
    scenario_from n k r (lines_then ls ended) ≡ read_as script
unfolding read_lines scenario_from
reads_whole [] n k r script h few = finished n k r script (finish_of r) refl h
reads_whole (l ∷ rest) n k r script h few =
    let g = goes r l rest script h in
    let enough : k + length (with_item (g.out).item (g.more)).events ≤ max_events =
    subst (λ s. k + length s.events ≤ max_events) (sym (g.is)) few in
    let read = g.read in
    let next = reads_whole rest (n + 1) (counted k (g.out).item) (g.out).after (g.more) (g.rests)
    (few_more k (g.out).item (g.more) enough) in
    rw (read, next) (taken_line (n + 1) k (g.out) (g.more) enough ∙ ap read_as (g.is))

-- and a whole scenario's lines are read
record Proceed (k : ℕ) (x : Result ReadLine LineFault) (r : Reading) (s : Scenario) : Type 0 where
  pub out : ReadLine
  pub read : x ≡ Ok out
  pub room : (is_event out.item && nat_le max_events k) ≡ false
  pub rests : s.outcome ≡ whole

adds_outcome : (i : Item) (s : Scenario) → (adds i s).outcome ≡ s.outcome
adds_outcome (item.Event e) s = refl
adds_outcome other s = refl

added : (number : ℕ) (full : Bool) (i : Item) (s : Scenario) → (let made : Scenario =
    cond full (stops (too_much_at number)) (adds i s) in made.outcome ≡ whole) →
    (full ≡ false) × (s.outcome ≡ whole)
added number true i s h = absurd cc
added number false i s h = (refl, sym (adds_outcome i s) ∙ h)

goes_on : (number k : ℕ) (r : Reading) (x : Result ReadLine LineFault) (s : Scenario)
    → (with_line number k x s).outcome ≡ whole → Proceed k x r s
goes_on number k r (Err f) s h = absurd cc
goes_on number k r (Ok out) s h =
    let a = added number (is_event out.item && nat_le max_events k) out.item s h in
    record { out = out; read = refl; room = a.0; rests = a.1 }

-- the script of a whole scenario
record IsRead (k : ℕ) (r : Reading) (ls : List (List ℕ)) (s : Scenario) : Type 0 where
  pub script : Script
  pub read : read_lines r ls ≡ Ok script
  pub is : s ≡ read_as script
  pub few : k + length script.events ≤ max_events

more_few : (k : ℕ) (i : Item) (m : Script) → (is_event i && nat_le max_events k) ≡ false
    → counted k i + length m.events ≤ max_events →
    k + length (with_item i m).events ≤ max_events
more_few k (item.Event e) m room h = omega arith
more_few k other m room h = h

fewer : (k : ℕ) (i : Item) → k ≤ max_events → (is_event i && nat_le max_events k) ≡ false
    → counted k i ≤ max_events
fewer k (item.Event e) h room = let below = leb-false max_events k room in omega arith
fewer k other h room = h

ends_whole : (n k : ℕ) (r : Reading) (x : Result (Unit {0}) LineFault) → finish_of r ≡ x
    → k ≤ max_events → (stops (finish_outcome (n + 1) x)).outcome ≡ whole →
    IsRead k r [] (stops (finish_outcome (n + 1) x))
unfolding read_lines
ends_whole n k r (Ok done) e few h =
    record { script = no_script; read = rw e refl; is = refl; few = omega arith }
ends_whole n k r (Err f) e few h = absurd cc

whole_reads : (ls : List (List ℕ)) (n k : ℕ) (r : Reading) → k ≤ max_events
    → (scenario_from n k r (lines_then ls ended)).outcome ≡ whole →
    IsRead k r ls (scenario_from n k r (lines_then ls ended))
unfolding scenario_from
whole_reads [] n k r few h = ends_whole n k r (finish_of r) refl few h
whole_reads (l ∷ rest) n k r few h =
    let x = read_line r l in
    let g = goes_on (n + 1) k r x
    (scenario_from (n + 1) (events_after k x) (read_after r x) (lines_then rest ended)) h in
    let read : read_line r l ≡ Ok (g.out) = g.read in
    let rests : (scenario_from (n + 1) (counted k (g.out).item) (g.out).after
    (lines_then rest ended)).outcome ≡ whole = rw read at (g.rests) in
    let i = whole_reads rest (n + 1) (counted k (g.out).item) (g.out).after
    (fewer k (g.out).item few (g.room)) rests in
    let m = i.script in
    let enough = more_few k (g.out).item m (g.room) (i.few) in
    record {
      script = with_item (g.out).item m;
      read = both r l rest (g.out) m read (i.read);
      is = ap (λ y. with_line (n + 1) k y
          (scenario_from (n + 1) (events_after k y) (read_after r y) (lines_then rest ended))) read
          ∙ ap (with_line (n + 1) k (Ok (g.out))) (i.is) ∙ taken_line (n + 1) k (g.out) m enough;
      few = enough;
    }

-- lines that end at a limit are none
never_whole : (list : List (List ℕ)) (n k : ℕ) (r : Reading) (b : Bool)
    → (scenario_from n k r (whole_lines list (cond b too_long too_much))).outcome ≡ whole → ⊥
unfolding scenario_from
never_whole [] n k r true h = absurd cc
never_whole [] n k r false h = absurd cc
never_whole (piece ∷ []) n k r true h = absurd cc
never_whole (piece ∷ []) n k r false h = absurd cc
never_whole (piece ∷ next ∷ rest) n k r b h =
    let x = read_line r (without_cr piece) in
    let g = goes_on (n + 1) k r x (scenario_from (n + 1) (events_after k x) (read_after r x)
    (whole_lines (next ∷ rest) (cond b too_long too_much))) h in
    never_whole (next ∷ rest) (n + 1) (events_after k x) (read_after r x) b (g.rests)

abbrev unread : Reading
unread = record { phase = phase.Unread; settings = no_settings }

of_pieces : (octets : List ℕ) → is_within octets ≡ true
    → scenario_of octets ≡ scenario_from 0 0 unread (lines_then (lines_of (pieces octets)) ended)
of_pieces octets h =
    ap (scenario_from 0 0 unread) (lines_are_the_pieces octets h ∙ listed_lines (pieces octets))

inputs_taken : (octets : List ℕ) (setup : Setup) (events : List Event)
    → IsInputOf octets setup events →
    scenario_of octets ≡ record { setup = Some setup; events = events; outcome = whole }
inputs_taken octets setup events h =
    of_pieces octets (h.within)
    ∙ reads_whole (lines_of (pieces octets)) 0 0 unread
    (record { setup = Some setup; events = events }) (scenarios_are_read.taken
    (lines_of (pieces octets)) setup events (h.scenario)) (omega (arith, h.few))

inputs_only : (octets : List ℕ) → (scenario_of octets).outcome ≡ whole → IsReadWhole octets
inputs_only octets h =
    elim (cases_Bool (is_within octets)) [
      | inl e ↦
          let is = of_pieces octets e in
          let i = whole_reads (lines_of (pieces octets)) 0 0 unread (omega arith)
          (subst (λ s. s.outcome ≡ whole) is h) in
          let s = scenarios_are_read.only (lines_of (pieces octets)) (i.script) (i.read) in
          let reads : scenario_of octets ≡ read_as (i.script) = is ∙ i.is in
          record {
            setup = s.setup;
            set = ap (λ made. made.setup) reads ∙ s.whole;
            input = subst (λ events. IsInputOf octets (s.setup) events)
                (sym (ap (λ made. made.events) reads))
                (record { within = e; scenario = s.scenario; few = omega (arith, i.few) });
          }
      | inr e ↦
          let at = some_octet_is_past octets e in
          let is : scenario_of octets ≡ scenario_from 0 0 unread (whole_lines (pieces at.front)
          (cond (is_past_line at.front at.octet) too_long too_much)) =
          ap (scenario_from 0 0 unread) (lines_end_at_a_limit octets at) in
          absurd (never_whole (pieces at.front) 0 0 unread (is_past_line at.front at.octet)
          (subst (λ s. s.outcome ≡ whole) is h))
    ]

pub inputs_are_scenarios : InputsAreScenarios
inputs_are_scenarios = record { taken = inputs_taken; only = inputs_only }
