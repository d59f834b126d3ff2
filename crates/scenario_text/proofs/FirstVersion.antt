-- No line of the first version tells of a later conversation.
use Rattle.std.proofs.Common.{◌≡◌, ℕ, List, [], ◌∷◌, ◌++◌, map, Bool, true, false, ◌||◌, ◌==◌, cond}
use Rattle.std.proofs.Common.{find, unwrap_or, inl, inr, refl, sym, ap, subst, ◌∙◌}
use Rattle.std.proofs.lemmas.Bool.{cases_Bool, or_parts}
use Rattle.std.specs.List.{list_any}
use Rattle.std.specs.Str.{bytes_eq}
use Rattle.octet_lists.specs.Among.{psk_kind}
use Rattle.login_setup.specs.declared.event.Event.{Event}
use Rattle.login_setup.specs.declared.setup.Setup.{Setup}
use Rattle.text_tables.specs.Words.{words}
use Rattle.text_tables.specs.Fields.{word_in, kind_of, octets_of}
use Rattle.text_tables.specs.Rows.{keyword_in}
use Rattle.scenario_text.specs.Keywords.{row_of, keywords}
use Rattle.scenario_text.specs.Entries.{item_of, keyword_of, meaning_by}
use Rattle.scenario_text.specs.Contents.{Entry}
use Rattle.scenario_text.specs.Contents as entry
use Rattle.scenario_text.proofs.Settling.{none_later}
use Rattle.scenario_text.specs.Whole.{Values, values_of, IsGivenOr, MakesSetup, lines_that_count}
use Rattle.scenario_text.specs.Whole.{is_restart, IsAlone, FirstScenariosAreAlone}
use Rattle.scenario_text.specs.declared.entry.Setting.{Setting}
use Rattle.scenario_text.specs.declared.entry.Setting.TheVariants as setting
use Rattle.scenario_text.specs.declared.keyword.Keyword.{Keyword}
use Rattle.scenario_text.specs.declared.keyword.Keyword.TheVariants as key
use Rattle.scenario_text.specs.declared.version.Version.{Version}
use Rattle.scenario_text.specs.declared.version.Version.TheVariants.{First}

-- a keyword of the second version alone, and what such a line says
abbrev is_later : Keyword → Bool
is_later key.PeerExpanded = true
is_later key.ServerExpanded = true
is_later key.Restart = true
is_later k = false

abbrev sets_later : Setting → Bool
sets_later (setting.PeerExpanded v) = true
sets_later (setting.ServerExpanded v) = true
sets_later v = false

abbrev implies_later : Entry → Bool
implies_later (entry.Set v) = sets_later v
implies_later (entry.Happens e) = is_restart e
implies_later e = false

-- what is found has what all have
found_has : {A : Type 0} (p q : A → Bool) (xs : List A) (default : A) → q default ≡ false
    → list_any q xs ≡ false → q (unwrap_or (find p xs) default) ≡ false
found_has p q [] default d h = d
found_has p q (x ∷ xs) default d h =
    elim (cases_Bool (p x)) [
      | inl k ↦ rw k ((or_parts (q x) (list_any q xs) h).0)
      | inr k ↦ rw k (found_has p q xs default d ((or_parts (q x) (list_any q xs) h).1))
    ]

keyword_first : (line : List ℕ) → is_later (keyword_of First line) ≡ false
unfolding keyword_in
keyword_first line = found_has (λ k. bytes_eq (word_in (words line) 0) (row_of k).word)
    is_later keywords key.End refl refl

key_first : (b : Bool) (k : List ℕ)
    → sets_later (cond b (setting.PeerPsk47 k) (setting.PeerPsk51 k)) ≡ false
key_first true k = refl
key_first false k = refl

item_first : (k : Keyword) (ws : List (List ℕ)) → is_later k ≡ false
    → implies_later (item_of k ws) ≡ false
unfolding item_of
item_first key.PeerPsk ws h =
    key_first (kind_of (word_in ws 1) == psk_kind) (octets_of (word_in ws 2))
item_first key.PeerExpanded ws h = h
item_first key.ServerExpanded ws h = h
item_first key.Restart ws h = h
item_first other ws h = refl

said_first : (line : List ℕ) → implies_later (meaning_by First line) ≡ false
said_first line = item_first (keyword_of First line) (words line) (keyword_first line)

none_said : (lines : List (List ℕ)) → list_any implies_later (map (meaning_by First) lines) ≡ false
none_said [] = refl
none_said (line ∷ rest) = let one = said_first line in rw one (none_said rest)

-- nor does any of the settings and events that the lines make
any_join : {A : Type 0} (q : A → Bool) (xs ys : List A)
    → list_any q (xs ++ ys) ≡ (list_any q xs || list_any q ys)
any_join q [] ys = refl
any_join q (x ∷ xs) ys =
    elim (cases_Bool (q x)) [
      | inl k ↦ rw k refl
      | inr k ↦ rw k (any_join q xs ys)
    ]

any_map : {A B : Type 0} (q : B → Bool) (f : A → B) (xs : List A)
    → list_any q (map f xs) ≡ list_any (λ x. q (f x)) xs
any_map q f [] = refl
any_map q f (x ∷ xs) = ap (λ b. q (f x) || b) (any_map q f xs)

-- settings none of which is of the second version give no values of its settings
record HasNoLater (v : Values) : Type 0 where
  pub peer : v.peer_expanded ≡ []
  pub server : v.server_expanded ≡ []

no_values : (settings : List Setting) → list_any sets_later settings ≡ false
    → HasNoLater (values_of settings)
no_values [] h = record { peer = refl; server = refl }
no_values (setting.PeerExpanded v ∷ rest) h = absurd cc
no_values (setting.ServerExpanded v ∷ rest) h = absurd cc
no_values (other ∷ rest) h = let i = no_values rest h in record { peer = i.peer; server = i.server }

by_default : (values : List Bool) (value : Bool) → IsGivenOr false values value → values ≡ []
    → value ≡ false
by_default [] value h e = h
by_default (given ∷ rest) value h e = absurd cc

alone_in : (version : Version) (kept : List (List ℕ)) (settings : List Setting)
    (events : List Event) (setup : Setup) → version ≡ First →
    map (meaning_by version) kept
    ≡ map entry.Set settings ++ entry.Events ∷ (map entry.Happens events ++ entry.End ∷ []) →
    MakesSetup version (values_of settings) setup → IsAlone setup events
alone_in version kept settings events setup first order made =
    let tail : List Entry = map entry.Happens events ++ entry.End ∷ [] in
    let made_first = subst (λ v. MakesSetup v (values_of settings) setup) first made in
    let order_first = subst (λ v. map (meaning_by v) kept
    ≡ map entry.Set settings ++ entry.Events ∷ tail) first order in
    let none : list_any implies_later (map entry.Set settings ++ entry.Events ∷ tail) ≡ false =
    subst (λ es. list_any implies_later es ≡ false) order_first (none_said kept) in
    let parts =
    or_parts (list_any implies_later (map entry.Set settings)) (list_any implies_later tail)
    (sym (any_join implies_later (map entry.Set settings) (entry.Events ∷ tail)) ∙ none) in
    let in_tail = or_parts
    (list_any implies_later (map entry.Happens events)) (list_any implies_later (entry.End ∷ []))
    (sym (any_join implies_later (map entry.Happens events) (entry.End ∷ [])) ∙ (parts.1)) in
    let values = no_values settings (sym (any_map implies_later entry.Set settings) ∙ (parts.0)) in
    record {
      later = none_later (values_of settings) setup made_first;
      peer = by_default (values_of settings).peer_expanded setup.peer.expanded
          (made_first.peer.expanded) values.peer;
      server = by_default (values_of settings).server_expanded setup.server.expanded
          (made_first.server.expanded) values.server;
      no_restart = sym (any_map implies_later entry.Happens events) ∙ (in_tail.0);
    }

pub first_scenarios_are_alone : FirstScenariosAreAlone
first_scenarios_are_alone lines setup events s first =
    alone_in s.version (lines_that_count s.body) s.settings events setup first s.order s.made
