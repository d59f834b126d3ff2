-- What has been read is within its limits, line by line.
use Rattle.std.proofs.Common.{◌≡◌, ◌==◌, ℕ, ◌≤◌, ◌<◌, ◌⊎◌, inl, inr, Bool, true, false, ◌||◌, ◌&&◌}
use Rattle.std.proofs.Common.{List, [], ◌∷◌, ◌++◌, nat_lt, length, Option, Some, None, IfSome}
use Rattle.std.proofs.Common.{Result, Ok, Err, IfOk, IsOk, is_err}
use Rattle.std.proofs.Common.{refl, sym, subst, ◌∙◌, lit<, lit≤, append-nil, IsTrue, codes, leb}
use Rattle.std.proofs.Common.{arith, All}
use Rattle.std.proofs.lemmas.Bool.{leb-false, cond_both, cases_Bool, eq-eqb, true≢false}
use Rattle.std.proofs.lemmas.List.Elements.{All-nil, All-push, All-weaker}
use Rattle.std.proofs.lemmas.Result.{IfOk-weaker}
use Rattle.std.proofs.lemmas.Slice.Eq.{bytes_eq-Decides}
use Rattle.std.specs.Str.{bytes_eq}
use Rattle.octet_lists.specs.Among.{psk_kind, gpsk_kind, is_kind}
use Rattle.login_setup.proofs.Sound.{kind_is_of_method, kinds_are_of_methods}
use Rattle.login_setup.specs.Setup.{are_kinds, are_suites, has_valid_key, is_method_kind}
use Rattle.login_setup.specs.Setup.{is_valid_for, no_later}
use Rattle.login_setup.specs.declared.event.Event.{Event}
use Rattle.login_setup.specs.declared.setup.Accepts.TheVariants.{Any, One}
use Rattle.login_setup.specs.declared.setup.PeerSetup.{PeerSetup}
use Rattle.login_setup.specs.Setup.{ServerSetup}
use Rattle.login_setup.specs.declared.setup.Setup.{Setup}
use Rattle.text_tables.specs.Words.{words}
use Rattle.text_tables.specs.Fields.{word_in, is_dash, octets_of, spells_kind, kind_of}
use Rattle.text_tables.specs.Fields.{spells_suite, suite_of}
use Rattle.text_tables.specs.Rows.{is_kind_or_none}
use Rattle.text_tables.specs.Texts as texts
use Rattle.text_tables.specs.Texts.{read_body}
use Rattle.text_tables.specs.IsValidRow.{IsName, IsOther, IsValidRow}
use Rattle.scenario_text.specs.Keywords.{row_of, keywords_in}
use Rattle.scenario_text.specs.Entries.{accepts_of, kinds_of, suites_of, key_setting, item_of}
use Rattle.scenario_text.specs.Entries.{keyword_of, meaning_by}
use Rattle.scenario_text.specs.Contents.{Entry, entry_with}
use Rattle.scenario_text.specs.Contents as entry
use Rattle.scenario_text.specs.Reading.{Reading, ReadLine, with_setting, with_later, with_nonce}
use Rattle.scenario_text.specs.Reading.{no_settings, settings_of_version, both_suites}
use Rattle.scenario_text.specs.Reading.{peer_setup_of, server_setup_of, later_nonces, setup_of}
use Rattle.scenario_text.specs.Reading.{ready, scenario, line_of_entry, read_line}
use Rattle.scenario_text.specs.Valid.{AcceptsName, IsValidUser, IsNonce, IsValidSetting}
use Rattle.scenario_text.specs.Valid.{IsValidEntry, IsValidContent, AreValidNonces, AreValid}
use Rattle.scenario_text.specs.Valid.{IsValidPeer, IsValidServer, IsValidSetup, IsValidItem}
use Rattle.scenario_text.specs.Valid.{IsValidReadLine}
use Rattle.scenario_text.specs.Versions.{most_later}
use Rattle.scenario_text.specs.Whole.{IsFaultless, Values, no_values, IsGivenOr, IsGivenOrNone}
use Rattle.scenario_text.specs.Whole.{AreNoncesOf, MakesPeer, MakesServer, MakesSetup}
use Rattle.scenario_text.specs.declared.entry.Entry as told
use Rattle.scenario_text.specs.declared.entry.Setting.{Setting}
use Rattle.scenario_text.specs.declared.entry.Setting.TheVariants as setting
use Rattle.text_tables.specs.declared.fault.LineFault.{LineFault}
use Rattle.scenario_text.specs.declared.keyword.Keyword.{Keyword}
use Rattle.scenario_text.specs.declared.keyword.Keyword.TheVariants as key
use Rattle.text_tables.specs.declared.phase.Phase.{Phase}
use Rattle.text_tables.specs.declared.phase.Phase.TheVariants as phase
use Rattle.scenario_text.specs.declared.settings.GivenNonces.{GivenNonces}
use Rattle.scenario_text.specs.declared.settings.Settings.{Settings}
use Rattle.scenario_text.specs.declared.version.Version.{Version}
use Rattle.scenario_text.specs.declared.version.Version.TheVariants.{First, Second}
use Rattle.text_tables.proofs.Bounded.{faultless_fits}
use Rattle.text_tables.proofs.Reading.{stepped}
use Rattle.scenario_text.proofs.Implying.{step_cases, read_line_from_unread}
use Rattle.text_tables.proofs.Adding.{with_user_all}
use Rattle.scenario_text.proofs.Settling.{plus, plus_nonces, joined, none_kept, kept, nonces_set}
use Rattle.scenario_text.proofs.Settling.{peers_given, servers_given, all_given, none_later}

accepts_valid : (word : List ℕ) → IsName word → AcceptsName (accepts_of word)
accepts_valid word h =
    cond_both (bytes_eq word (codes "any")) Any (One word) AcceptsName (λ e. tt) (λ e. h)

kind_valid : (word : List ℕ) → IsTrue (is_kind (kind_of word))
kind_valid word = cond_both (bytes_eq word (codes "47")) psk_kind gpsk_kind
    (λ kind. IsTrue (is_kind kind)) (λ e. refl) (λ e. refl)

-- of two words, each of which is one of two, that aren't the same, one is the first
record FirstAlone (v w a : List ℕ) : Type 0 where
  pub is : bytes_eq v a ≡ true
  pub other : bytes_eq w a ≡ false

apart : (v w a b : List ℕ) → (bytes_eq v a || bytes_eq v b) ≡ true → (bytes_eq w a || bytes_eq w b)
    ≡ true → bytes_eq w v ≡ false → FirstAlone v w a ⊎ FirstAlone w v a
apart v w a b h k e =
    elim (cases_Bool (bytes_eq v a)) [
      | inl p ↦ elim (cases_Bool (bytes_eq w a)) [
        | inl q ↦
            let same : w ≡ v = (bytes_eq-Decides w a).0 q ∙ sym ((bytes_eq-Decides v a).0 p) in
            let eq = (bytes_eq-Decides w v).1 same in
            absurd cc
        | inr q ↦ inl (record { is = p; other = q })
      ]
      | inr p ↦ elim (cases_Bool (bytes_eq w a)) [
        | inl q ↦ inr (record { is = q; other = p })
        | inr q ↦
            let same : w ≡ v =
            (bytes_eq-Decides w b).0 (rw q at k) ∙ sym ((bytes_eq-Decides v b).0 (rw p at h)) in
            let eq = (bytes_eq-Decides w v).1 same in
            absurd cc
      ]
    ]

two_kinds : (v w : List ℕ) → spells_kind v ≡ true → IsOther spells_kind w v
    → IsTrue (are_kinds (kind_of v ∷ kind_of w ∷ []))
two_kinds v w h k =
    elim (apart v w (codes "47") (codes "51") h (k.spelled) (k.differs)) [
      | inl f ↦ let p = f.is in let q = f.other in rw (p, q) refl
      | inr f ↦ let p = f.is in let q = f.other in rw (p, q) refl
    ]

two_suites : (v w : List ℕ) → spells_suite v ≡ true → IsOther spells_suite w v
    → IsTrue (are_suites (suite_of v ∷ suite_of w ∷ []))
two_suites v w h k =
    elim (apart v w (codes "1") (codes "2") h (k.spelled) (k.differs)) [
      | inl f ↦ let p = f.is in let q = f.other in rw (p, q) refl
      | inr f ↦ let p = f.is in let q = f.other in rw (p, q) refl
    ]

one_kind : (v : List ℕ) → IsTrue (are_kinds (kind_of v ∷ []))
one_kind v = cond_both (bytes_eq v (codes "47")) psk_kind gpsk_kind
    (λ kind. IsTrue (are_kinds (kind ∷ []))) (λ e. refl) (λ e. refl)

one_suite : (v : List ℕ) → IsTrue (are_suites (suite_of v ∷ []))
one_suite v = cond_both (bytes_eq v (codes "1")) 1 2 (λ suite. IsTrue (are_suites (suite ∷ [])))
    (λ e. refl) (λ e. refl)

spelled : (a b c : Bool) → (a || (b && c)) ≡ true → b ≡ false → a ≡ true
spelled true b c h e = refl
spelled false true c h e = absurd cc
spelled false false c h e = absurd cc

kinds_valid : (ws : List (List ℕ)) → IsTrue (is_kind_or_none 1 ws) → (2 < length ws
    → IsOther spells_kind (word_in ws 2) (word_in ws 1)) → IsTrue (are_kinds (kinds_of ws))
kinds_valid ws h k =
    cond_both (is_dash (word_in ws 1)) [] _ (λ kinds. IsTrue (are_kinds kinds)) (λ e. refl)
    (λ e. cond_both (leb (length ws) 2) (kind_of (word_in ws 1) ∷ [])
    (kind_of (word_in ws 1) ∷ kind_of (word_in ws 2) ∷ []) (λ kinds. IsTrue (are_kinds kinds))
    (λ one. one_kind (word_in ws 1))
    (λ two. two_kinds (word_in ws 1) (word_in ws 2) (spelled _ (is_dash (word_in ws 1)) _ h e)
    (k (leb-false (length ws) 2 two))))

suites_valid : (ws : List (List ℕ)) → IsTrue (spells_suite (word_in ws 1)) → (2 < length ws
    → IsOther spells_suite (word_in ws 2) (word_in ws 1)) → IsTrue (are_suites (suites_of ws))
suites_valid ws h k =
    cond_both (leb (length ws) 2) (suite_of (word_in ws 1) ∷ [])
    (suite_of (word_in ws 1) ∷ suite_of (word_in ws 2) ∷ []) (λ suites. IsTrue (are_suites suites))
    (λ one. one_suite (word_in ws 1))
    (λ two. two_suites (word_in ws 1) (word_in ws 2) h (k (leb-false (length ws) 2 two)))

key_valid : (word key : List ℕ) → IsTrue (is_valid_for (kind_of word) key)
    → IsValidSetting (key_setting (kind_of word) key)
key_valid word key h =
    elim (cases_Bool (bytes_eq word (codes "47"))) [
      | inl e ↦ rw e (rw e at h)
      | inr e ↦ rw e (rw e at h)
    ]

pub item_of_valid : (k : Keyword) (ws : List (List ℕ)) → IsValidRow (row_of k) ws
    → IsValidEntry (item_of k ws)
unfolding item_of
item_of_valid key.FirstId ws h = omega (arith, h.fields.0.most)
item_of_valid key.MaxRetrans ws h = h.fields.0.most
item_of_valid key.PeerName ws h = h.fields.0
item_of_valid key.PeerServer ws h = accepts_valid (word_in ws 1) (h.fields.0)
item_of_valid key.PeerMethods ws h = kinds_valid ws (h.fields.0) (h.fields.1.0)
item_of_valid key.PeerSuites ws h = suites_valid ws (h.fields.0) (h.fields.1.0)
item_of_valid key.PeerPsk ws h =
    key_valid (word_in ws 1) (octets_of (word_in ws 2)) (h.fields.1.0.fits)
item_of_valid key.PeerNonce ws h = omega (arith, h.fields.0.least, h.fields.0.most)
item_of_valid key.ServerName ws h = h.fields.0
item_of_valid key.ServerMethods ws h = kinds_valid ws (h.fields.0) (h.fields.1.0)
item_of_valid key.ServerSuites ws h = suites_valid ws (h.fields.0) (h.fields.1.0)
item_of_valid key.ServerNonce ws h = omega (arith, h.fields.0.least, h.fields.0.most)
item_of_valid key.User ws h =
    record { name = h.fields.0; kind = kind_valid (word_in ws 2); psk = h.fields.1.1.0.fits }
item_of_valid other ws h = tt

-- what a line says is within its limits
pub stated_by_valid : (version : Version) (line : List ℕ) → IsFaultless version line
    → IsValidEntry (meaning_by version line)
stated_by_valid version line own = item_of_valid (keyword_of version line) (words line)
    (faultless_fits row_of (keywords_in version) key.End line own)

-- and of what is told of it
pub valid_reported : (it : told.Entry) (e : Event) → IsValidEntry (entry_with it e)
    → IsValidContent it
valid_reported (told.TheVariants.Set v) e h = h
valid_reported other e h = tt

pub started_valid : (version : Version) → AreValid (settings_of_version version)
started_valid version = record {
  first_id = tt;
  max_retrans = tt;
  peer_name = tt;
  peer_server = tt;
  peer_methods = tt;
  peer_suites = tt;
  peer_psk47 = tt;
  peer_psk51 = tt;
  peer_nonces = tt;
  server_name = tt;
  server_methods = tt;
  server_suites = tt;
  server_nonces = tt;
  users = All-nil IsValidUser;
  kept = none_kept version;
}

pub no_settings_valid : AreValid no_settings
no_settings_valid = started_valid First

-- one more nonce
later_valid : (version : Version) (later : List (List ℕ)) (nonce : List ℕ) → All IsNonce later
    → IsNonce nonce → All IsNonce (with_later version later nonce)
unfolding with_later
later_valid version later nonce h k =
    cond_both (nat_lt (length later) (most_later version)) (later ++ nonce ∷ []) later (All IsNonce)
    (λ e. All-push IsNonce later nonce h k) (λ e. h)

nonces_valid : (version : Version) (slot : Option GivenNonces) (nonce : List ℕ)
    → IfSome slot AreValidNonces → IsNonce nonce
    → IfSome (with_nonce version slot nonce) AreValidNonces
nonces_valid version None nonce h k = record { first = k; later = All-nil IsNonce }
nonces_valid version (Some given) nonce h k =
    record { first = h.first; later = later_valid version given.later nonce h.later k }

-- one more setting
pub with_setting_valid : (s : Settings) (v : Setting) → AreValid s → IsValidSetting v
    → AreValid (with_setting s v)
with_setting_valid s (setting.User user) h k =
    assumption (with_user_all IsValidUser s.users user h.users k, kept s (setting.User user) h.kept)
with_setting_valid s (setting.PeerNonce nonce) h k =
    assumption (
      nonces_valid s.version s.peer_nonces nonce h.peer_nonces k,
      kept s (setting.PeerNonce nonce) h.kept,
    )
with_setting_valid s (setting.ServerNonce nonce) h k =
    assumption (
      nonces_valid s.version s.server_nonces nonce h.server_nonces k,
      kept s (setting.ServerNonce nonce) h.kept,
    )
with_setting_valid s other h k = assumption (kept s other h.kept)

-- what holds of a slot holds of the value that is given, or else of the default
held : {A : Type 0} (P : A → Type 0) (slot : Option A) (a : A) → IfSome slot P
    → plus slot [] ≡ a ∷ [] → P a
held P None a h e = absurd cc
held P (Some b) a h e = let same : b ≡ a = cc in subst P same h

held_or : {A : Type 0} (P : A → Type 0) (slot : Option A) (d a : A) → IfSome slot P → P d
    → IsGivenOr d (plus slot []) a → P a
held_or P None d a h k e = subst P (sym e) k
held_or P (Some b) d a h k e = subst P (sym e) h

held_key : {A : Type 0} (P : A → Type 0) (slot key : Option A) → IfSome slot P
    → IsGivenOrNone (plus slot []) key → IfSome key P
held_key P None key h e = rw e tt
held_key P (Some b) key h e = rw e h

-- and of the nonces
held_nonces : (version : Version) (slot : Option GivenNonces) (first : List ℕ)
    (later : List (List ℕ)) → IfSome slot AreValidNonces →
    AreNoncesOf version (plus_nonces slot []) first later
    → AreValidNonces (record { first = first; later = later })
held_nonces version slot first later h m =
    subst (λ o. IfSome o AreValidNonces) (nonces_set slot first later m.given) h

-- no version but the second has the number 2
alone : (version : Version) (v : Values) (setup : Setup) → MakesSetup version v setup
    → (setup.later.version == 2) ≡ false → setup.later ≡ no_later
alone First v setup m other = none_later v setup m
alone Second v setup m other =
    absurd (true≢false (sym (eq-eqb setup.later.version 2 m.number) ∙ other))

valid_peer : (version : Version) (s : Settings) (later : List (List ℕ)) (peer : PeerSetup)
    → AreValid s → MakesPeer version (joined s no_values) later peer → IsValidPeer peer
valid_peer version s later peer h m =
    let kinds = held (λ kinds. IsTrue (are_kinds kinds))
    s.peer_methods peer.methods h.peer_methods m.methods in record {
      methods = kinds;
      sound = record {
        methods = kinds_are_of_methods peer.methods kinds;
        suites = held_or (λ suites. IsTrue (are_suites suites))
            s.peer_suites both_suites peer.suites h.peer_suites refl m.suites;
        psk47 = held_key (λ key. IsTrue (is_valid_for psk_kind key))
            s.peer_psk47 peer.psk47 h.peer_psk47 m.psk47;
        psk51 = held_key (λ key. IsTrue (is_valid_for gpsk_kind key))
            s.peer_psk51 peer.psk51 h.peer_psk51 m.psk51;
      };
      keys = m.keys;
      name = held IsName s.peer_name peer.name h.peer_name m.name;
      accepts = held AcceptsName s.peer_server peer.accepts h.peer_server m.accepts;
      nonce = (held_nonces version s.peer_nonces peer.nonce later h.peer_nonces m.nonces).first;
    }

valid_server : (version : Version) (s : Settings) (later : List (List ℕ)) (server : ServerSetup)
    → AreValid s → MakesServer version (joined s no_values) later server →
    IsValidServer server
valid_server version s later server h m =
    let users : All IsValidUser server.users =
    subst (All IsValidUser) (sym (append-nil s.users) ∙ m.users) h.users in
    let kinds = held (λ kinds. IsTrue (are_kinds kinds))
    s.server_methods server.methods h.server_methods m.methods in
    record {
      methods = kinds;
      sound = record {
        methods = kinds_are_of_methods server.methods kinds;
        suites = held_or (λ suites. IsTrue (are_suites suites))
            s.server_suites both_suites server.suites h.server_suites refl m.suites;
        kinds = All-weaker IsValidUser (λ user. IsTrue (is_method_kind user.kind))
            (λ user v. kind_is_of_method user.kind v.kind) server.users users;
        keys = All-weaker IsValidUser (λ user. IsTrue (has_valid_key user))
            (λ user v. v.psk) server.users users;
      };
      name = held IsName s.server_name server.name h.server_name m.name;
      users = users;
      nonce = (held_nonces version s.server_nonces server.nonce later h.server_nonces
          m.nonces).first;
    }

-- the settings of one end
pub peer_setup_of_valid : (s : Settings) → AreValid s → IfOk (peer_setup_of s) IsValidPeer
peer_setup_of_valid s h =
    IfOk-weaker (peer_setup_of s)
    (MakesPeer s.version (joined s no_values) (later_nonces s.peer_nonces)) IsValidPeer
    (λ peer m. valid_peer s.version s (later_nonces s.peer_nonces) peer h m) (peers_given s h.kept)

pub server_setup_of_valid : (s : Settings) → AreValid s → IfOk (server_setup_of s) IsValidServer
server_setup_of_valid s h =
    IfOk-weaker (server_setup_of s)
    (MakesServer s.version (joined s no_values) (later_nonces s.server_nonces)) IsValidServer
    (λ server m. valid_server s.version s (later_nonces s.server_nonces) server h m)
    (servers_given s h.kept)

-- the settings of a run
pub setup_of_valid : (s : Settings) → AreValid s → IfOk (setup_of s) IsValidSetup
setup_of_valid s h =
    IfOk-weaker (setup_of s) (MakesSetup s.version (joined s no_values)) IsValidSetup
    (λ setup m. record {
      first_id =
          held_or (λ id. id < 256) s.first_id 0 setup.first_id h.first_id (lit< tt) m.first_id;
      few_retrans = held_or (λ count. count ≤ 10) s.max_retrans 4 setup.max_retrans h.max_retrans
          (lit≤ tt) m.max_retrans;
      peer = valid_peer s.version s setup.later.peer setup.peer h m.peer;
      server = valid_server s.version s setup.later.server setup.server h m.server;
      later = record {
        peer = (held_nonces s.version s.peer_nonces setup.peer.nonce setup.later.peer h.peer_nonces
            m.peer.nonces).later;
        server = (held_nonces s.version s.server_nonces setup.server.nonce setup.later.server
            h.server_nonces m.server.nonces).later;
        alone = alone s.version (joined s no_values) setup m;
      };
    })
    (all_given s h.kept)

ready_valid : (r : Result Setup LineFault) → IfOk r IsValidSetup → IsValidItem (ready r)
ready_valid (Ok setup) h = h
ready_valid (Err f) h = tt

taken_valid : (p : Phase) (s : Settings) (e : Entry) → AreValid s → IsValidEntry e
    → IsValidReadLine (line_of_entry p s e)
taken_valid p s (entry.Set v) h k = record { item = tt; settings = with_setting_valid s v h k }
taken_valid p s entry.Events h k =
    record { item = ready_valid (setup_of s) (setup_of_valid s h); settings = h }
taken_valid p s other h k = record { item = tt; settings = h }

step_valid : (p : Phase) (s : Settings) (line : List ℕ) (out : ReadLine)
    → AreValid s → read_body row_of scenario (record { phase = p; settings = s }) line ≡ Ok out
    → IsValidReadLine out
step_valid p s line out h e =
    step_cases p s line IsValidReadLine (record { item = tt; settings = h }) (λ own may.
    taken_valid p s (meaning_by s.version line) h (stated_by_valid s.version line own)) out
    (stepped row_of scenario (record { phase = p; settings = s }) line out e)

-- what a line says and adds
line_valid : (p : Phase) (s : Settings) (line : List ℕ) (out : ReadLine) → AreValid s
    → read_line (record { phase = p; settings = s }) line ≡ Ok out → IsValidReadLine out
unfolding read_line texts.read_line
line_valid phase.Unread s line out h e =
    let begins =
    read_line_from_unread (record { phase = phase.Unread; settings = s }) line out refl e in
    subst IsValidReadLine (sym begins.out_is)
    (record { item = tt; settings = started_valid begins.version })
line_valid other s line out h e = step_valid other s line out h e

if_ok : (x : Result ReadLine LineFault) → ((out : ReadLine) → x ≡ Ok out → IsValidReadLine out)
    → IfOk x IsValidReadLine
if_ok (Ok out) h = h out refl
if_ok (Err f) h = tt

pub read_line_valid : (r : Reading) (line : List ℕ) → AreValid r.settings
    → IfOk (read_line r line) IsValidReadLine
read_line_valid r line h =
    if_ok (read_line r line) (λ out. line_valid r.phase r.settings line out h)

-- settings that none is missing of
pub whole : (r : Result Setup LineFault) → is_err r ≡ false → IsOk r
whole (Ok setup) e = refl
whole (Err f) e = absurd cc
