-- Which texts are plain: each of their lines begins with a number, or with a word of its own.
use Rattle.std.proofs.Common.{◌≡◌, ℕ, ◌≤◌, ◌==◌, ◌||◌, List, [], ◌∷◌, ◌++◌, length, Bool, true}
use Rattle.std.proofs.Common.{false, Option, Some, None, refl, codes, decimal, slice_index, arith}
use Rattle.std.proofs.lemmas.Bool.{or_from, ne_eqb}
use Rattle.std.specs.List.{concat}
use Rattle.login_setup.specs.declared.setup.Mode.{Mode}
use Rattle.login_setup.specs.declared.setup.Mode.TheVariants as mode
use Rattle.login_setup.specs.declared.setup.Party.{Party}
use Rattle.login_setup.specs.declared.setup.Party.TheVariants as party
use Rattle.login_setup.specs.declared.setup.Port.{Port}
use Rattle.login_setup.specs.declared.setup.Port.TheVariants as port
use Rattle.eap_packet.specs.Words.{state_word}
use Rattle.eap_packet.specs.declared.state.State.{State}
use Rattle.eap_world.specs.declared.told.Counts.{Counts}
use Rattle.eap_world.specs.declared.told.Named.{Named}
use Rattle.eap_world.specs.declared.told.SentNumber.{SentNumber}
use Rattle.eap_world.specs.declared.told.Skip.{Skip}
use Rattle.eap_world.specs.declared.told.Skip.TheVariants as skip
use Rattle.eap_world.specs.declared.told.Brief.{Brief}
use Rattle.login_keys.specs.KeyName.{key_name_of}
use Rattle.answer_text.specs.Paths.{path_text, cause_text}
use Rattle.answer_text.specs.Pieces.{hex_text}
use Rattle.trace_text.specs.Run.{party_word, port_word, skip_word, code_word, type_text, party_text}
use Rattle.trace_text.specs.Run.{sent_text, octets_line, octets_text, keys_line, keys_text}
use Rattle.trace_text.specs.Run.{shown_text, acted_text, told_by, told_text, peer_start_text}
use Rattle.trace_text.specs.Run.{server_start_text, start_text, pass_state_line, state_line}
use Rattle.trace_text.specs.Run.{end_state_text, counts_text}
use Rattle.answer_text.proofs.PlainPaths.{path_plain, cause_plain}
use Rattle.answer_text.proofs.PlainWords.{state_within, either_within, hex_within}
use Rattle.answer_text.proofs.Plain.{is_within, plain, join, through, within_join, decimal_within}
use Rattle.answer_text.proofs.Plain.{decimal_first, numbered}

-- ---- words

party_within : (p : Party) → is_within (party_word p) ≡ true
party_within party.Peer = refl
party_within other = refl

port_within : (p : Port) → is_within (port_word p) ≡ true
port_within port.Peer = refl
port_within other = refl

skip_within : (s : Skip) → is_within (skip_word s) ≡ true
skip_within skip.NoParty = refl
skip_within other = refl

code_within : (code : ℕ) → is_within (code_word code) ≡ true
code_within code =
    either_within (code == 1) (codes "request") _ refl
    (either_within (code == 2) (codes "response") _ refl
    (either_within (code == 3) (codes "success") (codes "failure") refl refl))

type_within : (octets : List ℕ) → is_within (type_text octets) ≡ true
type_within octets =
    either_within _ (concat (codes " type " ∷ decimal (slice_index octets 4) ∷ [])) []
    (within_join (decimal (slice_index octets 4)) [] (decimal_within (slice_index octets 4)) refl)
    refl

-- ---- the lines of events

module _ (bad : ℕ → Bool) (no_digit : (o : ℕ) → 48 ≤ o → o ≤ 57 → bad o ≡ false) where
  party_plain : (event : ℕ) (p : Option Party) (path : List State)
      → plain bad true (party_text event p path) ≡ true
  party_plain event None path = refl
  party_plain event (Some p) path =
      numbered bad no_digit event (codes " " ++ (party_word p ++ [])) (path_text path)
      (within_join (party_word p) [] (party_within p) refl) (path_plain bad no_digit path)

  sent_plain : (event : ℕ) (octets : List ℕ) (s : Option SentNumber)
      → plain bad true (sent_text event octets s) ≡ true
  sent_plain event octets None = refl
  sent_plain event octets (Some sent) =
      decimal_first bad no_digit event _
      (through bad (decimal sent.number) _ (decimal_within sent.number)
      (through bad (port_word sent.port) _ (port_within sent.port)
      (through bad (code_word (slice_index octets 0)) _ (code_within (slice_index octets 0))
      (through bad (decimal (slice_index octets 1)) _ (decimal_within (slice_index octets 1))
      (through bad (type_text octets) _ (type_within octets)
      (through bad (decimal (length octets)) _ (decimal_within (length octets)) refl))))))

  line_of_octets_plain : (event : ℕ) (octets : List ℕ)
      → plain bad true (octets_line event octets) ≡ true
  line_of_octets_plain event octets =
      decimal_first bad no_digit event _ (through bad (hex_text octets) _ (hex_within octets) refl)

  octets_plain : (names : Bool) (event : ℕ) (octets : List ℕ) (s : Option SentNumber)
      → plain bad true (octets_text names event octets s) ≡ true
  octets_plain names event octets None = refl
  octets_plain true event octets (Some sent) = line_of_octets_plain event octets
  octets_plain false event octets (Some sent) = refl

  line_of_keys_plain : (event : ℕ) (named : Named) → plain bad true (keys_line event named) ≡ true
  line_of_keys_plain event named =
      let msk = key_name_of named.report.msk in
      let emsk = key_name_of named.report.emsk in
      decimal_first bad no_digit event _
      (through bad (party_word named.party) _ (party_within named.party)
      (through bad (hex_text msk) _ (hex_within msk)
      (through bad (hex_text emsk) _ (hex_within emsk) refl)))

  keys_plain : (names : Bool) (event : ℕ) (n : Option Named)
      → plain bad true (keys_text names event n) ≡ true
  keys_plain names event None = refl
  keys_plain true event (Some named) = line_of_keys_plain event named
  keys_plain false event (Some named) = refl

  shown_plain : (names : Bool) (octets : List ℕ) (told : Brief)
      → plain bad true (shown_text names octets told) ≡ true
  shown_plain names octets told =
      join bad (sent_text told.event octets told.sent) _ true
      (sent_plain told.event octets told.sent) (join bad
      (octets_text names told.event octets told.sent) (keys_text names told.event told.named) true
      (octets_plain names told.event octets told.sent) (keys_plain names told.event told.named))

  acted_plain : (names : Bool) (octets : List ℕ) (told : Brief)
      → plain bad true (acted_text names octets told) ≡ true
  acted_plain names octets told =
      join bad (party_text told.event told.party told.path) _ true
      (party_plain told.event told.party told.path)
      (join bad (cause_text told.event told.cause) (shown_text names octets told) true
      (cause_plain bad no_digit told.event told.cause) (shown_plain names octets told))

  reported_by_plain : (names : Bool) (octets : List ℕ) (told : Brief) (s : Option Skip)
      → plain bad true (told_by names octets told s) ≡ true
  reported_by_plain names octets told None = acted_plain names octets told
  reported_by_plain names octets told (Some s) =
      decimal_first bad no_digit told.event _ (through bad (skip_word s) _ (skip_within s) refl)

  -- the lines of an event
  pub reported_plain : (names : Bool) (octets : List ℕ) (told : Brief)
      → plain bad true (told_text names octets told) ≡ true
  unfolding told_text
  reported_plain names octets told = reported_by_plain names octets told told.skip

-- ---- the lines of the start and the end

-- the first octets of `fresh`, `tags` and `result`
abbrev pub starts_verdict : ℕ → Bool
starts_verdict o = o == 102 || (o == 116 || o == 114)

-- no number begins so
pub no_verdict : (o : ℕ) → 48 ≤ o → o ≤ 57 → starts_verdict o ≡ false
no_verdict o h k =
    or_from (o == 102) (o == 116 || o == 114) (ne_eqb o 102 (λ e. omega (arith, k, e)))
    (or_from (o == 116) (o == 114) (ne_eqb o 116 (λ e. omega (arith, k, e)))
    (ne_eqb o 114 (λ e. omega (arith, k, e))))

server_start_plain : (m : Mode) → plain starts_verdict true (server_start_text m) ≡ true
unfolding server_start_text
server_start_plain mode.Alone = refl
server_start_plain mode.Through = refl

pub start_plain : (m : Mode) (names : Bool) (octets : List ℕ) (told : Brief)
    → plain starts_verdict true (start_text m names octets told) ≡ true
unfolding peer_start_text
start_plain m names octets told =
    join starts_verdict (told_text names octets told) (server_start_text m) true
    (reported_plain starts_verdict no_verdict names octets told) (server_start_plain m)

peer_state_plain : (peer : State)
    → plain starts_verdict true (state_line (codes "state peer ") peer) ≡ true
unfolding state_line
peer_state_plain peer = through starts_verdict (state_word peer) _ (state_within peer) refl

server_state_plain : (server : State)
    → plain starts_verdict true (state_line (codes "state server ") server) ≡ true
unfolding state_line
server_state_plain server = through starts_verdict (state_word server) _ (state_within server) refl

pass_state_plain : (pass : Option State) → plain starts_verdict true (pass_state_line pass) ≡ true
unfolding pass_state_line state_line
pass_state_plain None = refl
pass_state_plain (Some pass) = through starts_verdict (state_word pass) _ (state_within pass) refl

pub occurs_plain : (peer : State) (pass : Option State) (server : State)
    → plain starts_verdict true (end_state_text peer pass server) ≡ true
occurs_plain peer pass server =
    join starts_verdict (state_line (codes "state peer ") peer) _ true (peer_state_plain peer)
    (join starts_verdict (pass_state_line pass) (state_line (codes "state server ") server) true
    (pass_state_plain pass) (server_state_plain server))

pub counts_plain : (counts : Counts) → plain starts_verdict true (counts_text counts) ≡ true
unfolding counts_text
counts_plain counts =
    through starts_verdict (decimal counts.events) _ (decimal_within counts.events)
    (through starts_verdict (decimal counts.deliveries) _ (decimal_within counts.deliveries)
    (through starts_verdict (decimal counts.discards) _ (decimal_within counts.discards) refl))
