-- The lines of a scenario: what each says, if no fault keeps it from that.
use Rattle.std.specs.Prelude.{ℕ, List, [], ◌∷◌, length, Bool, ◌==◌, nat_le, if◌then◌else◌, codes}
use Rattle.std.specs.Prelude.{unwrap_or}
use Rattle.std.specs.Str.{bytes_eq}
use Rattle.octet_lists.specs.Among.{psk_kind}
use Rattle.login_setup.specs.declared.setup.Mode.{Mode}
use Rattle.login_setup.specs.declared.setup.Mode.TheVariants as mode
use Rattle.login_setup.specs.declared.setup.Accepts.{Accepts}
use Rattle.login_setup.specs.declared.setup.Accepts.TheVariants.{Any, One}
use Rattle.login_setup.specs.declared.setup.Party.{Party}
use Rattle.login_setup.specs.declared.setup.Party.TheVariants as party
use Rattle.login_setup.specs.declared.setup.Port.{Port}
use Rattle.login_setup.specs.declared.setup.Port.TheVariants as port
use Rattle.login_setup.specs.declared.event.Event.TheVariants as event
use Rattle.text_tables.specs.Words.{words}
use Rattle.text_tables.specs.Fields.{word_in, is_dash, number, octets_of, kind_of, suite_of}
use Rattle.text_tables.specs.Rows.{keyword_in, line_has}
use Rattle.scenario_text.specs.Keywords.{row_of, keywords_in}
use Rattle.text_tables.specs.declared.fault.LineFault.{LineFault}
use Rattle.scenario_text.specs.declared.keyword.Keyword.{Keyword}
use Rattle.scenario_text.specs.declared.keyword.Keyword.TheVariants as key
use Rattle.scenario_text.specs.declared.version.Version.{Version}
use Rattle.scenario_text.specs.declared.entry.Setting.{Setting}
use Rattle.scenario_text.specs.declared.entry.Setting.TheVariants as setting
use Rattle.scenario_text.specs.Contents.{Entry}
use Rattle.scenario_text.specs.Contents.{Set, Events, Happens, End}

abbrev pub mode_of : List ℕ → Mode
mode_of word = if bytes_eq word (codes "through") then mode.Through else mode.Alone

-- the server names that a peer accepts
abbrev pub accepts_of : List ℕ → Accepts
accepts_of word = if bytes_eq word (codes "any") then Any else One word

-- one or two methods, or none
abbrev pub kinds_of : List (List ℕ) → List ℕ
kinds_of ws =
    if is_dash (word_in ws 1) then []
    else if nat_le (length ws) 2 then kind_of (word_in ws 1) ∷ []
    else kind_of (word_in ws 1) ∷ kind_of (word_in ws 2) ∷ []

-- one or two ciphersuites
abbrev pub suites_of : List (List ℕ) → List ℕ
suites_of ws =
    if nat_le (length ws) 2 then suite_of (word_in ws 1) ∷ []
    else suite_of (word_in ws 1) ∷ suite_of (word_in ws 2) ∷ []

-- the peer's key for a method
abbrev pub key_setting : ℕ → List ℕ → Setting
key_setting kind key = if kind == psk_kind then setting.PeerPsk47 key else setting.PeerPsk51 key

abbrev pub port_of : List ℕ → Port
port_of word =
    if bytes_eq word (codes "peer") then port.Peer
    else if bytes_eq word (codes "server") then port.Server
    else if bytes_eq word (codes "pass-peer") then port.PassPeer
    else port.PassServer

abbrev pub party_of : List ℕ → Party
party_of word =
    if bytes_eq word (codes "pass") then party.Pass
    else if bytes_eq word (codes "peer") then party.Peer
    else party.Server

abbrev pub is_barred : List ℕ → Bool
is_barred word = bytes_eq word (codes "barred")

abbrev pub is_yes : List ℕ → Bool
is_yes word = bytes_eq word (codes "yes")

-- what a keyword says with the words of its line
unfoldable pub item_of : Keyword → List (List ℕ) → Entry
item_of key.Mode ws = Set (setting.Mode (mode_of (word_in ws 1)))
item_of key.FirstId ws = Set (setting.FirstId (number (word_in ws 1)))
item_of key.MaxRetrans ws = Set (setting.MaxRetrans (number (word_in ws 1)))
item_of key.PeerName ws = Set (setting.PeerName (word_in ws 1))
item_of key.PeerServer ws = Set (setting.PeerServer (accepts_of (word_in ws 1)))
item_of key.PeerMethods ws = Set (setting.PeerMethods (kinds_of ws))
item_of key.PeerSuites ws = Set (setting.PeerSuites (suites_of ws))
item_of key.PeerPsk ws = Set (key_setting (kind_of (word_in ws 1)) (octets_of (word_in ws 2)))
item_of key.PeerNonce ws = Set (setting.PeerNonce (octets_of (word_in ws 1)))
item_of key.ServerName ws = Set (setting.ServerName (word_in ws 1))
item_of key.ServerMethods ws = Set (setting.ServerMethods (kinds_of ws))
item_of key.ServerSuites ws = Set (setting.ServerSuites (suites_of ws))
item_of key.ServerNonce ws = Set (setting.ServerNonce (octets_of (word_in ws 1)))
item_of key.User ws =
    Set (setting.User (record {
      name = word_in ws 1;
      kind = kind_of (word_in ws 2);
      psk = octets_of (word_in ws 3);
      barred = is_barred (word_in ws 4);
    }))
item_of key.Events ws = Events
item_of key.Deliver ws = Happens (event.Deliver (number (word_in ws 1)))
item_of key.Alter ws =
    Happens (event.Alter (number (word_in ws 1)) (number (word_in ws 2)) (number (word_in ws 3)))
item_of key.Cut ws = Happens (event.Cut (number (word_in ws 1)) (number (word_in ws 2)))
item_of key.Inject ws = Happens (event.Inject (port_of (word_in ws 1)) (octets_of (word_in ws 2)))
item_of key.Timeout ws = Happens (event.Timeout (party_of (word_in ws 1)))
item_of key.AaaTimeout ws = Happens event.AaaTimeout
item_of key.AaaNoReq ws = Happens event.AaaNoReq
item_of key.Idle ws = Happens event.Idle
item_of key.AltAccept ws = Happens event.AltAccept
item_of key.AltReject ws = Happens event.AltReject
item_of key.End ws = End
item_of key.PeerExpanded ws = Set (setting.PeerExpanded (is_yes (word_in ws 1)))
item_of key.ServerExpanded ws = Set (setting.ServerExpanded (is_yes (word_in ws 1)))
item_of key.Restart ws = Happens (event.Restart (party_of (word_in ws 1)))

-- what is said is a setting
abbrev pub IsSet : Entry → Type 0
IsSet (Set v) = Unit {0}
IsSet other = ⊥

-- a line of this version has this fault, whatever came before it
abbrev pub has_fault : Version → List ℕ → LineFault → Bool
has_fault version line e = line_has row_of (keywords_in version) line e

-- its keyword, if it has one, and what it says
abbrev pub keyword_of : Version → List ℕ → Keyword
keyword_of version line = unwrap_or (keyword_in row_of (keywords_in version) (words line)) key.End

abbrev pub meaning_by : Version → List ℕ → Entry
meaning_by version line = item_of (keyword_of version line) (words line)
