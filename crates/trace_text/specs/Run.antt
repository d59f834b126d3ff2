-- The trace of a run: the lines of its start, of each event, and of its end.
use Rattle.std.specs.Prelude.{ℕ, List, [], ◌∷◌, ◌++◌, length, Bool, true, false, ◌==◌, nat_le}
use Rattle.std.specs.Prelude.{if◌then◌else◌, Option, Some, None, codes, decimal, slice_index}
use Rattle.std.specs.List.{concat}
use Rattle.login_setup.specs.declared.setup.Mode.{Mode}
use Rattle.login_setup.specs.declared.setup.Mode.TheVariants as mode
use Rattle.login_setup.specs.declared.setup.Party.{Party}
use Rattle.login_setup.specs.declared.setup.Party.TheVariants as party
use Rattle.login_setup.specs.declared.setup.Port.{Port}
use Rattle.login_setup.specs.declared.setup.Port.TheVariants as port
use Rattle.eap_packet.specs.Words.{state_word}
use Rattle.eap_packet.specs.declared.state.State.{State}
use Rattle.tag_book.specs.Book.{tags_verdict}
use Rattle.eap_world.specs.Judgement.{verdict_of}
use Rattle.eap_world.specs.World.{WorldNow, WorldOutcome, pass_state, result_octets}
use Rattle.tag_book.specs.declared.book.TagsVerdict.{TagsVerdict}
use Rattle.tag_book.specs.declared.book.TagsVerdict.TheVariants as tags
use Rattle.eap_world.specs.declared.told.Counts.{Counts}
use Rattle.eap_world.specs.declared.told.Named.{Named}
use Rattle.eap_world.specs.declared.told.SentNumber.{SentNumber}
use Rattle.eap_world.specs.declared.told.Skip.{Skip}
use Rattle.eap_world.specs.declared.told.Skip.TheVariants as skip
use Rattle.eap_world.specs.declared.told.Brief.{Brief}
use Rattle.eap_world.specs.declared.verdict.Verdict.{Verdict}
use Rattle.eap_world.specs.declared.verdict.Verdict.TheVariants as verdict
use Rattle.login_keys.specs.KeyName.{key_name_of}
use Rattle.answer_text.specs.Paths.{path_text, cause_text}
use Rattle.answer_text.specs.Pieces.{hex_text}

abbrev pub party_word : Party → List ℕ
party_word party.Peer = codes "peer"
party_word party.Pass = codes "pass"
party_word party.Server = codes "server"

abbrev pub port_word : Port → List ℕ
port_word port.Peer = codes "peer"
port_word port.Server = codes "server"
port_word port.PassPeer = codes "pass-peer"
port_word port.PassServer = codes "pass-server"

abbrev pub skip_word : Skip → List ℕ
skip_word skip.NoParty = codes "NoParty"
skip_word skip.Unsent = codes "Unsent"
skip_word skip.Place = codes "Place"
skip_word skip.Ended = codes "Ended"
skip_word skip.NoTimer = codes "NoTimer"
skip_word skip.NoNonce = codes "NoNonce"

-- the name of a Code
abbrev pub code_word : ℕ → List ℕ
code_word code =
    if code == 1 then codes "request"
    else if code == 2 then codes "response"
    else if code == 3 then codes "success"
    else codes "failure"

-- the Type of a packet, if it has one
abbrev pub type_text : List ℕ → List ℕ
type_text octets = if nat_le (slice_index octets 0) 2
    then concat (codes " type " ∷ decimal (slice_index octets 4) ∷ []) else []

-- the line of the party that acted, with the states that it entered
abbrev pub party_text : ℕ → Option Party → List State → List ℕ
party_text event None path = []
party_text event (Some party) path =
    concat (decimal event ∷ codes " " ∷ party_word party ∷ []) ++ path_text path

-- the line of a packet that was sent, of these octets
abbrev pub sent_text : ℕ → List ℕ → Option SentNumber → List ℕ
sent_text event octets None = []
sent_text event octets (Some sent) = concat (
    decimal event ∷ codes " sent " ∷ decimal sent.number ∷ codes " to " ∷ port_word sent.port
    ∷ codes " " ∷
    code_word (slice_index octets 0) ∷ codes " " ∷ decimal (slice_index octets 1)
    ∷ type_text octets ∷
    codes " length " ∷ decimal (length octets) ∷ codes "\n" ∷ [])

-- the octets of a packet that was sent, which are only in a trace with names
abbrev pub octets_line : ℕ → List ℕ → List ℕ
octets_line event octets =
    concat (decimal event ∷ codes " octets " ∷ hex_text octets ∷ codes "\n" ∷ [])

abbrev pub octets_text : Bool → ℕ → List ℕ → Option SentNumber → List ℕ
octets_text names event octets None = []
octets_text names event octets (Some sent) = if names then octets_line event octets else []

-- the names of the keys that a party first reports, which are only in a trace with names
abbrev pub key_names_line : ℕ → List ℕ → List ℕ → List ℕ → List ℕ
key_names_line event party msk emsk = concat (
    decimal event ∷ codes " keys " ∷ party ∷ codes " msk " ∷ hex_text msk ∷ codes " emsk "
    ∷ hex_text emsk ∷ codes "\n" ∷ [])

abbrev pub keys_line : ℕ → Named → List ℕ
keys_line event named = key_names_line event (party_word named.party) (key_name_of named.report.msk)
    (key_name_of named.report.emsk)

abbrev pub keys_text : Bool → ℕ → Option Named → List ℕ
keys_text names event None = []
keys_text names event (Some named) = if names then keys_line event named else []

-- the lines of the packet that was sent, of its octets, and of the keys
abbrev pub shown_text : Bool → List ℕ → Brief → List ℕ
shown_text names octets told = sent_text told.event octets told.sent
    ++ (octets_text names told.event octets told.sent ++ keys_text names told.event told.named)

-- the lines of a result: a skipped event has one alone
abbrev pub acted_text : Bool → List ℕ → Brief → List ℕ
acted_text names octets told = party_text told.event told.party told.path
    ++ (cause_text told.event told.cause ++ shown_text names octets told)

-- the line of a skipped event
abbrev pub skip_text : ℕ → Skip → List ℕ
skip_text event skip = concat (decimal event ∷ codes " skip " ∷ skip_word skip ∷ codes "\n" ∷ [])

abbrev pub told_by : Bool → List ℕ → Brief → Option Skip → List ℕ
told_by names octets told (Some skip) = skip_text told.event skip
told_by names octets told None = acted_text names octets told

-- the lines of an event, with the octets of packets and the names of keys or without; the packet
-- that was sent has these octets
unfoldable pub told_text : Bool → List ℕ → Brief → List ℕ
told_text names octets told = told_by names octets told told.skip

-- the lines of the result of an event
abbrev pub outcome_text : Bool → WorldOutcome → List ℕ
outcome_text names out = told_text names (result_octets out) out.told

-- the lines of the start, in which the peer begins before the server asks
unfoldable pub peer_start_text : List ℕ
peer_start_text = codes "0 peer INITIALIZE IDLE\n"

-- a server behind a pass-through waits
unfoldable pub server_start_text : Mode → List ℕ
server_start_text mode.Alone = []
server_start_text mode.Through = codes "0 server INITIALIZE\n"

abbrev pub start_text : Mode → Bool → List ℕ → Brief → List ℕ
start_text m names octets told =
    peer_start_text ++ (told_text names octets told ++ server_start_text m)

abbrev pub start_line_text : Bool → WorldOutcome → List ℕ
start_line_text names out = start_text out.after.parties.mode names (result_octets out) out.told

-- the state of each party
unfoldable pub state_line : List ℕ → State → List ℕ
state_line of state = concat (of ∷ state_word state ∷ codes "\n" ∷ [])

-- the pass-through if there is one
unfoldable pub pass_state_line : Option State → List ℕ
pass_state_line None = []
pass_state_line (Some state) = state_line (codes "state pass ") state

abbrev pub end_state_text : State → Option State → State → List ℕ
end_state_text peer pass server = state_line (codes
    "state peer ") peer ++ (pass_state_line pass ++ state_line (codes "state server ") server)

-- how many events, deliveries and discards there were
unfoldable pub counts_text : Counts → List ℕ
counts_text counts = concat (
    codes "events " ∷ decimal counts.events ∷ codes "\ndeliveries " ∷ decimal counts.deliveries ∷
    codes "\ndiscards " ∷ decimal counts.discards ∷ codes "\n" ∷ [])

-- whether each conversation began with a fresh nonce; version 1 has one conversation an end, and
-- doesn't say it
abbrev pub freshness_shown : WorldNow → Option Bool
freshness_shown w = if w.version == 2 then Some w.conversations.fresh else None

unfoldable pub fresh_text : Option Bool → List ℕ
fresh_text None = []
fresh_text (Some true) = codes "fresh yes\n"
fresh_text (Some false) = codes "fresh no\n"

-- whether each accepted tag was made earlier by the other end, and else the event of the first that
-- wasn't
unfoldable pub tags_text : TagsVerdict → List ℕ
tags_text tags.Honest = codes "tags honest\n"
tags_text (tags.Broken event) = concat (codes "tags broken " ∷ decimal event ∷ codes "\n" ∷ [])

abbrev pub verdict_word : Verdict → List ℕ
verdict_word verdict.Agree = codes "agree"
verdict_word verdict.Apart = codes "apart"
verdict_word verdict.Unfinished = codes "open"

-- the verdict on the login, and the last line
unfoldable pub result_text : Verdict → List ℕ
result_text v = concat (codes "result " ∷ verdict_word v ∷ codes "\nend\n" ∷ [])

-- the lines of the end
unfoldable pub end_text_of : State → Option State → State → Counts → Option Bool → TagsVerdict
    → Verdict → List ℕ
end_text_of peer pass server counts fresh tags verdict =
    end_state_text peer pass server
    ++ (counts_text counts ++ (fresh_text fresh ++ (tags_text tags ++ result_text verdict)))

abbrev pub end_text : WorldNow → List ℕ
end_text w =
    end_text_of w.parties.peer.vars.state (pass_state w.parties.mode w.parties.pass)
    w.parties.server.vars.state w.counts (freshness_shown w) (tags_verdict w.book) (verdict_of w)
