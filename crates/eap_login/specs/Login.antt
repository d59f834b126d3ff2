-- What the program answers to words and an input.
use Rattle.std.specs.Prelude.{ℕ, List, [], ◌∷◌, Bool, true, false, ◌&&◌, if◌then◌else◌, codes}
use Rattle.std.specs.Prelude.{Option, Some, None}
use Rattle.std.specs.Str.{bytes_eq}
use Rattle.octet_io.specs.Shown.{Shown}
use Rattle.login_setup.specs.declared.users.User.{User}
use Rattle.answer_text.specs.Lines.{line_text}
use Rattle.command_driver.specs.Answers.{Answer}
use Rattle.world_commands.specs.Bulk.{bulk_of, bulk_answer}
use Rattle.capture_commands.specs.Check.{check_answer}
use Rattle.capture_commands.specs.Decode.{decode_answer}
use Rattle.capture_commands.specs.Keys.{keys_answer}
use Rattle.capture_commands.specs.Pcap.{pcap_users, pcap_answer}
use Rattle.capture_commands.specs.Radius.{radius_answer}
use Rattle.end_commands.specs.PeerCommand.{peer_answer}
use Rattle.end_commands.specs.ServerCommand.{server_answer}
use Rattle.command_driver.specs.Responding.{Asked, Lacking, reading, unread, never, at_any, MayLack}
use Rattle.command_driver.specs.Responding.{IsAnswered, answer_to, lacking_of}
use Rattle.world_commands.specs.Scenario.{asked_replay}
use Rattle.world_commands.specs.declared.bulk.Bulk.{Bulk}
use Rattle.command_driver.specs.declared.status.Status.{Status}
use Rattle.command_driver.specs.declared.status.Status.TheVariants as status

-- the words are this one alone
abbrev pub is_alone : List ℕ → List (List ℕ) → Bool
is_alone name [] = false
is_alone name (word ∷ []) = bytes_eq word name
is_alone name (word ∷ next ∷ rest) = false

abbrev pub is_replay : List (List ℕ) → Bool
is_replay words = is_alone (codes "replay") words

abbrev pub is_decode : List (List ℕ) → Bool
is_decode words = is_alone (codes "decode") words

abbrev pub is_keys : List (List ℕ) → Bool
is_keys words = is_alone (codes "keys") words

abbrev pub is_check : List (List ℕ) → Bool
is_check words = is_alone (codes "check") words

abbrev pub is_radius : List (List ℕ) → Bool
is_radius words = is_alone (codes "radius") words

abbrev pub is_peer : List (List ℕ) → Bool
is_peer words = is_alone (codes "peer") words

abbrev pub is_server : List (List ℕ) → Bool
is_server words = is_alone (codes "server") words

-- the words are these two
abbrev pub are_two : List ℕ → List ℕ → List (List ℕ) → Bool
are_two first second [] = false
are_two first second (word ∷ []) = false
are_two first second (word ∷ next ∷ []) = bytes_eq word first && bytes_eq next second
are_two first second (word ∷ next ∷ more ∷ rest) = false

abbrev pub is_replay_names : List (List ℕ) → Bool
is_replay_names words = are_two (codes "replay") (codes "names") words

-- for all other words the program says how it is used
unfoldable pub usage_text : List ℕ
usage_text = line_text (codes
    "usage: eap_login replay | replay names | decode | keys | check | bulk N K | radius | pcap USERS | peer | server")

abbrev pub usage_answer : Answer
usage_answer = record { text = usage_text; status = status.Usage }

-- the answer to words that read nothing
abbrev pub unread_answer : Option Bulk → Answer
unread_answer None = usage_answer
unread_answer (Some b) = bulk_answer b

abbrev pub unread_lacking : Option Bulk → Lacking
unread_lacking None = never
unread_lacking (Some b) = at_any

-- what words ask that name users, or read nothing
abbrev pub asked_with : Option (List User) → Option Bulk → Asked
asked_with None asked = unread (unread_answer asked) (unread_lacking asked)
asked_with (Some users) asked = reading (pcap_answer users) never

abbrev pub asked_with_arguments : List (List ℕ) → Asked
asked_with_arguments words = asked_with (pcap_users words) (bulk_of words)

-- words that read nothing were answered
abbrev pub IsAnsweredUnread : {W : Type 0} → Shown W → Option Bulk → Status → W → W → Type 0
IsAnsweredUnread sink asked result old new =
    IsAnswered sink (unread_answer asked) (unread_lacking asked) result old new

-- what words ask
abbrev pub asked_by : List (List ℕ) → Asked
asked_by words =
    if is_replay words then asked_replay false
    else if is_replay_names words then asked_replay true
    else if is_decode words then reading decode_answer never
    else if is_keys words then reading keys_answer never
    else if is_check words then reading check_answer never
    else if is_radius words then reading radius_answer never
    else if is_peer words then reading peer_answer never
    else if is_server words then reading server_answer never
    else asked_with_arguments words

-- the answer to words and an input
abbrev pub login_answer : List (List ℕ) → List ℕ → Answer
login_answer words octets = answer_to (asked_by words) octets

-- what comes if neither a read nor a write failed: the answer's status; or memory was wanting, if
-- it may be
pub data Completes (words : List (List ℕ)) (octets : List ℕ) : Status → Type 0 where
  answered : Completes words octets (login_answer words octets).status
  lacked : MayLack (lacking_of (asked_by words)) (Some octets)
      → Completes words octets status.Memory
