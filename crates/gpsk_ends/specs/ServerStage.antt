-- The state of a server of EAP-GPSK, and its state after a call, as its definition says it.
use Rattle.std.specs.Prelude.{◌≡◌, ℕ, List, length, Option, Some, None, if◌then◌else◌, Result, ⊤}
use Rattle.eap_packet.specs.declared.cause.Cause.{Cause}
use Rattle.login_setup.specs.declared.users.User.{User}
use Rattle.gpsk_messages.specs.Message.{Message}
use Rattle.gpsk_messages.specs.declared.view.Gpsk2.{Gpsk2}
use Rattle.eap_method.specs.Tags.{Tags}
use Rattle.eap_method.specs.declared.turn.ServerAnswer as brief
use Rattle.eap_method.specs.declared.values.ServerSide.{ServerSide}
use Rattle.eap_method.specs.GpskServer.{Login, View, unset, begun, asked, refusing, barring}
use Rattle.eap_method.specs.GpskServer.{checked, refused, over, keys_of, barring_reads}
use Rattle.eap_method.specs.GpskServer.{checked_reads, idle_reads}
use Rattle.eap_method.specs.ServerTurn.{server_turn_with}
use Rattle.eap_method.specs.Turns.{ServerOutcome}
use Rattle.gpsk_ends.specs.Keys.{SuiteKeys}
use Rattle.gpsk_ends.specs.declared.server.stage.Alone.{Alone}
use Rattle.gpsk_ends.specs.declared.server.stage.Alone.TheVariants as alone
use Rattle.gpsk_ends.specs.declared.server.stage.Phase.{Phase}
use Rattle.gpsk_ends.specs.declared.server.stage.Phase.TheVariants as phase
use Rattle.gpsk_ends.specs.declared.server.login.Initial.{Initial}
use Rattle.gpsk_ends.specs.declared.server.stage.Added.{Added}
use Rattle.gpsk_ends.specs.declared.server.stage.Progress.{Progress}
use Rattle.gpsk_ends.specs.declared.server.stage.Progress.TheVariants as progress

-- the server's state without a login
abbrev pub view_alone : ServerSide → List ℕ → Alone → View
view_alone own nonce alone.Initial = begun own nonce
view_alone own nonce alone.Asked = asked own nonce
view_alone own nonce alone.Refusing = refusing own nonce
view_alone own nonce alone.Refused = refused own nonce

-- the server's state in a login
abbrev pub view_in : Login → Phase → View
view_in login phase.Barring = barring login
view_in login phase.Checked = checked login
view_in login (phase.Over good) = over login good

-- a login in the parts of the server's state
abbrev pub login_of : Initial → Added → Login
login_of own added = record {
  own = own.side;
  nonce = own.nonce;
  id_p = added.id_p;
  psk = added.psk;
  rand_p = added.rand_p;
  suite = added.keys.suite;
}

-- the keys are those of the login; a nonce has 32 octets
pub record IsConsistent (own : Initial) (added : Added) : Type 0 where
  pub keys : added.keys.keys ≡ keys_of (login_of own added)
  pub rand_p : length added.rand_p ≡ 32
  pub rand_s : length own.nonce ≡ 32

-- the server's state
abbrev pub view_of : Initial → Progress → View
view_of own progress.Unset = unset
view_of own (progress.Alone phase) = view_alone own.side own.nonce phase
view_of own (progress.Login added phase) = view_in (login_of own added) phase

-- the keys of a login are its own
abbrev pub IsReady : Initial → Progress → Type 0
IsReady own progress.Unset = ⊤
IsReady own (progress.Alone phase) = ⊤
IsReady own (progress.Login added phase) = IsConsistent own added

-- the login of the user that GPSK-2 names, and its keys
abbrev pub login_with : ServerSide → List ℕ → Gpsk2 → User → Login
login_with own nonce gpsk2 user = record {
  own = own;
  nonce = nonce;
  id_p = gpsk2.id_p.now;
  psk = user.psk;
  rand_p = gpsk2.rand_p;
  suite = gpsk2.suite;
}

abbrev pub keys_with : ServerSide → List ℕ → Gpsk2 → User → SuiteKeys
keys_with own nonce gpsk2
    user = record { suite = gpsk2.suite; keys = keys_of (login_with own nonce gpsk2 user) }

-- what it adds to the server's state
abbrev pub added_with : ServerSide → List ℕ → Gpsk2 → User → Added
added_with own nonce gpsk2 user = record {
  id_p = gpsk2.id_p.now;
  psk = user.psk;
  rand_p = gpsk2.rand_p;
  keys = keys_with own nonce gpsk2 user;
}

-- a turn with what it wrote, and the server's state after it
abbrev pub outcome_with : brief.ServerAnswer → List ℕ → Tags → View → ServerOutcome View
outcome_with turn packet tags
    after = record { turn = server_turn_with turn packet tags; after = after }

-- the Type-Data at a server in a login
abbrev pub reads_in : Login → Phase → Result Message Cause → ServerOutcome View
reads_in login phase.Barring read = barring_reads login read
reads_in login phase.Checked read = checked_reads login read
reads_in login (phase.Over good) read = idle_reads (over login good) read

-- the login, if it has succeeded
abbrev pub successful : View → Option Login
successful (over login good) = if good then Some login else None
successful view = None
