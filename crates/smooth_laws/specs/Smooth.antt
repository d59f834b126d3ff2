-- Smooth logins: two ends that fit, and a network that delivers each packet once and in order. How
-- many deliveries such a login takes (RFC 3748 section 2), and what holds after them.
use Rattle.std.specs.Prelude.{◌≡◌, ℕ, zero, suc, ◌+◌, ◌-◌, ◌≤◌, List, [], ◌∷◌, length, take, Bool}
use Rattle.std.specs.Prelude.{true, false, Option, Some, find}
use Rattle.std.specs.List.{list_any}
use Rattle.login_setup.specs.declared.event.Event.{Event}
use Rattle.login_setup.specs.declared.event.Event.TheVariants.{Deliver}
use Rattle.login_setup.specs.declared.setup.Mode.{Mode}
use Rattle.login_setup.specs.declared.setup.Mode.TheVariants.{Alone, Through}
use Rattle.login_setup.specs.declared.setup.PeerSetup.{PeerSetup}
use Rattle.login_setup.specs.Setup.{ServerSetup}
use Rattle.login_setup.specs.declared.setup.Setup.{Setup}
use Rattle.login_setup.specs.declared.users.User.{User}
use Rattle.octet_lists.specs.Among.{gpsk_kind, is_among}
use Rattle.octet_lists.specs.Sizes.{max_name}
use Rattle.login_setup.specs.Setup.{accepts_name}
use Rattle.login_setup.specs.Users.{user_of}
use Rattle.eap_method.specs.Peer.{key_for}
use Rattle.world_laws.specs.Whole.{IsWhole}
use Rattle.tag_book.specs.Book.{tags_verdict}
use Rattle.tag_book.specs.declared.book.TagsVerdict.TheVariants.{Honest}
use Rattle.eap_world.specs.declared.verdict.Verdict.TheVariants.{Agree}
use Rattle.eap_world.specs.Judgement.{is_success, verdict_of}
use Rattle.eap_world.specs.World.{WorldNow}
use Rattle.world_laws.specs.Runs.{run_of}

-- the first method of the server's order that the peer allows
abbrev pub common_kind : PeerSetup → ServerSetup → Option ℕ
common_kind peer server = find (is_among peer.methods) server.methods

-- the ends fit: there is a first common method; by it the server knows the peer, under the key that
-- the peer has for it, and doesn't bar it; the peer accepts the server's name; by EAP-GPSK it
-- allows some suite that the server offers; and if the server reads Expanded Types, so does the
-- peer (RFC 3748 section 5.7)
pub record EndsCompatible (setup : Setup) : Type 0 where
  pub kind : ℕ
  pub common : common_kind setup.peer setup.server ≡ Some kind
  pub user : User
  pub known : user_of setup.server.users setup.peer.name kind ≡ Some user
  pub not_barred : user.barred ≡ false
  pub one_key : user.psk ≡ key_for setup.peer kind
  pub accepted : accepts_name setup.peer.accepts setup.server.name ≡ true
  pub suite : kind ≡ gpsk_kind → list_any (is_among setup.peer.suites) setup.server.suites ≡ true
  pub reads : setup.server.expanded ≡ true → setup.peer.expanded ≡ true

-- names of at most 253 octets, as every setup's are
pub record HasShortNames (setup : Setup) : Type 0 where
  pub peer : length setup.peer.name ≤ max_name
  pub server : length setup.server.name ≤ max_name

-- so many packets are delivered one after the other, from this number on
unfoldable pub deliveries : ℕ → ℕ → List Event
deliveries first zero = []
deliveries first (suc count) = Deliver first ∷ deliveries (first + 1) count

-- packet 1, packet 2 and on are delivered, each once and in order
abbrev pub AreInOrder : List Event → Type 0
AreInOrder events = events ≡ deliveries 1 (length events)

-- whether the peer allows the method that the server proposes first, so that it sends no Nak
abbrev pub takes_first : List ℕ → List ℕ → Bool
takes_first allowed [] = false
takes_first allowed (kind ∷ order) = is_among allowed kind

-- the deliveries that a login takes, without a Nak and after one: an Identity round, four messages
-- of the method and the Success, with two more packets for a Nak. The pass-through sends each of
-- them but its own Identity Request once more (RFC 4137 section 7)
abbrev pub bound_in : Mode → Bool → ℕ
bound_in Alone true = 7
bound_in Alone false = 9
bound_in Through true = 13
bound_in Through false = 17

abbrev pub event_bound : Setup → ℕ
event_bound setup = bound_in setup.mode (takes_first setup.peer.methods setup.server.methods)

-- both ends have succeeded: no delivery was discarded, each accepted tag was made earlier by the
-- other end, and the ends agree
pub record IsLoggedIn (w : WorldNow) : Type 0 where
  pub peer : is_success w.parties.peer.vars.state ≡ true
  pub server : is_success w.parties.server.vars.state ≡ true
  pub none_discarded : w.counts.discards ≡ 0
  pub honest : tags_verdict w.book ≡ Honest
  pub agree : verdict_of w ≡ Agree

-- the login has succeeded after the first `bound` deliveries, and not before; no further one
-- changes that
pub record SucceedsInTime (setup : Setup) (events : List Event) : Type 0 where
  pub not_before : is_success (run_of setup
      (take (event_bound setup - 1) events)).parties.peer.vars.state ≡ false
  pub in_time : IsLoggedIn (run_of setup (take (event_bound setup) events))
  pub stays : IsLoggedIn (run_of setup events)

-- a smooth login of at least `bound` deliveries succeeds
abbrev pub SmoothLoginsSucceed : Type 0
SmoothLoginsSucceed =
    (setup : Setup) (events : List Event) → IsWhole setup → HasShortNames setup
    → EndsCompatible setup → AreInOrder events →
    event_bound setup ≤ length events → SucceedsInTime setup events
