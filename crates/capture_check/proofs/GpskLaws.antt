-- EAP-GPSK in a capture: the keys of its users, what is kept of one packet more, and the names that
-- its findings tell.
use Rattle.std.proofs.Common.{◌≡◌, ℕ, ◌≤◌, List, [], ◌∷◌, ◌++◌, length, Bool, true, false, All}
use Rattle.std.proofs.Common.{IsTrue, Option, Some, None, IfSome, option_map, Result, Ok, Err, refl}
use Rattle.std.proofs.Common.{subst}
use Rattle.std.specs.Prelude.{◌==◌}
use Rattle.std.specs.Result.{result_ok}
use Rattle.std.proofs.lemmas.Bool.{and_parts, eqb-true, leb-true}
use Rattle.octet_lists.specs.Among.{gpsk_kind}
use Rattle.octet_lists.specs.declared.suite.Suite.{Suite}
use Rattle.login_setup.specs.Setup.{has_valid_key, is_valid_for}
use Rattle.login_setup.specs.Users.{user_of, is_named}
use Rattle.login_setup.specs.declared.users.User.{User}
use Rattle.eap_packet.specs.declared.cause.Cause.{Cause}
use Rattle.gpsk_messages.specs.Message.{Message, gpsk1, gpsk2, gpsk3, gpsk4, fail, protected_fail}
use Rattle.capture_check.specs.Captured.{Captured}
use Rattle.capture_check.specs.Classified.{Classified, classified_of, malformed, plain, typed}
use Rattle.capture_check.specs.Tags.{if_right}
use Rattle.capture_check.specs.Gpsk.{gpsk_read, is_tagged_in, gpsk_login_of, gpsk_login_in}
use Rattle.capture_check.specs.Gpsk.{login_starts, gpsk_starts, gpsk_follows, gpsk_verdict}
use Rattle.capture_check.specs.Gpsk.{gpsk_finding, gpsk2_of, gpsk2_in, last_gpsk2, gpsk_after}
use Rattle.capture_check.specs.declared.gpsk.GpskLogin.{GpskLogin}
use Rattle.capture_check.proofs.LastShown.{last_of_more, last_satisfies}
use Rattle.capture_check.proofs.Names.{Names, named_by, by_tag, if_shown}
use Rattle.capture_check.proofs.UserKeys.{found_satisfies}

-- a key for EAP-GPSK has 32 octets or more
long_key : (kind : ℕ) (key : List ℕ) → kind ≡ 51 → IsTrue (is_valid_for kind key) → 32 ≤ length key
long_key kind key e fits =
    let at : IsTrue (is_valid_for 51 key) = subst (λ k. IsTrue (is_valid_for k key)) e fits in
    leb-true 32 (length key) (and_parts _ _ at).0

-- a user of EAP-GPSK has a key of 32 octets or more
pub key_is_long : (users : List User) (name : List ℕ) (user : User)
    → All (λ user. IsTrue (has_valid_key user)) users →
    user_of users name gpsk_kind ≡ Some user → 32 ≤ length user.psk
key_is_long users name user keys e =
    let h = found_satisfies (is_named name gpsk_kind)
    (λ (u : User). IsTrue (has_valid_key u)) users user keys e in
    long_key user.kind user.psk (eqb-true user.kind 51 (and_parts _ _ h.1).0) h.0

pub gpsk2_of_more : (users : List User) (packets : List Captured) (to_peer : Bool) (octets : List ℕ)
    →
    last_gpsk2 users (packets ++ (record { to_peer = to_peer; octets = octets }) ∷ [])
    ≡ gpsk_after users (last_gpsk2 users packets) (classified_of to_peer octets)
unfolding last_gpsk2
gpsk2_of_more users packets to_peer octets =
    last_of_more _ [] packets (record { to_peer = to_peer; octets = octets })

module _ (P : List ℕ → Type 0) where
  gpsk_right : (right : Bool) (login : GpskLogin) → P login.name → IfSome (result_ok
      (if_right right login)) (λ l. P l.name) × Names P (gpsk_verdict (if_right right login))
  gpsk_right true login h = (h, h)
  gpsk_right false login h = (tt, tt)

  gpsk_user : (found : Option User) (id_p id_s rand_p rand_s : List ℕ) (suite : Suite)
      (message : Message) →
      ((user : User) → found ≡ Some user → P user.name) →
      IfSome (result_ok (login_starts (option_map
      (λ user. gpsk_login_of user id_p id_s rand_p rand_s suite) found) message)) (λ l. P l.name)
      × Names P (gpsk_verdict (login_starts
      (option_map (λ user. gpsk_login_of user id_p id_s rand_p rand_s suite) found) message))
  unfolding gpsk_login_of
  gpsk_user None id_p id_s rand_p rand_s suite message h = (tt, tt)
  gpsk_user (Some user) id_p id_s rand_p rand_s suite message h =
      gpsk_right (is_tagged_in (gpsk_login_of user id_p id_s rand_p rand_s suite) message)
      (gpsk_login_of user id_p id_s rand_p rand_s suite) (h user refl)

  gpsk_started : (users : List User) → All (λ (u : User). P u.name) users
      → (id_p id_s rand_p rand_s : List ℕ) (suite : Suite) (message : Message) →
      IfSome (result_ok (gpsk_starts users id_p id_s rand_p rand_s suite message)) (λ l. P l.name)
      × Names P (gpsk_verdict (gpsk_starts users id_p id_s rand_p rand_s suite message))
  unfolding gpsk_starts gpsk_login_in
  gpsk_started users all id_p id_s rand_p rand_s suite message =
      gpsk_user (user_of users id_p gpsk_kind) id_p id_s rand_p rand_s suite message
      (λ user e. named_by P users id_p gpsk_kind user all e)

  follows_named : (login : Option GpskLogin) (message : Message) → IfSome login (λ l. P l.name)
      → Names P (gpsk_follows login message)
  unfolding gpsk_follows
  follows_named None message h = tt
  follows_named (Some login) message h = by_tag P login.name (is_tagged_in login message) h

  pub gpsk_named : (users : List User) → All (λ (u : User). P u.name) users
      → (login : Option GpskLogin) (read : Result Message Cause) → IfSome login (λ l. P l.name) →
      IfSome (gpsk2_of users read) (λ l. P l.name) × Names P (gpsk_finding users login read)
  gpsk_named users all login (Err cause) h = (tt, tt)
  gpsk_named users all login (Ok (gpsk1 id_s rand_s list)) h = (tt, tt)
  gpsk_named users all login (Ok (gpsk2 id_p id_s rand_p rand_s list suite pd mac)) h =
      gpsk_started users all id_p id_s rand_p rand_s suite
      (gpsk2 id_p id_s rand_p rand_s list suite pd mac)
  gpsk_named users all login (Ok (gpsk3 rand_p rand_s id_s suite pd mac)) h =
      (tt, follows_named login _ h)
  gpsk_named users all login (Ok (gpsk4 pd mac)) h = (tt, follows_named login _ h)
  gpsk_named users all login (Ok (fail code)) h = (tt, tt)
  gpsk_named users all login (Ok (protected_fail code mac)) h = (tt, follows_named login _ h)

  gpsk2_received : (users : List User) → All (λ (u : User). P u.name) users → (heard : Classified)
      → IfSome (gpsk2_in users heard) (λ l. P l.name)
  gpsk2_received users all (malformed cause) = tt
  gpsk2_received users all plain = tt
  gpsk2_received users all (typed to_peer kind body) =
      if_shown (λ l. P l.name) (kind == gpsk_kind) (gpsk2_of users (gpsk_read to_peer body))
      (gpsk_named users all None (gpsk_read to_peer body) tt).0

  pub gpsk2_stored : (users : List User) → All (λ (u : User). P u.name) users
      → (packets : List Captured) → IfSome (last_gpsk2 users packets) (λ l. P l.name)
  unfolding last_gpsk2
  gpsk2_stored users all packets = last_satisfies (λ (l : GpskLogin). P l.name) _ (λ before packet.
      gpsk2_received users all (classified_of packet.to_peer packet.octets)) [] packets
