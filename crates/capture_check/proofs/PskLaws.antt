-- EAP-PSK in a capture: the keys of its users, what is kept of one packet more, and the names that
-- its findings tell.
use Rattle.std.proofs.Common.{◌≡◌, ℕ, List, [], ◌∷◌, ◌++◌, length, Bool, true, false, cond, All}
use Rattle.std.proofs.Common.{IsTrue, Option, Some, None, IfSome, Result, Ok, Err, refl, subst}
use Rattle.std.specs.Prelude.{◌==◌}
use Rattle.std.specs.Option.{option_or}
use Rattle.std.specs.Result.{result_ok}
use Rattle.std.specs.Str.{bytes_eq}
use Rattle.std.proofs.lemmas.Bool.{and_parts, eqb-true}
use Rattle.octet_lists.specs.Among.{psk_kind}
use Rattle.login_setup.specs.Setup.{has_valid_key, is_valid_for}
use Rattle.login_setup.specs.Users.{user_of, is_named}
use Rattle.login_setup.specs.declared.users.User.{User}
use Rattle.eap_packet.specs.declared.cause.Cause.{Cause}
use Rattle.psk_messages.specs.Message.{Message, psk1, psk2, psk3, psk4}
use Rattle.capture_check.specs.Captured.{Captured}
use Rattle.capture_check.specs.Classified.{Classified, classified_of, malformed, plain, typed}
use Rattle.capture_check.specs.Tags.{tag_finding, if_right}
use Rattle.capture_check.specs.Psk.{psk_read, is_mac_p, psk_login_of, user_starts, psk_starts}
use Rattle.capture_check.specs.Psk.{psk3_follows, psk4_follows, psk_verdict, psk_finding, psk1_in}
use Rattle.capture_check.specs.Psk.{psk2_of, psk2_in, last_psk1, last_psk2}
use Rattle.capture_check.specs.declared.finding.Finding.{Finding}
use Rattle.capture_check.specs.declared.finding.Finding.TheVariants.{NoContext}
use Rattle.capture_check.specs.declared.psk.StoredPsk1.{StoredPsk1}
use Rattle.capture_check.specs.declared.psk.PskContext.{PskContext}
use Rattle.capture_check.specs.declared.psk.PskLogin.{PskLogin}
use Rattle.capture_check.proofs.LastShown.{last_of_more, last_satisfies}
use Rattle.capture_check.proofs.Names.{Names, named_by, by_tag, if_shown}
use Rattle.capture_check.proofs.UserKeys.{found_satisfies}

-- a key for EAP-PSK has 16 octets
short_key : (kind : ℕ) (key : List ℕ) → kind ≡ 47 → IsTrue (is_valid_for kind key) → length key ≡ 16
short_key kind key e fits =
    let at : IsTrue (is_valid_for 47 key) = subst (λ k. IsTrue (is_valid_for k key)) e fits in
    eqb-true (length key) 16 at

-- a user of EAP-PSK has a key of 16 octets
pub key_is_short : (users : List User) (name : List ℕ) (user : User)
    → All (λ user. IsTrue (has_valid_key user)) users →
    user_of users name psk_kind ≡ Some user → length user.psk ≡ 16
key_is_short users name user keys e =
    let h = found_satisfies (is_named name psk_kind)
    (λ (u : User). IsTrue (has_valid_key u)) users user keys e in
    short_key user.kind user.psk (eqb-true user.kind 47 (and_parts _ _ h.1).0) h.0

pub psk1_of_more : (packets : List Captured) (to_peer : Bool) (octets : List ℕ) →
    last_psk1 (packets ++ (record { to_peer = to_peer; octets = octets }) ∷ [])
    ≡ option_or (psk1_in (classified_of to_peer octets)) (last_psk1 packets)
unfolding last_psk1
psk1_of_more packets to_peer octets =
    last_of_more _ [] packets (record { to_peer = to_peer; octets = octets })

pub psk2_of_more : (users : List User) (packets : List Captured) (to_peer : Bool) (octets : List ℕ)
    →
    last_psk2 users (packets ++ (record { to_peer = to_peer; octets = octets }) ∷ [])
    ≡ option_or (psk2_in users (last_psk1 packets) (classified_of to_peer octets))
    (last_psk2 users packets)
unfolding last_psk2
psk2_of_more users packets to_peer octets =
    last_of_more _ [] packets (record { to_peer = to_peer; octets = octets })

module _ (P : List ℕ → Type 0) where
  psk_right : (right : Bool) (login : PskLogin) → P login.name → IfSome (result_ok
      (if_right right login)) (λ l. P l.name) × Names P (psk_verdict (if_right right login))
  psk_right true login h = (h, h)
  psk_right false login h = (tt, tt)

  psk_user : (found : Option User) (first : StoredPsk1) (rand_p mac id_p : List ℕ)
      → ((user : User) → found ≡ Some user → P user.name) →
      IfSome (result_ok (user_starts found first rand_p mac id_p)) (λ l. P l.name)
      × Names P (psk_verdict (user_starts found first rand_p mac id_p))
  unfolding psk_login_of
  psk_user None first rand_p mac id_p h = (tt, tt)
  psk_user (Some user) first rand_p mac id_p h =
      psk_right (is_mac_p user first rand_p mac id_p) (psk_login_of user first rand_p) (h user refl)

  psk_same : (users : List User) → All (λ (u : User). P u.name) users
      → (first : StoredPsk1) (rand_p mac id_p : List ℕ) (same : Bool) →
      IfSome (result_ok (cond same (user_starts (user_of users id_p psk_kind) first rand_p mac id_p)
      (Err NoContext))) (λ l. P l.name)
      × Names P (psk_verdict
      (cond same (user_starts (user_of users id_p psk_kind) first rand_p mac id_p) (Err NoContext)))
  psk_same users all first rand_p mac id_p true = psk_user (user_of users id_p psk_kind)
      first rand_p mac id_p (λ user e. named_by P users id_p psk_kind user all e)
  psk_same users all first rand_p mac id_p false = (tt, tt)

  psk_started : (users : List User) → All (λ (u : User). P u.name) users
      → (first : Option StoredPsk1) (rand_s rand_p mac id_p : List ℕ) →
      IfSome (result_ok (psk_starts users first rand_s rand_p mac id_p)) (λ l. P l.name)
      × Names P (psk_verdict (psk_starts users first rand_s rand_p mac id_p))
  unfolding psk_starts
  psk_started users all None rand_s rand_p mac id_p = (tt, tt)
  psk_started users all (Some first) rand_s rand_p mac id_p =
      psk_same users all first rand_p mac id_p (bytes_eq rand_s first.rand_s)

  in_login : (login : PskLogin) (same right : Bool) → P login.name → (let finding : Finding = cond
      same (tag_finding login.name right) NoContext in Names P finding)
  in_login login true right h = by_tag P login.name right h
  in_login login false right h = tt

  psk3_named : (login : Option PskLogin) (header rand_s mac : List ℕ) (nonce : ℕ) (tag : List ℕ)
      (sealed : ℕ) → IfSome login (λ l. P l.name) →
      Names P (psk3_follows login header rand_s mac nonce tag sealed)
  unfolding psk3_follows
  psk3_named None header rand_s mac nonce tag sealed h = tt
  psk3_named (Some login) header rand_s mac nonce tag sealed h =
      in_login login (bytes_eq rand_s login.rand_s) _ h

  psk4_named : (login : Option PskLogin) (header rand_s : List ℕ) (nonce : ℕ) (tag : List ℕ)
      (sealed : ℕ) → IfSome login (λ l. P l.name) →
      Names P (psk4_follows login header rand_s nonce tag sealed)
  unfolding psk4_follows
  psk4_named None header rand_s nonce tag sealed h = tt
  psk4_named (Some login) header rand_s nonce tag sealed h =
      in_login login (bytes_eq rand_s login.rand_s) _ h

  pub psk_named : (users : List User) → All (λ (u : User). P u.name) users
      → (kept : PskContext) (octets : List ℕ) (read : Result Message Cause) →
      IfSome kept.psk2 (λ l. P l.name) → IfSome (psk2_of users kept.psk1 read) (λ l. P l.name)
      × Names P (psk_finding users kept octets read)
  psk_named users all kept octets (Err cause) h = (tt, tt)
  psk_named users all kept octets (Ok (psk1 rand_s id_s)) h = (tt, tt)
  psk_named users all kept octets (Ok (psk2 rand_s rand_p mac id_p)) h =
      psk_started users all kept.psk1 rand_s rand_p mac id_p
  psk_named users all kept octets (Ok (psk3 rand_s mac nonce tag sealed)) h =
      (tt, psk3_named kept.psk2 _ rand_s mac nonce tag sealed h)
  psk_named users all kept octets (Ok (psk4 rand_s nonce tag sealed)) h =
      (tt, psk4_named kept.psk2 _ rand_s nonce tag sealed h)

  psk2_received : (users : List User) → All (λ (u : User). P u.name) users → (first : Option
      StoredPsk1) (heard : Classified) → IfSome (psk2_in users first heard) (λ l. P l.name)
  psk2_received users all first (malformed cause) = tt
  psk2_received users all first plain = tt
  psk2_received users all first (typed to_peer kind body) =
      if_shown (λ l. P l.name) (kind == psk_kind) (psk2_of users first (psk_read to_peer body))
      (psk_named users all (record { psk1 = first; psk2 = None }) [] (psk_read to_peer body) tt).0

  pub psk2_stored : (users : List User) → All (λ (u : User). P u.name) users
      → (packets : List Captured) → IfSome (last_psk2 users packets) (λ l. P l.name)
  unfolding last_psk2
  psk2_stored users all packets =
      last_satisfies (λ (l : PskLogin). P l.name) _ (λ before packet. psk2_received users all
      (last_psk1 before) (classified_of packet.to_peer packet.octets)) [] packets
