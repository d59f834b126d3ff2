-- The turn of an end that is so far, with A, B and CID.
use Rattle.std.proofs.Common.{◌≡◌, ℕ, List, ◌++◌, length, take, drop, refl, sym, ap, ◌∙◌}
use Rattle.std.proofs.Common.{append_assoc}
use Rattle.std.proofs.Common.{arith, true, Some}
use Rattle.std.proofs.lemmas.List.{length-append}
use Rattle.std.proofs.Math.Seq.{take-append_seam, drop-append_seam}
use Rattle.login_setup.specs.declared.users.User.{User}
use Rattle.eap_method.specs.Turns.{body_of}
use Rattle.pax_method.specs.Messages.{joined, login_in}
use Rattle.pax_method.specs.Packets.{is_ack, read_1, read_2, read_3}
use Rattle.pax_method.specs.PaxPeer as peer
use Rattle.pax_method.specs.PaxServer as server
use Rattle.pax_method.specs.declared.login.Login.{Login}
use Rattle.pax_method.specs.declared.peer.Phase.TheVariants as peer_phase
use Rattle.pax_method.specs.declared.server.Phase.{Phase}
use Rattle.pax_method.specs.declared.server.Phase.TheVariants as server_phase

-- the parts of a join
front_is : (size : ℕ) (front rest : List ℕ) → length front ≡ size
    → take size (front ++ rest) ≡ front
front_is size front rest sized =
    ap (λ n. take n (front ++ rest)) (sym sized) ∙ take-append_seam front rest

rest_is : (size : ℕ) (front rest : List ℕ) → length front ≡ size
    → drop size (front ++ rest) ≡ rest
rest_is size front rest sized =
    ap (λ n. drop n (front ++ rest)) (sym sized) ∙ drop-append_seam front rest

same_login : (a b cid a' b' cid' : List ℕ) → a ≡ a' → b ≡ b' → cid ≡ cid'
    → (let one : Login = record { a = a; b = b; cid = cid } in one)
    ≡ record { a = a'; b = b'; cid = cid' }
same_login a b cid a' b' cid' one two three = rw (one, two, three) refl

pub login_is_in : (login : Login) → length login.a ≡ 32 → length login.b ≡ 32
    → login_in (joined login) ≡ login
login_is_in login a b = same_login _ _ _ _ _ _ (front_is 32 login.a _ a)
    (ap (take 32) (rest_is 32 login.a _ a) ∙ front_is 32 login.b _ b)
    (ap (λ xs. drop 64 xs) (sym (append_assoc login.a login.b login.cid))
    ∙ rest_is 64 (login.a ++ login.b) login.cid (omega
    (arith, length-append login.a login.b, a, b)))

module _ (ak : List ℕ) (login : Login) (octets : List ℕ) (a : length login.a ≡ 32)
    (b : length login.b ≡ 32) where
  pub peer_step_initial : peer.step ak (peer.state_of peer_phase.Initial login) octets
      ≡ peer.asked ak (peer.state_of peer_phase.Initial login) login octets
      (read_1 (body_of octets))
  unfolding peer.step peer.turn_in
  peer_step_initial = ap (λ (l : Login). peer.asked ak (peer.state_of peer_phase.Initial login) l
      octets (read_1 (body_of octets))) (login_is_in login a b)

  pub peer_step_waiting : peer.step ak (peer.state_of peer_phase.Waiting login) octets
      ≡ peer.confirmed ak (peer.state_of peer_phase.Waiting login) login octets
      (read_3 (body_of octets))
  unfolding peer.step peer.turn_in
  peer_step_waiting = ap (λ (l : Login). peer.confirmed ak (peer.state_of peer_phase.Waiting login)
      l octets (read_3 (body_of octets))) (login_is_in login a b)

  pub peer_report_over : (name : List ℕ)
      → peer.report ak name (peer.state_of peer_phase.Over login)
      ≡ Some (peer.report_of ak name login)
  unfolding peer.report
  peer_report_over name =
      ap (λ (l : Login). Some (peer.report_of ak name l)) (login_is_in login a b)

  pub server_report_over : (name : List ℕ)
      → server.report ak name (server.state_of server_phase.Over login)
      ≡ Some (peer.report_of ak name login)
  unfolding server.report
  server_report_over name =
      ap (λ (l : Login). Some (peer.report_of ak name l)) (login_is_in login a b)

  module _ (users : List User) (next_id : ℕ) where
    pub server_step_asked : server.step ak users next_id (server.state_of server_phase.Asked login)
        octets ≡ server.asked ak (server.state_of server_phase.Asked login) users next_id login
        octets (read_2 (body_of octets))
    unfolding server.step server.turn_in
    server_step_asked = ap (λ (l : Login). server.asked ak (server.state_of server_phase.Asked
        login) users next_id l octets (read_2 (body_of octets))) (login_is_in login a b)

    pub server_step_checked : server.step ak users next_id (server.state_of server_phase.Checked
        login) octets ≡ server.acked ak (server.state_of server_phase.Checked login) login
        octets (is_ack (body_of octets))
    unfolding server.step server.turn_in
    server_step_checked = ap (λ (l : Login). server.acked ak (server.state_of server_phase.Checked
        login) l octets (is_ack (body_of octets))) (login_is_in login a b)

-- the first Request of a server that has begun
pub first_in : (p : Phase) (login : Login) (id : ℕ) → length login.a ≡ 32 → length login.b ≡ 32
    → server.is_unasked (server.state_of p login) ≡ true
    → server.first_step (server.state_of p login) id ≡ server.asks p login id
unfolding server.is_unasked server.first_step
first_in server_phase.Initial login id a b is =
    ap (λ (l : Login). server.asks server_phase.Initial l id) (login_is_in login a b)
first_in server_phase.Misnamed login id a b is =
    ap (λ (l : Login). server.asks server_phase.Misnamed l id) (login_is_in login a b)
first_in server_phase.Asked login id a b is = absurd (cc is)
first_in server_phase.Checked login id a b is = absurd (cc is)
first_in server_phase.Over login id a b is = absurd (cc is)
first_in server_phase.Unset login id a b is = absurd (cc is)
