-- The server of EAP-PAX (RFC 4746 section 2.1), as a method of a maker: its tables over a state of
-- octets, under AK and the name of the server whose peers have AK.
use Rattle.std.specs.Prelude.{◌≡◌, ℕ, zero, suc, List, [], ◌∷◌, length, Bool, true, false, ◌==◌}
use Rattle.std.specs.Prelude.{◌&&◌, not, if◌then◌else◌, Option, Some, None}
use Rattle.std.specs.Str.{bytes_eq}
use Rattle.std.proofs.Common.{refl}
use Rattle.login_setup.specs.declared.users.User.{User}
use Rattle.login_setup.specs.Users.{user_of}
use Rattle.eap_packet.specs.declared.cause.Cause.{Cause}
use Rattle.eap_packet.specs.declared.cause.Cause.TheVariants.{BadTag, WrongOp}
use Rattle.eap_method.specs.declared.values.Report.{Report}
use Rattle.eap_method.specs.declared.values.ServerSide.{ServerSide}
use Rattle.eap_method.specs.Server.{Custom, ServerShown, other}
use Rattle.eap_method.specs.ServerTurn.{Discard}
use Rattle.eap_method.specs.Turns.{ServerOutcome, FirstOutcome, body_of, dropped, requested, done}
use Rattle.pax_method.specs.Keys.{ick_of}
use Rattle.pax_method.specs.Messages.{joined, peer_joined, login_in, mac_2, mac_3, std_1_of}
use Rattle.pax_method.specs.Messages.{std_3_of, ck_record, ick_record}
use Rattle.pax_method.specs.Packets.{pax_kind, read_2, is_ack, has_icv}
use Rattle.pax_method.specs.PaxPeer.{blank, report_of}
use Rattle.pax_method.specs.declared.login.Fields.{Fields}
use Rattle.pax_method.specs.declared.login.Login.{Login}
use Rattle.pax_method.specs.declared.server.Phase.{Phase}
use Rattle.pax_method.specs.declared.server.Phase.TheVariants as phase

-- what a server is: AK, its name, and its state
pub record ServerValue : Type 0 where
  pub ak : List ℕ
  pub server : List ℕ
  pub state : List ℕ

-- the state: how far it is, and A, B and CID
abbrev pub state_of : Phase → Login → List ℕ
state_of phase.Initial login = 0 ∷ joined login
state_of phase.Misnamed login = 1 ∷ joined login
state_of phase.Asked login = 2 ∷ joined login
state_of phase.Checked login = 3 ∷ joined login
state_of phase.Over login = 4 ∷ joined login
state_of phase.Unset login = []

-- one that begins under another name than the one with which its peers share AK lets none in
abbrev pub first_phase : Bool → Phase
first_phase true = phase.Initial
first_phase false = phase.Misnamed

abbrev pub fresh : List ℕ → ServerSide → List ℕ → List ℕ
fresh server own nonce =
    state_of (first_phase (bytes_eq own.id_s server)) (record { a = nonce; b = blank; cid = [] })

-- whether it has begun and made no Request yet
abbrev pub unasked_at : ℕ → Bool
unasked_at zero = true
unasked_at (suc zero) = true
unasked_at (suc (suc n)) = false

unfoldable pub is_unasked : List ℕ → Bool
is_unasked [] = false
is_unasked (n ∷ rest) = unasked_at n

-- how far a server in this state is
abbrev pub phase_of : ℕ → Phase
phase_of zero = phase.Initial
phase_of (suc zero) = phase.Misnamed
phase_of (suc (suc zero)) = phase.Asked
phase_of (suc (suc (suc zero))) = phase.Checked
phase_of (suc (suc (suc (suc n)))) = phase.Over

-- its first Request is PAX_STD-1
abbrev pub after_first : Phase → Phase
after_first phase.Initial = phase.Asked
after_first phase.Misnamed = phase.Unset
after_first phase.Asked = phase.Unset
after_first phase.Checked = phase.Unset
after_first phase.Over = phase.Unset
after_first phase.Unset = phase.Unset

unfoldable pub asks : Phase → Login → ℕ → FirstOutcome (List ℕ)
asks p login id =
    record { packet = std_1_of login.a id; after = state_of (after_first p) login }

unfoldable pub first_step : List ℕ → ℕ → FirstOutcome (List ℕ)
first_step [] id = record { packet = []; after = [] }
first_step (n ∷ rest) id = asks (phase_of n) (login_in rest) id

-- whether a user is let in: it is known, isn't barred, and has no key of its own, since AK is the
-- method's
abbrev pub is_welcome : User → Bool
is_welcome user = not user.barred && (length user.psk == 0)

abbrev pub welcomes : Option User → Bool
welcomes None = false
welcomes (Some user) = is_welcome user

-- PAX_STD-2 is answered by PAX_STD-3
unfoldable pub answers : List ℕ → ℕ → Login → List ℕ → List ℕ → ServerOutcome (List ℕ)
answers ak next_id login octets mac_ck =
    requested (state_of phase.Checked login) (std_3_of ak login next_id)
    (ck_record ak (joined login) mac_ck ∷ ick_record ak octets ∷ [])
    (ck_record ak (peer_joined login) (mac_3 ak login) ∷ ick_record ak (std_3_of ak login next_id)
    ∷ [])

abbrev pub checks : List ℕ → List ℕ → ℕ → Login → List ℕ → List ℕ → ServerOutcome (List ℕ)
checks ak state next_id login octets mac_ck =
    if bytes_eq (mac_2 ak login) mac_ck && has_icv (ick_of ak login) octets
    then answers ak next_id login octets mac_ck else dropped state BadTag

-- one of a user that isn't let in ends the method
abbrev pub asked : List ℕ → List ℕ → List User → ℕ → Login → List ℕ → Option Fields
    → ServerOutcome (List ℕ)
asked ak state users next_id login octets None = dropped state WrongOp
asked ak state users next_id login octets (Some fields) =
    if welcomes (user_of users fields.cid pax_kind)
    then checks ak state next_id (record { a = login.a; b = fields.b; cid = fields.cid }) octets
    fields.mac_ck else done [] false []

-- PAX-ACK ends the method
unfoldable pub ends : List ℕ → Login → List ℕ → ServerOutcome (List ℕ)
ends ak login octets = done (state_of phase.Over login) true (ick_record ak octets ∷ [])

abbrev pub acked : List ℕ → List ℕ → Login → List ℕ → Bool → ServerOutcome (List ℕ)
acked ak state login octets false = dropped state WrongOp
acked ak state login octets true =
    if has_icv (ick_of ak login) octets then ends ak login octets else dropped state BadTag

-- the turn for a Response of a server that is so far
unfoldable pub turn_in : List ℕ → List ℕ → List User → ℕ → Phase → Login → List ℕ
    → ServerOutcome (List ℕ)
turn_in ak state users next_id phase.Initial login octets = dropped state WrongOp
turn_in ak state users next_id phase.Misnamed login octets = dropped state WrongOp
turn_in ak state users next_id phase.Asked login octets =
    asked ak state users next_id login octets (read_2 (body_of octets))
turn_in ak state users next_id phase.Checked login octets =
    acked ak state login octets (is_ack (body_of octets))
turn_in ak state users next_id phase.Over login octets = dropped state WrongOp
turn_in ak state users next_id phase.Unset login octets = dropped state WrongOp

unfoldable pub step : List ℕ → List User → ℕ → List ℕ → List ℕ → ServerOutcome (List ℕ)
step ak users next_id [] octets = dropped [] WrongOp
step ak users next_id (n ∷ rest) octets =
    turn_in ak (n ∷ rest) users next_id (phase_of n) (login_in rest) octets

-- the report of a login that has succeeded
abbrev pub reported : List ℕ → List ℕ → Phase → Login → Option Report
reported ak server phase.Initial login = None
reported ak server phase.Misnamed login = None
reported ak server phase.Asked login = None
reported ak server phase.Checked login = None
reported ak server phase.Over login = Some (report_of ak server login)
reported ak server phase.Unset login = None

unfoldable pub report : List ℕ → List ℕ → List ℕ → Option Report
report ak server [] = None
report ak server (n ∷ rest) = reported ak server (phase_of n) (login_in rest)

-- ---- a discard keeps the state

checks_preserve : (good : Bool) (ak state : List ℕ) (next_id : ℕ) (login : Login)
    (octets mac_ck : List ℕ) (cause : Cause)
    → (if good then answers ak next_id login octets mac_ck else dropped state BadTag).turn
    ≡ Discard cause
    → (if good then answers ak next_id login octets mac_ck else dropped state BadTag).after ≡ state
unfolding answers
checks_preserve true ak state next_id login octets mac_ck cause is_discard = cc is_discard
checks_preserve false ak state next_id login octets mac_ck cause is_discard = refl

welcomes_preserves : (good : Bool) (ak state : List ℕ) (next_id : ℕ) (login : Login)
    (octets mac_ck : List ℕ) (cause : Cause)
    → (if good then checks ak state next_id login octets mac_ck else done [] false []).turn
    ≡ Discard cause
    → (if good then checks ak state next_id login octets mac_ck else done [] false []).after
    ≡ state
welcomes_preserves true ak state next_id login octets mac_ck cause is_discard =
    checks_preserve (bytes_eq (mac_2 ak login) mac_ck && has_icv (ick_of ak login) octets)
    ak state next_id login octets mac_ck cause is_discard
welcomes_preserves false ak state next_id login octets mac_ck cause is_discard = cc is_discard

asked_discards : (ak state : List ℕ) (users : List User) (next_id : ℕ) (login : Login)
    (octets : List ℕ) (fields : Option Fields) (cause : Cause)
    → (asked ak state users next_id login octets fields).turn ≡ Discard cause
    → (asked ak state users next_id login octets fields).after ≡ state
asked_discards ak state users next_id login octets None cause is_discard = refl
asked_discards ak state users next_id login octets (Some fields) cause is_discard =
    welcomes_preserves (welcomes (user_of users fields.cid pax_kind)) ak state next_id
    (record { a = login.a; b = fields.b; cid = fields.cid }) octets fields.mac_ck cause is_discard

acked_preserve : (good : Bool) (ak state : List ℕ) (login : Login) (octets : List ℕ)
    (cause : Cause)
    → (if good then ends ak login octets else dropped state BadTag).turn ≡ Discard cause
    → (if good then ends ak login octets else dropped state BadTag).after ≡ state
unfolding ends
acked_preserve true ak state login octets cause is_discard = cc is_discard
acked_preserve false ak state login octets cause is_discard = refl

acked_discards : (ak state : List ℕ) (login : Login) (octets : List ℕ) (is : Bool) (cause : Cause)
    → (acked ak state login octets is).turn ≡ Discard cause
    → (acked ak state login octets is).after ≡ state
acked_discards ak state login octets false cause is_discard = refl
acked_discards ak state login octets true cause is_discard =
    acked_preserve (has_icv (ick_of ak login) octets) ak state login octets cause is_discard

turn_discards : (ak state : List ℕ) (users : List User) (next_id : ℕ) (p : Phase) (login : Login)
    (octets : List ℕ) (cause : Cause)
    → (turn_in ak state users next_id p login octets).turn ≡ Discard cause
    → (turn_in ak state users next_id p login octets).after ≡ state
unfolding turn_in
turn_discards ak state users next_id phase.Initial login octets cause is_discard = refl
turn_discards ak state users next_id phase.Misnamed login octets cause is_discard = refl
turn_discards ak state users next_id phase.Asked login octets cause is_discard =
    asked_discards ak state users next_id login octets (read_2 (body_of octets)) cause is_discard
turn_discards ak state users next_id phase.Checked login octets cause is_discard =
    acked_discards ak state login octets (is_ack (body_of octets)) cause is_discard
turn_discards ak state users next_id phase.Over login octets cause is_discard = refl
turn_discards ak state users next_id phase.Unset login octets cause is_discard = refl

pub discards : (ak : List ℕ) (users : List User) (next_id : ℕ) (state octets : List ℕ)
    (cause : Cause)
    → (step ak users next_id state octets).turn ≡ Discard cause
    → (step ak users next_id state octets).after ≡ state
unfolding step
discards ak users next_id [] octets cause is_discard = refl
discards ak users next_id (n ∷ rest) octets cause is_discard =
    turn_discards ak (n ∷ rest) users next_id (phase_of n) (login_in rest) octets cause is_discard

first_is_unasked : (good : Bool) (login : Login)
    → is_unasked (state_of (first_phase good) login) ≡ true
unfolding is_unasked
first_is_unasked true login = refl
first_is_unasked false login = refl

pub fresh_is_unasked : (server : List ℕ) (own : ServerSide) (nonce : List ℕ)
    → is_unasked (fresh server own nonce) ≡ true
fresh_is_unasked server own nonce = first_is_unasked (bytes_eq own.id_s server)
    (record { a = nonce; b = blank; cid = [] })

-- ---- the method

abbrev pub pax_server : List ℕ → List ℕ → Custom
pax_server ak server = record {
  kind = pax_kind;
  no_identity = refl;
  fresh = fresh server;
  is_initiated = is_unasked;
  initiates = fresh_is_unasked server;
  first_step = first_step;
  step = step ak;
  report = report ak server;
  discards = discards ak;
}

-- what a server shows
abbrev pub shown : ServerValue → ServerShown
shown value = other (pax_server value.ak value.server) value.state
