-- The peer of EAP-PAX (RFC 4746 section 2.1), as a method of a maker: its tables over a state of
-- octets, under AK and the name of the server with which it shares AK.
use Rattle.std.specs.Prelude.{◌≡◌, ℕ, zero, suc, List, [], ◌∷◌, replicate, Bool, true, false, ◌&&◌}
use Rattle.std.specs.Prelude.{if◌then◌else◌, Option, Some, None}
use Rattle.std.specs.Str.{bytes_eq}
use Rattle.std.proofs.Common.{refl}
use Rattle.login_setup.specs.Setup.{accepts_name}
use Rattle.eap_packet.specs.declared.cause.Cause.{Cause}
use Rattle.eap_packet.specs.declared.cause.Cause.TheVariants.{BadTag, WrongOp}
use Rattle.eap_method.specs.declared.values.Credential.{Credential}
use Rattle.eap_method.specs.declared.values.Report.{Report}
use Rattle.eap_method.specs.declared.values.MethodState.{MethodState}
use Rattle.eap_method.specs.declared.values.MethodState.TheVariants.{Cont, Done}
use Rattle.eap_method.specs.declared.values.Decision.{Decision}
use Rattle.eap_method.specs.declared.values.Decision.TheVariants.{Fail, UncondSucc}
use Rattle.eap_method.specs.Peer.{Custom, PeerShown, Responds, other}
use Rattle.eap_method.specs.PeerTurn.{Discard, Reply}
use Rattle.eap_method.specs.Tags.{Tags}
use Rattle.eap_method.specs.Turns.{PeerOutcome, id_of, body_of, discarded, replied}
use Rattle.pax_method.specs.Keys.{ick_of, msk_of, emsk_of}
use Rattle.pax_method.specs.Messages.{joined, peer_joined, login_in, mac_2, mac_3, std_2_of, ack_of}
use Rattle.pax_method.specs.Messages.{ck_record, ick_record}
use Rattle.pax_method.specs.Packets.{pax_kind, read_1, read_3, has_icv, packet_with}
use Rattle.pax_method.specs.declared.login.Login.{Login}
use Rattle.pax_method.specs.declared.peer.Phase.{Phase}
use Rattle.pax_method.specs.declared.peer.Phase.TheVariants as phase

-- what a peer is: AK, its server's name, and its state
pub record PeerValue : Type 0 where
  pub ak : List ℕ
  pub server : List ℕ
  pub state : List ℕ

-- the state: how far it is, and A, B and CID
abbrev pub state_of : Phase → Login → List ℕ
state_of phase.Unset login = []
state_of phase.Initial login = 0 ∷ joined login
state_of phase.Waiting login = 1 ∷ joined login
state_of phase.Over login = 2 ∷ joined login

-- no octet of A, B or CID
abbrev pub blank : List ℕ
blank = replicate 32 0

-- it begins if it accepts the server with which it shares AK
abbrev pub fresh_if : Bool → List ℕ → List ℕ → List ℕ
fresh_if true nonce cid = state_of phase.Initial (record { a = blank; b = nonce; cid = cid })
fresh_if false nonce cid = []

abbrev pub fresh : List ℕ → Credential → List ℕ → List ℕ
fresh server cred nonce = fresh_if (accepts_name cred.accepts server) nonce cred.id_p

-- PAX_STD-1 is answered by PAX_STD-2
unfoldable pub answers : List ℕ → Login → ℕ → PeerOutcome (List ℕ)
answers ak login id =
    replied (state_of phase.Waiting login) (std_2_of ak login id) Cont Fail []
    (ck_record ak (joined login) (mac_2 ak login) ∷ ick_record ak (std_2_of ak login id) ∷ [])

abbrev pub asked : List ℕ → List ℕ → Login → List ℕ → Option (List ℕ) → PeerOutcome (List ℕ)
asked ak state login octets None = discarded state WrongOp
asked ak state login octets (Some a) =
    if has_icv [] octets
    then answers ak (record { a = a; b = login.b; cid = login.cid }) (id_of octets)
    else discarded state BadTag

-- PAX_STD-3 is answered by PAX-ACK
unfoldable pub confirms : List ℕ → Login → List ℕ → List ℕ → PeerOutcome (List ℕ)
confirms ak login octets mac_ck =
    replied (state_of phase.Over login) (ack_of ak login (id_of octets)) Done UncondSucc
    (ck_record ak (peer_joined login) mac_ck ∷ ick_record ak octets ∷ [])
    (ick_record ak (ack_of ak login (id_of octets)) ∷ [])

abbrev pub confirmed : List ℕ → List ℕ → Login → List ℕ → Option (List ℕ) → PeerOutcome (List ℕ)
confirmed ak state login octets None = discarded state WrongOp
confirmed ak state login octets (Some mac_ck) =
    if bytes_eq (mac_3 ak login) mac_ck && has_icv (ick_of ak login) octets
    then confirms ak login octets mac_ck else discarded state BadTag

-- the turn for a Request of a peer that is so far
unfoldable pub turn_in : List ℕ → List ℕ → Phase → Login → List ℕ → PeerOutcome (List ℕ)
turn_in ak state phase.Unset login octets = discarded state WrongOp
turn_in ak state phase.Initial login octets = asked ak state login octets (read_1 (body_of octets))
turn_in ak state phase.Waiting login octets = confirmed ak state login octets (read_3
    (body_of octets))
turn_in ak state phase.Over login octets = discarded state WrongOp

-- how far a peer in this state is
abbrev pub phase_of : ℕ → Phase
phase_of zero = phase.Initial
phase_of (suc zero) = phase.Waiting
phase_of (suc (suc n)) = phase.Over

unfoldable pub step : List ℕ → List ℕ → List ℕ → PeerOutcome (List ℕ)
step ak [] octets = discarded [] WrongOp
step ak (n ∷ rest) octets = turn_in ak (n ∷ rest) (phase_of n) (login_in rest) octets

-- the report of a login that has succeeded
unfoldable pub report_of : List ℕ → List ℕ → Login → Report
report_of ak server login = record {
  method = pax_kind;
  id_p = login.cid;
  id_s = server;
  suite = 0;
  msk = msk_of ak login;
  emsk = emsk_of ak login;
}

abbrev pub reported : List ℕ → List ℕ → Phase → Login → Option Report
reported ak server phase.Unset login = None
reported ak server phase.Initial login = None
reported ak server phase.Waiting login = None
reported ak server phase.Over login = Some (report_of ak server login)

unfoldable pub report : List ℕ → List ℕ → List ℕ → Option Report
report ak server [] = None
report ak server (n ∷ rest) = reported ak server (phase_of n) (login_in rest)

-- ---- a discard keeps the state

asked_preserve : (good : Bool) (ak state : List ℕ) (login : Login) (id : ℕ) (cause : Cause)
    → (if good then answers ak login id else discarded state BadTag).turn ≡ Discard cause
    → (if good then answers ak login id else discarded state BadTag).after ≡ state
unfolding answers
asked_preserve true ak state login id cause is_discard = cc is_discard
asked_preserve false ak state login id cause is_discard = refl

confirmed_preserve : (good : Bool) (ak state : List ℕ) (login : Login) (octets mac_ck : List ℕ)
    (cause : Cause)
    → (if good then confirms ak login octets mac_ck else discarded state BadTag).turn
    ≡ Discard cause
    → (if good then confirms ak login octets mac_ck else discarded state BadTag).after ≡ state
unfolding confirms
confirmed_preserve true ak state login octets mac_ck cause is_discard = cc is_discard
confirmed_preserve false ak state login octets mac_ck cause is_discard = refl

pub asked_discards : (ak state : List ℕ) (login : Login) (octets : List ℕ) (a : Option (List ℕ))
    (cause : Cause) → (asked ak state login octets a).turn ≡ Discard cause
    → (asked ak state login octets a).after ≡ state
asked_discards ak state login octets None cause is_discard = refl
asked_discards ak state login octets (Some a) cause is_discard =
    asked_preserve (has_icv [] octets) ak state (record { a = a; b = login.b; cid = login.cid })
    (id_of octets) cause is_discard

pub confirmed_discards : (ak state : List ℕ) (login : Login) (octets : List ℕ)
    (mac_ck : Option (List ℕ)) (cause : Cause)
    → (confirmed ak state login octets mac_ck).turn ≡ Discard cause
    → (confirmed ak state login octets mac_ck).after ≡ state
confirmed_discards ak state login octets None cause is_discard = refl
confirmed_discards ak state login octets (Some mac_ck) cause is_discard =
    confirmed_preserve (bytes_eq (mac_3 ak login) mac_ck && has_icv (ick_of ak login) octets)
    ak state login octets mac_ck cause is_discard

pub turn_discards : (ak state : List ℕ) (p : Phase) (login : Login) (octets : List ℕ)
    (cause : Cause)
    → (turn_in ak state p login octets).turn ≡ Discard cause
    → (turn_in ak state p login octets).after ≡ state
unfolding turn_in
turn_discards ak state phase.Unset login octets cause is_discard = refl
turn_discards ak state phase.Initial login octets cause is_discard =
    asked_discards ak state login octets (read_1 (body_of octets)) cause is_discard
turn_discards ak state phase.Waiting login octets cause is_discard =
    confirmed_discards ak state login octets (read_3 (body_of octets)) cause is_discard
turn_discards ak state phase.Over login octets cause is_discard = refl

pub discards : (ak state octets : List ℕ) (cause : Cause)
    → (step ak state octets).turn ≡ Discard cause → (step ak state octets).after ≡ state
unfolding step
discards ak [] octets cause is_discard = refl
discards ak (n ∷ rest) octets cause is_discard =
    turn_discards ak (n ∷ rest) (phase_of n) (login_in rest) octets cause is_discard

-- ---- a Response answers the Request

same_reply : (packet sent : List ℕ) (s t : MethodState) (d e : Decision) (tags made : Tags)
    → Reply packet s d tags ≡ Reply sent t e made → sent ≡ packet
same_reply packet sent s t d e tags made same = cc same

asked_respond : (good : Bool) (ak state : List ℕ) (login : Login) (id : ℕ) (packet : List ℕ)
    (s : MethodState) (d : Decision) (tags : Tags)
    → (if good then answers ak login id else discarded state BadTag).turn ≡ Reply packet s d tags
    → Responds id pax_kind packet
unfolding answers std_2_of packet_with
asked_respond true ak state login id packet s d tags replies =
    record { body = _; encoding_of = same_reply _ packet _ s _ d _ tags replies }
asked_respond false ak state login id packet s d tags replies = absurd cc replies

confirmed_respond : (good : Bool) (ak state : List ℕ) (login : Login) (octets mac_ck : List ℕ)
    (packet : List ℕ) (s : MethodState) (d : Decision) (tags : Tags)
    → (if good then confirms ak login octets mac_ck else discarded state BadTag).turn
    ≡ Reply packet s d tags → Responds (id_of octets) pax_kind packet
unfolding confirms ack_of packet_with
confirmed_respond true ak state login octets mac_ck packet s d tags replies =
    record { body = _; encoding_of = same_reply _ packet _ s _ d _ tags replies }
confirmed_respond false ak state login octets mac_ck packet s d tags replies = absurd cc replies

pub asked_responds : (ak state : List ℕ) (login : Login) (octets : List ℕ) (a : Option (List ℕ))
    (packet : List ℕ) (s : MethodState) (d : Decision) (tags : Tags)
    → (asked ak state login octets a).turn ≡ Reply packet s d tags
    → Responds (id_of octets) pax_kind packet
asked_responds ak state login octets None packet s d tags replies = absurd cc replies
asked_responds ak state login octets (Some a) packet s d tags replies =
    asked_respond (has_icv [] octets) ak state (record { a = a; b = login.b; cid = login.cid })
    (id_of octets) packet s d tags replies

pub confirmed_responds : (ak state : List ℕ) (login : Login) (octets : List ℕ)
    (mac_ck : Option (List ℕ)) (packet : List ℕ) (s : MethodState) (d : Decision) (tags : Tags)
    → (confirmed ak state login octets mac_ck).turn ≡ Reply packet s d tags
    → Responds (id_of octets) pax_kind packet
confirmed_responds ak state login octets None packet s d tags replies = absurd cc replies
confirmed_responds ak state login octets (Some mac_ck) packet s d tags replies =
    confirmed_respond (bytes_eq (mac_3 ak login) mac_ck && has_icv (ick_of ak login) octets)
    ak state login octets mac_ck packet s d tags replies

pub turn_responds : (ak state : List ℕ) (p : Phase) (login : Login) (octets packet : List ℕ)
    (s : MethodState) (d : Decision) (tags : Tags)
    → (turn_in ak state p login octets).turn ≡ Reply packet s d tags
    → Responds (id_of octets) pax_kind packet
unfolding turn_in
turn_responds ak state phase.Unset login octets packet s d tags replies = absurd cc replies
turn_responds ak state phase.Initial login octets packet s d tags replies =
    asked_responds ak state login octets (read_1 (body_of octets)) packet s d tags replies
turn_responds ak state phase.Waiting login octets packet s d tags replies =
    confirmed_responds ak state login octets (read_3 (body_of octets)) packet s d tags replies
turn_responds ak state phase.Over login octets packet s d tags replies = absurd cc replies

pub responds : (ak state octets packet : List ℕ) (s : MethodState) (d : Decision) (tags : Tags)
    → (step ak state octets).turn ≡ Reply packet s d tags
    → Responds (id_of octets) pax_kind packet
unfolding step
responds ak [] octets packet s d tags replies = absurd cc replies
responds ak (n ∷ rest) octets packet s d tags replies =
    turn_responds ak (n ∷ rest) (phase_of n) (login_in rest) octets packet s d tags replies

-- ---- the method

abbrev pub pax_peer : List ℕ → List ℕ → Custom
pax_peer ak server = record {
  kind = pax_kind;
  no_nak = refl;
  fresh = fresh server;
  step = step ak;
  report = report ak server;
  discards = discards ak;
  responds = responds ak;
}

-- what a peer shows
abbrev pub shown : PeerValue → PeerShown
shown value = other (pax_peer value.ak value.server) value.state
