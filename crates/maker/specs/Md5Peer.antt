-- The peer of EAP MD5-Challenge (RFC 3748 section 5.4), as a method of a maker: its tables over a
-- state of octets, under a secret.
use Rattle.std.specs.Prelude.{◌≡◌, ℕ, List, [], ◌∷◌, Bool, true, false, Option, Some, None}
use Rattle.std.proofs.Common.{refl}
use Rattle.eap_packet.specs.declared.cause.Cause.{Cause}
use Rattle.eap_packet.specs.declared.cause.Cause.TheVariants.{WrongOp}
use Rattle.eap_method.specs.declared.values.MethodState.{MethodState}
use Rattle.eap_method.specs.declared.values.MethodState.TheVariants.{Done}
use Rattle.eap_method.specs.declared.values.Decision.{Decision}
use Rattle.eap_method.specs.declared.values.Decision.TheVariants.{CondSucc}
use Rattle.eap_method.specs.Peer.{Custom, PeerShown, Responds, other}
use Rattle.eap_method.specs.PeerTurn.{Discard, Reply}
use Rattle.eap_method.specs.Tags.{Tags}
use Rattle.eap_method.specs.Turns.{PeerOutcome, id_of, body_of, discarded, replied}
use Rattle.maker.specs.Challenge.{md5_kind, value_of, type_data, response_value, response_packet}

-- what a peer is: its secret, and its state
pub record PeerValue : Type 0 where
  pub secret : List ℕ
  pub state : List ℕ

-- the states: it awaits the Challenge, or nothing
abbrev pub awaiting : List ℕ
awaiting = 1 ∷ []

abbrev pub state_of : Bool → List ℕ
state_of true = awaiting
state_of false = []

-- a Request at a peer that awaits it: one with a Value is answered, and the method is over. Whether
-- the server accepts the Response, its Success or Failure says (RFC 4137 section 4.2)
abbrev pub answers : List ℕ → List ℕ → ℕ → Option (List ℕ) → PeerOutcome (List ℕ)
answers secret state id None = discarded state WrongOp
answers secret state id (Some challenge) =
    replied [] (response_packet secret id challenge) Done CondSucc [] []

unfoldable pub step : List ℕ → List ℕ → List ℕ → PeerOutcome (List ℕ)
step secret [] octets = discarded [] WrongOp
step secret (x ∷ rest) octets = answers secret (x ∷ rest) (id_of octets) (value_of (body_of octets))

-- ---- a discard keeps the state

pub answers_preserve : (secret state : List ℕ) (id : ℕ) (value : Option (List ℕ)) (cause : Cause)
    → (answers secret state id value).turn ≡ Discard cause
    → (answers secret state id value).after ≡ state
answers_preserve secret state id None cause is_discard = refl
answers_preserve secret state id (Some challenge) cause is_discard = cc is_discard

pub discards : (secret state octets : List ℕ) (cause : Cause)
    → (step secret state octets).turn ≡ Discard cause → (step secret state octets).after ≡ state
unfolding step
discards secret [] octets cause is_discard = refl
discards secret (x ∷ rest) octets cause is_discard =
    answers_preserve secret (x ∷ rest) (id_of octets) (value_of (body_of octets)) cause is_discard

-- ---- a Response answers the Request

pub answers_respond : (secret state : List ℕ) (id : ℕ) (value : Option (List ℕ)) (packet : List ℕ)
    (s : MethodState) (d : Decision) (tags : Tags)
    → (answers secret state id value).turn ≡ Reply packet s d tags → Responds id md5_kind packet
answers_respond secret state id None packet s d tags replies = absurd cc replies
answers_respond secret state id (Some challenge) packet s d tags replies = record {
  body = type_data (response_value secret id challenge);
  encoding_of = cc replies;
}

pub responds : (secret state octets packet : List ℕ) (s : MethodState) (d : Decision) (tags : Tags)
    → (step secret state octets).turn ≡ Reply packet s d tags
    → Responds (id_of octets) md5_kind packet
unfolding step
responds secret [] octets packet s d tags replies = absurd cc replies
responds secret (x ∷ rest) octets packet s d tags replies =
    answers_respond secret (x ∷ rest) (id_of octets) (value_of (body_of octets)) packet s d tags
    replies

-- ---- the method

abbrev pub md5_peer : List ℕ → Custom
md5_peer secret = record {
  kind = md5_kind;
  no_nak = refl;
  fresh = λ cred nonce. awaiting;
  step = step secret;
  report = λ state. None;
  discards = discards secret;
  responds = responds secret;
}

-- what a peer shows
abbrev pub shown : PeerValue → PeerShown
shown value = other (md5_peer value.secret) value.state
