-- The server of EAP MD5-Challenge (RFC 3748 section 5.4), as a method of a maker: its tables over a
-- state of octets, under a secret.
use Rattle.std.specs.Prelude.{◌≡◌, ℕ, zero, suc, List, [], ◌∷◌, take, Bool, true, false, Option}
use Rattle.std.specs.Prelude.{Some, None}
use Rattle.std.specs.Str.{bytes_eq}
use Rattle.std.proofs.Common.{refl}
use Rattle.eap_packet.specs.declared.cause.Cause.{Cause}
use Rattle.eap_packet.specs.declared.cause.Cause.TheVariants.{WrongOp}
use Rattle.eap_method.specs.Server.{Custom, ServerShown, other}
use Rattle.eap_method.specs.ServerTurn.{Discard}
use Rattle.eap_method.specs.Turns.{ServerOutcome, FirstOutcome, id_of, body_of, dropped, done}
use Rattle.maker.specs.Challenge.{md5_kind, value_of, response_value, challenge_packet}
use Rattle.maker.specs.declared.server.Phase.{Phase}
use Rattle.maker.specs.declared.server.Phase.TheVariants as phase

-- what a server is: its secret, and its state
pub record ServerValue : Type 0 where
  pub secret : List ℕ
  pub state : List ℕ

-- the states: it has begun, and makes the Challenge of these 16 octets; it has made it, and awaits
-- the Response; or it awaits nothing
abbrev pub unasked : List ℕ → List ℕ
unasked challenge = 0 ∷ challenge

abbrev pub asked : List ℕ → List ℕ
asked challenge = 1 ∷ challenge

abbrev pub state_of : Phase → List ℕ → List ℕ
state_of phase.Unasked challenge = unasked challenge
state_of phase.Asked challenge = asked challenge
state_of phase.Over challenge = []

-- whether it has begun and made no Challenge yet
unfoldable pub is_unasked : List ℕ → Bool
is_unasked [] = false
is_unasked (zero ∷ challenge) = true
is_unasked (suc n ∷ challenge) = false

-- its first Request is the Challenge
unfoldable pub first_step : List ℕ → ℕ → FirstOutcome (List ℕ)
first_step [] id = record { packet = []; after = [] }
first_step (x ∷ challenge) id =
    record { packet = challenge_packet id challenge; after = asked challenge }

-- a Response at a server that awaits it: one with a Value ends the method, with success where this
-- is the right one (RFC 1994 section 4.1)
abbrev pub checks : List ℕ → List ℕ → List ℕ → ℕ → Option (List ℕ) → ServerOutcome (List ℕ)
checks secret state challenge id None = dropped state WrongOp
checks secret state challenge id (Some value) =
    done [] (bytes_eq value (response_value secret id challenge)) []

unfoldable pub step : List ℕ → List ℕ → List ℕ → ServerOutcome (List ℕ)
step secret [] octets = dropped [] WrongOp
step secret (zero ∷ challenge) octets = dropped (zero ∷ challenge) WrongOp
step secret (suc n ∷ challenge) octets =
    checks secret (suc n ∷ challenge) challenge (id_of octets) (value_of (body_of octets))

-- ---- a discard keeps the state

pub checks_preserve : (secret state challenge : List ℕ) (id : ℕ) (value : Option (List ℕ)) (cause : Cause)
    → (checks secret state challenge id value).turn ≡ Discard cause
    → (checks secret state challenge id value).after ≡ state
checks_preserve secret state challenge id None cause is_discard = refl
checks_preserve secret state challenge id (Some value) cause is_discard = cc is_discard

pub discards : (secret state octets : List ℕ) (cause : Cause)
    → (step secret state octets).turn ≡ Discard cause → (step secret state octets).after ≡ state
unfolding step
discards secret [] octets cause is_discard = refl
discards secret (zero ∷ challenge) octets cause is_discard = refl
discards secret (suc n ∷ challenge) octets cause is_discard =
    checks_preserve secret (suc n ∷ challenge) challenge (id_of octets) (value_of (body_of octets))
    cause is_discard

pub fresh_is_unasked : (challenge : List ℕ) → is_unasked (unasked challenge) ≡ true
unfolding is_unasked
fresh_is_unasked challenge = refl

-- ---- the method

abbrev pub md5_server : List ℕ → Custom
md5_server secret = record {
  kind = md5_kind;
  no_identity = refl;
  fresh = λ own nonce. unasked (take 16 nonce);
  is_initiated = is_unasked;
  initiates = λ own nonce. fresh_is_unasked (take 16 nonce);
  first_step = first_step;
  step = λ users next_id. step secret;
  report = λ state. None;
  discards = λ users next_id. discards secret;
}

-- what a server shows
abbrev pub shown : ServerValue → ServerShown
shown value = other (md5_server value.secret) value.state
