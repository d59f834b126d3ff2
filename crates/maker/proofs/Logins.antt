-- A login by MD5-Challenge, turn by turn.
use Rattle.std.proofs.Common.{◌≡◌, ◌≢◌, ℕ, ◌≤◌, List, ◌∷◌, length, take, true, false}
use Rattle.std.proofs.Common.{Some, None, refl, ap, ◌∙◌, arith}
use Rattle.std.specs.Prelude.{◌==◌, nat_lt}
use Rattle.std.specs.Str.{bytes_eq}
use Rattle.std.proofs.lemmas.Bool.{eqb-true, ltb-true, or_from, cond-false}
use Rattle.std.proofs.lemmas.Bool.{false_from_ne_true}
use Rattle.std.proofs.lemmas.List.{take_all, length-take-le}
use Rattle.std.proofs.lemmas.Slice.Eq.{bytes_eq-Decides}
use Rattle.md5.proofs.StandardFacts.{length-md5}
use Rattle.eap_packet.specs.Packet.{spelled}
use Rattle.eap_method.specs.Peer.{peer_step}
use Rattle.eap_method.specs.Server.{server_first_step, server_step}
use Rattle.maker.specs.Challenge.{is_missing, value_of, response_value}
use Rattle.maker.specs.Md5Peer as peer
use Rattle.maker.specs.Md5Server as server
use Rattle.maker.specs.Logins.{Md5LoginsGoThrough, challenge_of}

-- Value-Size as it is sent finds the Value
none_missing : (size : ℕ) (value : List ℕ) → length value ≡ size → 1 ≤ size
    → is_missing size value ≡ false
none_missing size value sized some = or_from (size == 0) (nat_lt (length value) size)
    (false_from_ne_true (size == 0) (λ none. omega (arith, some, eqb-true size 0 none)))
    (false_from_ne_true (nat_lt (length value) size)
    (λ short. omega (arith, sized, ltb-true (length value) size short)))

value_is_read : (size : ℕ) (value : List ℕ) → length value ≡ size → 1 ≤ size
    → value_of (size ∷ value) ≡ Some value
value_is_read size value sized some =
    cond-false (is_missing size value) None (Some (take size value))
    (none_missing size value sized some)
    ∙ ap Some (take_all size value (omega (arith, sized)))

response_is_sized : (secret : List ℕ) (id : ℕ) (challenge : List ℕ)
    → length (response_value secret id challenge) ≡ 16
unfolding response_value
response_is_sized secret id challenge = length-md5 _

-- a Value is accepted where it is the right one, and refused where it is another
accepted : (secret challenge : List ℕ) (id : ℕ)
    → bytes_eq (response_value secret id challenge) (response_value secret id challenge) ≡ true
accepted secret challenge id = (bytes_eq-Decides
    (response_value secret id challenge) (response_value secret id challenge)).1 refl

refused : (value right : List ℕ) → value ≢ right → bytes_eq value right ≡ false
refused value right other =
    false_from_ne_true (bytes_eq value right) (λ same. other ((bytes_eq-Decides value right).0 same))

pub md5_logins_go_through : Md5LoginsGoThrough
unfolding spelled peer_step server_first_step server_step peer.step server.first_step server.step
md5_logins_go_through secret cred own peer_nonce nonce peer_before server_before users id next_id
    sized = record {
      asks = refl;
      answers = rw (value_is_read 16 (challenge_of nonce) (length-take-le 16 nonce sized)
          (omega arith)) refl;
      accepts = rw (
        value_is_read 16 (response_value secret id (challenge_of nonce))
            (response_is_sized secret id (challenge_of nonce)) (omega arith),
        accepted secret (challenge_of nonce) id,
      ) refl;
      refuses = λ value some other. rw (
        value_is_read (length value) value refl some,
        refused value (response_value secret id (challenge_of nonce)) other,
      ) refl;
    }
