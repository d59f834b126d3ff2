-- A login by MD5-Challenge (RFC 3748 section 5.4), turn by turn.
use Rattle.std.specs.Prelude.{◌≡◌, ◌≢◌, ℕ, ◌≤◌, List, ◌∷◌, length, take, Bool, true, false}
use Rattle.login_setup.specs.declared.users.User.{User}
use Rattle.eap_packet.specs.Packet.{response, spelled}
use Rattle.eap_method.specs.declared.values.Credential.{Credential}
use Rattle.eap_method.specs.declared.values.ServerSide.{ServerSide}
use Rattle.eap_method.specs.declared.values.MethodState.TheVariants.{Done}
use Rattle.eap_method.specs.declared.values.Decision.TheVariants.{CondSucc}
use Rattle.eap_method.specs.Peer as peer
use Rattle.eap_method.specs.Peer.{PeerShown, started_peer, peer_step}
use Rattle.eap_method.specs.PeerTurn.{Reply}
use Rattle.eap_method.specs.Server as server
use Rattle.eap_method.specs.Server.{ServerShown, started_server, server_first_step, server_step}
use Rattle.eap_method.specs.ServerTurn as server_turn
use Rattle.eap_method.specs.Tags.{no_tags}
use Rattle.maker.specs.Challenge.{md5_kind, challenge_packet, response_packet, response_value}
use Rattle.maker.specs.Md5Peer.{md5_peer}
use Rattle.maker.specs.Md5Server.{md5_server}

-- an end that has begun, whatever its state before
abbrev pub fresh_peer : List ℕ → Credential → List ℕ → List ℕ → PeerShown
fresh_peer secret cred nonce before = started_peer cred nonce (peer.other (md5_peer secret) before)

abbrev pub fresh_server : List ℕ → ServerSide → List ℕ → List ℕ → ServerShown
fresh_server secret own nonce before =
    started_server own nonce (server.other (md5_server secret) before)

-- the Value of its Challenge: the first 16 octets of its nonce
abbrev pub challenge_of : List ℕ → List ℕ
challenge_of nonce = take 16 nonce

-- the server after its Challenge
abbrev pub server_asked : List ℕ → ServerSide → List ℕ → List ℕ → ℕ → ServerShown
server_asked secret own nonce before id =
    (server_first_step (fresh_server secret own nonce before) id).after

-- the Response with this Value, of 1 to 255 octets, and no Name
abbrev pub response_with : ℕ → List ℕ → List ℕ
response_with id value = spelled (response id md5_kind (length value ∷ value))

-- what the server makes of it
abbrev pub HasResult : ServerShown → List User → ℕ → List ℕ → Bool → Type 0
HasResult now users next_id octets success =
    (server_step users next_id now octets).turn ≡ server_turn.Done success no_tags

-- a server makes its Challenge; a peer that has the same secret answers it, and is accepted; every
-- other Value is refused
pub record IsSuccessful (secret : List ℕ) (cred : Credential) (own : ServerSide)
    (peer_nonce nonce peer_before server_before : List ℕ) (users : List User)
    (id next_id : ℕ) : Type 0 where
  pub asks : (server_first_step (fresh_server secret own nonce server_before) id).packet
      ≡ challenge_packet id (challenge_of nonce)
  pub answers : (peer_step (fresh_peer secret cred peer_nonce peer_before)
      (challenge_packet id (challenge_of nonce))).turn
      ≡ Reply (response_packet secret id (challenge_of nonce)) Done CondSucc no_tags
  pub accepts : HasResult (server_asked secret own nonce server_before id) users next_id
      (response_packet secret id (challenge_of nonce)) true
  pub refuses : (value : List ℕ) → 1 ≤ length value
      → value ≢ response_value secret id (challenge_of nonce)
      → HasResult (server_asked secret own nonce server_before id) users next_id
      (response_with id value) false

-- so does every login, whatever the names, the nonces and the Identifiers
abbrev pub Md5LoginsGoThrough : Type 0
Md5LoginsGoThrough =
    (secret : List ℕ) (cred : Credential) (own : ServerSide)
    (peer_nonce nonce peer_before server_before : List ℕ) (users : List User) (id next_id : ℕ)
    → 16 ≤ length nonce
    → IsSuccessful secret cred own peer_nonce nonce peer_before server_before users id next_id
