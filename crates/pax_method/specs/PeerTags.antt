-- Which tags the state of a peer of EAP-PAX determines.
use Rattle.std.specs.Prelude.{◌≡◌, ℕ, List, [], ◌∷◌, length, true}
use Rattle.login_setup.specs.Setup.{accepts_name}
use Rattle.login_setup.specs.declared.setup.PeerSetup.{PeerSetup}
use Rattle.octet_lists.specs.Among.{is_among}
use Rattle.eap_method.specs.declared.tags.TagRecord.{TagRecord}
use Rattle.pax_method.specs.Messages.{joined, peer_joined, mac_2, std_2_of, ack_of}
use Rattle.pax_method.specs.Messages.{ck_record, ick_record}
use Rattle.pax_method.specs.Packets.{pax_kind}
use Rattle.pax_method.specs.PaxPeer.{blank, state_of}
use Rattle.pax_method.specs.declared.login.Login.{Login}
use Rattle.pax_method.specs.declared.peer.Phase.TheVariants as phase

-- a login that the peer has begun: B and CID are its settings', which allow the method and accept
-- the server's name
pub record IsOfSettings (setup : PeerSetup) (server : List ℕ) (login : Login) : Type 0 where
  pub allowed : is_among setup.methods pax_kind ≡ true
  pub accepted : accepts_name setup.accepts server ≡ true
  pub size : length login.a ≡ 32
  pub b : login.b ≡ setup.nonce
  pub cid : login.cid ≡ setup.name

-- the records of its PAX_STD-2, and those of the PAX_STD-3 that it accepts
abbrev pub std_2_records : List ℕ → Login → ℕ → List TagRecord
std_2_records ak login id =
    ck_record ak (joined login) (mac_2 ak login) ∷ ick_record ak (std_2_of ak login id) ∷ []

abbrev pub std_3_received : List ℕ → Login → List ℕ → List ℕ → List TagRecord
std_3_received ak login octets mac_ck =
    ck_record ak (peer_joined login) mac_ck ∷ ick_record ak octets ∷ []

-- the login before PAX_STD-1
abbrev pub first_login : PeerSetup → Login
first_login setup = record { a = blank; b = setup.nonce; cid = setup.name }

pub data PeerTags (setup : PeerSetup) (ak server : List ℕ) : List ℕ → List TagRecord
    → List TagRecord → Type 0 where
  unset_tags : PeerTags setup ak server [] [] []
  initial_tags : (of_settings : IsOfSettings setup server (first_login setup))
      → PeerTags setup ak server (state_of phase.Initial (first_login setup)) [] []
  -- PAX_STD-2 is sent
  waiting_tags : (login : Login) (id : ℕ) (of_settings : IsOfSettings setup server login)
      → PeerTags setup ak server (state_of phase.Waiting login) [] (std_2_records ak login id)
  -- PAX_STD-3 is accepted, and answered by PAX-ACK
  over_tags : (login : Login) (id last : ℕ) (octets mac_ck : List ℕ)
      (of_settings : IsOfSettings setup server login)
      → PeerTags setup ak server (state_of phase.Over login) (std_3_received ak login octets mac_ck)
      (ck_record ak (joined login) (mac_2 ak login) ∷ ick_record ak (std_2_of ak login id)
      ∷ ick_record ak (ack_of ak login last) ∷ [])

-- a success
abbrev pub PeerSucceeds : List ℕ → Type 0
PeerSucceeds state = (login : Login) × (state ≡ state_of phase.Over login)
