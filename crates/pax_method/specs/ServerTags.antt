-- Which tags the state of a server of EAP-PAX determines.
use Rattle.std.specs.Prelude.{◌≡◌, ℕ, List, [], ◌∷◌, length, true, false, Some}
use Rattle.login_setup.specs.Setup.{ServerSetup}
use Rattle.login_setup.specs.Users.{user_of}
use Rattle.login_setup.specs.declared.users.User.{User}
use Rattle.octet_lists.specs.Among.{is_among}
use Rattle.eap_method.specs.declared.tags.TagRecord.{TagRecord}
use Rattle.pax_method.specs.Messages.{joined, peer_joined, mac_3, std_3_of, ck_record, ick_record}
use Rattle.pax_method.specs.Packets.{pax_kind}
use Rattle.pax_method.specs.PaxPeer.{blank}
use Rattle.pax_method.specs.PaxServer.{state_of}
use Rattle.pax_method.specs.declared.login.Login.{Login}
use Rattle.pax_method.specs.declared.server.Phase.TheVariants as phase

-- a server that has begun under its own name: A is its settings', which propose the method
pub record IsOfSettings (setup : ServerSetup) (server : List ℕ) (login : Login) : Type 0 where
  pub ordered : is_among setup.methods pax_kind ≡ true
  pub named : setup.name ≡ server
  pub a : login.a ≡ setup.nonce
  pub size : length login.b ≡ 32

-- the login of a user that it lets in
pub record IsChecked (setup : ServerSetup) (server : List ℕ) (login : Login) : Type 0 where
  pub of_settings : IsOfSettings setup server login
  pub user : User
  pub known : user_of setup.users login.cid pax_kind ≡ Some user
  pub welcome : user.barred ≡ false
  pub keyless : user.psk ≡ []

-- the records of the PAX_STD-2 that it accepts, and those of its PAX_STD-3
abbrev pub std_2_received : List ℕ → Login → List ℕ → List ℕ → List TagRecord
std_2_received ak login octets mac_ck =
    ck_record ak (joined login) mac_ck ∷ ick_record ak octets ∷ []

abbrev pub std_3_records : List ℕ → Login → ℕ → List TagRecord
std_3_records ak login id =
    ck_record ak (peer_joined login) (mac_3 ak login) ∷ ick_record ak (std_3_of ak login id) ∷ []

-- the login before PAX_STD-2
abbrev pub first_login : ServerSetup → Login
first_login setup = record { a = setup.nonce; b = blank; cid = [] }

pub data ServerTags (setup : ServerSetup) (ak server : List ℕ) : List ℕ → List TagRecord
    → List TagRecord → Type 0 where
  unset_tags : ServerTags setup ak server [] [] []
  -- PAX_STD-1 is sent
  asked_tags : (of_settings : IsOfSettings setup server (first_login setup))
      → ServerTags setup ak server (state_of phase.Asked (first_login setup)) [] []
  -- PAX_STD-2 is accepted, and answered by PAX_STD-3
  checked_tags : (login : Login) (id : ℕ) (octets mac_ck : List ℕ)
      (checked : IsChecked setup server login)
      → ServerTags setup ak server (state_of phase.Checked login)
      (std_2_received ak login octets mac_ck) (std_3_records ak login id)
  -- PAX-ACK is accepted
  over_tags : (login : Login) (id : ℕ) (octets mac_ck last : List ℕ)
      (checked : IsChecked setup server login)
      → ServerTags setup ak server (state_of phase.Over login)
      (ck_record ak (joined login) mac_ck ∷ ick_record ak octets ∷ ick_record ak last ∷ [])
      (std_3_records ak login id)

-- a success
abbrev pub ServerSucceeds : List ℕ → Type 0
ServerSucceeds state = (login : Login) × (state ≡ state_of phase.Over login)
