-- What a view of EAP-PSK at the server has and tells: RAND_P, the report that its login leads to,
-- and its tags.
use Rattle.std.specs.Prelude.{◌≡◌, ℕ, List, [], ◌∷◌, length, drop, Bool, true, Option, None, Some}
use Rattle.login_setup.specs.Setup.{ServerSetup}
use Rattle.login_setup.specs.declared.users.User.{User}
use Rattle.octet_lists.specs.Among.{psk_kind, is_among}
use Rattle.login_setup.specs.Users.{user_of}
use Rattle.eax_mode.specs.Eax.{eax_tag}
use Rattle.eap_method.specs.declared.tags.TagRecord.{TagRecord}
use Rattle.eap_method.specs.declared.values.Report.{Report}
use Rattle.eap_method.specs.PskServer as psk
use Rattle.eap_method.specs.PskTags.{ak_record, tek_record, channel_nonce, done_success}
use Rattle.eap_method.specs.PskTags.{hidden_octet, result_of}
use Rattle.eap_method.specs.Server.{side_of}

-- RAND_P
abbrev pub psk_rand_p : psk.View → Option (List ℕ)
psk_rand_p psk.unset = None
psk_rand_p (psk.begun own nonce) = None
psk_rand_p (psk.asked own nonce) = None
psk_rand_p (psk.checked login) = Some login.rand_p
psk_rand_p (psk.refused own nonce) = None
psk_rand_p (psk.over login good) = Some login.rand_p

abbrev pub psk_rand_p_in : Option psk.View → Option (List ℕ)
psk_rand_p_in None = None
psk_rand_p_in (Some view) = psk_rand_p view

-- the report, from when the server has RAND_P, over or not
abbrev pub psk_server_login : Option psk.View → Option Report
psk_server_login None = None
psk_server_login (Some psk.unset) = None
psk_server_login (Some (psk.begun own nonce)) = None
psk_server_login (Some (psk.asked own nonce)) = None
psk_server_login (Some (psk.checked login)) = Some (psk.report_of login)
psk_server_login (Some (psk.refused own nonce)) = None
psk_server_login (Some (psk.over login good)) = Some (psk.report_of login)

-- a login by EAP-PSK of a user of the setup: what the server keeps is its setup's, but for RAND_P,
-- which has 16 octets
pub record PskChecked (setup : ServerSetup) (login : psk.Login) : Type 0 where
  pub ordered : is_among setup.methods psk_kind ≡ true
  pub own : login.own ≡ side_of setup
  pub nonce : login.nonce ≡ setup.nonce
  pub user : User
  pub known : user_of setup.users login.id_p psk_kind ≡ Some user
  pub key : login.psk ≡ user.psk
  pub r : login.r ≡ psk.r_for user.barred
  pub size : length login.rand_p ≡ 16

-- the records of the PSK-2 and the PSK-4 that it accepts
abbrev pub psk2_record : psk.Login → TagRecord
psk2_record login = ak_record login.psk (psk.mac_p_covers login) (psk.mac_p_of login)

abbrev pub psk4_taken : psk.Login → List ℕ → ℕ → TagRecord
psk4_taken login header sealed = tek_record login.psk 1 header sealed
    (eax_tag (psk.keys_of login).tek (channel_nonce 1) header (sealed ∷ []))

-- which tags a view of EAP-PSK determines
pub data PskServerTags (setup : ServerSetup) : psk.View → List TagRecord → List TagRecord
    → Type 0 where
  psk_asked : (ordered : is_among setup.methods psk_kind ≡ true)
      → PskServerTags setup (psk.asked (side_of setup) setup.nonce) [] []
  -- PSK-2 is accepted, and answered by PSK-3
  psk_checked : (login : psk.Login) (id : ℕ) (facts : PskChecked setup login)
      → PskServerTags setup (psk.checked login) (psk2_record login ∷ []) (psk.psk3_records login id)
  -- the user is unknown
  psk_refused : PskServerTags setup (psk.refused (side_of setup) setup.nonce) [] []
  -- PSK-4 is accepted too, whose header ends in RAND_S; after a success both PSK-3 and PSK-4 said
  -- DONE_SUCCESS
  psk_over : (login : psk.Login) (good : Bool) (header : List ℕ) (sealed id : ℕ)
      (facts : PskChecked setup login) (r_sent : good ≡ true → login.r ≡ done_success)
      (rand_in : drop 6 header ≡ psk.rand_s_of login) (r_came : good ≡ true
      → result_of (hidden_octet (psk.keys_of login).tek 1 sealed) ≡ done_success)
      → PskServerTags setup (psk.over login good)
      (psk2_record login ∷ psk4_taken login header sealed ∷ []) (psk.psk3_records login id)
