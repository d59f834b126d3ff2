-- What a view of EAP-GPSK at the server has and tells: RAND_Peer, the report that its login leads
-- to, and its tags.
use Rattle.std.specs.Prelude.{◌≡◌, ℕ, List, [], ◌∷◌, length, Bool, true, false, Option, None, Some}
use Rattle.login_setup.specs.Setup.{ServerSetup}
use Rattle.login_setup.specs.declared.users.User.{User}
use Rattle.octet_lists.specs.Among.{gpsk_kind, is_among}
use Rattle.octet_lists.specs.Suite.{suite_number}
use Rattle.login_setup.specs.Users.{user_of}
use Rattle.gpsk_messages.specs.Message.{Message, gpsk2, gpsk4}
use Rattle.eap_method.specs.declared.tags.TagRecord.{TagRecord}
use Rattle.eap_method.specs.declared.values.Report.{Report}
use Rattle.eap_method.specs.GpskServer as gpsk
use Rattle.eap_method.specs.GpskTags.{sk_record, suite_list, message_with_mac}
use Rattle.eap_method.specs.Server.{side_of}
use Rattle.method_laws.specs.GpskPeerInvariant.{front_in}

-- the whole of RAND_Peer, and its prefix
abbrev pub gpsk_whole_rand_p : gpsk.View → Option (List ℕ)
gpsk_whole_rand_p gpsk.unset = None
gpsk_whole_rand_p (gpsk.begun own nonce) = None
gpsk_whole_rand_p (gpsk.asked own nonce) = None
gpsk_whole_rand_p (gpsk.refusing own nonce) = None
gpsk_whole_rand_p (gpsk.barring login) = Some login.rand_p
gpsk_whole_rand_p (gpsk.checked login) = Some login.rand_p
gpsk_whole_rand_p (gpsk.refused own nonce) = None
gpsk_whole_rand_p (gpsk.over login good) = Some login.rand_p

abbrev pub gpsk_rand_p : gpsk.View → Option (List ℕ)
gpsk_rand_p view = front_in (gpsk_whole_rand_p view)

abbrev pub gpsk_whole_rand_p_in : Option gpsk.View → Option (List ℕ)
gpsk_whole_rand_p_in None = None
gpsk_whole_rand_p_in (Some view) = gpsk_whole_rand_p view

abbrev pub gpsk_rand_p_in : Option gpsk.View → Option (List ℕ)
gpsk_rand_p_in None = None
gpsk_rand_p_in (Some view) = gpsk_rand_p view

-- the report, from when the server has RAND_Peer, over or not
abbrev pub gpsk_server_login : Option gpsk.View → Option Report
gpsk_server_login None = None
gpsk_server_login (Some gpsk.unset) = None
gpsk_server_login (Some (gpsk.begun own nonce)) = None
gpsk_server_login (Some (gpsk.asked own nonce)) = None
gpsk_server_login (Some (gpsk.refusing own nonce)) = None
gpsk_server_login (Some (gpsk.barring login)) = Some (gpsk.report_of login)
gpsk_server_login (Some (gpsk.checked login)) = Some (gpsk.report_of login)
gpsk_server_login (Some (gpsk.refused own nonce)) = None
gpsk_server_login (Some (gpsk.over login good)) = Some (gpsk.report_of login)

-- the GPSK-2 and the GPSK-4 that it accepts
abbrev pub gpsk2_of_login : gpsk.Login → List ℕ → Message
gpsk2_of_login login pd =
    message_with_mac login.suite (gpsk.keys_of login).sk
    (gpsk2 login.id_p login.own.id_s login.rand_p login.nonce (suite_list login.own.suites)
    login.suite pd [])

abbrev pub gpsk4_of_login : gpsk.Login → List ℕ → Message
gpsk4_of_login login pd = message_with_mac login.suite (gpsk.keys_of login).sk (gpsk4 pd [])

-- a login by EAP-GPSK of a user of the setup, barred or not: what the server keeps is its setup's,
-- but for RAND_Peer, which has 32 octets
pub record GpskChecked (setup : ServerSetup) (login : gpsk.Login) (barred : Bool) : Type 0 where
  pub ordered : is_among setup.methods gpsk_kind ≡ true
  pub own : login.own ≡ side_of setup
  pub nonce : login.nonce ≡ setup.nonce
  pub user : User
  pub known : user_of setup.users login.id_p gpsk_kind ≡ Some user
  pub key : login.psk ≡ user.psk
  pub standing : user.barred ≡ barred
  pub offered : is_among setup.suites (suite_number login.suite) ≡ true
  pub size : length login.rand_p ≡ 32

-- which tags a view of EAP-GPSK determines
pub data GpskServerTags (setup : ServerSetup) : gpsk.View → List TagRecord → List TagRecord
    → Type 0 where
  gpsk_asked : (ordered : is_among setup.methods gpsk_kind ≡ true)
      → GpskServerTags setup (gpsk.asked (side_of setup) setup.nonce) [] []
  -- the user is unknown: GPSK-Fail, both ways, has no tag
  gpsk_refusing : GpskServerTags setup (gpsk.refusing (side_of setup) setup.nonce) [] []
  gpsk_refused : GpskServerTags setup (gpsk.refused (side_of setup) setup.nonce) [] []
  -- GPSK-2 of a barred user is accepted, and answered by GPSK-Protected-Fail
  gpsk_barring : (login : gpsk.Login) (pd : List ℕ) (facts : GpskChecked setup login true)
      → GpskServerTags setup (gpsk.barring login) (sk_record login.psk (gpsk2_of_login login pd)
      ∷ []) (sk_record login.psk (gpsk.bars_with login) ∷ [])
  -- GPSK-2 of any other user is accepted, and answered by GPSK-3
  gpsk_checked : (login : gpsk.Login) (pd : List ℕ) (facts : GpskChecked setup login false)
      → GpskServerTags setup (gpsk.checked login) (sk_record login.psk (gpsk2_of_login login pd)
      ∷ []) (sk_record login.psk (gpsk.gpsk3_of login) ∷ [])
  -- the same GPSK-Protected-Fail comes back and is accepted too
  gpsk_barred : (login : gpsk.Login) (pd : List ℕ) (facts : GpskChecked setup login true)
      → GpskServerTags setup (gpsk.over login false)
      (sk_record login.psk (gpsk2_of_login login pd)
      ∷ sk_record login.psk (gpsk.bars_with login) ∷ [])
      (sk_record login.psk (gpsk.bars_with login) ∷ [])
  -- GPSK-4 is accepted too
  gpsk_confirmed : (login : gpsk.Login) (pd last_pd : List ℕ)
      (facts : GpskChecked setup login false)
      → GpskServerTags setup (gpsk.over login true)
      (sk_record login.psk (gpsk2_of_login login pd)
      ∷ sk_record login.psk (gpsk4_of_login login last_pd) ∷ [])
      (sk_record login.psk (gpsk.gpsk3_of login) ∷ [])
