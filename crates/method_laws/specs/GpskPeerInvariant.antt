-- What a view of EAP-GPSK at the peer has and tells: RAND_Server, the report that its login leads
-- to, and its tags.
use Rattle.std.specs.Prelude.{◌≡◌, ℕ, List, [], ◌∷◌, length, true, false, Option, None}
use Rattle.std.specs.Prelude.{Some}
use Rattle.login_setup.specs.declared.setup.PeerSetup.{PeerSetup}
use Rattle.octet_lists.specs.Among.{gpsk_kind, is_among}
use Rattle.login_setup.specs.Setup.{accepts_name}
use Rattle.gpsk_messages.specs.Message.{Message, gpsk3}
use Rattle.login_policy.specs.Policy.{picked_suite}
use Rattle.eap_method.specs.declared.tags.TagRecord.{TagRecord}
use Rattle.eap_method.specs.declared.values.Report.{Report}
use Rattle.eap_method.specs.GpskPeer as gpsk
use Rattle.eap_method.specs.GpskTags.{sk_record, message_with_mac}
use Rattle.eap_method.specs.Peer.{credential_for}
use Rattle.eap_method.specs.PskTags.{rand_of}

-- the whole of RAND_Server, and its prefix
abbrev pub gpsk_whole_rand_s : gpsk.View → Option (List ℕ)
gpsk_whole_rand_s gpsk.unset = None
gpsk_whole_rand_s (gpsk.fresh cred nonce) = None
gpsk_whole_rand_s (gpsk.wait login) = Some login.rand_s
gpsk_whole_rand_s (gpsk.over login good) = Some login.rand_s

-- the prefix of a nonce that a view has, which is all that EAP-PSK has of one
abbrev pub front_in : Option (List ℕ) → Option (List ℕ)
front_in None = None
front_in (Some nonce) = Some (rand_of nonce)

abbrev pub gpsk_rand_s : gpsk.View → Option (List ℕ)
gpsk_rand_s view = front_in (gpsk_whole_rand_s view)

-- the report, from when the peer has RAND_Server, over or not
abbrev pub gpsk_peer_login : gpsk.View → Option Report
gpsk_peer_login gpsk.unset = None
gpsk_peer_login (gpsk.fresh cred nonce) = None
gpsk_peer_login (gpsk.wait login) = Some (gpsk.report_of login)
gpsk_peer_login (gpsk.over login good) = Some (gpsk.report_of login)

-- a login by EAP-GPSK that the peer has begun: what it keeps is its setup's, but for the server's
-- name, which the setup accepts, the suite, which it picks of a list, and RAND_Server, which has 32
-- octets
pub record GpskStarted (setup : PeerSetup) (login : gpsk.Login) (list : List ℕ) : Type 0 where
  pub allowed : is_among setup.methods gpsk_kind ≡ true
  pub cred : login.cred ≡ credential_for setup gpsk_kind
  pub nonce : login.nonce ≡ setup.nonce
  pub accepted : accepts_name setup.accepts login.id_s ≡ true
  pub picked : picked_suite setup.suites list ≡ Some login.suite
  pub size : length login.rand_s ≡ 32

-- the record of its GPSK-2
abbrev pub gpsk2_record : gpsk.Login → List ℕ → TagRecord
gpsk2_record login list = sk_record login.cred.psk (gpsk.gpsk2_of login list)

-- the GPSK-3 that it accepts
abbrev pub gpsk3_of_login : gpsk.Login → List ℕ → Message
gpsk3_of_login login pd = message_with_mac login.suite (gpsk.keys_of login).sk
    (gpsk3 login.nonce login.rand_s login.id_s login.suite pd [])

-- which tags a view of EAP-GPSK determines; a login that has failed had a GPSK-Fail or a
-- GPSK-Protected-Fail
pub data GpskPeerTags (setup : PeerSetup) : gpsk.View → List TagRecord → List TagRecord
    → Type 0 where
  gpsk_unset : GpskPeerTags setup gpsk.unset [] []
  gpsk_fresh : (allowed : is_among setup.methods gpsk_kind ≡ true)
      → GpskPeerTags setup (gpsk.fresh (credential_for setup gpsk_kind) setup.nonce) [] []
  -- GPSK-2 is sent
  gpsk_waits : (login : gpsk.Login) (list : List ℕ) (facts : GpskStarted setup login list)
      → GpskPeerTags setup (gpsk.wait login) [] (gpsk2_record login list ∷ [])
  -- GPSK-3 is accepted, and answered by GPSK-4
  gpsk_confirmed : (login : gpsk.Login) (list pd : List ℕ) (facts : GpskStarted setup login list)
      → GpskPeerTags setup (gpsk.over login true)
      (sk_record login.cred.psk (gpsk3_of_login login pd) ∷ [])
      (gpsk2_record login list ∷ sk_record login.cred.psk (gpsk.gpsk4_of login) ∷ [])
  -- GPSK-Fail has no tag
  gpsk_failed : (login : gpsk.Login) (list : List ℕ) (facts : GpskStarted setup login list)
      → GpskPeerTags setup (gpsk.over login false) [] (gpsk2_record login list ∷ [])
  -- GPSK-Protected-Fail is accepted, and answered by the same
  gpsk_barred : (login : gpsk.Login) (list : List ℕ) (code : ℕ)
      (facts : GpskStarted setup login list)
      → GpskPeerTags setup (gpsk.over login false)
      (sk_record login.cred.psk (gpsk.protected_fail_of login code) ∷ [])
      (gpsk2_record login list ∷ sk_record login.cred.psk (gpsk.protected_fail_of login code) ∷ [])
