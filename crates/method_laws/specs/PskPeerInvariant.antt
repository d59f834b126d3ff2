-- What a view of EAP-PSK at the peer has and tells: RAND_S, the report that its login leads to, and
-- its tags.
use Rattle.std.specs.Prelude.{◌≡◌, ℕ, List, [], ◌∷◌, length, Bool, true, if◌then◌else◌, Option}
use Rattle.std.specs.Prelude.{None, Some}
use Rattle.login_setup.specs.declared.setup.PeerSetup.{PeerSetup}
use Rattle.octet_lists.specs.Among.{psk_kind, is_among}
use Rattle.login_setup.specs.Setup.{accepts_name}
use Rattle.eax_mode.specs.Eax.{eax_tag}
use Rattle.eap_method.specs.declared.tags.TagRecord.{TagRecord}
use Rattle.eap_method.specs.declared.values.Report.{Report}
use Rattle.eap_method.specs.Peer.{credential_for}
use Rattle.eap_method.specs.PskPeer as psk
use Rattle.eap_method.specs.PskTags.{ak_record, channel_nonce, done_success, done_failure}

-- RAND_S
abbrev pub psk_rand_s : psk.View → Option (List ℕ)
psk_rand_s psk.unset = None
psk_rand_s (psk.fresh cred nonce) = None
psk_rand_s (psk.wait login) = Some login.rand_s
psk_rand_s (psk.over login good) = Some login.rand_s

-- the report, from when the peer has RAND_S, over or not
abbrev pub psk_peer_login : psk.View → Option Report
psk_peer_login psk.unset = None
psk_peer_login (psk.fresh cred nonce) = None
psk_peer_login (psk.wait login) = Some (psk.report_of login)
psk_peer_login (psk.over login good) = Some (psk.report_of login)

-- a login by EAP-PSK that the peer has begun: what it keeps is its setup's, but for the server's
-- name, which the setup accepts, and RAND_S, which has 16 octets
pub record PskStarted (setup : PeerSetup) (login : psk.Login) : Type 0 where
  pub allowed : is_among setup.methods psk_kind ≡ true
  pub cred : login.cred ≡ credential_for setup psk_kind
  pub nonce : login.nonce ≡ setup.nonce
  pub accepted : accepts_name setup.accepts login.id_s ≡ true
  pub size : length login.rand_s ≡ 16

-- the record of its PSK-2
abbrev pub psk2_record : psk.Login → TagRecord
psk2_record login = ak_record login.cred.psk (psk.mac_p_covers login) (psk.mac_p_of login)

-- the records of a PSK-3 whose tags are right
abbrev pub psk3_records_of : psk.Login → List ℕ → ℕ → List TagRecord
psk3_records_of login header sealed =
    psk.psk3_records login header (psk.mac_s_of login)
    (eax_tag (psk.keys_of login).tek (channel_nonce 0) header (sealed ∷ [])) sealed

-- R that answers a PSK-3 in PSK-4
abbrev pub result_for : Bool → ℕ
result_for good = if good then done_success else done_failure

-- which tags a view of EAP-PSK determines
pub data PskPeerTags (setup : PeerSetup) : psk.View → List TagRecord → List TagRecord → Type 0 where
  psk_unset : PskPeerTags setup psk.unset [] []
  psk_fresh : (allowed : is_among setup.methods psk_kind ≡ true)
      → PskPeerTags setup (psk.fresh (credential_for setup psk_kind) setup.nonce) [] []
  -- PSK-2 is sent
  psk_waits : (login : psk.Login) (facts : PskStarted setup login)
      → PskPeerTags setup (psk.wait login) [] (psk2_record login ∷ [])
  -- PSK-3 is accepted, and answered by PSK-4 with the same result
  psk_over : (login : psk.Login) (good : Bool) (header : List ℕ) (sealed id : ℕ)
      (facts : PskStarted setup login)
      → PskPeerTags setup (psk.over login good) (psk3_records_of login header sealed)
      (psk2_record login ∷ psk.psk4_record login id (result_for good))
