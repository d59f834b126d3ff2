-- Each tag of a conversation is the right MAC of its octets, under the key that its label derives
-- from the shared key.
use Rattle.std.specs.Prelude.{◌≡◌, ℕ, List, [], ◌∷◌, Option, Some}
use Rattle.login_setup.specs.declared.setup.PeerSetup.{PeerSetup}
use Rattle.login_setup.specs.Setup.{ServerSetup}
use Rattle.login_setup.specs.declared.users.User.{User}
use Rattle.login_setup.specs.Users.{user_of}
use Rattle.octet_lists.specs.declared.suite.Suite.{Suite}
use Rattle.octet_lists.specs.Among.{gpsk_kind, psk_kind}
use Rattle.octet_lists.specs.Suite.{suite_number}
use Rattle.cmac_mac.specs.Cmac.{aes_cmac}
use Rattle.eax_mode.specs.Eax.{eax_tag}
use Rattle.login_keys.specs.Gpsk.{gpsk_keys_of, gpsk_tag_of}
use Rattle.login_keys.specs.Psk.{psk_keys_of, psk_long_of}
use Rattle.eap_method.specs.BothPeers.{gpsk_in}
use Rattle.eap_method.specs.BothServers.{gpsk_at, psk_at}
use Rattle.eap_method.specs.declared.tags.Label.TheVariants.{Sk}
use Rattle.eap_method.specs.declared.tags.TagRecord.{TagRecord}
use Rattle.eap_method.specs.declared.values.Report.{Report}
use Rattle.eap_method.specs.Peer.{PeerViews, key_for}
use Rattle.eap_method.specs.PskTags.{ak_record, channel_nonce, rand_of, tek_record}
use Rattle.eap_method.specs.Server.{ServerViews}
use Rattle.method_laws.specs.ByMethod.{PeerTags, ServerTags, peer_login, server_login}
use Rattle.method_laws.specs.GpskPeerInvariant.{gpsk_whole_rand_s}
use Rattle.method_laws.specs.GpskServerInvariant.{gpsk_whole_rand_p_in}
use Rattle.method_laws.specs.PskServerInvariant.{psk_rand_p_in}
use Rattle.method_laws.specs.Records.{IsIn}

-- from what the keys of a login derive: by EAP-PSK the PSK and RAND_P (RFC 4764 section 3); by
-- EAP-GPSK CSuite_Sel, the PSK, RAND_Peer, ID_Peer, RAND_Server and ID_Server (RFC 5433 section 4)
pub data KeyInputs : Type 0 where
  psk_inputs : (psk rand_p : List ℕ) → KeyInputs
  gpsk_inputs : (suite : Suite) (psk rand_p id_p rand_s id_s : List ℕ) → KeyInputs

-- the tag is the MAC of the octets, by the algorithm and under the key of its label
pub data IsRightMac : KeyInputs → TagRecord → Type 0 where
  -- MAC_P and MAC_S: AES-CMAC under AK (RFC 4764 sections 5.2 and 5.3)
  under_ak : (psk rand_p octets : List ℕ) → IsRightMac (psk_inputs psk rand_p) (ak_record psk octets
      (aes_cmac (psk_long_of psk).ak octets))
  -- the tag of PCHANNEL: EAX's under TEK, over a Nonce, the header and one sealed octet (RFC 4764
  -- section 3.3)
  under_tek : (psk rand_p header : List ℕ) (number sealed : ℕ)
      → IsRightMac (psk_inputs psk rand_p)
      (tek_record psk number header sealed (eax_tag (psk_keys_of (psk_long_of psk).kdk rand_p).tek
      (channel_nonce number) header (sealed ∷ [])))
  -- the MAC of a message of EAP-GPSK: the ciphersuite's under SK (RFC 5433 sections 4 and 8)
  under_sk : (suite : Suite) (psk rand_p id_p rand_s id_s octets : List ℕ)
      → IsRightMac (gpsk_inputs suite psk rand_p id_p rand_s id_s)
      (record {
        method = gpsk_kind;
        label = Sk;
        psk = psk;
        octets = octets;
        tag = gpsk_tag_of suite (gpsk_keys_of suite psk rand_p id_p rand_s id_s).sk octets;
      })

-- from what a conversation of the peer with this nonce derives its keys, if its login leads to this
-- report: its own key, nonce and name
pub data PeerDerives (setup : PeerSetup) (nonce : List ℕ) (views : PeerViews)
    (report : Report) : KeyInputs → Type 0 where
  psk_peer : (by_psk : report.method ≡ psk_kind)
      → PeerDerives setup nonce views report (psk_inputs (key_for setup psk_kind) (rand_of nonce))
  gpsk_peer : (by_gpsk : report.method ≡ gpsk_kind) (suite : Suite)
      (is_suite : report.suite ≡ suite_number suite) (rand_s : List ℕ)
      (knows : gpsk_whole_rand_s (gpsk_in views) ≡ Some rand_s)
      → PeerDerives setup nonce views report
      (gpsk_inputs suite (key_for setup gpsk_kind) nonce setup.name rand_s report.id_s)

-- and one of the server: the key of the user of that name, its own nonce and name
pub data ServerDerives (setup : ServerSetup) (nonce : List ℕ) (views : ServerViews)
    (report : Report) (user : User) : KeyInputs → Type 0 where
  psk_server : (by_psk : report.method ≡ psk_kind) (rand_p : List ℕ)
      (knows : psk_rand_p_in (psk_at views) ≡ Some rand_p)
      → ServerDerives setup nonce views report user (psk_inputs user.psk rand_p)
  gpsk_server : (by_gpsk : report.method ≡ gpsk_kind) (suite : Suite)
      (is_suite : report.suite ≡ suite_number suite) (rand_p : List ℕ)
      (knows : gpsk_whole_rand_p_in (gpsk_at views) ≡ Some rand_p)
      → ServerDerives setup nonce views report user
      (gpsk_inputs suite user.psk rand_p report.id_p nonce setup.name)

-- the tag is right under a key that such a conversation of the peer derives
pub record IsPeersMac (setup : PeerSetup) (nonce : List ℕ) (selected : Option ℕ) (views : PeerViews)
    (tag : TagRecord) : Type 0 where
  pub report : Report
  pub leads : peer_login selected views ≡ Some report
  pub inputs : KeyInputs
  pub derives : PeerDerives setup nonce views report inputs
  pub right : IsRightMac inputs tag

-- and of the server, which has a user of that name and method
pub record IsServersMac (setup : ServerSetup) (nonce : List ℕ) (current : Option ℕ)
    (views : ServerViews) (tag : TagRecord) : Type 0 where
  pub report : Report
  pub leads : server_login current views ≡ Some report
  pub user : User
  pub known : user_of setup.users report.id_p report.method ≡ Some user
  pub inputs : KeyInputs
  pub derives : ServerDerives setup nonce views report user inputs
  pub right : IsRightMac inputs tag

-- what holds of each tag of two lists
pub record OfEach (P : TagRecord → Type 0) (accepted made : List TagRecord) : Type 0 where
  pub accepted_so : (t : TagRecord) → IsIn t accepted → P t
  pub made_so : (t : TagRecord) → IsIn t made → P t

-- each tag of a conversation with this nonce, of the peer or of the server
abbrev pub PeerTagsAreRight : Type 0
PeerTagsAreRight = (setup : PeerSetup) (nonce : List ℕ) (selected : Option ℕ) (views : PeerViews)
    (accepted made : List TagRecord)
    → PeerTags (record setup { nonce = nonce }) selected views accepted made
    → OfEach (IsPeersMac setup nonce selected views) accepted made

abbrev pub ServerTagsAreRight : Type 0
ServerTagsAreRight = (setup : ServerSetup) (nonce : List ℕ) (current : Option ℕ)
    (views : ServerViews) (accepted made : List TagRecord)
    → ServerTags (record setup { nonce = nonce }) current views accepted made
    → OfEach (IsServersMac setup nonce current views) accepted made
