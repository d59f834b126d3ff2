-- The messages of EAP-PSK in a capture (RFC 4764): the way that they go, their tags, judged under
-- the key of the user that PSK-2 names, and what is kept of them.
use Rattle.std.specs.Prelude.{ℕ, List, [], Bool, ◌==◌, ◌&&◌, not, if◌then◌else◌, Option, Some, None}
use Rattle.std.specs.Prelude.{Result, Ok, Err}
use Rattle.std.specs.Option.{option_or}
use Rattle.std.specs.Result.{result_ok}
use Rattle.std.specs.Str.{bytes_eq}
use Rattle.cmac_mac.specs.Cmac.{aes_cmac}
use Rattle.octet_lists.specs.Among.{psk_kind}
use Rattle.login_setup.specs.Users.{user_of}
use Rattle.login_setup.specs.declared.users.User.{User}
use Rattle.eap_packet.specs.declared.cause.Cause.{Cause}
use Rattle.eap_packet.specs.declared.cause.Cause.TheVariants.{WrongOp}
use Rattle.psk_messages.specs.Message.{Message, psk1, psk2, psk3, psk4}
use Rattle.psk_messages.specs.Reading.{read_of}
use Rattle.login_keys.specs.Psk.{psk_long_of, psk_keys_of}
use Rattle.eap_method.specs.PskTags.{mac_p_octets, mac_s_octets, is_sealed, header_of}
use Rattle.capture_check.specs.Captured.{Captured, last_shown}
use Rattle.capture_check.specs.Classified.{Classified, classified_of, typed}
use Rattle.capture_check.specs.Tags.{tag_finding, if_right}
use Rattle.capture_check.specs.declared.finding.Finding.{Finding}
use Rattle.capture_check.specs.declared.finding.Finding.TheVariants.{Good, Malformed, TagGood}
use Rattle.capture_check.specs.declared.finding.Finding.TheVariants.{NoKey, NoContext}
use Rattle.capture_check.specs.declared.psk.StoredPsk1.{StoredPsk1}
use Rattle.capture_check.specs.declared.psk.PskContext.{PskContext}
use Rattle.capture_check.specs.declared.psk.PskLogin.{PskLogin}

-- whether a message goes the wrong way (section 4): PSK-1 and PSK-3 go to the peer, PSK-2 and PSK-4
-- come from it
abbrev pub is_psk_astray : Bool → Message → Bool
is_psk_astray to_peer (psk1 rand_s id_s) = not to_peer
is_psk_astray to_peer (psk2 rand_s rand_p mac id_p) = to_peer
is_psk_astray to_peer (psk3 rand_s mac nonce tag sealed) = not to_peer
is_psk_astray to_peer (psk4 rand_s nonce tag sealed) = to_peer

abbrev pub psk_from_sender : Bool → Result Message Cause → Result Message Cause
psk_from_sender to_peer (Err cause) = Err cause
psk_from_sender to_peer (Ok message) =
    if is_psk_astray to_peer message then Err WrongOp else Ok message

-- the message that Type-Data is, if it goes the right way
abbrev pub psk_read : Bool → List ℕ → Result Message Cause
psk_read to_peer body = psk_from_sender to_peer (read_of body)

-- PSK-2 belongs to the last PSK-1, whose RAND_S it repeats and whose ID_S its MAC covers (section
-- 5.2)

-- whether MAC_P is right under the user's key
abbrev pub is_mac_p : User → StoredPsk1 → List ℕ → List ℕ → List ℕ → Bool
is_mac_p user first rand_p mac id_p =
    bytes_eq
    (aes_cmac (psk_long_of user.psk).ak (mac_p_octets id_p first.id_s first.rand_s rand_p)) mac

-- the login of this user with the fields of PSK-1 and PSK-2
unfoldable pub psk_login_of : User → StoredPsk1 → List ℕ → PskLogin
psk_login_of user first rand_p = record {
  name = user.name;
  rand_s = first.rand_s;
  mac_s = aes_cmac (psk_long_of user.psk).ak (mac_s_octets first.id_s rand_p);
  tek = (psk_keys_of (psk_long_of user.psk).kdk rand_p).tek;
}

abbrev pub user_starts : Option User → StoredPsk1 → List ℕ → List ℕ → List ℕ
    → Result PskLogin Finding
user_starts None first rand_p mac id_p = Err NoKey
user_starts (Some user) first rand_p mac id_p =
    if_right (is_mac_p user first rand_p mac id_p) (psk_login_of user first rand_p)

-- the login that a PSK-2 with the right MAC_P begins, or the finding of one without
unfoldable pub psk_starts : List User → Option StoredPsk1 → List ℕ → List ℕ → List ℕ → List ℕ
    → Result PskLogin Finding
psk_starts users None rand_s rand_p mac id_p = Err NoContext
psk_starts users (Some first) rand_s rand_p mac id_p =
    if bytes_eq rand_s first.rand_s
    then user_starts (user_of users id_p psk_kind) first rand_p mac id_p else Err NoContext

-- PSK-3 and PSK-4 belong to the last login that PSK-2 began, whose RAND_S they repeat (sections 5.3
-- and 5.4)
abbrev pub follows_in : PskLogin → List ℕ → Bool → Finding
follows_in login rand_s right =
    if bytes_eq rand_s login.rand_s then tag_finding login.name right else NoContext

-- PSK-3: PCHANNEL's tag under TEK and MAC_S are right
unfoldable pub psk3_follows : Option PskLogin → List ℕ → List ℕ → List ℕ → ℕ → List ℕ → ℕ → Finding
psk3_follows None header rand_s mac nonce tag sealed = NoContext
psk3_follows (Some login) header rand_s mac nonce tag sealed =
    follows_in login rand_s
    (bytes_eq login.mac_s mac && is_sealed login.tek nonce header sealed tag)

-- PSK-4: PCHANNEL's tag under TEK is right
unfoldable pub psk4_follows : Option PskLogin → List ℕ → List ℕ → ℕ → List ℕ → ℕ → Finding
psk4_follows None header rand_s nonce tag sealed = NoContext
psk4_follows (Some login) header rand_s nonce tag sealed =
    follows_in login rand_s (is_sealed login.tek nonce header sealed tag)

-- the finding of a message that begins a login, or not
abbrev pub psk_verdict : Result PskLogin Finding → Finding
psk_verdict (Ok login) = TagGood login.name
psk_verdict (Err finding) = finding

-- PSK-1 has no tag; PSK-2 is judged with the last PSK-1, the others with the last PSK-2 whose tag
-- was good
abbrev pub psk_tag_finding : List User → PskContext → List ℕ → Message → Finding
psk_tag_finding users kept header (psk1 rand_s id_s) = Good
psk_tag_finding users kept header (psk2 rand_s rand_p mac id_p) =
    psk_verdict (psk_starts users kept.psk1 rand_s rand_p mac id_p)
psk_tag_finding users kept header (psk3 rand_s mac nonce tag sealed) =
    psk3_follows kept.psk2 header rand_s mac nonce tag sealed
psk_tag_finding users kept header (psk4 rand_s nonce tag sealed) =
    psk4_follows kept.psk2 header rand_s nonce tag sealed

-- the finding of what Type-Data of a packet with these octets is
abbrev pub psk_finding : List User → PskContext → List ℕ → Result Message Cause → Finding
psk_finding users kept octets (Err cause) = Malformed cause
psk_finding users kept octets (Ok message) = psk_tag_finding users kept (header_of octets) message

-- a PSK-1
abbrev pub psk1_of : Result Message Cause → Option StoredPsk1
psk1_of (Ok (psk1 rand_s id_s)) = Some (record { rand_s = rand_s; id_s = id_s })
psk1_of read = None

-- the login that a PSK-2 with a good tag begins, if this is the last PSK-1 before it
abbrev pub psk2_of : List User → Option StoredPsk1 → Result Message Cause → Option PskLogin
psk2_of users first (Ok (psk2 rand_s rand_p mac id_p)) =
    result_ok (psk_starts users first rand_s rand_p mac id_p)
psk2_of users first read = None

-- the same of what a packet is
abbrev pub psk1_in : Classified → Option StoredPsk1
psk1_in (typed to_peer kind body) =
    if kind == psk_kind then psk1_of (psk_read to_peer body) else None
psk1_in heard = None

abbrev pub psk2_in : List User → Option StoredPsk1 → Classified → Option PskLogin
psk2_in users first (typed to_peer kind body) =
    if kind == psk_kind then psk2_of users first (psk_read to_peer body) else None
psk2_in users first heard = None

-- the last PSK-1 of a list
unfoldable pub last_psk1 : List Captured → Option StoredPsk1
last_psk1 packets =
    last_shown (λ before packet. psk1_in (classified_of packet.to_peer packet.octets)) [] packets

-- the login of the last PSK-2 of a list whose tag is good; it belongs to the last PSK-1 before it
unfoldable pub last_psk2 : List User → List Captured → Option PskLogin
last_psk2 users packets = last_shown (λ before packet. psk2_in users (last_psk1 before)
    (classified_of packet.to_peer packet.octets)) [] packets

-- what counts of a packet takes the place of what was kept
abbrev pub psk_after : List User → PskContext → Classified → PskContext
psk_after users kept heard = record {
  psk1 = option_or (psk1_in heard) kept.psk1;
  psk2 = option_or (psk2_in users kept.psk1 heard) kept.psk2;
}
