-- What is of EAP-GPSK alone: the peer's name and the Failure-Code in a Response, the server's name
-- in a Request, the shared key, and the Session-Id of a login (RFC 5247 section 1.4).
use Rattle.std.specs.Prelude.{ℕ, List, length, take, replicate, nat_lt, nat_le, if◌then◌else◌}
use Rattle.std.specs.Prelude.{Option, Some, None, option_map, Result, Ok}
use Rattle.octet_lists.specs.Among.{gpsk_kind}
use Rattle.octet_lists.specs.Suite.{ks_of}
use Rattle.octet_lists.specs.declared.suite.Suite.{Suite}
use Rattle.login_setup.specs.Users.{user_of}
use Rattle.login_setup.specs.declared.users.User.{User}
use Rattle.eap_packet.specs.declared.cause.Cause.{Cause}
use Rattle.gpsk_messages.specs.Message.{Message, gpsk1, gpsk2, fail, protected_fail}
use Rattle.login_keys.specs.Gpsk.{input_string}
use Rattle.login_keys.specs.SessionId.{gpsk_id}
use Rattle.tuvaddri_c.specs.Reports.{EndReport}
use Rattle.tuvaddri_c.specs.declared.session.End.{End}
use Rattle.tuvaddri_c.specs.declared.session.End.TheVariants as ends

-- ID_Peer of GPSK-2 (RFC 5433 section 9.3)
abbrev pub gpsk_name : Result Message Cause → Option (List ℕ)
gpsk_name (Ok (gpsk2 id_p id_s rand_p rand_s list suite pd mac)) = Some id_p
gpsk_name read = None

-- ID_Server of GPSK-1 (RFC 5433 section 9.2)
abbrev pub gpsk_server : Result Message Cause → Option (List ℕ)
gpsk_server (Ok (gpsk1 id_s rand_s list)) = Some id_s
gpsk_server read = None

-- a Failure-Code of the standard; 0 for any other
abbrev pub known_code : ℕ → ℕ
known_code code = if nat_le code 3 then code else 0

-- the Failure-Code that a peer's message repeats
abbrev pub repeated_code : Result Message Cause → ℕ
repeated_code (Ok (fail code)) = known_code code
repeated_code (Ok (protected_fail code mac)) = known_code code
repeated_code read = 0

-- an end's shared key: a peer's own; a server's, that of its user with the peer's name
abbrev pub key_in : List User → List ℕ → Option (List ℕ)
key_in users name = option_map (λ user. user.psk) (user_of users name gpsk_kind)

abbrev pub end_key : End → List ℕ → Option (List ℕ)
end_key ends.Closed name = None
end_key (ends.PeerMethod object key last) name = Some key
end_key (ends.ServerMethod object known last) name = key_in known.users name
end_key (ends.Peer m) name = m.vars.setup.psk51
end_key (ends.Server m last) name = key_in m.vars.setup.users name
end_key (ends.Backend m last) name = key_in m.vars.setup.users name
end_key (ends.Pass m last) name = None
end_key (ends.Supplicant m last) name = m.peer.vars.setup.psk51
end_key (ends.Port m last) name = None

-- EAP-GPSK's Session-Id
abbrev pub gpsk_session_id : Suite → List ℕ → EndReport → List ℕ
gpsk_session_id suite key held = gpsk_id suite key
    (input_string held.nonces.peer held.report.id_p held.nonces.server held.report.id_s)

-- the key that the standard uses: KS octets of zero
abbrev pub zeros : Suite → Option (List ℕ)
zeros suite = Some (replicate (ks_of suite) 0)

-- the key that wpa_supplicant and hostapd 2.10 use: the first KS octets of the shared key
abbrev pub front_of : Option (List ℕ) → Suite → Option (List ℕ)
front_of None suite = None
front_of (Some psk) suite =
    if nat_lt (length psk) (ks_of suite) then None else Some (take (ks_of suite) psk)

-- the Session-Id, if there are a suite and a key
abbrev pub keyed_id : Suite → EndReport → Option (List ℕ) → Option (List ℕ)
keyed_id suite held None = None
keyed_id suite held (Some key) = Some (gpsk_session_id suite key held)

abbrev pub suited_id : (Suite → Option (List ℕ)) → EndReport → Option Suite → Option (List ℕ)
suited_id key held None = None
suited_id key held (Some suite) = keyed_id suite held (key suite)
