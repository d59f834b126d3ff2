-- What is of EAP-PSK alone: the peer's name in a Response, the server's name in a Request, and the
-- Session-Id of a login.
use Rattle.std.specs.Prelude.{ℕ, List, length, nat_le, if◌then◌else◌, Option, Some, None, Result}
use Rattle.std.specs.Prelude.{Ok}
use Rattle.eap_packet.specs.declared.cause.Cause.{Cause}
use Rattle.psk_messages.specs.Message.{Message, psk1, psk2}
use Rattle.login_keys.specs.SessionId.{psk_id}
use Rattle.end_objects.specs.declared.objects.Nonces.{Nonces}

-- ID_P of PSK-2 (RFC 4764 section 5.2)
abbrev pub psk_name : Result Message Cause → Option (List ℕ)
psk_name (Ok (psk2 rand_s rand_p mac id_p)) = Some id_p
psk_name read = None

-- ID_S of PSK-1 (RFC 4764 section 5.1)
abbrev pub psk_server : Result Message Cause → Option (List ℕ)
psk_server (Ok (psk1 rand_s id_s)) = Some id_s
psk_server read = None

-- EAP-PSK's Session-Id
abbrev pub psk_session_id : Nonces → List ℕ
psk_session_id nonces = psk_id nonces.peer nonces.server

-- octets that are no longer than a Session-Id may be
abbrev pub fitting : List ℕ → Option (List ℕ)
fitting id = if nat_le (length id) 33 then Some id else None
