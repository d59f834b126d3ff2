-- What each method has its own of: a view that has just begun, the peer's name and the Failure-Code
-- in a Response, the server's name in a Request, the Failure-Code that a server sends, and the
-- Session-Id of a login (RFC 5247 section 1.4).
use Rattle.std.specs.Prelude.{ℕ, List, ◌==◌, if◌then◌else◌, Option, None}
use Rattle.octet_lists.specs.Among.{psk_kind, gpsk_kind}
use Rattle.octet_lists.specs.Suite.{suite_numbered}
use Rattle.octet_lists.specs.declared.suite.Suite.{Suite}
use Rattle.psk_messages.specs.Reading as psk_reading
use Rattle.gpsk_messages.specs.Reading as gpsk_reading
use Rattle.eap_method.specs.Peer as peer
use Rattle.eap_method.specs.Peer.{PeerShown}
use Rattle.eap_method.specs.PskPeer as psk_peer
use Rattle.eap_method.specs.GpskPeer as gpsk_peer
use Rattle.eap_method.specs.Server as server
use Rattle.eap_method.specs.Server.{ServerShown}
use Rattle.eap_method.specs.PskServer as psk_server
use Rattle.eap_method.specs.GpskServer as gpsk_server
use Rattle.eap_method.specs.declared.values.Credential.{Credential}
use Rattle.eap_method.specs.declared.values.ServerSide.{ServerSide}
use Rattle.tuvaddri_c.specs.Reports.{EndReport}
use Rattle.tuvaddri_c.specs.Psk.{psk_name, psk_server, psk_session_id, fitting}
use Rattle.tuvaddri_c.specs.Gpsk.{gpsk_name, gpsk_server, repeated_code, suited_id}

-- a peer's method that has just begun
abbrev pub peer_fresh : ℕ → Credential → List ℕ → PeerShown
peer_fresh kind cred nonce = if kind == psk_kind then peer.psk (psk_peer.fresh cred nonce)
    else peer.gpsk (gpsk_peer.fresh cred nonce)

-- a server's method that has just begun
abbrev pub server_fresh : ℕ → ServerSide → List ℕ → ServerShown
server_fresh kind own nonce = if kind == psk_kind then server.psk (psk_server.begun own nonce)
    else server.gpsk (gpsk_server.begun own nonce)

-- the peer's name in a Response
abbrev pub name_by : ℕ → List ℕ → Option (List ℕ)
name_by kind body =
    if kind == psk_kind then psk_name (psk_reading.read_of body)
    else if kind == gpsk_kind then gpsk_name (gpsk_reading.read_of None body)
    else None

-- the server's name in a Request
abbrev pub server_by : ℕ → List ℕ → Option (List ℕ)
server_by kind body =
    if kind == psk_kind then psk_server (psk_reading.read_of body)
    else if kind == gpsk_kind then gpsk_server (gpsk_reading.read_of None body)
    else None

-- the Failure-Code in a Response, by EAP-GPSK
abbrev pub repeated_by : ℕ → List ℕ → ℕ
repeated_by kind body =
    if kind == gpsk_kind then repeated_code (gpsk_reading.read_of None body) else 0

-- the Failure-Code that a server sends by EAP-GPSK; none by EAP-PSK
abbrev pub code_by : ℕ → ℕ → ℕ
code_by kind code = if kind == psk_kind then 0 else code

-- the Session-Id, if EAP-GPSK uses this key
abbrev pub session_id_of_report : (Suite → Option (List ℕ)) → EndReport → Option (List ℕ)
session_id_of_report key held =
    if held.report.method == psk_kind then fitting (psk_session_id held.nonces)
    else suited_id key held (suite_numbered held.report.suite)
