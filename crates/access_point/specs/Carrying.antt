-- What an access point carries between its station and its server, and what it is afterwards.
use Rattle.std.specs.Prelude.{◌≡◌, ℕ, ◌+◌, ◌%◌, ◌≤◌, List, length, unwrap_or, Ok, IsTrue}
use Rattle.eap_packet.specs.Fault as eap
use Rattle.pass_through.specs.PassTable.{pass_from_peer, pass_from_backend}
use Rattle.radius_carry.specs.Fault.{packet_of}
use Rattle.radius_carry.specs.Packet.{RadiusPacket, first_value, eap_of}
use Rattle.radius_carry.specs.Tags.{IsGoodReply}
use Rattle.access_point.specs.Naming.{name_in}
use Rattle.access_point.specs.Codes.{code_matches}
use Rattle.access_point.specs.declared.AccessPoint.{AccessPoint}

-- after a packet of the station that goes on: a name in it is the user's, and the request has the
-- next Identifier
abbrev pub asks : AccessPoint → List ℕ → List ℕ → AccessPoint
asks point packet authenticator = record point {
  pass = (pass_from_peer point.pass packet).after;
  user = unwrap_or (name_in (eap.packet_of packet)) point.user;
  id = (point.id + 1) % 256;
  authenticator = authenticator;
}

-- State of a reply, or the one before it
abbrev pub state_after : AccessPoint → RadiusPacket → List ℕ
state_after point reply = unwrap_or (first_value 24 reply.attributes) point.state

-- a datagram is the reply to the last request, of one who knows the secret, with a State that can
-- be returned and the Code of its packet
pub record IsReplyTo (point : AccessPoint) (datagram : List ℕ) (reply : RadiusPacket) : Type 0 where
  pub read : packet_of datagram ≡ Ok reply
  pub id : reply.id ≡ point.id
  pub good : IsGoodReply point.secret point.authenticator reply
  pub state : length (state_after point reply) ≤ 64
  pub code : IsTrue (code_matches reply.code (eap.packet_of (eap_of reply.attributes)))

-- after a reply whose EAP packet goes on
abbrev pub answered : AccessPoint → RadiusPacket → AccessPoint
answered point reply = record point {
  pass = (pass_from_backend point.pass (eap_of reply.attributes)).after;
  state = state_after point reply;
}
