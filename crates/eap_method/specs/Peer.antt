-- The peer's methods by kind: what an object is, its state, and its calls.
use Rattle.std.specs.Prelude.{◌≡◌, ℕ, List, [], Bool, false, ◌==◌, if◌then◌else◌, Option, Some}
use Rattle.std.specs.Prelude.{None, unwrap_or, map, find, option_map}
use Rattle.std.specs.List.{list_all}
use Rattle.login_setup.specs.Setup.{key_of}
use Rattle.login_setup.specs.declared.setup.PeerSetup.{PeerSetup}
use Rattle.octet_lists.specs.Among.{psk_kind, gpsk_kind, nak_kind, is_among}
use Rattle.eap_packet.specs.Packet.{request, response, spelled, IsPacket}
use Rattle.eap_packet.specs.declared.cause.Cause.{Cause}
use Rattle.eap_packet.specs.declared.cause.Cause.TheVariants.{WrongOp}
use Rattle.eap_method.specs.declared.values.Credential.{Credential}
use Rattle.eap_method.specs.declared.values.Decision.{Decision}
use Rattle.eap_method.specs.declared.values.MethodState.{MethodState}
use Rattle.eap_method.specs.declared.values.Report.{Report}
use Rattle.eap_method.specs.PskPeer as psk_peer
use Rattle.eap_method.specs.GpskPeer as gpsk_peer
use Rattle.eap_method.specs.PeerTurn.{Discard, Reply}
use Rattle.eap_method.specs.Tags.{Tags}
use Rattle.eap_method.specs.Turns.{PeerOutcome, discarded, id_of}

-- the packet is a Response of this Type to the Request with this Identifier
pub record Responds (id kind : ℕ) (packet : List ℕ) : Type 0 where
  pub body : List ℕ
  pub encoding_of : packet ≡ spelled (response id kind body)

-- a method of a maker: its Type, which isn't Nak's, and its tables over a state of octets; a
-- discard keeps the state, and a Response answers the Request
pub record Custom : Type 0 where
  pub kind : ℕ
  pub no_nak : (kind == nak_kind) ≡ false
  pub fresh : Credential → List ℕ → List ℕ
  pub step : List ℕ → List ℕ → PeerOutcome (List ℕ)
  pub report : List ℕ → Option Report
  pub discards : (view octets : List ℕ) (cause : Cause) → (step view octets).turn ≡ Discard cause
      → (step view octets).after ≡ view
  pub responds : (view octets packet : List ℕ) (state : MethodState) (decision : Decision)
      (tags : Tags)
      → (step view octets).turn ≡ Reply packet state decision tags
      → Responds (id_of octets) kind packet

-- the methods
pub data Method : Type 0 where
  by_psk : Method
  by_gpsk : Method
  by_other : Custom → Method

-- a method's Type, the state of its objects, and their calls
abbrev pub kind_of : Method → ℕ
kind_of by_psk = psk_kind
kind_of by_gpsk = gpsk_kind
kind_of (by_other custom) = custom.kind

abbrev pub View : Method → Type 0
View by_psk = psk_peer.View
View by_gpsk = gpsk_peer.View
View (by_other custom) = List ℕ

abbrev pub fresh : (m : Method) → Credential → List ℕ → View m
fresh by_psk cred nonce = psk_peer.fresh cred nonce
fresh by_gpsk cred nonce = gpsk_peer.fresh cred nonce
fresh (by_other custom) cred nonce = custom.fresh cred nonce

abbrev pub step : (m : Method) → View m → List ℕ → PeerOutcome (View m)
step by_psk view octets = psk_peer.step view octets
step by_gpsk view octets = gpsk_peer.step view octets
step (by_other custom) view octets = custom.step view octets

abbrev pub report : (m : Method) → View m → Option Report
report by_psk view = psk_peer.report view
report by_gpsk view = gpsk_peer.report view
report (by_other custom) view = custom.report view

-- an object: its method, and its state
pub record PeerShown : Type 0 where
  pub method : Method
  pub view : View method

abbrev pub psk : psk_peer.View → PeerShown
psk view = record { method = by_psk; view = view }

abbrev pub gpsk : gpsk_peer.View → PeerShown
gpsk view = record { method = by_gpsk; view = view }

abbrev pub other : Custom → List ℕ → PeerShown
other custom view = record { method = by_other custom; view = view }

-- the object's Type
abbrev pub peer_kind : PeerShown → ℕ
peer_kind s = kind_of s.method

-- the object after it has begun
abbrev pub started_peer : Credential → List ℕ → PeerShown → PeerShown
started_peer cred nonce s = record { method = s.method; view = fresh s.method cred nonce }

-- the octets are a Request of this Type with nothing past its Length
pub record IsRequest (kind : ℕ) (octets : List ℕ) : Type 0 where
  pub id : ℕ
  pub body : List ℕ
  pub packet : IsPacket (request id kind body)
  pub encoding_of : octets ≡ spelled (request id kind body)

abbrev pub turns : (m : Method) → PeerOutcome (View m) → PeerOutcome PeerShown
turns m out = record { turn = out.turn; after = record { method = m; view = out.after } }

-- the object's turn for a Request of its Type
unfoldable pub peer_step : PeerShown → List ℕ → PeerOutcome PeerShown
peer_step s octets = turns s.method (step s.method s.view octets)

-- the report of the object
unfoldable pub peer_report : PeerShown → Option Report
peer_report s = report s.method s.view

-- the first object of a Type
abbrev pub first_of : ℕ → List PeerShown → Option PeerShown
first_of kind shown = find (λ s. peer_kind s == kind) shown

-- what the peer's object of each Type shows; none of a Type that it doesn't allow, or has no object
-- of
abbrev pub PeerViews : Type 0
PeerViews = ℕ → Option PeerShown

unfoldable pub peer_views : List ℕ → List PeerShown → PeerViews
peer_views allowed shown = λ kind. if is_among allowed kind then first_of kind shown else None

abbrev pub view_of : PeerViews → ℕ → Option PeerShown
view_of views kind = views kind

-- the methods of the objects, in their order, and their Types
abbrev pub method_of : PeerShown → Method
method_of s = s.method

abbrev pub peer_methods : List PeerShown → List Method
peer_methods shown = map method_of shown

abbrev pub peer_kinds : List PeerShown → List ℕ
peer_kinds shown = map kind_of (peer_methods shown)

-- the views with this one at a Type
abbrev pub put : ℕ → PeerShown → PeerViews → PeerViews
put kind s views = λ other. if other == kind then Some s else views other

-- the turn of a method, by its Type, and the views after it
abbrev pub putting : ℕ → PeerViews → PeerOutcome PeerShown → PeerOutcome PeerViews
putting kind views out = record { turn = out.turn; after = put kind out.after views }

abbrev pub turned : ℕ → PeerViews → List ℕ → Option PeerShown → PeerOutcome PeerViews
turned kind views octets None = discarded views WrongOp
turned kind views octets (Some s) = putting kind views (peer_step s octets)

unfoldable pub peer_turn : ℕ → PeerViews → List ℕ → PeerOutcome PeerViews
peer_turn kind views octets = turned kind views octets (views kind)

-- the report of a method, by its Type
abbrev pub reported : Option PeerShown → Option Report
reported None = None
reported (Some s) = peer_report s

unfoldable pub peer_report_of : ℕ → PeerViews → Option Report
peer_report_of kind views = reported (views kind)

-- what the peer of these settings brings into a method: the key is the one for it, or none
abbrev pub key_for : PeerSetup → ℕ → List ℕ
key_for setup kind = unwrap_or (key_of setup kind) []

unfoldable pub credential_for : PeerSetup → ℕ → Credential
credential_for setup kind = record {
  id_p = setup.name;
  accepts = setup.accepts;
  suites = setup.suites;
  psk = key_for setup kind;
}

-- the object after a peer of these settings has begun: one of a method that it doesn't allow stays
-- as it is
unfoldable pub peer_started_in : PeerSetup → PeerShown → PeerShown
peer_started_in setup s =
    if is_among setup.methods (peer_kind s) then started_peer (credential_for setup (peer_kind s))
    setup.nonce s else s

-- the views of a peer that begins
unfoldable pub views_started : PeerSetup → PeerViews → PeerViews
views_started setup views = λ kind. option_map (peer_started_in setup) (views kind)

-- there is an object of each of these Types
abbrev pub have_each : List ℕ → List ℕ → Bool
have_each kinds wanted = list_all (is_among kinds) wanted
