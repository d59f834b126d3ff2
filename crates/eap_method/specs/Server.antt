-- The server's methods by kind: what an object is, its state, and its calls.
use Rattle.std.specs.Prelude.{◌≡◌, ℕ, List, Bool, true, false, ◌==◌, if◌then◌else◌, Option, Some}
use Rattle.std.specs.Prelude.{None, map, find, option_map}
use Rattle.login_setup.specs.Setup.{ServerSetup}
use Rattle.login_setup.specs.declared.users.User.{User}
use Rattle.octet_lists.specs.Among.{psk_kind, gpsk_kind, identity_kind, is_among}
use Rattle.eap_packet.specs.Packet.{response, spelled, IsPacket}
use Rattle.eap_packet.specs.declared.cause.Cause.{Cause}
use Rattle.eap_packet.specs.declared.cause.Cause.TheVariants.{WrongOp}
use Rattle.eap_method.specs.declared.values.Report.{Report}
use Rattle.eap_method.specs.declared.values.ServerSide.{ServerSide}
use Rattle.eap_method.specs.PskServer as psk_server
use Rattle.eap_method.specs.GpskServer as gpsk_server
use Rattle.eap_method.specs.ServerTurn.{Discard}
use Rattle.eap_method.specs.Turns.{ServerOutcome, FirstOutcome, dropped}

-- a method of a maker at a server: its Type, which isn't Identity's, and its tables over a state of
-- octets; one that has begun makes its first Request, and a discard keeps the state
pub record Custom : Type 0 where
  pub kind : ℕ
  pub no_identity : (kind == identity_kind) ≡ false
  pub fresh : ServerSide → List ℕ → List ℕ
  pub is_initiated : List ℕ → Bool
  pub initiates : (own : ServerSide) (nonce : List ℕ) → is_initiated (fresh own nonce) ≡ true
  pub first_step : List ℕ → ℕ → FirstOutcome (List ℕ)
  pub step : List User → ℕ → List ℕ → List ℕ → ServerOutcome (List ℕ)
  pub report : List ℕ → Option Report
  pub discards : (users : List User) (next_id : ℕ) (view octets : List ℕ) (cause : Cause)
      → (step users next_id view octets).turn ≡ Discard cause
      → (step users next_id view octets).after ≡ view

-- the methods
pub data Method : Type 0 where
  by_psk : Method
  by_gpsk : Method
  by_other : Custom → Method

-- a method's Type, the state of its objects, and their calls
abbrev pub kind_of : Method → ℕ
kind_of by_psk = psk_kind
kind_of by_gpsk = gpsk_kind
kind_of (by_other custom) = custom.kind

abbrev pub View : Method → Type 0
View by_psk = psk_server.View
View by_gpsk = gpsk_server.View
View (by_other custom) = List ℕ

abbrev pub fresh : (m : Method) → ServerSide → List ℕ → View m
fresh by_psk own nonce = psk_server.begun own nonce
fresh by_gpsk own nonce = gpsk_server.begun own nonce
fresh (by_other custom) own nonce = custom.fresh own nonce

abbrev pub is_initiated : (m : Method) → View m → Bool
is_initiated by_psk view = psk_server.is_initiated view
is_initiated by_gpsk view = gpsk_server.is_initiated view
is_initiated (by_other custom) view = custom.is_initiated view

abbrev pub first_step : (m : Method) → View m → ℕ → FirstOutcome (View m)
first_step by_psk view id = psk_server.first_step view id
first_step by_gpsk view id = gpsk_server.first_step view id
first_step (by_other custom) view id = custom.first_step view id

abbrev pub step : List User → ℕ → (m : Method) → View m → List ℕ → ServerOutcome (View m)
step users next_id by_psk view octets = psk_server.step users next_id view octets
step users next_id by_gpsk view octets = gpsk_server.step users next_id view octets
step users next_id (by_other custom) view octets = custom.step users next_id view octets

abbrev pub report : (m : Method) → View m → Option Report
report by_psk view = psk_server.report view
report by_gpsk view = gpsk_server.report view
report (by_other custom) view = custom.report view

-- an object: its method, and its state
pub record ServerShown : Type 0 where
  pub method : Method
  pub view : View method

abbrev pub psk : psk_server.View → ServerShown
psk view = record { method = by_psk; view = view }

abbrev pub gpsk : gpsk_server.View → ServerShown
gpsk view = record { method = by_gpsk; view = view }

abbrev pub other : Custom → List ℕ → ServerShown
other custom view = record { method = by_other custom; view = view }

-- the object's Type
abbrev pub server_kind : ServerShown → ℕ
server_kind s = kind_of s.method

-- the object after it has begun
abbrev pub started_server : ServerSide → List ℕ → ServerShown → ServerShown
started_server own nonce s = record { method = s.method; view = fresh s.method own nonce }

-- whether the object has begun and made no Request yet
abbrev pub has_initiated : ServerShown → Bool
has_initiated s = is_initiated s.method s.view

-- the object's first Request, and the object after it
abbrev pub first_turns : (m : Method) → FirstOutcome (View m) → FirstOutcome ServerShown
first_turns m out = record { packet = out.packet; after = record { method = m; view = out.after } }

unfoldable pub server_first_step : ServerShown → ℕ → FirstOutcome ServerShown
server_first_step s id = first_turns s.method (first_step s.method s.view id)

-- the octets are a Response of this Type with nothing past its Length
pub record IsResponse (kind : ℕ) (octets : List ℕ) : Type 0 where
  pub id : ℕ
  pub body : List ℕ
  pub packet : IsPacket (response id kind body)
  pub encoding_of : octets ≡ spelled (response id kind body)

abbrev pub turns : (m : Method) → ServerOutcome (View m) → ServerOutcome ServerShown
turns m out = record { turn = out.turn; after = record { method = m; view = out.after } }

-- the object's turn for a Response of its Type; a Request that follows has the Identifier next_id
unfoldable pub server_step : List User → ℕ → ServerShown → List ℕ → ServerOutcome ServerShown
server_step users next_id s octets = turns s.method (step users next_id s.method s.view octets)

-- the report of the object
unfoldable pub server_report : ServerShown → Option Report
server_report s = report s.method s.view

-- the first object of a Type
abbrev pub first_of : ℕ → List ServerShown → Option ServerShown
first_of kind shown = find (λ s. server_kind s == kind) shown

-- what the server's object of each Type shows; none of a Type that it doesn't propose, or has no
-- object of
abbrev pub ServerViews : Type 0
ServerViews = ℕ → Option ServerShown

unfoldable pub server_views : List ℕ → List ServerShown → ServerViews
server_views order shown = λ kind. if is_among order kind then first_of kind shown else None

abbrev pub view_of : ServerViews → ℕ → Option ServerShown
view_of views kind = views kind

-- the views with this one at a Type
abbrev pub put : ℕ → ServerShown → ServerViews → ServerViews
put kind s views = λ other. if other == kind then Some s else views other

-- the methods of the objects, in their order, and their Types
abbrev pub method_of : ServerShown → Method
method_of s = s.method

abbrev pub server_methods : List ServerShown → List Method
server_methods shown = map method_of shown

abbrev pub server_kinds : List ServerShown → List ℕ
server_kinds shown = map kind_of (server_methods shown)

-- the first Request of a method, if there is an object of it, and both views after it
pub record Offer : Type 0 where
  pub packet : Option (List ℕ)
  pub after : ServerViews

abbrev pub offering : ℕ → ServerViews → FirstOutcome ServerShown → Offer
offering kind views out = record { packet = Some out.packet; after = put kind out.after views }

abbrev pub offered : ServerSide → List ℕ → ℕ → ℕ → ServerViews → Option ServerShown → Offer
offered own nonce kind id views None = record { packet = None; after = views }
offered own nonce kind id views (Some s) =
    offering kind views (server_first_step (started_server own nonce s) id)

-- a method begins and makes its first Request, by its Type (RFC 4137 section 5.3.1, m.init and
-- m.buildReq)
unfoldable pub server_offer : ServerSide → List ℕ → ℕ → ℕ → ServerViews → Offer
server_offer own nonce kind id views = offered own nonce kind id views (views kind)

-- the turn of a method, by its Type, and the views after it
abbrev pub putting : ℕ → ServerViews → ServerOutcome ServerShown → ServerOutcome ServerViews
putting kind views out = record { turn = out.turn; after = put kind out.after views }

abbrev pub turned : List User → ℕ → ℕ → ServerViews → List ℕ → Option ServerShown
    → ServerOutcome ServerViews
turned users next_id kind views octets None = dropped views WrongOp
turned users next_id kind views octets (Some s) =
    putting kind views (server_step users next_id s octets)

unfoldable pub server_turn : List User → ℕ → ℕ → ServerViews → List ℕ → ServerOutcome ServerViews
server_turn users next_id kind views octets = turned users next_id kind views octets (views kind)

-- the report of a method, by its Type
abbrev pub reported : Option ServerShown → Option Report
reported None = None
reported (Some s) = server_report s

unfoldable pub server_report_of : ℕ → ServerViews → Option Report
server_report_of kind views = reported (views kind)

-- what the server of these settings brings into a method
unfoldable pub side_of : ServerSetup → ServerSide
side_of setup = record { id_s = setup.name; suites = setup.suites }

-- the object after a server of these settings has begun: one of a method that it doesn't propose
-- stays as it is
unfoldable pub server_started_in : ServerSetup → ServerShown → ServerShown
server_started_in setup s =
    if is_among setup.methods (server_kind s)
    then started_server (side_of setup) setup.nonce s else s

-- the views of a server that begins
unfoldable pub views_started : ServerSetup → ServerViews → ServerViews
views_started setup views = λ kind. option_map (server_started_in setup) (views kind)
