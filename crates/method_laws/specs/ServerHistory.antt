-- What a server's object has done since it began: its Requests and its end, with the tags that it
-- has accepted and made. Every method has such a history; what it implies is each method's own.
use Rattle.std.specs.Prelude.{◌≡◌, ℕ, List, [], ◌++◌, Bool, true, false, ◌==◌, Option, None, Some}
use Rattle.login_setup.specs.Setup.{ServerSetup}
use Rattle.octet_lists.specs.Among.{identity_kind, is_among}
use Rattle.eap_method.specs.declared.tags.TagRecord.{TagRecord}
use Rattle.eap_method.specs.GpskServer as gpsk_server
use Rattle.eap_method.specs.PskServer as psk_server
use Rattle.eap_method.specs.Server.{Method, by_psk, by_gpsk, by_other, View, ServerShown}
use Rattle.eap_method.specs.Server.{ServerViews, server_kind, server_first_step, server_step}
use Rattle.eap_method.specs.Server.{started_server, side_of}
use Rattle.eap_method.specs.ServerTurn as turn
use Rattle.eap_method.specs.Tags.{Tags}
use Rattle.method_laws.specs.GpskServerInvariant.{GpskServerTags}
use Rattle.method_laws.specs.PskServerInvariant.{PskServerTags}

-- it has begun and made its first Request, has made one Request more, or has ended, well or not
pub data ServerHistory (setup : ServerSetup) : ServerShown → Bool → List TagRecord
    → List TagRecord → Type 0 where
  initiated : (s : ServerShown) (id : ℕ) (ordered : is_among setup.methods (server_kind s) ≡ true)
      → ServerHistory setup
      (server_first_step (started_server (side_of setup) setup.nonce s) id).after false [] []
  requested : (s after : ServerShown) (id : ℕ) (octets packet : List ℕ) (last : Bool) (tags : Tags)
      (accepted made : List TagRecord) (before : ServerHistory setup s last accepted made)
      (turned : server_step setup.users id s octets
      ≡ record { turn = turn.Request packet tags; after = after })
      → ServerHistory setup after false (accepted ++ tags.accepted) (made ++ tags.made)
  ended : (s after : ServerShown) (id : ℕ) (octets : List ℕ) (last good : Bool) (tags : Tags)
      (accepted made : List TagRecord) (before : ServerHistory setup s last accepted made)
      (turned : server_step setup.users id s octets
      ≡ record { turn = turn.Done good tags; after = after })
      → ServerHistory setup after good (accepted ++ tags.accepted) (made ++ tags.made)

-- before the first proposal and in the Identity round there is no tag; the current method has done
-- this
pub data ServerHas (setup : ServerSetup) (current : Option ℕ) (views : ServerViews) : Bool
    → List TagRecord → List TagRecord → Type 0 where
  unproposed : (none : current ≡ None) → ServerHas setup current views false [] []
  identity_round : (is_current : current ≡ Some identity_kind)
      → ServerHas setup current views false [] []
  current_has : (kind : ℕ) (s : ServerShown) (good : Bool) (accepted made : List TagRecord)
      (is_current : current ≡ Some kind) (no_identity : (kind == identity_kind) ≡ false)
      (in_view : views kind ≡ Some s) (history : ServerHistory setup s good accepted made)
      → ServerHas setup current views good accepted made

-- ---- what a history implies

-- the tags, and of a good end a success
pub record Implied {V : Type 0} (HasTags : V → List TagRecord → List TagRecord → Type 0)
    (Succeeds : V → Type 0) (view : V) (good : Bool) (accepted made : List TagRecord)
    : Type 0 where
  pub tags : HasTags view accepted made
  pub well : good ≡ true → Succeeds view

abbrev pub psk_succeeds : psk_server.View → Type 0
psk_succeeds view = (login : psk_server.Login) × (view ≡ psk_server.over login true)

abbrev pub gpsk_succeeds : gpsk_server.View → Type 0
gpsk_succeeds view = (login : gpsk_server.Login) × (view ≡ gpsk_server.over login true)

-- by its method; of a maker's method it implies nothing
abbrev pub ImpliedOf : ServerSetup → (m : Method) → View m → Bool → List TagRecord
    → List TagRecord → Type 0
ImpliedOf setup by_psk view good accepted made =
    Implied (PskServerTags setup) psk_succeeds view good accepted made
ImpliedOf setup by_gpsk view good accepted made =
    Implied (GpskServerTags setup) gpsk_succeeds view good accepted made
ImpliedOf setup (by_other custom) view good accepted made = Unit {0}

-- every history implies so
abbrev pub ServerHistoriesImply : Type 0
ServerHistoriesImply = (setup : ServerSetup) (s : ServerShown) (good : Bool)
    (accepted made : List TagRecord) → ServerHistory setup s good accepted made
    → ImpliedOf setup s.method s.view good accepted made
