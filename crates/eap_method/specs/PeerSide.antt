-- What a peer brings into a method, and its server's name.
use Rattle.std.specs.Prelude.{ℕ, List, [], Bool, true, false}
use Rattle.login_setup.specs.declared.setup.Accepts.{Accepts}
use Rattle.login_setup.specs.declared.setup.Accepts.TheVariants.{Any, One}
use Rattle.eap_method.specs.declared.values.Credential.{Credential}

pub record Side : Type 0 where
  pub cred : Credential
  pub id_s : List ℕ

-- the names that a peer accepts: this one alone, or every one
abbrev pub accepts_of : Bool → List ℕ → Accepts
accepts_of true name = One name
accepts_of false name = Any

-- the one name that a peer accepts; no octets if it accepts every one
abbrev pub name_in : Accepts → List ℕ
name_in Any = []
name_in (One name) = name

-- a credential without a server yet
abbrev pub before_login : Credential → Side
before_login cred = record { cred = cred; id_s = name_in cred.accepts }

-- no name, no suite and no key
abbrev pub no_credential : Credential
no_credential = record { id_p = []; accepts = Any; suites = []; psk = [] }
