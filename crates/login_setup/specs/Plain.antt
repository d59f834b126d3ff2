-- The settings of two ends without methods, keys and users: a worked row changes the fields that it
-- is about.
use Rattle.std.specs.Prelude.{[], ◌∷◌, false, None, codes, replicate}
use Rattle.login_setup.specs.declared.setup.Accepts.TheVariants.{One}
use Rattle.login_setup.specs.declared.setup.Mode.TheVariants.{Alone}
use Rattle.login_setup.specs.declared.setup.PeerSetup.{PeerSetup}
use Rattle.login_setup.specs.Setup.{ServerSetup}
use Rattle.login_setup.specs.declared.setup.Setup.{Setup}
use Rattle.login_setup.specs.Setup.{no_later}

abbrev pub plain_peer : PeerSetup
plain_peer = record {
  name = codes "alice";
  accepts = One (codes "srv");
  methods = [];
  suites = 1 ∷ 2 ∷ [];
  psk47 = None;
  psk51 = None;
  nonce = replicate 32 17;
  expanded = false;
}

abbrev pub plain_server : ServerSetup
plain_server = record {
  name = codes "srv";
  methods = [];
  suites = 1 ∷ 2 ∷ [];
  users = [];
  nonce = replicate 32 34;
  expanded = false;
}

-- the server is a stand-alone one, which sends a Request again at most four times
abbrev pub plain_setup : Setup
plain_setup = record {
  mode = Alone;
  first_id = 0;
  max_retrans = 4;
  peer = plain_peer;
  server = plain_server;
  later = no_later;
}
