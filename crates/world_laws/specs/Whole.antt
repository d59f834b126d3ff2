-- The setups of which the laws over runs speak.
use Rattle.std.specs.Prelude.{◌≡◌, length, All, IsTrue}
use Rattle.login_setup.specs.declared.setup.Setup.{Setup}
use Rattle.login_setup.specs.Setup.{IsSoundPeer, IsSoundServer, HasKeys, are_kinds}

-- a setup as a scenario gives it: both ends are sound and name the two methods alone, and each
-- nonce has 32 octets
pub record IsWhole (setup : Setup) : Type 0 where
  pub peer : IsSoundPeer setup.peer
  pub keys : HasKeys setup.peer
  pub server : IsSoundServer setup.server
  pub peer_kinds : IsTrue (are_kinds setup.peer.methods)
  pub server_kinds : IsTrue (are_kinds setup.server.methods)
  pub peer_nonce : length setup.peer.nonce ≡ 32
  pub server_nonce : length setup.server.nonce ≡ 32
  pub peer_later : All (λ nonce. length nonce ≡ 32) setup.later.peer
  pub server_later : All (λ nonce. length nonce ≡ 32) setup.later.server
