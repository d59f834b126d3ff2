-- The keys of a login under its suite.
use Rattle.octet_lists.specs.declared.suite.Suite.{Suite}
use Rattle.login_keys.specs.declared.gpsk.GpskKeys.{GpskKeys}
use Rattle.login_keys.specs.GpskMacKey.{IsMacKey}
use Rattle.gpsk_ends.specs.declared.keys.Keys.TheInside.{Inside}

-- the suite and the keys
pub record SuiteKeys : Type 0 where
  pub suite : Suite
  pub keys : GpskKeys

abbrev pub suite_keys : Inside → SuiteKeys
suite_keys kept = record { suite = kept.suite; keys = kept.keys }

-- the MAC's key is SK
abbrev pub IsReady : Inside → Type 0
IsReady kept = IsMacKey kept.mac kept.suite kept.keys.sk
