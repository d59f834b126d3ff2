-- What each end asks of the other by the first tag that it accepts.
use Rattle.std.proofs.Common.{◌≡◌, ℕ, List, ◌∷◌, Some}
use Rattle.login_setup.specs.Setup.{ServerSetup}
use Rattle.eap_method.specs.declared.tags.TagRecord.{TagRecord}
use Rattle.eap_method.specs.PskTags.{rand_of}
use Rattle.method_laws.specs.TagOwners.{OnlyByPeer, OnlyByServer, NotByServer}

pub some_is : (x y : List ℕ) → Some x ≡ Some y → x ≡ y
some_is x y e = cc

-- a server that holds a nonce of the peer has accepted a tag that only a conversation of that
-- nonce, which holds the server's, can have made
pub record AsksPeer (setup : ServerSetup) (nonce foreign : List ℕ)
    (accepted : List TagRecord) : Type 0 where
  pub tag : TagRecord
  pub rest : List TagRecord
  pub first : accepted ≡ tag ∷ rest
  pub made : OnlyByPeer tag foreign (rand_of nonce)
  pub alien : NotByServer setup tag

-- a peer that has succeeded has accepted a tag that only a server which holds the peer's nonce can
-- have made
pub record AsksServer (nonce : List ℕ) (accepted : List TagRecord) : Type 0 where
  pub tag : TagRecord
  pub rest : List TagRecord
  pub first : accepted ≡ tag ∷ rest
  pub made : OnlyByServer tag (rand_of nonce)
