-- Sessions of a server that are open at once, and the tags of the peers that log in.
use Rattle.std.specs.Prelude.{◌≡◌, ℕ, List, [], ◌∷◌, Bool, true, ◌&&◌, not}
use Rattle.std.specs.List.{list_any}
use Rattle.login_setup.specs.declared.setup.Setup.{Setup}
use Rattle.eap_method.specs.Peer.{key_for}
use Rattle.eap_method.specs.Tags.{is_under, same_tag}
use Rattle.eap_method.specs.declared.tags.TagRecord.{TagRecord}
use Rattle.eap_world.specs.Judgement.{is_success}
use Rattle.login_laws.specs.AnyEnds.{AreOfSomeRuns, MatchesOne, NoncesDiffer}
use Rattle.login_laws.specs.UnderKey.{IsOfKey}
use Rattle.world_laws.specs.EachConversation.{IsOneOf, OfPeer, OfServer, all_produced}

-- whether a tag is under this key, and none of those
abbrev pub is_unmade : List ℕ → List TagRecord → TagRecord → Bool
is_unmade key made tag = is_under key tag && not (list_any (same_tag tag) made)

-- what holds of two sessions that accepted these tags, if peers made those: each in SUCCESS of a
-- user of this key rests on exactly one of the peers, and the other one doesn't rest on that
abbrev pub TwoMatch : List ℕ → List TagRecord → List TagRecord → List TagRecord → Type 0
TwoMatch key one other made =
    (setup : Setup) (kind : ℕ) (ps : List OfPeer) (s t : OfServer)
    → key ≡ key_for setup.peer kind → AreOfSomeRuns setup ps (s ∷ t ∷ [])
    → NoncesDiffer ps (s ∷ t ∷ [])
    → s.accepted ≡ one → t.accepted ≡ other → all_produced ps ≡ made
    → (k : OfServer) → IsOneOf k (s ∷ t ∷ []) → is_success k.now.vars.state ≡ true
    → IsOfKey setup (key_for setup.peer kind) k.now → MatchesOne ps (s ∷ t ∷ []) k
