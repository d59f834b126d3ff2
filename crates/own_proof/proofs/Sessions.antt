-- Two sessions of a server match, by the law of any number of ends.
use Rattle.std.proofs.Common.{◌≡◌, ℕ, List, [], ◌∷◌, refl, sym, subst, inl, inr}
use Rattle.eap_method.specs.declared.tags.TagRecord.{TagRecord}
use Rattle.login_laws.specs.AnyEnds.{AreMade}
use Rattle.login_laws.proofs.AnyEnds.{any_server_matches}
use Rattle.own_proof.specs.Ends.{TwoMatch}
use Rattle.world_laws.specs.EachConversation.{IsOneOf, OfServer, all_produced}
use Rattle.world_laws.proofs.OneOf.{one_parts}

-- each of them accepted the one list or the other
accepted_by : (P : List TagRecord → Type 0) (s t k : OfServer) (one other : List TagRecord)
    → s.accepted ≡ one → t.accepted ≡ other → P one → P other → IsOneOf k (s ∷ t ∷ [])
    → P k.accepted
accepted_by P s t k one other is also first second k_is =
    elim (one_parts k s (t ∷ []) _ k_is refl) [
      | inl e ↦ subst (λ (x : OfServer). P x.accepted) (sym e) (subst P (sym is) first)
      | inr there ↦ elim (one_parts k t [] _ there refl) [
        | inl e ↦ subst (λ (x : OfServer). P x.accepted) (sym e) (subst P (sym also) second)
        | inr none ↦ elim none [ ]
      ]
    ]

pub two_match : (key : List ℕ) (one other made : List TagRecord)
    → AreMade key one made → AreMade key other made → TwoMatch key one other made
two_match key one other made first second setup kind ps s t is_key are differ is also all k k_is k_in
    of_key =
    any_server_matches setup kind ps (s ∷ t ∷ []) are differ k k_is k_in of_key
    (subst (λ (x : List ℕ). AreMade x k.accepted (all_produced ps)) is_key
    (subst (λ (l : List TagRecord). AreMade key k.accepted l) (sym all)
    (accepted_by (λ l. AreMade key l made) s t k one other is also first second k_is)))
