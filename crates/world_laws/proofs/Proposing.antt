-- The method that a server proposes is offered by an object of it.
use Rattle.std.proofs.Common.{◌≡◌, ℕ, List, Option, sym, subst}
use Rattle.login_setup.specs.Setup.{ServerSetup}
use Rattle.eap_method.specs.Server.{Offer, ServerViews}
use Rattle.server_machine.specs.Rows.{Proposes}
use Rattle.server_machine.specs.ServerTable.{ServerNow, next_id}
use Rattle.server_machine.specs.Variables.{ServerVariables}
use Rattle.method_laws.specs.Objects.{ServerHasMethods}
use Rattle.method_laws.proofs.ServerHistories.{Offers, offers_so}

pub proposes_own : (setup : ServerSetup) (first : ServerViews) (now : ServerNow)
    → ServerHasMethods setup.methods first now.views
    → (vars : ServerVariables) (desired : Option (List ℕ)) (kind : ℕ)
    (offer : Offer) → vars.setup ≡ setup → Proposes now vars desired kind offer
    → Offers setup first kind now.views offer
proposes_own setup first now objects vars desired kind offer own next =
    let set : ServerHasMethods vars.setup.methods first now.views =
    subst (λ (s : ServerSetup). ServerHasMethods s.methods first now.views) (sym own) objects in
    subst (λ (s : ServerSetup). Offers s first kind now.views offer) own
    (subst (Offers vars.setup first kind now.views) next.is_offer
    (offers_so vars.setup kind (next_id vars) first now.views set))
