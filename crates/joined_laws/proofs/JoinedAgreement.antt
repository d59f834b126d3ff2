-- Two ends that run alone agree where the tags of their interleaving are honest.
use Rattle.std.proofs.Common.{◌≡◌, Bool, true, false, ◌&&◌, cond, refl, sym, subst}
use Rattle.peer_machine.specs.PeerTable.{PeerNow}
use Rattle.server_machine.specs.ServerTable.{ServerNow}
use Rattle.login_laws.proofs.HonestRuns.{honest_ends_agree}
use Rattle.login_laws.proofs.Owner.{honest_names_are_theirs}
use Rattle.login_laws.specs.Agreement.{AreTheirs}
use Rattle.eap_world.specs.Judgement.{is_success, verdict_of}
use Rattle.eap_world.specs.World.{WorldNow}
use Rattle.eap_world.specs.declared.verdict.Verdict.TheVariants.{Agree, Apart, Unfinished}
use Rattle.joined_laws.proofs.Interleaved.{interleavings_are_runs}
use Rattle.joined_laws.proofs.OneConversation.{start_once}
use Rattle.joined_laws.specs.Joined.{JoinedEndsAgree, ReportTheSame, peer_alone, world_of}

agreed : (both same : Bool) → cond both (cond same Agree Apart) Unfinished ≡ Agree → same ≡ true
agreed true true e = refl
agreed true false e = absurd cc
agreed false same e = absurd cc

judged_in : (w : WorldNow) → verdict_of w ≡ Agree → ReportTheSame w.parties.peer w.parties.server
unfolding verdict_of
judged_in w e =
    agreed (is_success w.parties.peer.vars.state && is_success w.parties.server.vars.state) _ e

-- Two ends that run alone stand as the two ends of one run, whose events are their calls in the
-- order of the interleaving (`interleavings_are_runs`). No end begins a second conversation in it.
-- So `honest_ends_agree` and `honest_names_are_theirs` say of that run what is promised of both.
pub joined_ends_agree : JoinedEndsAgree
joined_ends_agree setup list alone whole fit honest both =
    let w = world_of setup list in
    let ends = interleavings_are_runs setup list alone fit in
    let one : is_success w.parties.peer.vars.state ≡ true =
    subst (λ (now : PeerNow). is_success now.vars.state ≡ true) (sym ends.peer) both.0 in
    let other : is_success w.parties.server.vars.state ≡ true =
    subst (λ (now : ServerNow). is_success now.vars.state ≡ true) (sym ends.server) both.1 in
    let same = judged_in w ((honest_ends_agree setup _ whole).reflected_agrees honest
    (start_once setup list fit) one other) in
    let theirs = (honest_names_are_theirs setup _ whole).reflected_theirs honest
    (start_once setup list fit) one other in
    record {
      same = subst (λ (now : ServerNow). ReportTheSame (peer_alone setup list) now) ends.server
          (subst (λ (now : PeerNow). ReportTheSame now w.parties.server) ends.peer same);
      theirs = subst (λ (now : ServerNow). AreTheirs setup (peer_alone setup list) now) ends.server
          (subst (λ (now : PeerNow). AreTheirs setup now w.parties.server) ends.peer theirs);
    }
