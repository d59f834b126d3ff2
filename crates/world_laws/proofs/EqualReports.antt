-- Equal reports that both policies allow agree.
use Rattle.std.proofs.Common.{◌≡◌, ℕ, List, true, eqb, refl, subst, eq-eqb}
use Rattle.std.specs.Str.{bytes_eq}
use Rattle.std.proofs.lemmas.Bool.{and_from}
use Rattle.std.proofs.lemmas.Slice.Eq.{bytes_eq-Decides}
use Rattle.login_setup.specs.declared.setup.PeerSetup.{PeerSetup}
use Rattle.login_setup.specs.Setup.{ServerSetup}
use Rattle.eap_method.specs.declared.values.Report.{Report}
use Rattle.eap_world.specs.Judgement.{same_report, peer_agrees, server_agrees, agree}

same_octets : (octets : List ℕ) → bytes_eq octets octets ≡ true
same_octets octets = (bytes_eq-Decides octets octets).1 refl

same_number : (n : ℕ) → eqb n n ≡ true
same_number n = eq-eqb n n refl

report_is_same : (report : Report) → same_report report report ≡ true
report_is_same report =
    and_from _ _ (same_number report.method)
    (and_from _ _ (same_octets report.id_p)
    (and_from _ _ (same_octets report.id_s)
    (and_from _ _ (same_number report.suite)
    (and_from _ _ (same_octets report.msk) (same_octets report.emsk)))))

pub reports_agree : (peer : PeerSetup) (server : ServerSetup) (one other : Report) → one ≡ other
    → peer_agrees peer one ≡ true → server_agrees server one ≡ true
    → agree peer server one other ≡ true
reports_agree peer server one other same by_peer by_server =
    and_from _ _ (subst (λ (report : Report). same_report one report ≡ true) same
    (report_is_same one)) (and_from _ _ by_peer by_server)
