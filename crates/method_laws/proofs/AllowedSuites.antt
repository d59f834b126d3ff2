-- A report whose suite is among these, if its method has one, passes the test of it.
use Rattle.std.proofs.Common.{◌≡◌, ℕ, List, Bool, true, false, refl}
use Rattle.std.specs.Prelude.{◌==◌, ◌||◌, not}
use Rattle.std.proofs.lemmas.Bool.{eqb-true}
use Rattle.octet_lists.specs.Among.{gpsk_kind, is_among}
use Rattle.eap_method.specs.declared.values.Report.{Report}
use Rattle.method_laws.specs.GpskLogins.{HasSuiteAmong}

passes_if : (test among : Bool) → (test ≡ true → among ≡ true) → (not test || among) ≡ true
passes_if true among has = has refl
passes_if false among has = refl

pub passes : (suites : List ℕ) (report : Report) → HasSuiteAmong suites report
    → (not (report.method == gpsk_kind) || is_among suites report.suite) ≡ true
passes suites report has = passes_if (report.method == gpsk_kind) (is_among suites report.suite)
    (λ same. has (eqb-true report.method gpsk_kind same))
