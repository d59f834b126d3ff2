-- What an end has after a method that succeeded.
use Rattle.std.specs.Prelude.{ℕ, List, Bool, ◌==◌, ◌||◌, not}
use Rattle.octet_lists.specs.Among.{gpsk_kind, is_among}
use Rattle.eap_method.specs.declared.values.Report.{Report}

-- for EAP-GPSK the suite is among those allowed
abbrev pub allows_suite : List ℕ → Report → Bool
allows_suite suites report = not (report.method == gpsk_kind) || is_among suites report.suite
