use Rattle.std.proofs.Common.{List, ℕ, [], ◌++◌, ap, sym, ◌∙◌, append-nil}
use Rattle.login_keys.specs.Gpsk.{gkdf, keys_from}
use Rattle.login_keys.proofs.gpsk.derive_keys.Goals as goal

pub returns-clause-keys : goal.returns-clause-keys
returns-clause-keys c = λ input e.
    c.cut_keys.ensures.keys
    ∙ ap (keys_from c.args.suite c.args.mk)
    (c.as_slice-2.ensures.same
    ∙ c.derive.ensures.derived input (sym (append-nil input) ∙ ap (λ (l : List ℕ). l ++ []) (sym e))
    ∙ ap (λ (key : List ℕ). gkdf c.args.suite 160 key input) c.as_slice.ensures.same)
