-- `and` makes the empty struct, with one record more. Assumes `Logic`.
use Rattle.std.proofs.Common.{List, [], ◌∷◌, ◌++◌, refl}
use Rattle.std.proofs.raw_atomic.Walks.{proved_at}
use mir.Syntax.{named}
use mir.Val.{Val, vptr, vstruct, vnil}
use prog.Wp.{WpFn}
use contract.Running.{tables}
use types.Kit.{‵, raw, ◌⊛◌, prop, ◌$◌, ◌∵◌, !, qed, move, keep, drop, split, fsplit, fjoin, fpack}
use types.Kit.{feq_i, feq_l, regoal, suffices, done}
use types.Part.{agg}
use types.Run.{enter, returns, no_more}
use types.ByLocal.{alloc_all, pass_all, free_all, look_at, sets}
use denote.Exit.{yes}
use denote.RattleType.{Valss, owns}
use denote.Builtin.{RefOf}
use denote.Signature.{plain, types_at}
use denote.Steps.{nothing}
use denote.Struct.Struct.{within}
use denote.Triple.Entry.{alive}
use denote.Triple.Walked.{says, Stays, stay_dropped, walk_of, ends_at, Goes-dropped}
use Rattle.eap_method.specs.contracts.note.Note as Note
use Rattle.eap_method.specs.contracts.tags.Covering as Covering
use Rattle.eap_method.specs.contracts.note.Note.and as F
use Rattle.eap_method.proofs.note.Note.and.Statement.{statement}
use Rattle.eap_method.proofs.note.Note.and.Code as code

abbrev none : Val
none = vstruct vnil

abbrev stayed : Stays F.ended.signature.params F.ended.kept
stayed = (
  stay_dropped (RefOf (0 ∷ []) tt (plain (λ _. Note.the_row)) (λ _. tt)) yes,
  (
    stay_dropped (RefOf (1 ∷ []) tt
        (plain (λ κs. Covering.the_row (record { mir = named 2; lft = κs.1.1.0 }))) (λ _. tt)) yes,
    tt,
  ),
)

pub and_spec : {M : Type 1} → statement M
and_spec 𝓤 𝓛 𝓜 𝓡 wired =
    let c = F.clauses 𝓛 𝓜.mem 𝓡.returns in let W = walk_of 𝓛 F.ended stayed c in
    let 𝓣 = tables 𝓤 𝓛.H 𝓜 𝓡 𝓡.env in
    proved_at 𝓛 F.ended stayed c 𝓜 𝓡 (
      Goes-dropped 𝓛 3 (RefOf (0 ∷ []) tt (plain (λ _. Note.the_row)) (λ _. tt)) yes
          (λ κs x f. refl),
      (
        Goes-dropped 𝓛 3 (RefOf (1 ∷ []) tt (plain (λ κs. Covering.the_row
            (record { mir = named 2; lft = κs.1.1.0 }))) (λ _. tt)) yes (λ κs x f. refl),
        tt,
      ),
    )
    F.Key.name code.function (code.unfolded 𝓤 𝓛.H 𝓜 𝓡 wired) (λ z are.
    let a = z.0.3 in
    let vss = z.0.4 in
    let Post = W.post z in
    let made : Note.the_row.Denot = record { records = a.0.now.records ++ a.1.0.now ∷ [] } in
    qed 𝓛 ((raw (alive 𝓛 F.ended.signature z.0.0 z.0.1) ⊛ ‵
    (owns (types_at F.ended.signature.params z.0.0) a vss)) ∷ raw ((c z.0.0 a).requires z.1) ∷ []) ∵
    keep ! (0 ∷ []) $ split ! $ move ! (1 ∷ []) $
    fsplit ! $ fsplit ! $ feq_l !
    (λ is₀. drop ! $ fsplit ! $ fsplit ! $ feq_l ! (λ is₁. drop ! $ drop ! $
    let p = vptr a.0.ref_ptr.0 a.0.ref_ptr.1 in
    let q = vptr a.1.0.ref_ptr.0 a.1.0.ref_ptr.1 in
    regoal ! (λ (us : List Val).
    prop (WpFn 𝓤 𝓛.H 𝓣.C 𝓣.Λ code.function (us ++ (vss.1.0 ++ [])) Post)) is₀ refl $
    regoal ! (λ (us : List Val).
    prop (WpFn 𝓤 𝓛.H 𝓣.C 𝓣.Λ code.function ((p ∷ []) ++ (us ++ [])) Post)) is₁ refl $
    enter ! _ _ _ (p ∷ q ∷ []) Post $ alloc_all ! (λ l. pass_all ! refl ((tt, tt), ((tt, tt), tt)) $
    sets ! (agg ! (no_more !)) refl (tt, tt) $
    nothing ! $ nothing ! $ feq_i ! (List Val) (none ∷ []) (none ∷ []) refl $ fjoin ! $
    fpack ! (Valss []) (within (record { name = []; args = []; types = []; fields = [] }) tt
    (none ∷ [])) tt $ fjoin ! $ returns ! (look_at ! 0 refl) $ free_all ! refl $
    suffices ! _ (ends_at 𝓛 F.ended stayed c z none made (tt, (tt, tt)) (tt, (tt, tt)))
    $ says ! refl $ nothing ! $ nothing ! $ fjoin ! $ nothing ! $ fjoin ! $ move ! (2 ∷ 0 ∷ 1 ∷ [])
    $ done !))))
