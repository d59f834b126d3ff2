-- `session` meets its contract: the value behind the pointer leaves as a `&mut`, and the handle
-- follows it.
use Rattle.std.proofs.Common.{◌≡◌, ℕ, List, [], ◌∷◌, refl, sym, ap, ◌∙◌}
use Rattle.std.proofs.raw_atomic.Walks.{proved}
use Rattle.std.proofs.VecSteps.Shapes.{after}
use seplogic.Ra.Ura.{Ura}
use base.Fraction.{full_share}
use base.Logic.{ent, sep, never, fst∗}
use base.Fml.{Fml, GName, ftrue, flft, fsep}
use mir.Raw.{raw as bare}
use mir.Syntax.{named}
use mir.Val.{Val, vptr}
use types.Logic.{Logic, sem}
use contract.Running.{tables}
use types.Kit.{‵, raw, ◌⊛◌, some, later, at_ret, ◌$◌, ◌∵◌, !, qed, done, move, keep, use1, split}
use types.Kit.{split3, join, fsplit, fsplit3, fjoin, fpack, pick, await, rewrite, suffices, frame}
use types.Kit.{group}
use types.Run.{enter, of_opd, addr, stop, fld, load, first, blocks, exec, returns}
use types.ByLocal.{alloc_all, pass_all, free_all, look_at, get, through, sets, sets_last, env}
use types.Part.{whole, sub, look_in}
use denote.Exit.{no}
use denote.Follow.{follows, Part, lends_Part}
use denote.Laws.{shows}
use denote.Memory.{mem, lone, cell_at, part_at, part_of}
use denote.RawPtr.{Ptr, block_ptr, null_ptr, in_a_block}
use denote.Ref.{MutRef, mut_vals, mut_Tells}
use denote.Signature.{plain, mut_ref_to}
use denote.Steps.{nothing, opens, peeks}
use denote.Struct.Struct.{Struct}
use denote.Struct.Owning.{shape, to}
use denote.Triple.Walked.{Stays, walk_of, says, stay_dropped, ends_at, Goes-spent_ref}
use Rattle.std.specs.Box.Ownership.{box_owns}
use Rattle.std.specs.contracts.impls.GlobalAllocator.TheImpl.{ghosts}
use Rattle.tuvaddri_c.specs.Borrowing.{with_session as with_value}
use Rattle.tuvaddri_c.specs.contracts.handle.TuvEnd.session as f
use Rattle.tuvaddri_c.specs.contracts.handle.TuvEnd.{the_row as B, the_type}
use Rattle.tuvaddri_c.specs.contracts.session.Session.{the_row as R}
use Rattle.tuvaddri_c.proofs.handle.TuvEnd.session.Statement.{statement}
use Rattle.tuvaddri_c.proofs.handle.TuvEnd.session.Code as code
use Rattle.tuvaddri_c.proofs.handle.TuvEnd.TheLaws.{lowers}

abbrev stayed : Stays f.ended.signature.params f.ended.kept
stayed = (stay_dropped (mut_ref_to (0 ∷ []) tt (plain (λ _. B))) no, tt)

module _ {M : Type 1} {𝓤 : Ura M} (𝓛 : Logic 𝓤) (h : B.Denot) (us : List Val) (rb ro b o : ℕ) where
  -- all of the handle but the value
  abbrev Rest : Fml
  Rest = fsep (fsep (ghosts.dealloc_token h.alloc (bare (lone R.mir)) (block_ptr b o))
      ((Struct (shape the_type)).own_val (to the_type h) us)) (cell_at full_share B.mir us rb ro)

  back : h.at ≡ block_ptr b o → (w : R.Denot) → ent 𝓤 (sep 𝓤 (sem 𝓛 ((mem R).own_at w b o))
      (sem 𝓛 Rest)) (sem 𝓛 ((mem B).own_at (with_value h w) rb ro))
  unfolding part_of
  back e w =
      qed 𝓛 (‵ (part_at R full_share w b o) ∷ ‵ Rest ∷ []) ∵ move ! (1 ∷ []) $ fsplit ! $ fsplit ! $
      move ! (3 ∷ 0 ∷ []) $ fjoin ! $ rewrite ! 0
      (λ (p : Ptr). ‵ (box_owns (ghosts.dealloc_token h.alloc) R p w)) (sym e) refl $
      move ! (1 ∷ 0 ∷ []) $ fjoin ! $ move ! (1 ∷ 0 ∷ []) $ fjoin ! $
      fpack ! (List Val)
      (λ ws. fsep (cell_at full_share B.mir ws rb ro) (B.own_val (with_value h w) ws)) us $ done !

pub session_spec : {M : Type 1} → statement M
session_spec 𝓤 𝓛 𝓜 𝓡 wired =
    let c = f.clauses 𝓛 𝓜.mem 𝓡.returns in let W = walk_of 𝓛 f.ended stayed c in
    let 𝓣 = tables 𝓤 𝓛.H 𝓜 𝓡 𝓡.env in
    proved 𝓛 f.ended stayed c 𝓜 𝓡 (Goes-spent_ref 𝓛 1 (0 ∷ []) tt (plain (λ _. B)), tt)
    f.Key.name code.function (code.unfolded 𝓤 𝓛.H 𝓜 𝓡 wired)
    (λ κs. (mut_vals, tt)) (λ κs. (mut_Tells (named 0) κs.0 B, tt)) (λ κs qs bounds a _ are.
    let κ = κs.0 in let q = qs.0 in let rb = a.0.ref_ptr.0 in let ro = a.0.ref_ptr.1 in
    let γ = a.0.ghost_name in let h = a.0.now in let vs = mut_vals a.0 in
    let y : W.Ghost = ((κs, qs, bounds, a, (vs, tt)), tt) in
    qed 𝓛 (((‵ (flft κ q) ⊛ ‵ ftrue) ⊛ ‵ ((MutRef (named 0) κ B).own_val a.0 vs) ⊛ ‵ ftrue)
    ∷ ‵ ftrue ∷ []) ∵
    split ! $ split ! $ move ! (2 ∷ []) $ split ! $ keep ! (0 ∷ 2 ∷ []) $
    enter ! _ _ _ _ _ $ alloc_all ! (λ l. pass_all ! refl ((tt, tt), tt) $
    fsplit3 ! $ move ! (1 ∷ 2 ∷ 3 ∷ []) $ opens ! tt B rb ro (λ us.
    move ! (1 ∷ []) $ peeks ! B _ (shows 𝓛 B) h us (λ is. fsplit ! $ move ! (1 ∷ []) $
    in_a_block ! h.at (λ p. box_owns (ghosts.dealloc_token h.alloc) R p h.value) (fst∗ 𝓤 (never 𝓤)
    (sem 𝓛 (ghosts.dealloc_token h.alloc (bare (lone R.mir)) null_ptr))) (λ b o e. fsplit ! $
    -- [the value; the right to free it; what the fields own; the handle's cell; the open borrow, in
    -- three entries]
    let word =
    lowers.val_is h us is ∙ ap (λ (p : Ptr). lowers.lowered (record h { at = p }) ∷ []) e in
    let Cell = λ (ws : List Val). ‵ (cell_at full_share B.mir ws rb ro) in
    rewrite ! 3 Cell word refl $
    first ! $ blocks ! $
    sets ! (of_opd ! (load ! (through ! refl (fld ! refl (stop !)))
    (look_in ! 3 (sub ! 0 refl (whole !))))) refl (tt, tt) $
    sets ! (of_opd ! (get ! refl)) refl (tt, tt) $
    sets_last ! (addr ! (through ! refl (stop !))) refl (tt, tt) $
    exec ! 𝓣.C 𝓣.Λ (env code.Mir.locals l) (after 1 (code.function).body) (at_ret _ (W.post y)) $
    sets ! (of_opd ! (get ! refl)) refl (tt, tt) $
    rewrite ! 3 Cell (sym word) refl $
    move ! (1 ∷ 2 ∷ []) $ fjoin ! $ move ! (0 ∷ 2 ∷ []) $ fjoin ! $ move ! (2 ∷ 3 ∷ 4 ∷ 1 ∷ 0 ∷ [])
    $ group ! 5 $ use1 𝓛 (later (some (λ (γ' : GName). raw (Part 𝓛 B R (with_value h) (named 0)
    κ q rb ro b o γ (sem 𝓛 (Rest 𝓛 h us rb ro b o)) (back 𝓛 h us rb ro b o e) h.value γ'))))
    (lends_Part 𝓛 B R (with_value h) (named 0) κ q rb ro b o γ (sem 𝓛 (Rest 𝓛 h us rb ro b o)) (back
    𝓛 h us rb ro b o e) (B.coded.code h) (B.coded.code h) h.value) $ await ! tt $ pick ! (λ γ'.
    returns ! (look_at ! 0 refl) $ free_all ! refl $ keep ! (0 ∷ []) $
    use1 𝓛 (‵ ((MutRef (named 0) κ R).own_val
    (record { ref_ptr = (b, o); ghost_name = γ'; now = h.value }) (vptr b o ∷ [])) ⊛ ‵
    (flft κ q) ⊛ ‵ (follows B R γ γ' (with_value h))) (base.Logic.id⊢ 𝓤 _) $ split3 ! $
    suffices ! _ (ends_at 𝓛 f.ended stayed c y (vptr b o)
    (record { ref_ptr = (b, o); ghost_name = γ'; now = h.value }) (tt, tt) (tt, tt)) $
    nothing ! $ nothing ! $ fjoin ! $ join ! $ nothing ! $ move !
    (2 ∷ 0 ∷ []) $ join ! $ join ! $ frame ! $ says ! refl $ done !))))))
