-- `parted` tests the pointer, and moves it with what it owns where it isn't null.
use Rattle.std.proofs.Common.{◌≡◌, List, [], ◌∷◌, ◌++◌, refl, sym, subst, lit<}
use mir.Val.{Val, vcons, vnil, has_ty}
use base.Logic.{SProp, ent, emp, id⊢}
use base.Fml.{ftrue}
use prog.Wp.{WpFn}
use types.Kit.{‵, raw, ◌⊛◌, at_ret, ◌$◌, ◌∵◌, !, qed, by, move, keep, split, fsplit, fjoin, suffices, use0, use1}
use types.Run.{stop, fld, lit, of_opd, bin, no_more, and_then, first, branches, exec, returns, enter}
use types.ByLocal.{alloc_all, pass_all, free_all, look_at, get, get_in, sets, sets_last, env}
use types.Part.{agg, sub, whole}
use types.Match.{live}
use contract.Monad.{fact, fact_i}
use contract.Running.{tables}
use denote.Exit.{yes}
use denote.RattleType.{RattleType, owns}
use denote.RawPtr.{block_ptr, null_ptr, tests_null}
use denote.Signature.{types_at, type_at, plain}
use denote.Steps.{nothing}
use denote.Param.{layout}
use denote.Triple.Walked.{Stays, stay_dropped, walk_of, Goes-dropped}
use Rattle.std.specs.Prelude.{None, Some, Ok, Err}
use Rattle.std.proofs.alloc.Shapes.{after}
use Rattle.std.proofs.cell.Inside.{Good}
use Rattle.std.proofs.result.Made.{Ok-of, Err-of}
use Rattle.std.proofs.raw_atomic.Walks.{proved_at, leaves}
use Rattle.std_alloc.proofs.ResultValues.{and_tt}
use Rattle.guard_c.proofs.Words.{Heap, Handle, Parts, word, null_good, block_good, handle_out, parts_in}
use Rattle.guard_c.specs.contracts.handle.Handle.parted.{ended, clauses}
use Rattle.guard_c.specs.contracts.handle.Handle.parted.Key.{name as #self}
use Rattle.guard_c.proofs.handle.Handle.parted.Statement.{statement}
use Rattle.guard_c.proofs.handle.Handle.parted.Code as code

pub parted_spec : {M : Type 1} → statement M
parted_spec 𝓤 𝓛 𝓜 𝓡 wired =
    let H = 𝓛.H in let 𝓣 = tables 𝓤 H 𝓜 𝓡 𝓡.env in let c = clauses 𝓛 𝓜.mem 𝓡.returns in
    let stays : Stays ended.signature.params ended.kept = (stay_dropped (plain (λ _. Handle)) yes, tt) in
    proved_at 𝓛 ended stays c 𝓜 𝓡 (Goes-dropped 𝓛 0 (plain (λ _. Handle)) yes (λ κs x l. refl), tt) #self code.function (code.unfolded 𝓤 H 𝓜 𝓡 wired) (λ z are.
    let κs = z.0.0 in let d = z.0.3.0 in let Out : RattleType = type_at ended.signature.result κs in
    let Post : Val → SProp 𝓤 = (walk_of 𝓛 ended stays c).post z in let Runs : List Val → SProp 𝓤 = λ ws. WpFn 𝓤 H 𝓣.C 𝓣.Λ code.function ws Post in
    qed 𝓛 ((‵ ftrue ⊛ ‵ (owns (types_at ended.signature.params κs) z.0.3 z.0.4)) ∷ raw ((c κs z.0.3).requires z.1) ∷ []) ∵
    split ! $ move ! (1 ∷ []) $ fsplit ! $ handle_out ! d z.0.4.0
    (λ h ws fits none. let w : Val = word null_ptr h in let v : Val = live 1 (vcons h vnil) in
    let good : Good (layout Out) v = (and_tt (has_ty (layout Heap) h) fits.0, (record { fits = lit< tt }, (fits.1, tt))) in
    suffices ! (Runs (w ∷ [])) (subst (λ (us : List Val). ent 𝓤 (Runs (w ∷ [])) (Runs us)) (sym (λ i. ws i ++ [])) (id⊢ 𝓤 (Runs (w ∷ [])))) $
    enter ! 𝓣.C 𝓣.Λ code.function (w ∷ []) Post $ alloc_all ! (λ l. pass_all ! refl (null_good h fits, tt) $ let Ev = env (code.function).locals l in
    sets ! (of_opd ! (get_in ! (fld ! refl (stop !)) (sub ! 0 refl (whole !)))) refl (tt, record { fits = lit< tt }) $
    sets ! (of_opd ! (get_in ! (fld ! refl (stop !)) (sub ! 1 refl (whole !)))) refl fits $
    sets ! (bin ! (get ! refl) (lit ! tt) tt) refl (tt, tt) $ first ! $ branches ! (get ! refl)
    (λ _. sets_last ! (agg ! (and_then ! (lit ! tt) (and_then ! (get ! refl) (no_more !)))) refl good $ exec ! 𝓣.C 𝓣.Λ Ev (after 4 (code.function).body) (at_ret Ev Post) $
    sets ! (of_opd ! (get ! refl)) refl good $ use1 𝓛 (‵ (Out.own_val (Err d.alloc) (v ∷ []))) (Err-of 𝓛 Parts Heap d.alloc h) $
    use0 𝓛 (raw (fact 𝓤 (d.kept ≡ None))) (fact_i 𝓤 (d.kept ≡ None) (emp 𝓤) none) $ nothing ! $ nothing ! $ fjoin ! $
    returns ! (look_at ! 0 refl) $ free_all ! refl $ keep ! (4 ∷ 0 ∷ 2 ∷ 1 ∷ []) $ by ! (leaves 𝓛 ended stays c z v (Err d.alloc) (tt, tt) (tt, tt)))
    (λ wrong. absurd wrong)))
    (λ b o h x ws fits some s. let w : Val = word (block_ptr b o) h in let v : Val = live 0 (vcons w vnil) in
    let p : Parts.Denot = record { at = block_ptr b o; alloc = d.alloc; value = x } in let typed : Good (layout Parts) w = block_good b o h fits in
    let good : Good (layout Out) v = (and_tt (has_ty (layout Parts) w) typed.0, (record { fits = lit< tt }, (typed.1, tt))) in
    suffices ! (Runs (w ∷ [])) (subst (λ (us : List Val). ent 𝓤 (Runs (w ∷ [])) (Runs us)) (sym (λ i. ws i ++ [])) (id⊢ 𝓤 (Runs (w ∷ [])))) $
    enter ! 𝓣.C 𝓣.Λ code.function (w ∷ []) Post $ alloc_all ! (λ l. pass_all ! refl (block_good b o h fits, tt) $ let Ev = env (code.function).locals l in
    sets ! (of_opd ! (get_in ! (fld ! refl (stop !)) (sub ! 0 refl (whole !)))) refl (tt, tt) $
    sets ! (of_opd ! (get_in ! (fld ! refl (stop !)) (sub ! 1 refl (whole !)))) refl fits $
    sets ! (bin ! (get ! refl) (lit ! tt) (tests_null (block_ptr b o) s)) refl (tt, tt) $ first ! $ branches ! (get ! refl) (λ wrong. absurd wrong)
    (λ _. sets ! (of_opd ! (get ! refl)) refl (tt, tt) $ sets ! (agg ! (and_then ! (get ! refl) (and_then ! (get ! refl) (no_more !)))) refl typed $
    sets_last ! (agg ! (and_then ! (lit ! tt) (and_then ! (get ! refl) (no_more !)))) refl good $ exec ! 𝓣.C 𝓣.Λ Ev (after 4 (code.function).body) (at_ret Ev Post) $
    sets ! (of_opd ! (get ! refl)) refl good $ parts_in ! b o h d.alloc x $ use1 𝓛 (‵ (Out.own_val (Ok p) (v ∷ []))) (Ok-of 𝓛 Parts Heap p w) $
    use0 𝓛 (raw (fact 𝓤 (d.kept ≡ Some x))) (fact_i 𝓤 (d.kept ≡ Some x) (emp 𝓤) some) $ nothing ! $ nothing ! $ fjoin ! $
    returns ! (look_at ! 0 refl) $ free_all ! refl $ keep ! (4 ∷ 0 ∷ 2 ∷ 1 ∷ []) $ by ! (leaves 𝓛 ended stays c z v (Ok p) (tt, tt) (tt, tt))))))
