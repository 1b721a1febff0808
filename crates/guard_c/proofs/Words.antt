-- A handle, and the parts of what it holds, are two words: a pointer and the heap, which takes none. Assumes `Logic`.
use Rattle.std.proofs.Common.{◌≡◌, ℕ, List, [], ◌∷◌, ◌++◌, refl, sym, subst, lit<}
use seplogic.Ra.Ura.{Ura}
use mir.Syntax.{impl, tnil, dnil}
use mir.Raw.{raw as bare}
use mir.Val.{Val, vptr, vstruct, vcons, vnil, of_list, has_ty}
use base.Fraction.{full_share}
use base.Logic.{ent, guard, guard_i, via, fst∗, snd∗, never}
use base.Fml.{Fml, fsep}
use types.Logic.{Logic, sem}
use types.Kit.{Item, Goal, Seq, Step, step, ‵, given, ◌$◌, move, drop, fsplit, fjoin, fpick, fpack, feq_i, feq_l, learn, use1}
use contract.Monad.{fact_use}
use denote.RattleType.{RattleType, Valss}
use denote.Builtin.{RawPtr}
use denote.Memory.{lone}
use denote.RawPtr.{Ptr, block_ptr, null_ptr, ptr_val, lies_at, in_a_block, Testable}
use denote.Steps.{nothing}
use denote.Param.{layout}
use denote.Struct.Struct.{Shape, Struct, within}
use Rattle.std.specs.Prelude.{Option, None, Some}
use Rattle.std.specs.declared.alloc.Global.{Global}
use Rattle.std.specs.contracts.alloc.Global as heap
use Rattle.std.specs.contracts.impls.GlobalAllocator.TheImpl.{ghosts}
use Rattle.std.proofs.alloc.Global.TheLaws as heap_laws
use Rattle.std.proofs.alloc.Calls.{Al, handle_tells}
use Rattle.std.proofs.cell.Inside.{Good}
use Rattle.std.proofs.GlobalToken.{dealloc_token-Testable}
use Rattle.std_alloc.specs.Box.Ownership.{box_owns}
use Rattle.std_alloc.proofs.ResultValues.{and_tt}
use Rattle.guard_c.specs.declared.held.Held.{Held}
use Rattle.guard_c.specs.Owning.{held_row, handle_owns}
use Rattle.guard_c.specs.contracts.handle.Handle as handle
use Rattle.guard_c.specs.contracts.parted.Parted as parted

abbrev pub Heap : RattleType
Heap = heap.the_row

abbrev pub Handle : RattleType
Handle = handle.the_row

abbrev pub Parts : RattleType
Parts = parted.the_row held_row Heap ghosts

abbrev pub al : Al
al = record { row = Heap; laws = heap_laws.the_row_laws; g = ghosts; d = impl [] tnil dnil; drops = impl [] tnil dnil }

abbrev pub word : Ptr → Val → Val
word p h = vstruct (vcons (ptr_val p) (vcons h vnil))

abbrev pub Two : Shape
Two = record { name = []; args = []; types = []; fields = RawPtr ∷ Heap ∷ [] }

pub null_good : (h : Val) → Good (layout Heap) h → Good (layout Handle) (word null_ptr h)
null_good h fits = (and_tt (has_ty (layout Heap) h) fits.0, (record { fits = lit< tt }, (fits.1, tt)))

pub block_good : (b o : ℕ) (h : Val) → Good (layout Heap) h → Good (layout Handle) (word (block_ptr b o) h)
block_good b o h fits = (and_tt (has_ty (layout Heap) h) fits.0, (tt, (fits.1, tt)))

abbrev pub box_of : Global → Ptr → Held → Fml
box_of a p x = box_owns (ghosts.dealloc_token a) held_row p x

module _ {M : Type 1} {𝓤 : Ura M} (𝓛 : Logic 𝓤) where
  -- A block that may be freed begins where its pointer points, so that pointer may be compared with null.
  tested : (a : Global) (p : Ptr) (x : Held) → ent 𝓤 (sem 𝓛 (box_of a p x)) (guard 𝓤 (Testable p) (sem 𝓛 (box_of a p x)))
  tested a p x = let τ = bare (lone held_row.mir) in
      fact_use 𝓤 (Testable p) (via 𝓤 _ (snd∗ 𝓤 (sem 𝓛 (lies_at held_row full_share p x)) (sem 𝓛 (ghosts.dealloc_token a τ p))) (dealloc_token-Testable 𝓛 a τ p)) (guard_i 𝓤 (Testable p) (sem 𝓛 (box_of a p x)))

module _ {M : Type 1} {𝓤 : Ura M} {𝓛 : Logic 𝓤} {K : Type 0} {Γ : List (Item 𝓤)} {G : Goal 𝓤 𝓛.H} where
  -- a struct of the two fields, which owns F besides
  pub words_out : K → (p : Ptr) (a : Global) (F : Fml) (vs : List Val)
      → ((h : Val) → vs ≡ word p h ∷ [] → Good (layout Heap) h → Seq K 𝓛 (‵ F ∷ ‵ (Heap.own_val a (h ∷ [])) ∷ Γ) G)
      → Seq K 𝓛 (‵ (fsep ((Struct Two).own_val (p, (a, tt)) vs) F) ∷ Γ) G
  words_out t p a F vs k =
      fsplit t $ fpick t (λ vss. fsplit t $ feq_l t (λ whole. fsplit t $ feq_l t (λ pointer. fsplit t $ handle_tells al t a vss.1.0 (λ h heaps fits. move t (1 ∷ []) $ drop t $ move t (1 ∷ []) $
      k h (subst (λ (ws : List Val). vs ≡ vstruct (of_list (ptr_val p ∷ (ws ++ []))) ∷ []) heaps (subst (λ (ps : List Val). vs ≡ vstruct (of_list (ps ++ (vss.1.0 ++ []))) ∷ []) pointer whole)) fits))))

  pub words_in : K → (p : Ptr) (h : Val) (a : Global) (F : Fml)
      → Step K 𝓛 (‵ (fsep ((Struct Two).own_val (p, (a, tt)) (word p h ∷ [])) F) ∷ Γ) G (‵ F ∷ ‵ (Heap.own_val a (h ∷ [])) ∷ Γ) G
  words_in t p h a F = step (λ s. let v : Val = word p h in
      nothing t $ move t (2 ∷ 0 ∷ []) $ fjoin t $ feq_i t (List Val) (ptr_val p ∷ []) (ptr_val p ∷ []) refl $ fjoin t $ feq_i t (List Val) (v ∷ []) (v ∷ []) refl $ fjoin t $
      fpack t (Valss (RawPtr ∷ Heap ∷ [])) (within Two (p, (a, tt)) (v ∷ [])) (ptr_val p ∷ [], (h ∷ [], tt)) $ fjoin t $ s)

  pub handle_in : K → (p : Ptr) (h : Val) (a : Global) (kept : Option Held)
      → Step K 𝓛 (‵ (Handle.own_val (record { at = p; alloc = a; kept = kept }) (word p h ∷ [])) ∷ Γ) G (‵ (handle_owns a p kept) ∷ ‵ (Heap.own_val a (h ∷ [])) ∷ Γ) G
  handle_in t p h a kept = words_in t p h a (handle_owns a p kept)

  pub parts_in : K → (b o : ℕ) (h : Val) (a : Global) (x : Held)
      → Step K 𝓛 (‵ (Parts.own_val (record { at = block_ptr b o; alloc = a; value = x }) (word (block_ptr b o) h ∷ [])) ∷ Γ) G (‵ (box_of a (block_ptr b o) x) ∷ ‵ (Heap.own_val a (h ∷ [])) ∷ Γ) G
  parts_in t b o h a x = words_in t (block_ptr b o) h a (box_of a (block_ptr b o) x)

  -- nothing lies at null, so what is owned at a pointer lies in a block
  pub parts_out : K → (p : Parts.Denot) (vs : List Val)
      → ((b o : ℕ) (h : Val) → vs ≡ word (block_ptr b o) h ∷ [] → Good (layout Heap) h → Seq K 𝓛 (‵ (box_of p.alloc (block_ptr b o) p.value) ∷ ‵ (Heap.own_val p.alloc (h ∷ [])) ∷ Γ) G)
      → Seq K 𝓛 (‵ (Parts.own_val p vs) ∷ Γ) G
  parts_out t p vs k = words_out t p.at p.alloc (box_of p.alloc p.at p.value) vs (λ h is fits.
      in_a_block t p.at (λ q. box_of p.alloc q p.value) (fst∗ 𝓤 (never 𝓤) (sem 𝓛 (ghosts.dealloc_token p.alloc (bare (lone held_row.mir)) null_ptr))) (λ b o e.
      k b o h (subst (λ (q : Ptr). vs ≡ word q h ∷ []) e is) fits))

  -- a handle is null and holds nothing, or points to a box
  pub handle_out : K → (d : Handle.Denot) (vs : List Val)
      → ((h : Val) → vs ≡ word null_ptr h ∷ [] → Good (layout Heap) h → d.kept ≡ None → Seq K 𝓛 (‵ (Heap.own_val d.alloc (h ∷ [])) ∷ Γ) G)
      → ((b o : ℕ) (h : Val) (x : Held) → vs ≡ word (block_ptr b o) h ∷ [] → Good (layout Heap) h → d.kept ≡ Some x → Testable (block_ptr b o)
      → Seq K 𝓛 (‵ (box_of d.alloc (block_ptr b o) x) ∷ ‵ (Heap.own_val d.alloc (h ∷ [])) ∷ Γ) G)
      → Seq K 𝓛 (‵ (Handle.own_val d vs) ∷ Γ) G
  handle_out t d vs none one = words_out t d.at d.alloc (handle_owns d.alloc d.at d.kept) vs (λ h is fits. by_kept d.at d.kept refl h is fits) where
    by_kept : (p : Ptr) (k : Option Held) → k ≡ d.kept → (h : Val) → vs ≡ word p h ∷ [] → Good (layout Heap) h
        → Seq K 𝓛 (‵ (handle_owns d.alloc p k) ∷ ‵ (Heap.own_val d.alloc (h ∷ [])) ∷ Γ) G
    by_kept p None e h is fits = feq_l t (λ null. none h (subst (λ (q : Ptr). vs ≡ word q h ∷ []) null is) fits (sym e))
    by_kept p (Some x) e h is fits =
        in_a_block t p (λ q. box_of d.alloc q x) (fst∗ 𝓤 (never 𝓤) (sem 𝓛 (ghosts.dealloc_token d.alloc (bare (lone held_row.mir)) null_ptr))) (λ b o at.
        use1 𝓛 (given (Testable (block_ptr b o)) (‵ (box_of d.alloc (block_ptr b o) x))) (tested 𝓛 d.alloc (block_ptr b o) x) $ learn t (λ s.
        one b o h x (subst (λ (q : Ptr). vs ≡ word q h ∷ []) at is) fits (sym e) s))
