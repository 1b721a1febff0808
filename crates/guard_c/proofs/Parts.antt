-- A box and its parts are alike: a pointer beside an allocator, and the same memory owned. So the steps that open and
-- close a box serve its parts. Assumes `Logic`.
use Rattle.std.proofs.Common.{◌≡◌, ℕ, List, [], ◌∷◌, refl}
use seplogic.Ra.Ura.{Ura}
use mir.Syntax.{Dict}
use mir.Raw.{raw as bare}
use mir.Val.{Val}
use base.Fraction.{full_share}
use types.Logic.{Logic}
use types.Kit.{Item, Goal, Seq, Step, ‵}
use denote.RattleType.{RattleType}
use denote.RawPtr.{block_ptr}
use denote.Memory.{part_at}
use denote.Param.Laws.{Laws}
use Rattle.std.specs.declared.alloc.Allocator.{Ghosts}
use Rattle.std.proofs.alloc.Calls.{Fits, token}
use Rattle.std_alloc.proofs.BoxSteps.Form.{Bx, D, R, P, τ, word, handle}
use Rattle.std_alloc.proofs.BoxSteps.Steps.{box_out, box_in}
use Rattle.guard_c.specs.contracts.parted.Parted as parted

abbrev pub boxed : (T A : RattleType) → Laws T → Laws A → Ghosts A.Denot → Dict → Dict → Bx
boxed T A L LA g d dd = record { row = T; laws = L; al = record { row = A; laws = LA; g = g; d = d; drops = dd } }

module _ (E : Bx) where
  abbrev pub Parts : RattleType
  Parts = parted.the_row (R E) (P E) E.al.g

  abbrev pub box_of : Parts.Denot → D E
  box_of p = record { ptr = p.at; alloc = p.alloc; value = p.value }

  module _ {M : Type 1} {𝓤 : Ura M} {𝓛 : Logic 𝓤} {K : Type 0} {Γ : List (Item 𝓤)} {G : Goal 𝓤 𝓛.H} where
    pub parts_out : K → (p : Parts.Denot) (vs : List Val)
        → ((b o : ℕ) (h : Val) → p.at ≡ block_ptr b o → vs ≡ word E h b o ∷ [] → Fits E.al h
        → Seq K 𝓛 (‵ (part_at (R E) full_share p.value b o) ∷ ‵ (token E.al p.alloc (bare (τ E)) (block_ptr b o)) ∷ ‵ (handle E p.alloc h) ∷ Γ) G)
        → Seq K 𝓛 (‵ (Parts.own_val p vs) ∷ Γ) G
    parts_out t p vs k = box_out E t (box_of p) vs k

    pub parts_in : K → {h : Val} (p : Parts.Denot) (b o : ℕ) → p.at ≡ block_ptr b o
        → Step K 𝓛 (‵ (Parts.own_val p (word E h b o ∷ [])) ∷ Γ) G (‵ (part_at (R E) full_share p.value b o) ∷ ‵ (token E.al p.alloc (bare (τ E)) (block_ptr b o)) ∷ ‵ (handle E p.alloc h) ∷ Γ) G
    parts_in t p b o e = box_in E t (box_of p) b o p.value e refl
