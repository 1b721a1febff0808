-- Modules have one first fault, or none.
use Rattle.std.proofs.Common.{◌≡◌, inl, inr, ⊎_elim, ℕ, ◌<◌, ◌≤◌, List, Some, None, slice_get, sym, ◌∙◌, ap, arith}
use Rattle.std.proofs.lemmas.Bool.{cases_lt}
use Rattle.std.proofs.lemmas.Option.{same_Some}
use Rattle.guard_model.specs.declared.site.Site.{Site}
use Rattle.guard_syntax.specs.Trees.{WrittenModule}
use Rattle.guard_names.specs.declared.fault.NameFault.{NameFault}
use Rattle.guard_names.specs.declared.fault.NameFault.TheVariants.{Recursive}
use Rattle.guard_names.specs.Declarations.{Definition, definitions}
use Rattle.guard_names.specs.Meanings.{Uses}
use Rattle.guard_names.specs.Order.{IsFirstRecursive}
use Rattle.guard_names.specs.Faults.{fault_of_names, IsRecursiveAt, AreFaultless, IsFirstFault}

module _ (ms : List WrittenModule) where
  some_none : (f : NameFault) → fault_of_names ms ≡ Some f → fault_of_names ms ≡ None → ⊥
  some_none f a b = clash (sym a ∙ b)
    where
      clash : Some f ≡ None → ⊥
      clash h = cc

  one_recursive : (a b : ℕ) → IsFirstRecursive (Uses ms) a → IsFirstRecursive (Uses ms) b → a ≡ b
  one_recursive a b x y = ⊎_elim
      (λ (l : a < b). absurd (y.first a l x.recursive))
      (λ (g : b ≤ a). ⊎_elim (λ (l : b < a). absurd (x.first b l y.recursive)) (λ (h : a ≤ b). let e : a ≡ b = omega (arith, g, h) in e) (cases_lt b a))
      (cases_lt a b)

  one_site : (s t : Site) → IsRecursiveAt ms s → IsRecursiveAt ms t → s ≡ t
  one_site s t (a, x, d, at, is) (b, y, e, at', is') =
      let same : d ≡ e = same_Some d e (sym at ∙ ap (slice_get (definitions ms)) (one_recursive a b x y) ∙ at') in
      is ∙ ap (λ (z : Definition). z.assignment.site) same ∙ sym is'

  pub one_fault : (f g : NameFault) → IsFirstFault ms f → IsFirstFault ms g → f ≡ g
  one_fault f g (inl a) (inl b) = same_Some f g (sym a ∙ b)
  one_fault f g (inl a) (inr b) = absurd (some_none f a b.0)
  one_fault f g (inr a) (inl b) = absurd (some_none g b a.0)
  one_fault f g (inr a) (inr b) = a.2 ∙ ap Recursive (one_site a.1 b.1 a.3 b.3) ∙ sym b.2

  pub never_both : (f : NameFault) → AreFaultless ms → IsFirstFault ms f → ⊥
  never_both f none (inl a) = some_none f a none.named
  never_both f none (inr a) = none.acyclic a.3.0 a.3.1.recursive
