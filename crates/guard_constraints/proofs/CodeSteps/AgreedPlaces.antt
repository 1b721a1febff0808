-- One place more whose type has the base.
use Rattle.std.proofs.Common.{◌≡◌, ℕ, Bool, true, false, cond, refl, ap, subst, sym, ◌∙◌}
use Rattle.std.specs.Prelude.{IsTrue}
use Rattle.std.specs.BTreeSet.{BTreeSet, contains}
use Rattle.std.specs.Ordering.{is_eq, nat_cmp}
use Rattle.std.proofs.lemmas.Map.Lookups.{exact_unsigned}
use Rattle.std.specs.Cmp.{Equal-is}
use Rattle.guard_model.specs.AbstractType.{AbstractType}
use Rattle.guard_values.specs.declared.scope.Known.{Known}
use Rattle.guard_values.specs.Views.{type_at}
use Rattle.guard_constraints.specs.Visible.{has_base_of}
use Rattle.guard_constraints.specs.Noted.{AreAgreed}

module _ (known : Known) (t : AbstractType) (before after : BTreeSet ℕ) (place : ℕ) (agreed : AreAgreed known t before)
    (has : IsTrue (has_base_of t (type_at known place)))
    (more : (q : ℕ) → contains nat_cmp after q ≡ cond (is_eq (nat_cmp place q)) true (contains nat_cmp before q)) where
  at : (q : ℕ) (b : Bool) → is_eq (nat_cmp place q) ≡ b → contains nat_cmp after q ≡ true → IsTrue (has_base_of t (type_at known q))
  at q true e there = subst (λ (p : ℕ). IsTrue (has_base_of t (type_at known p))) (exact_unsigned place q ((Equal-is (nat_cmp place q)).0 e)) has
  at q false e there =
      agreed q (sym (ap (λ (b : Bool). cond b true (contains nat_cmp before q)) e) ∙ sym (more q) ∙ there)

  pub one_agreed : AreAgreed known t after
  one_agreed q there = at q (is_eq (nat_cmp place q)) refl there
