-- What fails at a value is added to what failed before.
use Rattle.std.proofs.Common.{◌≡◌, ℕ, zero, suc, Bool, true, false, List, [], ◌∷◌, Option, Some, None, sym, ap, ◌∙◌}
use Rattle.std.specs.Prelude.{not}
use Rattle.guard_model.specs.AbstractType as type
use Rattle.guard_model.specs.AbstractType.{AbstractType, AbstractKind, Components, type_of, component}
use Rattle.guard_model.specs.AbstractValue as value
use Rattle.guard_model.specs.AbstractValue.{AbstractValue, Fields, Items}
use Rattle.guard_tables.specs.declared.slots.Slots.{Slots}
use Rattle.guard_tables.specs.Slots.{none, added, has}
use Rattle.guard_tables.specs.Formulas.{Implication, fails_where, failed_unless, implied}
use Rattle.guard_tables.specs.Plan.{AbstractCondition, Plan, Body, Parts, plan, simple, series, set, choice, list, set_of, asked, formula, part}
use Rattle.guard_tables.specs.Marking.{Facts, facts_of, test_passes, conditions_marked, absence_marked, items_marked, marked, type_marked, fields_marked, alternative_marked}
use Rattle.guard_tables.proofs.SlotSums.{added_none, none_added, added_again}

-- what it does to a set is to add what it makes of none
abbrev pub Adds : (Slots → Slots) → Type 0
Adds f = (m : Slots) → f m ≡ added m (f none)

pub adds_both : (f g : Slots → Slots) → Adds f → Adds g → Adds (λ m. g (f m))
adds_both f g p q m = q (f m) ∙ ap (λ (k : Slots). added k (g none)) (p m) ∙ added_again m (f none) (g none) ∙ ap (added m) (sym (q (f none)))

pub adds_nothing : Adds (λ m. m)
adds_nothing m = sym (added_none m)

pub adds_slots : (k : Slots) → Adds (λ m. added m k)
adds_slots k m = ap (added m) (sym (none_added k))

pub adds_unless : (b : Bool) (k : Slots) → Adds (λ m. failed_unless b k m)
adds_unless true k m = adds_nothing m
adds_unless false k m = adds_slots k m

pub adds_absence : (k : Option Slots) → Adds (λ m. absence_marked k m)
adds_absence None m = adds_nothing m
adds_absence (Some k) m = adds_slots k m

pub adds_conditions : (cs : List AbstractCondition) (f : Facts) → Adds (λ m. conditions_marked cs f m)
adds_conditions [] f m = adds_nothing m
adds_conditions (c ∷ cs) f m = adds_both (λ m. failed_unless (test_passes c.test f) c.slots m) (λ m. conditions_marked cs f m) (adds_unless (test_passes c.test f) c.slots) (adds_conditions cs f) m

pub adds_implied : (rs : List Implication) (inner : Slots) → Adds (λ m. implied rs inner m)
adds_implied [] inner m = adds_nothing m
adds_implied (r ∷ rs) inner m = adds_both (λ m. failed_unless (not (fails_where r.where_failed (has inner))) r.slots m) (λ m. implied rs inner m) (adds_unless (not (fails_where r.where_failed (has inner))) r.slots) (adds_implied rs inner) m

pub adds_items : (f : AbstractValue → Slots → Slots) → ((v : AbstractValue) → Adds (f v)) → (vs : Items) → Adds (λ m. items_marked f vs m)
adds_items f h value.no_items m = adds_nothing m
adds_items f h (value.item v vs) m = adds_both (f v) (λ m. items_marked f vs m) (h v) (adds_items f h vs) m

mutual
  unfolding marked

  pub adds_marked : (kind : AbstractKind) (b : Body) (v : AbstractValue) → Adds (λ m. marked kind b v m)
  adds_marked kind (simple k cs) v m = adds_conditions cs (facts_of kind v) m
  adds_marked (type.sequence cs) (series ps) (value.fields fs) m = adds_fields cs ps fs m
  adds_marked (type.set cs) (set ps) (value.fields fs) m = adds_fields cs ps fs m
  adds_marked (type.choice cs) (choice ps) (value.chosen i v) m = adds_alternative cs ps i v m
  adds_marked (type.sequence_of t) (list p) (value.items vs) m = adds_items (λ v m. type_marked t p v m) (λ v m. adds_type t p v m) vs m
  adds_marked (type.set_of t) (set_of p) (value.items vs) m = adds_items (λ v m. type_marked t p v m) (λ v m. adds_type t p v m) vs m
  adds_marked kind (asked cs b) v m = adds_both (λ m. marked kind b v m) (λ m. conditions_marked cs (facts_of kind v) m) (λ m. adds_marked kind b v m) (adds_conditions cs (facts_of kind v)) m
  adds_marked kind (formula rs b) v m = adds_implied rs (marked kind b v none) m
  adds_marked _ _ _ m = adds_nothing m

  pub adds_type : (t : AbstractType) (p : Plan) (v : AbstractValue) → Adds (λ m. type_marked t p v m)
  adds_type (type_of tags kind cons) (plan others con b) v m = adds_marked kind b v m

  pub adds_fields : (cs : Components) (ps : Parts) (fs : Fields) → Adds (λ m. fields_marked cs ps fs m)
  adds_fields (component name t presence cs) (part side p ps) (value.present v fs) m =
      adds_both (λ m. type_marked t p v (added m side.present)) (λ m. fields_marked cs ps fs m)
      (λ m. adds_both (λ m. added m side.present) (λ m. type_marked t p v m) (adds_slots side.present) (λ m. adds_type t p v m) m) (λ m. adds_fields cs ps fs m) m
  adds_fields (component name t presence cs) (part side p ps) (value.absent fs) m =
      adds_both (λ m. absence_marked side.absent m) (λ m. fields_marked cs ps fs m) (adds_absence side.absent) (λ m. adds_fields cs ps fs m) m
  adds_fields _ _ _ m = adds_nothing m

  pub adds_alternative : (cs : Components) (ps : Parts) (i : ℕ) (v : AbstractValue) → Adds (λ m. alternative_marked cs ps i v m)
  adds_alternative (component name t presence cs) (part side p ps) zero v m =
      adds_both (λ m. added m side.present) (λ m. type_marked t p v m) (adds_slots side.present) (λ m. adds_type t p v m) m
  adds_alternative (component name t presence cs) (part side p ps) (suc i) v m = adds_alternative cs ps i v m
  adds_alternative _ _ _ _ m = adds_nothing m
