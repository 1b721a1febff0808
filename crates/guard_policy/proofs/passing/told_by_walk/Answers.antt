use Rattle.std.proofs.Common.{List, ℕ, Option, Some, None, refl, sym, ◌∙◌, subst, inl, inr}
use Rattle.std.specs.Arc.{arc_value}
use Rattle.std.specs.Prelude.{IsTrue, IfSome}
use Rattle.std.proofs.lemmas.Bool.{false≢true}
use Rattle.guard_reader.specs.declared.marks.Marks.{Marks}
use Rattle.guard_tables.specs.Slots.{has}
use Rattle.guard_tables.specs.declared.table.Table.{Table}
use Rattle.guard_policy.specs.declared.kept.KeptMessage.{KeptMessage}
use Rattle.guard_policy.specs.declared.passing.Passing.TheVariants as passing
use Rattle.guard_policy.specs.declared.routing.RouteRules.{RouteRules}
use Rattle.guard_policy.specs.declared.verdict.PlainReason.{PlainReason}
use Rattle.guard_policy.specs.Passing.{AreMarks, IsAnswer, IsLetByNone, IsToldBy}
use Rattle.guard_policy.proofs.passing.told_by_walk.Goals as goal

stopped : (m : KeptMessage) (rules : RouteRules) (octets : List ℕ) (marks : Marks) → AreMarks (arc_value m.table) octets marks → IsTrue (has marks.members 0)
    → IsLetByNone rules m.numbers.items marks.members
    → (told : Option PlainReason) → IfSome told (IsToldBy rules m.numbers.items marks.members)
    → IsAnswer m rules octets (passing.Stopped told)
stopped m rules octets marks are of_type never None told = inr (marks, are, λ typed. never)
stopped m rules octets marks are of_type never (Some reason) told = (marks, are, of_type, never, told)

pub returns-in_default : goal.returns-in_default
returns-in_default c = inl (λ v fitting encoded. false≢true (c.in_default.ensures.only v (rw c.deref.ensures fitting) (rw c.deref.ensures encoded)))

pub returns-then-not-of_type : goal.returns-then-not-of_type
returns-then-not-of_type c = inr (
  c.in-Some.marks,
  subst (λ (t : Table). AreMarks t c.args.octets.now c.in-Some.marks) c.deref.ensures c.in-Some.ensures.marks,
  λ typed. absurd (false≢true (sym (sym c.of_type.ensures ∙ c.if-not-of_type.true) ∙ typed)),
)

pub returns-in-Some-let_by : goal.returns-in-Some-let_by
returns-in-Some-let_by c = (
  c.in-Some.marks,
  subst (λ (t : Table). AreMarks t c.args.octets.now c.in-Some.marks) c.deref.ensures c.in-Some.ensures.marks,
  sym c.of_type.ensures ∙ c.if-not-of_type.false,
  rw c.deref-2.ensures.value at c.in-Some-let_by.ensures.some,
)

pub returns : goal.returns
returns c =
    stopped c.args.message.now c.args.rules.now c.args.octets.now c.in-Some.marks
    (subst (λ (t : Table). AreMarks t c.args.octets.now c.in-Some.marks) c.deref.ensures c.in-Some.ensures.marks)
    (sym c.of_type.ensures ∙ c.if-not-of_type.false) (rw c.deref-2.ensures.value at c.in_default-let_by.ensures.none refl) c.told_by.result (rw c.deref-3.ensures.value at c.told_by.ensures)
