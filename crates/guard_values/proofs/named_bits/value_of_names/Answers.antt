use Rattle.std.proofs.Common.{◌≡◌, ◌≤◌, length, map, Some, Ok, sym, ap, ◌∙◌, subst, arith}
use Rattle.std.proofs.lemmas.Grind.{common_steps}
use Rattle.std.proofs.lemmas.Result.{err_from_is_err_and}
use Rattle.guard_model.specs.AbstractValue.{AbstractValue}
use Rattle.guard_model.specs.Answer.{Gives}
use Rattle.guard_model.specs.ValueView.{value_view}
use Rattle.guard_syntax.specs.Trees.{entries_of}
use Rattle.guard_syntax.specs.Views.{entry_view}
use Rattle.guard_values.specs.NamedBits.{ones_at}
use Rattle.guard_values.specs.declared.fault.ValueFault.TheVariants.{WrongNotation}
use Rattle.guard_values.specs.Simple.{bits_value}
use Rattle.guard_values.specs.Views.{named}
use Rattle.guard_values.specs.inside.Reading.{read_named_bits}
use Rattle.guard_values.proofs.SingleValues.NamedBits.{names_refused, names_read, no_names, kept_refused, null_is, none_kept, all_kept}
use Rattle.guard_values.proofs.named_bits.value_of_names.Goals as goal

pub returns-then-is_empty : goal.returns-then-is_empty
returns-then-is_empty c =
    let none : length c.args.names.now ≡ 0 = grind (arith, common_steps, c.is_empty.ensures, c.if-is_empty.true) in
    let es = entries_of (map entry_view c.args.entries.now) in
    kept_refused (Some (WrongNotation c.args.site)) c.args.sorted (read_named_bits c.args.site c.args.names.now es) (no_names c.args.site c.args.names.now es none)

pub returns-in_err-places : goal.returns-in_err-places
returns-in_err-places c =
    let p = err_from_is_err_and c.from_residual.result c.from_residual.ensures.1 in
    let long : 1 ≤ length c.args.names.now = grind (arith, common_steps, c.is_empty.ensures, c.if-is_empty.false) in
    rw (p.1, p.2) (kept_refused (named c.in_err-places.field-0.0) c.args.sorted (read_named_bits c.args.site c.args.names.now (entries_of (map entry_view c.args.entries.now)))
    (names_refused (named c.in_err-places.field-0.0) c.args.site c.args.names.now (map entry_view c.args.entries.now) long c.in_err-places.ensures))

pub returns-then-not-sorted : goal.returns-then-not-sorted
returns-then-not-sorted c =
    let long : 1 ≤ length c.args.names.now = grind (arith, common_steps, c.is_empty.ensures, c.if-is_empty.false) in
    none_kept c.args.sorted (read_named_bits c.args.site c.args.names.now (entries_of (map entry_view c.args.entries.now))) (bits_value (ones_at c.in_ok-places.places.items)) c.if-not-sorted.true
    (names_read c.args.site c.args.names.now (map entry_view c.args.entries.now) c.in_ok-places.places.items long c.in_ok-places.ensures) ∙ ap (λ (v : AbstractValue). Ok v) (sym null_is)

pub returns : goal.returns
returns c =
    let long : 1 ≤ length c.args.names.now = grind (arith, common_steps, c.is_empty.ensures, c.if-is_empty.false) in
    subst (λ r. Gives value_view named c.ones_at.result r)
    (sym (all_kept c.args.sorted (read_named_bits c.args.site c.args.names.now (entries_of (map entry_view c.args.entries.now))) (bits_value (ones_at c.in_ok-places.places.items)) c.if-not-sorted.false
    (names_read c.args.site c.args.names.now (map entry_view c.args.entries.now) c.in_ok-places.places.items long c.in_ok-places.ensures)))
    (rw c.deref.ensures.value at c.ones_at.ensures)
