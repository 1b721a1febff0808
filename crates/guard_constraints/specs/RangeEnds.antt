-- The ends of a range of integers (X.680 51.4): values of the type that it constrains.
use Rattle.std.specs.Prelude.{◌≡◌, ℤ, Bool, true, false, ◌&&◌, not, Option, Some, None}
use Rattle.std.specs.Option.{is_none}
use Rattle.guard_model.specs.declared.ty.Limit.{Limit}
use Rattle.guard_model.specs.declared.ty.Limit.TheVariants.{Free, At, Past}
use Rattle.guard_model.specs.AbstractType.{AbstractType}
use Rattle.guard_model.specs.AbstractValue as value
use Rattle.guard_syntax.specs.declared.tree.StringKind.TheVariants as string
use Rattle.guard_syntax.specs.Trees as written
use Rattle.guard_syntax.specs.Trees.{WrittenValue, WrittenValueForm, WrittenEndForm, WrittenEnd, WrittenRange, value_node}
use Rattle.guard_values.specs.Meanings.{Meaning}
use Rattle.guard_values.specs.Denotes as values

-- `<` leaves an end out, and MIN and MAX are no ends of their own (51.4.3). This profile refuses `MIN<` and `<MAX`.
abbrev pub has_proper_ends : WrittenRange → Bool
has_proper_ends r = not (r.above_low && is_none r.low) && not (r.below_high && is_none r.high)

-- ---- an end as a written value

abbrev pub value_form_of_end : WrittenEndForm → WrittenValueForm
value_form_of_end (written.end_integer n) = written.integer n
value_form_of_end (written.end_reference name) = written.reference name
value_form_of_end (written.end_characters spelling) = written.text string.Characters spelling

abbrev pub value_of_end : WrittenEnd → WrittenValue
value_of_end e = value_node e.site (value_form_of_end e.form)

-- ---- what an end limits

abbrev pub limit_at : Bool → ℤ → Limit
limit_at true z = Past z
limit_at false z = At z

-- No end is written as MIN or MAX, and is no limit. Another is an integer, and in the range unless `<` leaves it out.
abbrev pub LimitDenotes : Meaning → AbstractType → Bool → Option WrittenEnd → Limit → Type 0
LimitDenotes m t outside None l = l ≡ Free
LimitDenotes m t outside (Some e) l =
    (z : ℤ) × values.Denotes m t (value_of_end e) (value.integer z) × (l ≡ limit_at outside z)
