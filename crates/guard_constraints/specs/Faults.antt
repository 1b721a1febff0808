-- What is wrong with an element of a constraint, by the codes of the faults. `FirstFault` has the faults of the values
-- that are written in it, and the order in which all of them are looked for.
use Rattle.std.specs.Prelude.{Bool, List, Option, Some, None, not, if◌then◌else◌}
use Rattle.std.specs.Option.{is_none, option_map, option_or}
use Rattle.guard_model.specs.declared.site.Site.{Site}
use Rattle.guard_model.specs.AbstractType.{AbstractType, AbstractKind}
use Rattle.guard_model.specs.Kinds.{kind_of, has_named_bits}
use Rattle.guard_syntax.specs.Trees as written
use Rattle.guard_syntax.specs.Trees.{WrittenElementForm, constraint}
use Rattle.guard_values.specs.declared.fault.ValueFault.TheVariants as value_fault
use Rattle.guard_constraints.specs.declared.fault.ConsFault.{ConsFault}
use Rattle.guard_constraints.specs.declared.fault.ConsFault.TheVariants as fault
use Rattle.guard_constraints.specs.Visible.{Visible, has_base_of}
use Rattle.guard_constraints.specs.Applies.{applies}
use Rattle.guard_constraints.specs.RangeEnds.{has_proper_ends}
use Rattle.guard_constraints.specs.PermittedAlphabets.{AlphabetItem, items_of, first_bad}
use Rattle.guard_constraints.specs.ListedParts.{heads}
use Rattle.guard_constraints.specs.PartFaults.{part_fault}

abbrev pub unless : Bool → ConsFault → Option ConsFault
unless b f = if b then None else Some f

-- ---- before what is inside

-- what is at fault where the element applies
abbrev pub fault_of_form : Visible → AbstractType → Site → WrittenElementForm → Option ConsFault
fault_of_form names t site (written.parentheses set) = None
fault_of_form names t site (written.value tree) = None
-- C8: no visible type of the same base
fault_of_form names t site (written.contained includes name_site name) =
    unless (has_base_of t (names.types name)) (fault.ContainedMismatch site)
-- C2, at the range's first token: `MIN<` or `<MAX`
fault_of_form names t site (written.range r) = unless (has_proper_ends r) (fault.ExclusiveLimit site)
fault_of_form names t site (written.size inner) = None
-- C3, at the word FROM: another form than a union of strings and of ranges between two characters
fault_of_form names t site (written.from (constraint inner set)) =
    unless (not (is_none (items_of set))) (fault.AlphabetForm site)
fault_of_form names t site (written.with_component inner) = None
-- C4 to C7
fault_of_form names t site (written.with_components partial ps) = part_fault (kind_of t) (heads ps)

-- C1 comes first: the element doesn't apply to the type
abbrev pub own_fault : Visible → AbstractType → Site → WrittenElementForm → Option ConsFault
own_fault names t site form =
    option_or (unless (applies (kind_of t) form) (fault.NotApplicable site)) (fault_of_form names t site form)

-- ---- inside FROM

-- C9 with V6, at the first string with a character outside the alphabet
abbrev pub characters_fault : Site → ConsFault
characters_fault site = fault.Value (value_fault.BadCharacter site)

abbrev pub items_fault : AbstractKind → Option (List AlphabetItem) → Option ConsFault
items_fault kind None = None
items_fault kind (Some items) = option_map characters_fault (first_bad kind items)

-- ---- after what is inside SIZE

-- C10, at the word SIZE: trailing zero bits don't count in the values of a BIT STRING with named bits (22.7), so this
-- profile has no SIZE of it.
abbrev pub named_bits_fault : AbstractKind → Site → Option ConsFault
named_bits_fault kind site = unless (not (has_named_bits kind)) (fault.SizeOnNamedBits site)
