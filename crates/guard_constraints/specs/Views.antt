-- What the code's results and arguments mean.
use Rattle.std.specs.Prelude.{ℕ, Option, Some, None, IsTrue, IfSome}
use Rattle.guard_syntax.specs.SetViews.{part_view}
use Rattle.guard_syntax.specs.declared.tree.ComponentConsTree.{ComponentConsTree}
use Rattle.guard_values.specs.declared.fault.ValueFault.{ValueFault}
use Rattle.guard_values.specs.declared.fault.ValueFault.TheVariants as value_fault
use Rattle.guard_values.specs.declared.scope.Known.{Known}
use Rattle.guard_values.specs.declared.scope.Scope.{Scope}
use Rattle.guard_values.specs.Views.{type_at, types_from, visible_from}
use Rattle.guard_names.specs.declared.names.Names.{Names}
use Rattle.guard_der.specs.Sound.{is_sound}
use Rattle.guard_constraints.specs.declared.fault.ConsFault.{ConsFault}
use Rattle.guard_constraints.specs.declared.fault.ConsFault.TheVariants as fault
use Rattle.guard_constraints.specs.declared.alphabets.End.{End}
use Rattle.guard_constraints.specs.declared.alphabets.End.TheVariants as code
use Rattle.guard_constraints.specs.declared.alphabets.Item.{Item}
use Rattle.guard_constraints.specs.declared.alphabets.Item.TheVariants as item
use Rattle.guard_constraints.specs.Visible.{Visible}
use Rattle.guard_constraints.specs.PermittedAlphabets.{CodeEnd, open_end, character, AlphabetItem, all_of, between}
use Rattle.guard_constraints.specs.ListedParts.{PartHead, head_of}

-- ---- faults

-- the fault that a refusal names, where memory didn't run out
abbrev pub named : ConsFault → Option ConsFault
named fault.OutOfMemory = None
named f = Some f

-- a value's fault as one of the constraint
abbrev pub fault_with : ValueFault → ConsFault
fault_with value_fault.OutOfMemory = fault.OutOfMemory
fault_with f = fault.Value f

-- ---- names

-- what they mean in the module of this definition
abbrev pub visible_at : Names → Known → ℕ → Visible
visible_at names known id = record { values = visible_from names known id; types = types_from names known id }

abbrev pub visible_in : Scope → Visible
visible_in scope = visible_at scope.names.now scope.known.now scope.id

-- each known type is sound
abbrev pub AreKnownSound : Known → Type 0
AreKnownSound known = (place : ℕ) → IfSome (type_at known place) (λ t. IsTrue (is_sound t))

-- ---- what is inside FROM

abbrev pub code_view : End → CodeEnd
code_view code.Open = open_end
code_view (code.Character site c) = character site c

abbrev pub item_view : Item → AlphabetItem
item_view (item.All site codes) = all_of (record { site = site; codes = codes.items })
item_view (item.Between low high) = between (code_view low) (code_view high)

-- ---- parts of WITH COMPONENTS

abbrev pub head_view : ComponentConsTree → PartHead
head_view p = head_of (part_view p)
