-- Written types in which each name of a type means a type (X.680 14.1), as it does where names have no fault (N2).
use Rattle.std.specs.Prelude.{IsTrue, is_some}
use Rattle.guard_syntax.specs.Trees.{WrittenType, type_node, WrittenBase, plain, numbers, named_bits, enumerated, structure, choice, of_type, named_type, WrittenComponents, no_components, component, components_from, WrittenAlternatives, no_alternatives, alternative, WrittenComponentForm, named, components_of_type}
use Rattle.guard_tagging.specs.Types.{Surroundings}

abbrev mutual
  pub IsKnown : Surroundings → WrittenType → Type 0
  IsKnown around (type_node site tags base cons) = IsKnownInside around base

  pub IsKnownInside : Surroundings → WrittenBase → Type 0
  IsKnownInside around (plain p) = Unit {0}
  IsKnownInside around (numbers ns) = Unit {0}
  IsKnownInside around (named_bits bs) = Unit {0}
  IsKnownInside around (enumerated items) = Unit {0}
  IsKnownInside around (structure k cs) = AreKnown around cs
  IsKnownInside around (choice others) = AreKnownOthers around others
  IsKnownInside around (of_type k cons t) = IsKnown around t
  IsKnownInside around (named_type site name) = IsTrue (is_some (around.meaning name))

  pub AreKnown : Surroundings → WrittenComponents → Type 0
  AreKnown around no_components = Unit {0}
  AreKnown around (component site name t presence cs) = IsKnown around t × AreKnown around cs
  AreKnown around (components_from site t cs) = IsKnown around t × AreKnown around cs

  pub AreKnownOthers : Surroundings → WrittenAlternatives → Type 0
  AreKnownOthers around no_alternatives = Unit {0}
  AreKnownOthers around (alternative site name t others) = IsKnown around t × AreKnownOthers around others

abbrev pub IsKnownForm : Surroundings → WrittenComponentForm → Type 0
IsKnownForm around (named name t presence) = IsKnown around t
IsKnownForm around (components_of_type t) = IsKnown around t
