-- What holds of the names in written types, of components, alternatives, items, named numbers and named bits, and of the
-- digits of the numbers beside them.
use Rattle.std.specs.Prelude.{ℕ, List, [], ◌∷◌, IfSome}
use Rattle.guard_syntax.specs.Trees.{WrittenNamed, WrittenItem, WrittenType, type_node, WrittenBase, plain, numbers, named_bits, enumerated, structure, choice, of_type, named_type, WrittenComponents, no_components, component, components_from, WrittenAlternatives, no_alternatives, alternative, WrittenAssignment}

module _ (Name Digits : List ℕ → Type 0) where
  abbrev pub EachNamed : List WrittenNamed → Type 0
  EachNamed [] = Unit {0}
  EachNamed (n ∷ ns) = Name n.name × Digits n.number.digits × EachNamed ns

  abbrev pub EachItem : List WrittenItem → Type 0
  EachItem [] = Unit {0}
  EachItem (i ∷ items) = Name i.name × IfSome i.number (λ n. Digits n.digits) × EachItem items

  abbrev mutual
    pub EachIn : WrittenType → Type 0
    EachIn (type_node site tags base cons) = EachInside base

    pub EachInside : WrittenBase → Type 0
    EachInside (plain p) = Unit {0}
    EachInside (numbers ns) = EachNamed ns
    EachInside (named_bits bs) = EachNamed bs
    EachInside (enumerated items) = EachItem items
    EachInside (structure k cs) = EachComponent cs
    EachInside (choice others) = EachAlternative others
    EachInside (of_type k cons t) = EachIn t
    EachInside (named_type site name) = Unit {0}

    pub EachComponent : WrittenComponents → Type 0
    EachComponent no_components = Unit {0}
    EachComponent (component site name t presence cs) = Name name × EachIn t × EachComponent cs
    EachComponent (components_from site t cs) = EachIn t × EachComponent cs

    pub EachAlternative : WrittenAlternatives → Type 0
    EachAlternative no_alternatives = Unit {0}
    EachAlternative (alternative site name t others) = Name name × EachIn t × EachAlternative others

  abbrev pub EachAssigned : List WrittenAssignment → Type 0
  EachAssigned [] = Unit {0}
  EachAssigned (a ∷ assignments) = EachIn a.ty × EachAssigned assignments
