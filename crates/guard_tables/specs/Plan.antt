-- What the nodes of a table stand for: a tree that says, at each node, how its octets are read and what is asked of its
-- value.
use Rattle.std.specs.Prelude.{ℕ, ℤ, Bool, List, [], ◌∷◌, Option}
use Rattle.guard_model.specs.declared.tag.Tag.{Tag}
use Rattle.guard_model.specs.AbstractType.{AbstractKind}
use Rattle.guard_tables.specs.declared.slots.Slots.{Slots}
use Rattle.guard_tables.specs.Formulas.{Implication}

-- a test of a value, with the clause of X.680; sets of numbers are tests too, however the nodes keep them
pub data AbstractTest : Type 0 where
  -- the number of an INTEGER or ENUMERATED is one of these
  numbers : (ℤ → Bool) → AbstractTest
  -- 51.5: the size is
  sizes : (ℕ → Bool) → AbstractTest
  -- 51.2: it is the value that has these contents octets, of any kind
  stored : List ℕ → AbstractTest
  -- 51.7: the code of each character is
  spelled : (ℕ → Bool) → AbstractTest

-- with the slots that fail where it doesn't pass
pub record AbstractCondition : Type 0 where
  pub slots : Slots
  pub test : AbstractTest

-- What is said of a component, beside its type. Of an alternative `present` alone counts: what fails where it is the
-- chosen one.
pub record Side : Type 0 where
  -- what fails where the part isn't there; None where it has to be there
  pub absent : Option Slots
  -- what fails where the part is there
  pub present : Slots
  -- of the part's default the octets inside the outermost tag
  pub default : Option (List ℕ)

mutual
  -- tags from the outside in, each but the last a wrapper, as of a type; whether the last has the constructed form; and
  -- what is inside them
  pub data Plan : Type 0 where
    plan : List Tag → Bool → Body → Plan

  pub data Body : Type 0 where
    -- a kind whose contents octets spell the value alone, and what is asked of it
    simple : AbstractKind → List AbstractCondition → Body
    -- SEQUENCE, SET: the components in written order
    series : Parts → Body
    set : Parts → Body
    -- CHOICE: the alternatives in written order
    choice : Parts → Body
    -- SEQUENCE OF, SET OF
    list : Plan → Body
    set_of : Plan → Body
    -- what is asked of a value that has parts as a whole: its size, or that it is one single value
    asked : List AbstractCondition → Body → Body
    -- formulas over what fails in a set of the node's own
    formula : List Implication → Body → Body

  pub data Parts : Type 0 where
    no_parts : Parts
    part : Side → Plan → Parts → Parts

abbrev pub body_in : Plan → Body
body_in (plan tags constructed body) = body

abbrev pub tags_in : Plan → List Tag
tags_in (plan tags constructed body) = tags

abbrev pub form_in : Plan → Bool
form_in (plan tags constructed body) = constructed

-- where nothing is asked there is no node for it
abbrev pub asked_of : List AbstractCondition → Body → Body
asked_of [] b = b
asked_of (c ∷ cs) b = asked (c ∷ cs) b
