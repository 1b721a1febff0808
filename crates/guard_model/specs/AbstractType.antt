-- Types as the definitions use them, without where they are kept in memory.
use Rattle.std.specs.Prelude.{ℕ, ℤ, Bool, List, Option}
use Rattle.guard_model.specs.AbstractValue.{AbstractValue}
use Rattle.guard_model.specs.declared.tag.Tag.{Tag}
use Rattle.guard_model.specs.declared.site.Site.{Site}
use Rattle.guard_model.specs.declared.ty.CharKind.{CharKind}
use Rattle.guard_model.specs.declared.ty.Limit.{Limit}
use Rattle.guard_model.specs.declared.ty.Word.{Word}

-- a named number of an INTEGER (X.680 19), an item of an ENUMERATED (20), or a named bit of a BIT STRING (22)
pub record NamedNumber : Type 0 where
  pub name : List ℕ
  pub number : ℤ

-- whether a component may be left out (X.680 25.4)
pub data AbstractPresence : Type 0 where
  mandatory : AbstractPresence
  optional : AbstractPresence
  -- a default that isn't known yet
  pending : AbstractPresence
  default : AbstractValue → AbstractPresence

mutual
  -- a type's tags, the outermost first (X.680 31), its kind and its constraints: the last tag is the kind's own and the
  -- others wrap it; a CHOICE has none of its own, so all of its tags wrap it
  pub data AbstractType : Type 0 where
    type_of : List Tag → AbstractKind → Constraints → AbstractType

  -- what is left of a type without its tags and constraints; at each kind stands its clause of X.680
  pub data AbstractKind : Type 0 where
    -- 18
    boolean : AbstractKind
    -- 19, with its named numbers
    integer : List NamedNumber → AbstractKind
    -- 22, with its named bits
    bit_string : List NamedNumber → AbstractKind
    -- 23
    octet_string : AbstractKind
    -- 24
    null : AbstractKind
    -- 32
    object_identifier : AbstractKind
    -- 20, with its items in written order
    enumerated : List NamedNumber → AbstractKind
    -- 41
    characters : CharKind → AbstractKind
    -- 25
    sequence : Components → AbstractKind
    -- 27
    set : Components → AbstractKind
    -- 29
    choice : Components → AbstractKind
    -- 26
    sequence_of : AbstractType → AbstractKind
    -- 28
    set_of : AbstractType → AbstractKind

  -- components or alternatives in written order, each with its name, its type and whether it may be left out
  pub data Components : Type 0 where
    no_components : Components
    component : List ℕ → AbstractType → AbstractPresence → Components → Components

  -- a constraint with the site of its first token
  pub data Constraint : Type 0 where
    at : Site → Element → Constraint

  -- constraints in written order
  pub data Constraints : Type 0 where
    no_constraints : Constraints
    constraint : Constraint → Constraints → Constraints

  -- the values that a constraint allows (X.680 50 and 51)
  pub data Element : Type 0 where
    -- 51.2
    single_value : AbstractValue → Element
    -- 51.3
    contained_subtype : AbstractType → Element
    -- 51.4
    range : Limit → Limit → Element
    -- 51.5
    size : Constraint → Element
    -- 51.7: ranges of codes, both ends in
    permitted_alphabet : List (ℕ × ℕ) → Element
    -- 51.8.4
    with_component : Constraint → Element
    -- 51.8.5; true where it is partial
    with_components : Bool → Parts → Element
    -- 50
    union : Constraints → Element
    intersection : Constraints → Element
    except : Constraint → Constraint → Element
    all_except : Constraint → Element

  -- what WITH COMPONENTS says (51.8.5): the name's site, the component's place, its constraint where there is one, its
  -- presence word
  pub data Parts : Type 0 where
    no_parts : Parts
    part : Site → ℕ → Option Word → Parts → Parts
    part_within : Site → ℕ → Constraint → Option Word → Parts → Parts
