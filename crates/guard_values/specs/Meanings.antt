-- What lower-case names say: names of the type's own list, and visible names.
use Rattle.std.specs.Prelude.{ℕ, ℤ, List, Option, None, IsTrue, IfSome}
use Rattle.guard_model.specs.AbstractType as type
use Rattle.guard_model.specs.AbstractType.{AbstractType, AbstractKind}
use Rattle.guard_model.specs.AbstractValue as value
use Rattle.guard_model.specs.AbstractValue.{AbstractValue}
use Rattle.guard_model.specs.NamedLists.{number_named}
use Rattle.guard_der.specs.Fits.{fits}

-- ---- a type's own list

-- A named number of an INTEGER (X.680 clause 19), or an item of an ENUMERATED (clause 20). Other kinds have none:
-- the name of a bit is for braces alone (22.5).
abbrev pub own_number : AbstractKind → List ℕ → Option ℤ
own_number (type.integer ns) name = number_named name ns
own_number (type.enumerated ns) name = number_named name ns
own_number type.boolean name = None
own_number (type.bit_string ns) name = None
own_number type.octet_string name = None
own_number type.null name = None
own_number type.object_identifier name = None
own_number (type.characters k) name = None
own_number (type.sequence cs) name = None
own_number (type.set cs) name = None
own_number (type.choice cs) name = None
own_number (type.sequence_of t) name = None
own_number (type.set_of t) name = None

abbrev pub value_of_number : AbstractKind → ℤ → AbstractValue
value_of_number (type.enumerated ns) z = value.enumerated z
value_of_number _ z = value.integer z

-- ---- visible names

-- a value that is assigned, with the type that governs it (X.680 16.2)
pub record Governed : Type 0 where
  pub ty : AbstractType
  pub value : AbstractValue

-- what each visible lower-case name means
abbrev pub Meaning : Type 0
Meaning = List ℕ → Option Governed

-- each is a value of its type
abbrev pub AreFitting : Meaning → Type 0
AreFitting meaning = (name : List ℕ) → IfSome (meaning name) (λ g. IsTrue (fits g.ty g.value))
