-- What is kept beside known values: how many octets the contents of their encodings are.
use Rattle.std.specs.Prelude.{ℕ, List, [], ◌∷◌, Option, Some, None}
use Rattle.std.specs.Arc.{arc_value}
use Rattle.std.specs.Global.{Global}
use Rattle.std.specs.declared.sync.Arc.{Arc}
use Rattle.guard_model.specs.AbstractType.{AbstractType}
use Rattle.guard_model.specs.AbstractValue.{AbstractValue}
use Rattle.guard_model.specs.Kinds.{kind_of}
use Rattle.guard_model.specs.TypeView.{shared_type_view}
use Rattle.guard_model.specs.ValueView.{value_view}
use Rattle.guard_model.specs.declared.ty.Ty.{Ty}
use Rattle.guard_model.specs.declared.value.Value.{Value}
use Rattle.guard_der.specs.Der.{contents_octets}
use Rattle.guard_der.specs.Encoding.{short_length}

-- how many octets the contents are, where an encoding may have so many
abbrev pub contents_length : AbstractType → AbstractValue → Option ℕ
contents_length t v = short_length (contents_octets (kind_of t) v)

-- beside a definition: of a value that length, of a type nothing
abbrev pub length_beside : Arc Ty Global → Option (Arc Value Global) → Option ℕ
length_beside t None = None
length_beside t (Some v) = contents_length (shared_type_view t) (value_view (arc_value v))

abbrev pub lengths_beside : List (Arc Ty Global) → List (Option (Arc Value Global)) → List (Option ℕ)
lengths_beside [] vs = []
lengths_beside (t ∷ ts) [] = []
lengths_beside (t ∷ ts) (v ∷ vs) = length_beside t v ∷ lengths_beside ts vs
