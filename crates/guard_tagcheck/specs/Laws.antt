-- What the search for a clash says of a type, whatever its size.
use Rattle.std.specs.Prelude.{◌≡◌, ◌↔◌, None}
use Rattle.guard_model.specs.AbstractType.{AbstractType}
use Rattle.guard_tagcheck.specs.Distinct.{Distinct}
use Rattle.guard_tagcheck.specs.Search.{first_clash}

-- There is no first clash exactly where all tags that must differ do.
abbrev pub NoneWhereDistinct : Type 0
NoneWhereDistinct = (t : AbstractType) → (first_clash t ≡ None) ↔ Distinct t
