-- The search finds none exactly where all tags that must differ do.
use Rattle.std.proofs.Common.{◌≡◌, Option, Some, None, refl}
use Rattle.guard_model.specs.AbstractType.{AbstractType}
use Rattle.guard_tagcheck.specs.Distinct.{AbstractClash, Distinct}
use Rattle.guard_tagcheck.specs.Search.{first_clash}
use Rattle.guard_tagcheck.specs.Laws.{NoneWhereDistinct}
use Rattle.guard_tagcheck.proofs.Clashes.{type_none, type_some}
use Rattle.guard_tagcheck.proofs.OneClash.{not_distinct}

none_of : (t : AbstractType) (found : Option AbstractClash) → first_clash t ≡ found → Distinct t → found ≡ None
none_of t None is distinct = refl
none_of t (Some c) is distinct = absurd (not_distinct t c (type_some t c is) distinct)

pub none_where_distinct : NoneWhereDistinct
none_where_distinct t = (type_none t, none_of t (first_clash t) refl)
