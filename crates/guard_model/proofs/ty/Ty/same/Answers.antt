use Rattle.std.proofs.Common.{◌≡◌, true, ◌∙◌}
use Rattle.std.proofs.lemmas.Bool.Decides.{Decides-at}
use Rattle.guard_model.specs.AbstractType.{AbstractType}
use Rattle.guard_model.specs.SameType.{same_type}
use Rattle.guard_model.specs.TypeView.{type_view}
use Rattle.guard_model.specs.inside.Compared.{compared}
use Rattle.guard_model.proofs.Compared.{whole_type}
use Rattle.guard_model.proofs.SameTypes.{same_type-Decides}
use Rattle.guard_model.proofs.ty.Ty.same.Goals as goal

both_whole : (a b : AbstractType) → same_type (compared true a) (compared true b) ≡ same_type a b
both_whole a b = λ i. same_type (whole_type a i) (whole_type b i)

pub returns-clause-test : goal.returns-clause-test
returns-clause-test c = c.is_same.ensures ∙ both_whole (type_view c.args.self.now) (type_view c.args.other.now)

pub returns-clause-equal : goal.returns-clause-equal
returns-clause-equal c =
    let test : c.is_same.result ≡ same_type (type_view c.args.self.now) (type_view c.args.other.now) = c.is_same.ensures ∙ both_whole (type_view c.args.self.now) (type_view c.args.other.now) in
    Decides-at _ _ test (same_type-Decides (type_view c.args.self.now) (type_view c.args.other.now))
