use Rattle.std.proofs.Common.{◌≡◌, false, ap, sym, ◌∙◌}
use Rattle.std.proofs.lemmas.Bool.Decides.{Decides-at}
use Rattle.guard_model.specs.SameBase.{bare_kind_of}
use Rattle.guard_model.specs.SameType.{same_base, same_kind}
use Rattle.guard_model.specs.TypeView.{type_view, kind_view}
use Rattle.guard_model.specs.declared.ty.Ty.{Ty, out-Ty}
use Rattle.guard_model.specs.inside.Compared.{kind_compared}
use Rattle.guard_model.proofs.Compared.{base_kind}
use Rattle.guard_model.proofs.SameTypes.{same_base-Decides}
use Rattle.guard_model.proofs.TypeViews.{type_view_is}
use Rattle.guard_model.proofs.ty.Ty.same_base.Goals as goal

compared_is : (ty : Ty) → kind_compared false (kind_view (out-Ty ty).kind) ≡ bare_kind_of (type_view ty)
compared_is ty = base_kind (kind_view (out-Ty ty).kind) ∙ sym (ap bare_kind_of (type_view_is ty))

both_compared : (a b : Ty) → same_kind (kind_compared false (kind_view (out-Ty a).kind)) (kind_compared false (kind_view (out-Ty b).kind)) ≡ same_base (type_view a) (type_view b)
both_compared a b = λ i. same_kind (compared_is a i) (compared_is b i)

pub returns-clause-test : goal.returns-clause-test
returns-clause-test c = c.is_same.ensures ∙ both_compared c.args.self.now c.args.other.now

pub returns-clause-equal : goal.returns-clause-equal
returns-clause-equal c =
    let test : c.is_same.result ≡ same_base (type_view c.args.self.now) (type_view c.args.other.now) = c.is_same.ensures ∙ both_compared c.args.self.now c.args.other.now in
    Decides-at _ _ test (same_base-Decides (type_view c.args.self.now) (type_view c.args.other.now))
