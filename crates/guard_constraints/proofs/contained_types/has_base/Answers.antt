use Rattle.std.proofs.Common.{sym, ap, ◌∙◌}
use Rattle.guard_model.specs.TypeView.{type_view}
use Rattle.guard_constraints.specs.Visible.{has_base_of}
use Rattle.guard_constraints.proofs.CodeSteps.AgreedPlaces.{one_agreed}
use Rattle.guard_constraints.proofs.contained_types.has_base.Goals as goal

pub returns-then-contains-clause-test : goal.returns-then-contains-clause-test
returns-then-contains-clause-test c = sym (c.requires.agreed c.args.place (sym c.contains.ensures ∙ c.if-contains.true))

pub returns-clause-agreed : goal.returns-clause-agreed
returns-clause-agreed c =
    let t = type_view c.args.ty.now in
    one_agreed c.args.known.now t c.args.agreed.now c.insert.new.self c.args.place c.requires.agreed
    (ap (has_base_of t) c.requires.there ∙ sym c.same_base.ensures.test ∙ c.if-not-same_base.false)
    c.in_ok-insert.ensures.updates.0
