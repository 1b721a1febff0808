use Rattle.std.proofs.Common.{codes, sym, ap, ◌∙◌}
use Rattle.guard_json.specs.Members.{member, name_in, breach_in, violation_in, shortfalls_in, details_by}
use Rattle.guard_json.proofs.Drafts.{Adds_is, Adds_nothing}
use Rattle.guard_json.proofs.verdicts.add_details.Goals as goal

pub returns-in-Alone : goal.returns-in-Alone
returns-in-Alone c = Adds_is (Adds_nothing _) (sym (ap (λ k. details_by k c.args.text.now) c.in-Alone.is))

pub returns-in-Undecodable : goal.returns-in-Undecodable
returns-in-Undecodable c =
    Adds_is c.add_breach.ensures (ap breach_in c.behind.ensures ∙ sym (ap (λ k. details_by k c.args.text.now) c.in-Undecodable.is))

pub returns-in-OutsideType : goal.returns-in-OutsideType
returns-in-OutsideType c =
    Adds_is c.add_violation.ensures
    (ap violation_in c.behind-in-OutsideType.ensures ∙ sym (ap (λ k. details_by k c.args.text.now) c.in-OutsideType.is))

pub returns-in-DeniedBy : goal.returns-in-DeniedBy
returns-in-DeniedBy c =
    Adds_is c.name.ensures
    (ap (λ w. member (codes "rule") (name_in w)) c.behind-in-DeniedBy.ensures
    ∙ sym (ap (λ k. details_by k c.args.text.now) c.in-DeniedBy.is))

pub returns-in-NotAllowed : goal.returns-in-NotAllowed
returns-in-NotAllowed c =
    Adds_is c.add_shortfalls.ensures
    (ap shortfalls_in c.from.ensures ∙ sym (ap (λ k. details_by k c.args.text.now) c.in-NotAllowed.is))

pub returns-in-Unknown : goal.returns-in-Unknown
returns-in-Unknown c = Adds_is c.only_where.ensures (sym (ap (λ k. details_by k c.args.text.now) c.in-Unknown.is))
