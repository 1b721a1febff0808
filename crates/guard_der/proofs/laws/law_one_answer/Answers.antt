use Rattle.std.proofs.Common.{arith}
use Rattle.guard_model.specs.TypeView.{type_view}
use Rattle.guard_der.proofs.Numbers.Digits.{are_digits}
use Rattle.guard_der.proofs.Types.Messages.{some_answer, never_both, one_breach}
use Rattle.guard_der.proofs.laws.law_one_answer.Goals as goal

pub returns-clause-one : goal.returns-clause-one
returns-clause-one c = some_answer (type_view c.args.ty.now) c.args.octets.now (are_digits 256 c.args.octets.now (λ i _. omega (arith, c.type_inv.octets i))) c.requires

pub returns-clause-never_both : goal.returns-clause-never_both
returns-clause-never_both c = λ v b fit e is. never_both (type_view c.args.ty.now) c.args.octets.now v b c.requires fit e is

pub returns-clause-one_breach : goal.returns-clause-one_breach
returns-clause-one_breach c = λ b d p q. one_breach (type_view c.args.ty.now) c.args.octets.now b d c.requires p q
