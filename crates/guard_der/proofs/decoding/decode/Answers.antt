use Rattle.std.proofs.Common.{arith}
use Rattle.guard_model.specs.TypeView.{type_view}
use Rattle.guard_der.proofs.Numbers.Digits.{are_digits}
use Rattle.guard_der.proofs.Types.Messages.{is_decoded, is_only, is_breach, is_breach_only}
use Rattle.guard_der.proofs.decoding.decode.Goals as goal

pub returns-clause-decoded : goal.returns-clause-decoded
returns-clause-decoded c = is_decoded (type_view c.args.ty.now) c.args.octets.now c.message.result (are_digits 256 c.args.octets.now (λ i _. omega (arith, c.type_inv.octets i))) c.requires c.message.ensures

pub returns-clause-only : goal.returns-clause-only
returns-clause-only c = is_only (type_view c.args.ty.now) c.args.octets.now c.message.result c.requires c.message.ensures

pub returns-clause-breach : goal.returns-clause-breach
returns-clause-breach c = is_breach (type_view c.args.ty.now) c.args.octets.now c.message.result (are_digits 256 c.args.octets.now (λ i _. omega (arith, c.type_inv.octets i))) c.requires c.message.ensures

pub returns-clause-breach_only : goal.returns-clause-breach_only
returns-clause-breach_only c = is_breach_only (type_view c.args.ty.now) c.args.octets.now c.message.result c.requires c.message.ensures
