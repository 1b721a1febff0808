-- The table is held against the definition at each of the 256 octets, by computing.
use Rattle.std.proofs.Common.{refl, arith, not, nat_eq, get_or}
use Rattle.std.proofs.lemmas.Bool.{agree_below_at}
use Rattle.guard_policy.specs.declared.route.TheConstants.{NAME_OCTETS}
use Rattle.guard_policy.specs.Names.{is_name_octet}
use Rattle.guard_policy.proofs.route.is_name_octet.Goals as goal

pub returns : goal.returns
returns c = agree_below_at (λ k. not (nat_eq (get_or NAME_OCTETS k 0) 44)) is_name_octet 256 c.args.octet refl (omega arith)
