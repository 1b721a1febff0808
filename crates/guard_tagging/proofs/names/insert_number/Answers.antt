use Rattle.std.proofs.Common.{not, ap}
use Rattle.guard_tagging.proofs.Numbers.Repeated.{none_hit, keys_after, nothing_more}
use Rattle.guard_tagging.proofs.names.insert_number.Goals as goal

pub returns-in-None : goal.returns-in-None
returns-in-None c =
    rw c.in-None.is (record { new = ap not (none_hit c.args.numbers.now.keys); after = λ q. nothing_more _ })

pub returns-in_ok-insert-in-Some-clause-after : goal.returns-in_ok-insert-in-Some-clause-after
returns-in_ok-insert-in-Some-clause-after c =
    rw c.in-Some.is (λ q. keys_after c.insert.new.self.keys c.args.numbers.now.keys c.in-Some.number q
    (c.in_ok-insert-in-Some.ensures.updates.0 q))
