use Rattle.std.proofs.Common.{refl, arith}
use Rattle.std.proofs.lemmas.List.{drop_all}
use Rattle.guard_der.specs.Head.{head_of}
use Rattle.guard_report.proofs.Headers.{found_within}
use Rattle.guard_report.proofs.places.header_there.Goals as goal

pub returns-then-octets-at-clause-header : goal.returns-then-octets-at-clause-header
unfolding head_of
returns-then-octets-at-clause-header c = rw (c.in_ok-at.was, drop_all c.in_ok-at.at c.args.octets.now (omega (arith, c.if-octets-at.true))) refl

pub returns-clause-within : goal.returns-clause-within
returns-clause-within c =
    rw (c.in_ok-at.was, c.ok.ensures.value)
    (found_within c.args.octets.now c.in_ok-at.at c.header.result (omega (arith, c.if-octets-at.false)) c.header.ensures.stands)
