use Rattle.std.proofs.Common.{◌≡◌, ◌∙◌, ◌+◌, ◌-◌, suc, ap, sym, arith, add-one}
use Rattle.guard_tables.specs.NodesView.{spots_in}
use Rattle.guard_tables.specs.TableNodes.{spot_at, parts_between}
use Rattle.guard_reader.specs.Fronts.{Front}
use Rattle.guard_reader.specs.inside.Members.{found_at, member_found}
use Rattle.guard_reader.proofs.FrontSteps.{front_within}
use Rattle.guard_reader.proofs.MemberSteps.{member_step, member_end}
use Rattle.guard_reader.proofs.Ranks.{skipped}
use Rattle.guard_reader.proofs.set_members.member.Goals as goal

pub loop-k-init : goal.loop-k-init
loop-k-init c =
    let count : c.args.first + c.args.count - c.args.first ≡ c.args.count = omega arith in
    let place : c.args.first + c.args.passed - c.args.first ≡ c.args.passed = omega arith in
    rw place (rw count at (skipped c.args.table.now c.args.first (c.args.first + c.args.count) c.args.passed c.args.octets.now (omega (arith, c.requires.few)) c.requires.room c.requires.elsewhere))

pub returns-in-Here-clause-found : goal.returns-in-Here-clause-found
returns-in-Here-clause-found c =
    let end = c.args.first + c.args.count in
    let step = member_step c.args.table.now c.loop-k.k end (c.loop-k.k - c.args.first) c.args.octets.now c.loop-k-test.true c.requires.room in
    sym (step ∙ ap (λ (f : Front). found_at (c.loop-k.k - c.args.first) f (member_found (parts_between (spots_in c.args.table.now) (suc c.loop-k.k) (end - suc c.loop-k.k)) (suc (c.loop-k.k - c.args.first)) c.args.octets.now)) (sym c.in-Here.ensures))
    ∙ c.loop-k.invariant

pub returns-in-Here-clause-shorter : goal.returns-in-Here-clause-shorter
returns-in-Here-clause-shorter c =
    (front_within (spot_at (spots_in c.args.table.now) c.loop-k.k).plan c.args.octets.now c.in-Here.inside.now c.in-Here.rest.now (sym c.in-Here.ensures)).rest_room

pub returns-in-Broken-clause-found : goal.returns-in-Broken-clause-found
returns-in-Broken-clause-found c =
    let end = c.args.first + c.args.count in
    let step = member_step c.args.table.now c.loop-k.k end (c.loop-k.k - c.args.first) c.args.octets.now c.loop-k-test.true c.requires.room in
    sym (step ∙ ap (λ (f : Front). found_at (c.loop-k.k - c.args.first) f (member_found (parts_between (spots_in c.args.table.now) (suc c.loop-k.k) (end - suc c.loop-k.k)) (suc (c.loop-k.k - c.args.first)) c.args.octets.now)) (sym c.in-Broken.ensures))
    ∙ c.loop-k.invariant

pub loop-k-preserved : goal.loop-k-preserved
loop-k-preserved c =
    let end = c.args.first + c.args.count in
    let step = member_step c.args.table.now c.loop-k.k end (c.loop-k.k - c.args.first) c.args.octets.now c.loop-k-test.true c.requires.room in
    let place : c.loop-k.k + 1 - c.args.first ≡ suc (c.loop-k.k - c.args.first) = omega (arith, c.loop-k.auto.k) in
    rw (place, add-one) (sym (step ∙ ap (λ (f : Front). found_at (c.loop-k.k - c.args.first) f (member_found (parts_between (spots_in c.args.table.now) (suc c.loop-k.k) (end - suc c.loop-k.k)) (suc (c.loop-k.k - c.args.first)) c.args.octets.now)) (sym c.in-Elsewhere.ensures))
    ∙ c.loop-k.invariant)

pub returns-clause-found : goal.returns-clause-found
returns-clause-found c =
    sym (member_end c.args.table.now c.loop-k.k (c.args.first + c.args.count) (c.loop-k.k - c.args.first) c.args.octets.now (omega (arith, c.loop-k-test.false))) ∙ c.loop-k.invariant
