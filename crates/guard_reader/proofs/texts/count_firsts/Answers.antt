use Rattle.std.proofs.Common.{◌+◌, ◌-◌, take, drop, length, ap, ◌∙◌, arith}
use Rattle.std.specs.List.{count_by}
use Rattle.std.proofs.lemmas.List.{take_all, length-drop, length-take-le}
use Rattle.guard_reader.specs.inside.Firsts.{is_first}
use Rattle.guard_reader.proofs.Firsts.{goes_on, few}
use Rattle.guard_reader.proofs.texts.count_firsts.Goals as goal

pub loop-rest-init : goal.loop-rest-init
loop-rest-init c = record {
  counted = omega arith;
  room = omega arith;
}

pub overflow_add-count : goal.overflow_add-count
overflow_add-count c =
    let os = c.loop-rest.rest.now in
    omega (arith, c.loop-rest.invariant.room, c.count_in_lanes-count.ensures, few (take 32 os), length-take-le 32 os c.loop-rest-test.true)

pub loop-rest-preserved : goal.loop-rest-preserved
loop-rest-preserved c =
    let os = c.loop-rest.rest.now in
    let same = take_all (length os - 32) (drop 32 os) (omega (arith, length-drop 32 os)) in
    record {
      counted =
          ap (λ l. (c.loop-rest.count + c.count_in_lanes-count.result) + count_by is_first l) same
          ∙ goes_on os c.loop-rest.count c.count_in_lanes-count.result _ c.count_in_lanes-count.ensures c.loop-rest.invariant.counted;
      room = omega (arith, ap length same, length-drop 32 os, c.loop-rest.invariant.room, c.count_in_lanes-count.ensures, few (take 32 os), length-take-le 32 os c.loop-rest-test.true);
    }
