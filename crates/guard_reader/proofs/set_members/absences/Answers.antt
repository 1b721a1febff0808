use Rattle.std.proofs.Common.{◌≡◌, ◌∙◌, ◌+◌, ◌-◌, ◌<◌, suc, sym, arith, add-one}
use Rattle.std.specs.Prelude.{true, false, Some, None}
use Rattle.guard_reader.specs.Judging.{is_read}
use Rattle.guard_reader.proofs.SetSteps.{absences_read, absences_unread, absences_end}
use Rattle.guard_reader.proofs.Steps.{yes, no}
use Rattle.guard_reader.proofs.set_members.absences.Goals as goal

pub is_read-was_read-requires : goal.is_read-was_read-requires
is_read-was_read-requires c = omega (arith, c.loop-k-test.true, c.requires.few)

pub loop-k-preserved-then-was_read : goal.loop-k-preserved-then-was_read
loop-k-preserved-then-was_read c = λ places read.
    let place : c.loop-k.k + 1 - c.args.first ≡ suc (c.loop-k.k - c.args.first) = omega (arith, c.loop-k.auto.k) in
    let low : c.loop-k.k - c.args.first < 64 = omega (arith, c.loop-k-test.true, c.requires.few) in
    let tested : is_read places (c.loop-k.k - c.args.first) ≡ true = sym (c.is_read-was_read.ensures ∙ read (c.loop-k.k - c.args.first) low) ∙ c.if-was_read.true in
    rw (place, add-one) (sym (absences_read c.args.table.now c.loop-k.k (c.args.first + c.args.count) (c.loop-k.k - c.args.first) places c.loop-k.failed c.loop-k-test.true c.requires.room tested) ∙ c.loop-k.invariant places read)

pub returns-then-not-absent : goal.returns-then-not-absent
returns-then-not-absent c = λ places read.
    let low : c.loop-k.k - c.args.first < 64 = omega (arith, c.loop-k-test.true, c.requires.few) in
    let tested : is_read places (c.loop-k.k - c.args.first) ≡ false = sym (c.is_read-was_read.ensures ∙ read (c.loop-k.k - c.args.first) low) ∙ c.if-was_read.false in
    sym (c.loop-k.invariant places read)
    ∙ absences_unread c.args.table.now c.loop-k.k (c.args.first + c.args.count) (c.loop-k.k - c.args.first) places c.loop-k.failed None c.loop-k-test.true c.requires.room tested (no c.absent.result c.absent.new.failed _ c.absent.ensures c.if-not-absent.true)

pub loop-k-preserved : goal.loop-k-preserved
loop-k-preserved c = λ places read.
    let place : c.loop-k.k + 1 - c.args.first ≡ suc (c.loop-k.k - c.args.first) = omega (arith, c.loop-k.auto.k) in
    let low : c.loop-k.k - c.args.first < 64 = omega (arith, c.loop-k-test.true, c.requires.few) in
    let tested : is_read places (c.loop-k.k - c.args.first) ≡ false = sym (c.is_read-was_read.ensures ∙ read (c.loop-k.k - c.args.first) low) ∙ c.if-was_read.false in
    rw (place, add-one) (sym (absences_unread c.args.table.now c.loop-k.k (c.args.first + c.args.count) (c.loop-k.k - c.args.first) places c.loop-k.failed (Some c.absent.new.failed) c.loop-k-test.true c.requires.room tested (yes c.absent.result c.absent.new.failed _ c.absent.ensures c.if-not-absent.false)) ∙ c.loop-k.invariant places read)

pub returns : goal.returns
returns c = λ places read.
    sym (c.loop-k.invariant places read) ∙ absences_end c.args.table.now c.loop-k.k (c.args.first + c.args.count) (c.loop-k.k - c.args.first) places c.loop-k.failed (omega (arith, c.loop-k-test.false))
