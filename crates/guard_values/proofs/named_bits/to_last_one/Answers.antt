use Rattle.std.proofs.Common.{◌≡◌, ◌+◌, ◌-◌, ℕ, take, sym, ap, ◌∙◌, arith}
use Rattle.guard_values.specs.NamedBits.{to_last_one}
use Rattle.guard_values.proofs.SingleValues.NamedBits.{one_fewer, ends_there}
use Rattle.guard_values.proofs.named_bits.to_last_one.Goals as goal

pub loop-count-preserved : goal.loop-count-preserved
loop-count-preserved c =
    let bits = c.args.bits.now in
    let n = c.loop-count.count - 1 in
    let same : n + 1 ≡ c.loop-count.count = omega arith in
    record {
      within = omega arith;
      so_far = sym (one_fewer bits n (omega arith) c.if-bits-count-ne0.false) ∙ ap (λ (k : ℕ). to_last_one (take k bits)) same ∙ c.loop-count.invariant.so_far;
    }

pub returns-then-bits-count-ne0 : goal.returns-then-bits-count-ne0
returns-then-bits-count-ne0 c =
    let bits = c.args.bits.now in
    let n = c.loop-count.count - 1 in
    let same : n + 1 ≡ c.loop-count.count = omega arith in
    ap (λ (k : ℕ). take k bits) (sym same) ∙ sym (ends_there bits n (omega arith) c.if-bits-count-ne0.true) ∙ ap (λ (k : ℕ). to_last_one (take k bits)) same ∙ c.loop-count.invariant.so_far
