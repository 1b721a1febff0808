use Rattle.std.proofs.Common.{take, map, ap, sym, ◌∙◌, arith}
use Rattle.std.proofs.lemmas.List.{take_all, take_more}
use Rattle.std.proofs.lemmas.Simd.{length-chunk}
use Rattle.guard_reader.proofs.Lanes.{none_yet, with_range, none_outside, outside}
use Rattle.guard_reader.proofs.alphabet.are_first_in.Goals as goal

pub loop-low-init : goal.loop-low-init
loop-low-init c = none_yet (take 32 c.args.octets.now)

pub loop-low-preserved : goal.loop-low-preserved
loop-low-preserved c =
    let xs = take 32 c.args.octets.now in
    let rs = c.args.ranges.now in
    with_range (take c.loop-low.low-index rs) _ xs _ 32 (length-chunk 0 32 c.args.octets.now c.requires) c.loop-low.invariant
    ∙ sym (ap (λ l. map (outside l) xs) (take_more rs c.loop-low.low-index (0, 0) (omega (arith))))

pub returns : goal.returns
returns c =
    let rs = c.args.ranges.now in
    let xs = take 32 c.args.octets.now in
    none_outside rs xs c.loop-low.outside (omega (arith, length-chunk 0 32 c.args.octets.now c.requires))
    (c.loop-low.invariant ∙ ap (λ l. map (outside l) xs) (take_all c.loop-low.low-index rs (omega arith)))
