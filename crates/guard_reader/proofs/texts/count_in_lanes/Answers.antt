use Rattle.std.proofs.Common.{refl, arith}
use Rattle.std.proofs.lemmas.Simd.{length-chunk, chunk-fits, zip2_splat, zip2_of_maps, splat_is_map}
use lib.Lanes.{chunk}
use mir.Syntax.{w8}
use Rattle.guard_reader.specs.inside.Firsts.{is_first}
use Rattle.guard_reader.proofs.Firsts.{counted_lanes}
use Rattle.guard_reader.proofs.texts.count_in_lanes.Goals as goal

pub returns : goal.returns
returns c =
    let os = c.args.octets.now in
    let v = chunk 0 32 os in
    let long = length-chunk 0 32 os c.requires in
    counted_lanes is_first v _ _ (zip2_of_maps _ _ _ v (zip2_splat _ v 32 192 long) (splat_is_map v 32 128 long))
    (chunk-fits w8 0 32 os c.type_inv.octets) (omega (arith, long)) refl
