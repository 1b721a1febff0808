use Rattle.std.proofs.Common.{◌∙◌, ◌+◌, ◌≤◌, ℕ, List, ap, arith, drop, length, refl, subst, sym, take}
use Rattle.std.proofs.lemmas.List.{drop-drop, length-drop, take_rest}
use Rattle.guard_frames.specs.Frames.{IsFrame}
use Rattle.guard_messages.proofs.LinkedFrames.{frames_more}
use Rattle.guard_messages.proofs.linked.pass.Goals as goal

pub loop-frame-preserved : goal.loop-frame-preserved
loop-frame-preserved c =
    let i = c.loop-frame.invariant in
    let p = i.passed in
    let octets = c.args.octets.now in
    let at = c.loop-frame.at in
    let size = length c.in-Frame.frame.octets.now in
    let first = c.in-Frame.ensures in
    let same = take_rest octets at in
    let left = length-drop at octets in
    let fits : size ≤ length (drop at octets) = subst (λ (s : List ℕ). size ≤ length s) same first.within in
    let frame : IsFrame (take size (drop at octets)) = subst IsFrame (first.front ∙ ap (take size) same) first.is in
    record {
      within = omega (arith, i.within, left, fits);
      passed = (
        p.0 + 1,
        omega (arith, p.1, c.if-before-eq0.false),
        frames_more octets (drop at octets) (drop (at + size) octets) p.0 size (p.0 + 1) p.2 frame
            (sym (drop-drop size at octets)) refl,
      );
    }
