use Rattle.std.proofs.Common.{inl, inr, refl}
use Rattle.guard_policy.specs.PolicyView.{policy_view}
use Rattle.guard_authors.proofs.comparing.compare_under.Goals as goal

pub returns-in-Err-load : goal.returns-in-Err-load
returns-in-Err-load g c =
    inl (policy_view c.in-Ok.old, g.F.Files.told c.load.new.files, c.in-Ok.ensures.there, c.in-Ok.ensures.later, inr (c.in-Err-load.fault, c.in-Err-load.ensures.none, ((refl, refl), refl, c.tell-in-Err-load.ensures)))

pub returns : goal.returns
returns g c =
    inl (policy_view c.in-Ok.old, g.F.Files.told c.load.new.files, c.in-Ok.ensures.there, c.in-Ok.ensures.later, inl (policy_view c.in-Ok-load.new, c.in-Ok-load.ensures.there, c.compare_frames.ensures))
