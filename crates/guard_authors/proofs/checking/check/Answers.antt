use Rattle.std.proofs.Common.{◌∙◌, inl, inr, refl, subst, sym}
use Rattle.guard_policy.specs.PolicyView.{policy_view}
use Rattle.guard_files.specs.Devices.{device_of}
use Rattle.guard_files.specs.Remarked.{AbstractRemarked, WritesRemarked}
use Rattle.guard_authors.proofs.checking.check.Goals as goal

pub returns-in-Ok-checked : goal.returns-in-Ok-checked
returns-in-Ok-checked g c =
    let found = c.in-Ok.found in
    let out = device_of g.O.Sink.taken g.O.Sink.has_failed c.args.out.now c.write_remarked.new.out in
    let err = device_of g.E.Sink.taken g.E.Sink.has_failed c.args.err.now c.write_remarked.new.err in
    let written = subst (λ (r : AbstractRemarked). WritesRemarked r out err c.write_remarked.result) c.in-Ok-checked.ensures c.write_remarked.ensures in
    rw (sym c.asks_too_much.ensures ∙ c.if-asks_too_much.false)
    (inl (policy_view found.0, found.1, c.in-Ok.ensures.numbered, written))

pub returns : goal.returns
returns g c =
    rw (sym c.asks_too_much.ensures ∙ c.if-asks_too_much.false) (inr (inr (refl, c.tell_no_memory.ensures)))
