use Rattle.std.proofs.Common.{◌++◌, ◌∙◌, [], ap, refl, subst, sym}
use Rattle.std.specs.Prelude.{Option}
use Rattle.guard_frames.specs.declared.gateway.Gateway.{Gateway}
use Rattle.guard_frames.specs.declared.kept.Kept.{Kept}
use Rattle.guard_frames.specs.Gateways.{AbstractEvent as event}
use Rattle.guard_frames.specs.GatewaySteps.{Step}
use Rattle.guard_frames.specs.GatewayView.{gateway_view, gateway_ends}
use Rattle.guard_frames.proofs.Appending.{Appends_trans, Prefix_first, Prefix_second}
use Rattle.guard_policy.specs.PolicyView.{policy_view}
use Rattle.guard_streams.specs.declared.following.Following.{Following}
use Rattle.guard_streams.specs.declared.seen.Seen.{Seen}
use Rattle.guard_streams.specs.LinksCounted.{maybe_counted}
use Rattle.guard_streams.specs.Turns.{renewed_seen}
use Rattle.guard_streams.proofs.Doings.{told_ok, told_err, cut_as_error}
use Rattle.guard_streams.proofs.Renewing.{renewed, renewed_cut, kept_old, kept_cut, unread_none}
use Rattle.guard_streams.proofs.links.Links.reload.Goals as goal

pub returns-in-Ok-clause-done : goal.returns-in-Ok-clause-done
returns-in-Ok-clause-done g c =
    let n = c.note_policy in
    let k = c.count_policy in
    let p = policy_view c.in-Ok.loaded.0 in
    let digest = c.in-Ok.loaded.1.digest in
    let gateway = n.ensures.gateway ∙ k.ensures.gateway in
    told_ok n.result n.ensures.all (λ said out.
    renewed c.args.path.now (g.F.Files.told c.args.files.now) (g.F.Files.told c.load_counted.new.files) c.args.self.now
    n.new.self p digest c.step.result c.step.ensures.added out
    (g.E.Sink.taken c.args.err.now) (g.E.Sink.taken n.new.err) c.requires.ready c.in-Ok.ensures.there.0 c.in-Ok.ensures.later
    (subst (λ (x : Gateway Kept). Step (gateway_view c.args.self.now.gateway) (event.reload p)
    c.step.result c.step.ensures.added (gateway_view x)) (sym gateway) c.step.ensures.step)
    (ap gateway_ends gateway ∙ c.step.ensures.took) (n.ensures.status ∙ k.ensures.status)
    (n.ensures.seen ∙ ap (λ (x : Option Seen). renewed_seen x digest) k.ensures.seen)
    (ap (λ (x : Following). maybe_counted x.counted) n.ensures.followed ∙ k.ensures.counted p digest c.in-Ok.ensures.there.1)
    (rw (← c.messages-messages.ensures, ← c.rules-rules.ensures, ← k.ensures.seen) said))

pub returns-in-Ok-clause-cut : goal.returns-in-Ok-clause-cut
returns-in-Ok-clause-cut g c =
    let n = c.note_policy in
    let k = c.count_policy in
    told_err n.result n.ensures.part (λ s p out failed.
    cut_as_error s _ _ _ _ _ p.0
    (renewed_cut c.args.path.now (g.F.Files.told c.args.files.now) (g.F.Files.told c.load_counted.new.files) c.args.self.now
    c.step.new.self (policy_view c.in-Ok.loaded.0) c.in-Ok.loaded.1.digest c.step.result c.step.ensures.added p.2.0 out
    (g.E.Sink.taken c.args.err.now) (g.E.Sink.taken n.new.err) failed (g.E.Sink.has_failed n.new.err)
    c.in-Ok.ensures.there.0 c.in-Ok.ensures.later c.step.ensures.step p.1
    (rw (← c.messages-messages.ensures, ← c.rules-rules.ensures, ← k.ensures.seen) p.2.1) p.2.2))

pub returns-in-Ok-report-clause-done : goal.returns-in-Ok-report-clause-done
returns-in-Ok-report-clause-done g c =
    let r = c.in-Ok-report.ensures.all in
    let n = c.note_unread in
    told_ok n.result n.ensures.all (λ said out.
    kept_old c.args.path.now (g.F.Files.told c.args.files.now) (g.F.Files.told c.load_counted.new.files) c.args.self.now
    (record { gateway = c.args.self.now.gateway; status = c.max-self.result; seen = c.args.self.now.seen; followed = c.args.self.now.followed })
    c.in-Err.fault r.0 said.0 c.in-Ok-report.status out (g.E.Sink.taken c.args.err.now) (g.E.Sink.taken c.report.new.err)
    (g.E.Sink.taken n.new.err) c.requires.ready c.in-Err.ensures.none c.in-Err.ensures.later r.1 said.1 r.2 said.2
    refl c.max-self.ensures refl refl)

pub returns-in-Ok-report-clause-cut : goal.returns-in-Ok-report-clause-cut
returns-in-Ok-report-clause-cut g c =
    let r = c.in-Ok-report.ensures.all in
    let n = c.note_unread in
    told_err n.result n.ensures.part (λ s p out failed.
    cut_as_error s _ _ _ _ _ p.0
    (kept_cut c.args.path.now (g.F.Files.told c.args.files.now) (g.F.Files.told c.load_counted.new.files) c.args.self.now
    c.in-Err.fault r.0 p.2.0 (r.0 ++ p.2.1) c.in-Ok-report.status out (g.E.Sink.taken c.args.err.now)
    (g.E.Sink.taken n.new.err) failed (g.E.Sink.has_failed n.new.err) c.in-Err.ensures.none c.in-Err.ensures.later r.1
    p.2.2 p.1 (Prefix_second p.2.1 r.0 p.2.0 p.2.3)
    (Appends_trans _ _ _ r.0 p.2.1 r.2 p.2.4)))

pub returns-clause-cut : goal.returns-clause-cut
returns-clause-cut g c = λ out failed. (
    let p = c.in-Err-report.ensures.part in
    kept_cut c.args.path.now (g.F.Files.told c.args.files.now) (g.F.Files.told c.load_counted.new.files) c.args.self.now
    c.in-Err.fault p.0 [] p.2 p.1 out
    (g.E.Sink.taken c.args.err.now) (g.E.Sink.taken c.report.new.err) failed
    (g.E.Sink.has_failed c.report.new.err) c.in-Err.ensures.none c.in-Err.ensures.later p.3
    (unread_none c.args.self.now.seen c.in-Err.fault) c.in-Err-report.ensures.failed
    (Prefix_first p.2 p.0 [] p.4) p.5)
