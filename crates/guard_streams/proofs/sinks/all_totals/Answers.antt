use Rattle.std.proofs.Common.{◌∙◌, ◌+◌, ℕ, ap, sym, drop, arith, add-one}
use Rattle.std.proofs.lemmas.List.{drop_all}
use Rattle.guard_frames.specs.GatewayView.{gateway_view}
use Rattle.guard_frames.specs.LinkView.{link_view}
use Rattle.guard_frames.specs.declared.totals.Totals.{Totals}
use Rattle.guard_streams.specs.Tallying.{both, with_links}
use Rattle.guard_streams.proofs.Doings.{is_there}
use Rattle.guard_streams.proofs.Turning.{drop_there}
use Rattle.guard_streams.proofs.sinks.all_totals.Goals as goal

pub unreachable-requires : goal.unreachable-requires
unreachable-requires c =
    is_there (gateway_view c.args.gateway.now).links c.loop-link.link (omega (arith, c.loop-link-test.true)) c.requires (sym c.in_default.ensures)

pub loop-link-preserved : goal.loop-link-preserved
loop-link-preserved c =
    let links = (gateway_view c.args.gateway.now).links in
    let l = link_view c.in-Some.one.now in
    ap (λ (t : Totals). with_links t (drop (c.loop-link.link + 1) links))
    (c.both-totals.ensures ∙ ap (λ (t : Totals). both c.loop-link.totals t) c.totals.ensures)
    ∙ ap (λ (k : ℕ). with_links (both c.loop-link.totals l.totals) (drop k links)) (add-one c.loop-link.link)
    ∙ sym (ap (with_links c.loop-link.totals) (drop_there links c.loop-link.link l (sym c.in-Some.ensures))) ∙ c.loop-link.invariant

pub returns : goal.returns
returns c =
    let links = (gateway_view c.args.gateway.now).links in
    sym (ap (with_links c.loop-link.totals) (drop_all c.loop-link.link links (omega (arith, c.requires, c.loop-link-test.false))))
    ∙ c.loop-link.invariant
