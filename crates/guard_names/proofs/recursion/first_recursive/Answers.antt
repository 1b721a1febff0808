use Rattle.std.proofs.Common.{◌≡◌, map, length, sym, ◌∙◌, ap, arith}
use Rattle.std.specs.Prelude.{replicate}
use Rattle.std.proofs.lemmas.List.{length-map}
use Rattle.guard_names.specs.declared.recursion.Mark.TheVariants.{New}
use Rattle.guard_names.proofs.Recursive.Searching.{none_searched, first_of_search, met_is_done}
use Rattle.guard_names.proofs.recursion.first_recursive.Goals as goal

pub returns : goal.returns
returns c =
    let us = map (λ v. v.items) c.args.uses.now in
    let count : length us ≡ length c.args.uses.now = length-map c.args.uses.now (λ v. v.items) in
    let inv = c.loop-number.invariant in
    first_of_search us _ c.loop-number.search.first inv.search.is_least
    (λ k h. met_is_done us _ _ _ _ _ inv.search inv.idle k (inv.met k (omega (arith, h, count))))

pub loop-number-init : goal.loop-number-init
loop-number-init c =
    let us = map (λ v. v.items) c.args.uses.now in
    let count : length us ≡ length c.args.uses.now = length-map c.args.uses.now (λ v. v.items) in
    let e = c.in_ok-search.ensures in
    record {
      search = rw (e.path, e.parts, e.pending, e.first) (none_searched us c.in_ok-search.search.marks.items (e.marks ∙ ap (λ n. replicate n New) (sym count)));
      idle = e.path;
      met = λ k below. absurd (omega (arith, below));
    }
