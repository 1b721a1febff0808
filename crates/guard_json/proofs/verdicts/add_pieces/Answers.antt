use Rattle.std.proofs.Common.{◌≡◌, ◌+◌, ◌-◌, length, take, drop, map, sym, ap, ◌∙◌, eq-eqb, arith}
use Rattle.std.specs.Prelude.{Some, []}
use Rattle.std.proofs.lemmas.Bool.{ne_eqb}
use Rattle.std.proofs.lemmas.List.{drop_all}
use Rattle.guard_json.specs.Members.{both, all_of, shortfall_in, pieces_from}
use Rattle.guard_json.proofs.Drafts.{Adds_nothing, Adds_more, Adds_is, Adds_to, both_first, both_nothing, both_assoc}
use Rattle.guard_json.proofs.Pieces.{part_of, none_of, at_comma, at_other}
use Rattle.guard_json.proofs.verdicts.add_pieces.Goals.{then-octet-eq44, else-octet-eq44}
use Rattle.guard_json.proofs.verdicts.add_pieces.Goals as goal

pub loop-place-init : goal.loop-place-init
loop-place-init c = record { within = omega arith; part = Some []; added = Adds_nothing _; rest = both_first _ }

pub loop-place-preserved : goal.loop-place-preserved
loop-place-preserved c =
    let text = c.args.text.now in
    let start = c.loop-place.start in
    let place = c.loop-place.place in
    let i = c.loop-place.invariant in
    let seen = part_of text start place in
    let more = drop (place + 1) text in
    elim c.if-octet-eq44.branch [
      | then-octet-eq44 w ↦ record {
        within = omega (arith, w.start-is);
        part = both i.part (shortfall_in seen);
        added = Adds_to (Adds_more i.added w.add_shortfall.ensures) w.draft-is;
        rest =
            ap (λ s. both (both i.part (shortfall_in seen)) (all_of (map shortfall_in (pieces_from s more))))
            (none_of text c.if-octet-eq44.start (place + 1) (omega (arith, w.start-is)))
            ∙ both_assoc i.part (shortfall_in seen) (all_of (map shortfall_in (pieces_from [] more)))
            ∙ ap (λ ps. both i.part (all_of (map shortfall_in ps))) (sym (at_comma text seen place c.loop-place-test.true (eq-eqb _ _ w.if-octet-eq44.true)))
            ∙ i.rest;
      }
      | else-octet-eq44 w ↦ record {
        within = omega (arith, w.start-is, i.within);
        part = i.part;
        added = Adds_to i.added w.draft-is;
        rest =
            ap (λ s. both i.part (all_of (map shortfall_in (pieces_from (part_of text s (place + 1)) more)))) w.start-is
            ∙ ap (λ ps. both i.part (all_of (map shortfall_in ps)))
            (sym (at_other text start place i.within c.loop-place-test.true (ne_eqb _ _ w.if-octet-eq44.false)))
            ∙ i.rest;
      }
    ]

pub returns : goal.returns
returns c =
    let text = c.args.text.now in
    let start = c.loop-place.start in
    let place = c.loop-place.place in
    let i = c.loop-place.invariant in
    let seen = part_of text start place in
    let n : length text ≡ place = omega arith in
    let d : drop place text ≡ [] = drop_all place text (omega arith) in
    Adds_is (Adds_more i.added c.add_shortfall-2.ensures)
    (ap (λ e. both i.part (shortfall_in (take (e - start) (drop start text)))) n
    ∙ ap (both i.part) (sym (both_nothing (shortfall_in seen)))
    ∙ ap (λ s. both i.part (all_of (map shortfall_in (pieces_from seen s)))) (sym d)
    ∙ i.rest)
