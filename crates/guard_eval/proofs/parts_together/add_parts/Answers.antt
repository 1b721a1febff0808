use Rattle.std.proofs.Common.{◌&&◌, Bool, false, map, sym, ap, ◌∙◌}
use Rattle.std.specs.Option.{is_none}
use Rattle.std.proofs.Math.Bool.{and_assoc}
use Rattle.guard_model.specs.TypeView.{kind_view, part_view, parts_of}
use Rattle.guard_eval.specs.Presence.{first_intruder}
use Rattle.guard_eval.specs.inside.PartsTogether.{meets, passes_listed}
use Rattle.guard_eval.proofs.PartsTogether.{and_true}
use Rattle.guard_eval.proofs.parts_together.add_parts.Goals as goal

pub returns-then-not-partial-clause-added : goal.returns-then-not-partial-clause-added
returns-then-not-partial-clause-added c = λ v.
    let k = kind_view c.args.kind.now in
    let ps = parts_of (map part_view c.args.parts.now) in
    let old = meets c.args.demands.now k v in
    let listed = passes_listed ps c.args.partial k v in
    c.rule_out.ensures.added v ∙ ap (λ (b : Bool). b && is_none (first_intruder false k ps v)) (c.in_ok-add_listed.ensures.added v) ∙ and_assoc old listed (is_none (first_intruder false k ps v))
    ∙ ap (λ (b : Bool). old && (listed && is_none (first_intruder b k ps v))) (sym c.if-not-partial.true)

pub returns-else-not-partial-clause-added : goal.returns-else-not-partial-clause-added
returns-else-not-partial-clause-added c = λ v.
    let k = kind_view c.args.kind.now in
    let ps = parts_of (map part_view c.args.parts.now) in
    let old = meets c.args.demands.now k v in
    let listed = passes_listed ps c.args.partial k v in
    c.in_ok-add_listed.ensures.added v ∙ ap (λ (b : Bool). old && b) (sym (and_true listed))
    ∙ ap (λ (b : Bool). old && (listed && is_none (first_intruder b k ps v))) (sym c.if-not-partial.false)
