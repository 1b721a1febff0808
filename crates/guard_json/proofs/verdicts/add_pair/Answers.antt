use Rattle.std.proofs.Common.{◌==◌, bytes_eq, codes, refl, ap, ◌∙◌}
use Rattle.guard_json.specs.Cutting.{place_of, behind, last_two, but_last_two, blank}
use Rattle.guard_json.specs.Members.{only_where, verdict_in}
use Rattle.guard_json.proofs.Drafts.{Adds_two}
use Rattle.guard_json.proofs.verdicts.add_pair.Goals as goal

pub returns : goal.returns
returns c =
    Adds_two c.only_where.ensures
    (ap only_where (c.is.ensures ∙ ap (λ x. bytes_eq x (codes " -")) (c.last_two.ensures ∙ ap last_two c.up_to-old.ensures)))
    (Adds_two c.only_where-2.ensures
    (ap (λ n. only_where (n == 0)) (c.place_of.ensures.place ∙ ap (place_of blank) c.behind-new.ensures))
    (Adds_two c.put.ensures refl
    (Adds_two c.put-2.ensures refl
    (Adds_two c.add_verdict.ensures (ap verdict_in (c.but_last_two.ensures ∙ ap but_last_two c.up_to-old.ensures))
    (Adds_two c.put-3.ensures refl
    (Adds_two c.put-4.ensures refl
    (Adds_two c.put-5.ensures refl
    (Adds_two c.add_verdict-2.ensures (ap verdict_in (c.behind.ensures ∙ ap (behind blank) c.behind-new.ensures))
    c.put-6.ensures))))))))
