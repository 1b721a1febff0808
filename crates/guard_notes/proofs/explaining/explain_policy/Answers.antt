use Rattle.std.proofs.Common.{◌∙◌, [], ap, string_bytes, option_map, Option}
use Rattle.std.proofs.lemmas.Result.{IfOk-weaker}
use Rattle.guard_notes.specs.declared.notes.Place.{Place}
use Rattle.guard_notes.specs.Explaining.{note_lines}
use Rattle.guard_notes.specs.Sources.{sources}
use Rattle.guard_notes.proofs.explaining.explain_policy.Goals as goal

pub returns : goal.returns
returns c =
    let s = sources c.args.path.now [] [] in
    let said = string_bytes c.in_ok-said.said in
    let words = c.policy_advice-advice.result.words.now in
    let more = option_map (λ more. more.now) c.policy_advice-advice.result.more in
    IfOk-weaker c.note_lines.result _ _ (λ note h. (
      said,
      words,
      more,
      c.in_ok-said.ensures,
      (rw c.deref-3.ensures at h) ∙ ap (λ (p : Option Place). note_lines s p said words more) c.policy_place.ensures,
    )) c.note_lines.ensures
