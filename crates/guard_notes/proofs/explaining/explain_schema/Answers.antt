use Rattle.std.proofs.Common.{◌∙◌, ap, string_bytes, option_map, Option}
use Rattle.std.proofs.lemmas.Result.{IfOk-weaker}
use Rattle.guard_notes.specs.declared.notes.Place.{Place}
use Rattle.guard_notes.specs.Explaining.{note_lines}
use Rattle.guard_notes.specs.Sources.{sources_view}
use Rattle.guard_notes.proofs.explaining.explain_schema.Goals as goal

pub returns : goal.returns
returns c =
    let s = sources_view c.args.sources.now in
    let said = string_bytes c.in_ok-said.said in
    let words = c.in_ok-advice.advice.words.now in
    let more = option_map (λ more. more.now) c.in_ok-advice.advice.more in
    IfOk-weaker c.note_lines.result _ _ (λ note h. (
      said,
      words,
      more,
      c.in_ok-said.ensures,
      (rw c.deref.ensures at h) ∙ ap (λ (p : Option Place). note_lines s p said words more) c.schema_place.ensures,
    )) c.note_lines.ensures
