use Rattle.std.proofs.Common.{List, ℕ, string_bytes, subst}
use Rattle.std.specs.Prelude.{IfOk}
use Rattle.guard_notes.specs.TokenNotes.{ByTokens, undefined_lines}
use Rattle.guard_notes.proofs.explaining.said_of_name.Goals as goal

pub returns-in-Some : goal.returns-in-Some
returns-in-Some c =
    let site = c.in-Some.site in
    let said = subst (λ (text : List ℕ). IfOk c.said_of_undefined.result (λ lines. ByTokens site.text text (undefined_lines text site) (string_bytes lines)))
    c.module_text.ensures c.said_of_undefined.ensures in
    rw c.in-Some.is said
