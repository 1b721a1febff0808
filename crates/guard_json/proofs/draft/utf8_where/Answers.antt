use Rattle.std.proofs.Common.{◌&&◌, cond, sym, ap, ap₂, ◌∙◌, subst, IsUtf8}
use Rattle.std.specs.Prelude.{Some, None}
use Rattle.std.specs.Str.{is_utf8}
use Rattle.std.proofs.lemmas.Str.{is_utf8-from_IsUtf8}
use Rattle.guard_json.proofs.Drafts.{not_utf8}
use Rattle.guard_json.proofs.draft.utf8_where.Goals as goal

pub returns-then-not-holds : goal.returns-then-not-holds
returns-then-not-holds c =
    let w = c.args.octets.now in
    sym (ap (λ t. cond (t && is_utf8 w) (Some w) None) c.if-not-holds.true)

pub fact_in-text : goal.fact_in-text
fact_in-text c = subst IsUtf8 (sym c.in-Ok.ensures.cases.0) c.in-Ok.ensures.cases.1

pub returns-in-Ok : goal.returns-in-Ok
returns-in-Ok c =
    let w = c.args.octets.now in
    ap Some c.in-Ok.ensures.cases.0
    ∙ sym (ap₂ (λ t u. cond (t && u) (Some w) None) c.if-not-holds.false (is_utf8-from_IsUtf8 w c.in-Ok.ensures.cases.1))

pub returns-in-Err : goal.returns-in-Err
returns-in-Err c =
    let w = c.args.octets.now in
    sym (ap₂ (λ t u. cond (t && u) (Some w) None) c.if-not-holds.false (not_utf8 w c.in-Err.ensures.cases.0))
