use Rattle.std.proofs.Common.{◌≡◌, ◌∷◌, [], ◌+◌, suc, length, map, ap, ◌∙◌, arith}
use Rattle.std.specs.Prelude.{IsUtf8}
use Rattle.guard_syntax.specs.Trees.{WrittenModule}
use Rattle.std.proofs.lemmas.Result.{err_from_is_err_and}
use Rattle.std.proofs.lemmas.List.{length-map, length-append, map-append}
use Rattle.std.proofs.lemmas.List.Elements.{All-same, All-append, All-cons, All-nil}
use Rattle.guard_syntax.specs.ModuleViews.{module_view}
use Rattle.guard_tagging.specs.Spelled.{IsSpelledModule}
use Rattle.guard_schema.specs.Faults.{named}
use Rattle.guard_schema.proofs.Modules.Texts.{text_refuses, text_read, no_text}
use Rattle.guard_schema.proofs.texts.modules.Goals as goal

pub returns-in_err-module-clause-read : goal.returns-in_err-module-clause-read
returns-in_err-module-clause-read c =
    let p = err_from_is_err_and c.from_residual-in_err-module.result c.from_residual-in_err-module.ensures.1 in
    let before = map module_view c.loop-text.modules.items in
    let place : c.len.result + 1 ≡ suc (length before) =
    omega (arith, c.len.ensures, length-map c.loop-text.modules.items module_view) in
    rw (p.1, p.2) (text_refuses c.args.texts.now c.loop-text.text-index before _ c.loop-text-test.true
    c.loop-text.invariant.so_far (named c.in_err-module.field-0.0) _ place c.in_err-module.ensures.read)

pub loop-text-preserved : goal.loop-text-preserved
loop-text-preserved c =
    let before = map module_view c.loop-text.modules.items in
    let m = c.in_ok-module.field-0 in
    let place : c.len.result + 1 ≡ suc (length before) =
    omega (arith, c.len.ensures, length-map c.loop-text.modules.items module_view) in
    let more = ap (map module_view) c.in_ok-push.ensures.items
    ∙ map-append module_view c.loop-text.modules.items (m ∷ []) in
    record {
      count = ap length c.in_ok-push.ensures.items ∙ length-append c.loop-text.modules.items (m ∷ [])
          ∙ ap (λ n. n + 1) c.loop-text.invariant.count;
      so_far = text_read c.args.texts.now c.loop-text.text-index before _ c.loop-text-test.true
          c.loop-text.invariant.so_far _ place (module_view m) c.in_ok-module.ensures.read _ more;
      named = All-same (λ (x : WrittenModule). IsUtf8 x.name) _ _ more
          (All-append (λ (x : WrittenModule). IsUtf8 x.name) before (module_view m ∷ []) c.loop-text.invariant.named
          (All-cons (λ (x : WrittenModule). IsUtf8 x.name) (module_view m) [] c.in_ok-module.ensures.named
          (All-nil (λ (x : WrittenModule). IsUtf8 x.name))));
      spelled = All-same IsSpelledModule _ _ more
          (All-append IsSpelledModule before (module_view m ∷ []) c.loop-text.invariant.spelled
          (All-cons IsSpelledModule (module_view m) [] c.in_ok-module.ensures.spelled (All-nil IsSpelledModule)));
    }

pub returns-clause-read : goal.returns-clause-read
returns-clause-read c = no_text c.args.texts.now c.loop-text.text-index
    (map module_view c.loop-text.modules.items) c.loop-text-test.false c.loop-text.invariant.so_far
