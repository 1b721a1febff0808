use Rattle.std.proofs.Common.{map, sym}
use Rattle.std.proofs.lemmas.List.Elements.{All-get_or}
use Rattle.guard_syntax.specs.ModuleViews.{module_view}
use Rattle.guard_names.specs.TableViews.{origin_in}
use Rattle.guard_names.specs.inside.Numbered.{IsNumbered}
use Rattle.guard_names.proofs.Declared.Keys.{own_origin, passes_unknown, takes_number, after_insert}
use Rattle.guard_names.proofs.meanings.Meanings.of.Goals as goal

pub loop-declaration-preserved-in_default : goal.loop-declaration-preserved-in_default
loop-declaration-preserved-in_default c = λ home name.
    let origins = origin_in c.args.table.now in
    let own = own_origin origins c.args.declarations.now c.loop-declaration.declaration-index _ c.loop-declaration-test.true c.requires.once c.requires.origins in
    passes_unknown (map module_view c.args.modules.now) origins c.args.declarations.now c.loop-declaration.declaration-index _ c.loop-declaration-test.true own
    (sym c.in_default.ensures) home name _ (c.loop-declaration.invariant home name)

pub loop-declaration-preserved : goal.loop-declaration-preserved
loop-declaration-preserved c = λ home name.
    let ms = map module_view c.args.modules.now in
    let origins = origin_in c.args.table.now in
    let own = own_origin origins c.args.declarations.now c.loop-declaration.declaration-index _ c.loop-declaration-test.true c.requires.once c.requires.origins in
    let numbered = All-get_or (IsNumbered ms) c.args.declarations.now c.loop-declaration.declaration-index _ c.loop-declaration-test.true c.requires.numbered in
    takes_number ms origins c.args.declarations.now c.loop-declaration.declaration-index _ c.loop-declaration-test.true own
    numbered.0 c.key_of.result c.key_of.ensures.name c.key_of.ensures.scope c.in-Some.number (sym c.in-Some.ensures) home name _ _
    (c.loop-declaration.invariant home name)
    (after_insert ms home name c.loop-declaration.numbers.entries c.insert.new.self.entries c.key_of.result c.in-Some.number c.in_ok-insert.ensures.updates.0)
