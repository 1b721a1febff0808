use Rattle.std.proofs.Common.{◌≡◌, ◌≤◌, ℕ, false, List, [], ◌∷◌, length, map, Option, None, refl, sym, arith}
use Rattle.guard_model.specs.declared.site.Site.{Site}
use Rattle.guard_syntax.specs.Trees as written
use Rattle.guard_syntax.specs.Trees.{WrittenValue, WrittenEntries, entry, value_node, entries_of}
use Rattle.guard_syntax.specs.Views as trees
use Rattle.guard_syntax.specs.declared.tree.EntryTree.{EntryTree}
use Rattle.guard_values.specs.Forms.{are_too_few_arcs}
use Rattle.guard_values.proofs.elements.are_too_few_arcs.Goals as goal

more : (site : Site) (name : Option (List ℕ)) (tree : WrittenValue) (other : Site) (called : Option (List ℕ)) (second : WrittenValue) (rest : WrittenEntries) → are_too_few_arcs (entry site name tree (entry other called second rest)) ≡ false
more site None (value_node s (written.integer n)) other called second rest = refl
more site name tree other called second rest = refl

several : (es : List EntryTree) → 2 ≤ length es → are_too_few_arcs (entries_of (map trees.entry_view es)) ≡ false
several [] le = absurd (omega (arith, le))
several (e ∷ []) le = absurd (omega (arith, le))
several (e ∷ f ∷ es) le =
    let one = trees.entry_view e in
    let other = trees.entry_view f in
    more one.site one.name one.value other.site other.name other.value (entries_of (map trees.entry_view es))

pub returns-in_default : goal.returns-in_default
returns-in_default c = sym (several c.args.entries.now (let h = c.in_default.len_at_least in omega (arith, h)))
