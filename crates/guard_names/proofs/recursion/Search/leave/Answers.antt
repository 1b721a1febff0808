use Rattle.std.proofs.Common.{◌∙◌}
use Rattle.guard_names.proofs.Recursive.Searching.{searched_leaving}
use Rattle.guard_names.proofs.Recursive.Lists.{rest_is}
use Rattle.guard_names.proofs.recursion.Search.leave.Goals as goal

pub returns-clause-search : goal.returns-clause-search
returns-clause-search c = λ us s before.
    searched_leaving us c.args.self.now.marks.items c.deref_mut.result.now c.mark_done.new.marks c.args.self.now.marks.len c.args.self.now.path.items c.deref.result.now c.truncate.new.self.items
    c.args.self.now.parts.items c.pop.new.self.items c.requires.last.0 c.args.part c.args.self.now.pending.items c.args.self.now.first c.first_with-self.result
    s c.requires.last.1 (c.pop.ensures.rest ∙ rest_is c.args.self.now.parts.items c.requires.last.0 c.args.part _ c.requires.last.1 c.args.self.now.parts.ok.0)
    c.deref.ensures.value c.deref_mut.ensures.value c.truncate.ensures.items before c.mark_done.auto.marks c.args.self.now.marks.ok.0
    c.mark_done.ensures.listed c.mark_done.ensures.others c.first_with-self.ensures
