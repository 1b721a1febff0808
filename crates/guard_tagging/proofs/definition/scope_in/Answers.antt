use Rattle.guard_syntax.specs.ModuleViews.{module_view}
use Rattle.guard_names.specs.NamesView.{modules_of, order_of}
use Rattle.guard_tagging.specs.ScopeView.{done_view}
use Rattle.guard_tagging.proofs.Definitions.AtPlaces.{scope_is}
use Rattle.guard_tagging.proofs.definition.scope_in.Goals as goal

pub returns : goal.returns
returns c = scope_is (modules_of c.args.names.now) (order_of c.args.names.now) (done_view c.args.done) c.args.id
    (module_view c.args.home.now) c.unwrap_or.result c.unwrap_or.ensures c.requires
