use Rattle.std.proofs.Common.{◌≡◌, ◌↔◌, true, length, Result, Ok, Err, sym, subst}
use Rattle.std.specs.Prelude.{Bool, IfOk}
use Rattle.std.proofs.lemmas.Result.{err_from_is_err_and}
use Rattle.guard_model.specs.TypeView.{type_view}
use Rattle.guard_names.specs.Declarations.{definitions}
use Rattle.guard_names.specs.Meanings.{Uses}
use Rattle.guard_names.specs.NamesView.{modules_of, order_of}
use Rattle.guard_names.proofs.InOrder.Placing.{listed_there, order_below}
use Rattle.guard_tagging.specs.Automatic.{Automatic}
use Rattle.guard_tagging.proofs.Builds.{no_such}
use Rattle.guard_schema.specs.declared.fault.SchemaFault.{SchemaFault}
use Rattle.guard_schema.specs.declared.progress.Definition.{Definition}
use Rattle.guard_schema.specs.Faults.{named}
use Rattle.guard_schema.proofs.Built.OneDefinition.{tagged_ready, built_refused, built_whole}
use Rattle.guard_schema.proofs.definitions.built.Goals as goal

-- an identifier in the order is that of a definition
pub unreachable-requires : goal.unreachable-requires
unreachable-requires c =
    let n = c.args.progress.now.names.now in
    let ms = modules_of n in
    no_such (definitions ms) c.args.id
    (order_below (length (definitions ms)) (Uses ms) (order_of n) n.ordered c.args.id
    (listed_there (order_of n) (length c.args.progress.now.known.types.items) c.args.id c.requires.next))
    c.in_default.ensures

pub completed-requires-clause-ready : goal.completed-requires-clause-ready
completed-requires-clause-ready c = tagged_ready c.args.progress.now c.args.id _ c.in-Some.ensures
    (type_view c.in_ok-tagged.tagged.ty) c.in_ok-tagged.ensures.tagged

pub returns-in_err-tagged-clause-built : goal.returns-in_err-tagged-clause-built
returns-in_err-tagged-clause-built c =
    let p = err_from_is_err_and c.from_residual.result c.from_residual.ensures.1 in
    rw (p.1, p.2) (built_refused c.args.progress.now c.args.id _ c.in-Some.ensures
    (named c.in_err-tagged.field-0.0) c.in_err-tagged.ensures.tagged)

pub returns-clause-built : goal.returns-clause-built
returns-clause-built c =
    built_whole c.args.progress.now c.args.id _ c.in-Some.ensures
    (type_view c.in_ok-tagged.tagged.ty) c.in_ok-tagged.ensures.tagged c.completed.result c.completed.ensures.built

-- what is kept of the flag
flag_kept : (result : Result Definition SchemaFault) (flag : Bool) (P : Type 0) → (flag ≡ true) ↔ P
    → IfOk result (λ d. d.is_automatic ≡ flag) → IfOk result (λ d. (d.is_automatic ≡ true) ↔ P)
flag_kept (Ok d) flag P says same = subst (λ (b : Bool). (b ≡ true) ↔ P) (sym same) says
flag_kept (Err f) flag P says same = tt

pub returns-clause-automatic : goal.returns-clause-automatic
returns-clause-automatic c =
    flag_kept c.completed.result c.in_ok-tagged.tagged.is_automatic
    (Automatic (modules_of c.args.progress.now.names.now) c.args.id)
    c.in_ok-tagged.ensures.automatic c.completed.ensures.automatic
