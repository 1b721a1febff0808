use Rattle.std.proofs.Common.{◌+◌, ◌∷◌, [], List, length, get_or, slice_get, sym, ap, ◌∙◌}
use Rattle.std.specs.Global.{Global}
use Rattle.std.specs.declared.sync.Arc.{Arc}
use Rattle.std.proofs.lemmas.List.{length-append}
use Rattle.std.proofs.lemmas.Result.{err_from_is_err_and}
use Rattle.guard_model.specs.declared.ty.Ty.{Ty}
use Rattle.guard_names.specs.NamesView.{modules_of, order_of}
use Rattle.guard_names.specs.declared.names.Names.{Names}
use Rattle.guard_schema.specs.Faults.{named}
use Rattle.guard_schema.specs.Known.{none_known}
use Rattle.guard_schema.specs.Views.{definition_view, known_view}
use Rattle.guard_schema.proofs.Built.AllDefinitions.{one_built, one_refused, next_number, none_built, flags_more}
use Rattle.guard_schema.proofs.Built.AllDefinitions.{no_flags}
use Rattle.guard_schema.proofs.Filled.Loops.{no_definition}
use Rattle.guard_schema.proofs.definitions.all_built.Goals as goal

pub loop-id-init : goal.loop-id-init
loop-id-init c =
    let p = c.in_ok-progress.progress in
    let none = c.in_ok-progress.ensures.none in
    record {
      names = c.in_ok-progress.ensures.names;
      count = ap (λ (ts : List (Arc Ty Global)). length ts) none.1;
      many = ap length none.2 ∙ sym (ap (λ (ts : List (Arc Ty Global)). length ts) none.1);
      so_far = none_built c.args.names.now p c.in_ok-progress.ensures.names none.0;
      flags = no_flags (modules_of p.names.now) (order_of p.names.now) p.known.types.items p.automatic.items none.1;
    }

pub built-requires : goal.built-requires
built-requires c =
    let p = c.loop-id.progress in
    let i = c.loop-id.invariant in
    record {
      next = ap (λ (n : Names). slice_get (order_of n) (length p.known.types.items)) i.names
          ∙ next_number (order_of c.args.names.now) c.order-order.result.now c.order-order.ensures.same
          c.loop-id.id-index (length p.known.types.items) 0 i.count c.loop-id-test.true;
      spelled = rw i.names c.requires.spelled;
      flags = i.flags;
    }

pub returns-in_err-definition-clause-built : goal.returns-in_err-definition-clause-built
returns-in_err-definition-clause-built c =
    let e = err_from_is_err_and c.from_residual-in_err-definition.result c.from_residual-in_err-definition.ensures.1 in
    let n = c.args.names.now in
    rw (e.1, e.2) (one_refused (order_of n) c.order-order.result.now c.order-order.ensures.same
    (none_known (modules_of n) (order_of n)) c.loop-id.id-index c.loop-id.progress 0 c.loop-id-test.true
    c.loop-id.invariant.so_far (named c.in_err-definition.field-0.0) c.in_err-definition.ensures.built)

pub loop-id-preserved : goal.loop-id-preserved
loop-id-preserved c =
    let n = c.args.names.now in
    let p = c.loop-id.progress in
    let i = c.loop-id.invariant in
    let q = c.in_ok-more.more in
    let d = c.in_ok-definition.definition in
    let types = c.in_ok-more.ensures.types in
    let flags = c.in_ok-more.ensures.flags in
    let next = ap (λ (m : Names). slice_get (order_of m) (length p.known.types.items)) i.names
    ∙ next_number (order_of n) c.order-order.result.now c.order-order.ensures.same c.loop-id.id-index
    (length p.known.types.items) 0 i.count c.loop-id-test.true in
    record {
      names = c.in_ok-more.ensures.names ∙ i.names;
      count = ap (λ (ts : List (Arc Ty Global)). length ts) types ∙ length-append p.known.types.items (d.ty ∷ [])
          ∙ ap (λ k. k + 1) i.count;
      many = ap length flags ∙ length-append p.automatic.items (d.is_automatic ∷ []) ∙ ap (λ k. k + 1) i.many
          ∙ sym (ap (λ (ts : List (Arc Ty Global)). length ts) types ∙ length-append p.known.types.items (d.ty ∷ []));
      so_far = one_built (order_of n) c.order-order.result.now c.order-order.ensures.same
          (none_known (modules_of n) (order_of n)) c.loop-id.id-index p 0 c.loop-id-test.true i.so_far q
          (definition_view d) c.in_ok-definition.ensures.built c.in_ok-more.ensures.names c.in_ok-more.ensures.more;
      flags = rw c.in_ok-more.ensures.names (flags_more (modules_of p.names.now)
          (order_of p.names.now) p.known.types.items p.automatic.items i.flags i.many d.ty d.is_automatic
          (get_or c.order-order.result.now c.loop-id.id-index 0) next c.in_ok-definition.ensures.automatic
          q.known.types.items q.automatic.items types flags);
    }

pub returns-clause-built : goal.returns-clause-built
returns-clause-built c =
    let n = c.args.names.now in
    no_definition (order_of n) (none_known (modules_of n) (order_of n)) c.loop-id.id-index
    (known_view c.loop-id.progress) (rw c.order-order.ensures.same at c.loop-id-test.false)
    c.loop-id.invariant.so_far
