use Rattle.std.proofs.Common.{ℕ, ◌+◌, Bool, List, [], ◌∷◌, ◌++◌, All, length, map, get_or, sym, ap, subst, ◌∙◌, arith}
use Rattle.std.specs.Global.{Global}
use Rattle.std.specs.declared.sync.Arc.{Arc}
use Rattle.std.specs.Prelude.{IsTrue}
use Rattle.std.proofs.lemmas.List.{length-map, length_push}
use Rattle.std.proofs.lemmas.List.Elements.{All-push}
use Rattle.guard_model.specs.TypeView.{shared_type_view, type_view}
use Rattle.guard_model.specs.declared.ty.Ty.{Ty}
use Rattle.guard_names.specs.NamesView.{modules_of, order_of}
use Rattle.guard_tagcheck.specs.Limits.{is_within_limits}
use Rattle.guard_tagging.specs.Faults.{nodes}
use Rattle.guard_tagging.specs.ScopeView.{known_list}
use Rattle.guard_tagging.specs.Skeletons.{AreMeanings}
use Rattle.guard_tagging.specs.Surroundings.{nodes_of_all}
use Rattle.guard_tagging.proofs.Definitions.Meanings.{none_yet}
use Rattle.conformance_texts.proofs.OneMore.{known_more, sum_more, listed, IsKept}
use Rattle.conformance_texts.proofs.skeletons.number_of_types.Goals as goal

pub loop-id-init : goal.loop-id-init
loop-id-init c =
    let ms = modules_of c.args.names.now in
    let order = order_of c.args.names.now in
    let types = c.new-types.ensures.items in
    let flags = c.new-automatic.ensures.items in
    record {
      built = ap length types;
      flagged = ap length flags;
      known = subst (λ (ts : List (Arc Ty Global)). AreMeanings ms order (map shared_type_view ts) (known_list (map shared_type_view ts) c.new-automatic.result.items)) (sym types) (none_yet ms order);
      counted = ap (λ (ts : List (Arc Ty Global)). nodes_of_all (map shared_type_view ts)) (sym types);
      few = omega arith;
      limits = subst (All IsKept) (sym types) (λ k d lt. absurd (omega (arith, lt)));
    }

pub skeleton_after-requires-clause-next : goal.skeleton_after-requires-clause-next
skeleton_after-requires-clause-next c =
    listed (order_of c.args.names.now) c.order-id-items.result.now c.loop-id.id-index (length c.deref.result.now) c.order-id-items.ensures.same (ap length c.deref.ensures.value ∙ c.loop-id.invariant.built) c.loop-id-test.true

pub loop-id-preserved : goal.loop-id-preserved
loop-id-preserved c =
    let ms = modules_of c.args.names.now in
    let order = order_of c.args.names.now in
    let types = c.loop-id.types.items in
    let flags = c.loop-id.automatic.items in
    let ty = c.in_ok-shared.shared in
    let kept = sym c.in_ok-shared.ensures.ok in
    let flag = c.in_ok-next.next.is_automatic in
    let number = get_or c.order-id-items.result.now c.loop-id.id-index 0 in
    let inv = c.loop-id.invariant in
    let more_types = c.in_ok-push-2.ensures.items in
    let more_flags = c.in_ok-push.ensures.items in
    let next = listed order c.order-id-items.result.now c.loop-id.id-index (length (map shared_type_view types)) c.order-id-items.ensures.same (length-map types shared_type_view ∙ inv.built) c.loop-id-test.true in
    record {
      built = ap length more_types ∙ length_push types ty ∙ ap (λ (n : ℕ). n + 1) inv.built;
      flagged = ap length more_flags ∙ length_push flags flag ∙ ap (λ (n : ℕ). n + 1) inv.flagged;
      known = subst (λ (ts : List (Arc Ty Global)). AreMeanings ms order (map shared_type_view ts) (known_list (map shared_type_view ts) c.push.new.self.items)) (sym more_types)
          (subst (λ (fs : List Bool). AreMeanings ms order (map shared_type_view (types ++ ty ∷ [])) (known_list (map shared_type_view (types ++ ty ∷ [])) fs)) (sym more_flags)
          (known_more ms order types flags ty number flag (inv.built ∙ sym inv.flagged) next inv.known c.in_ok-next.ensures.known));
      counted = c.in_ok-next.ensures.counted ∙ ap (λ (t : Ty). c.loop-id.nodes + nodes (type_view t)) kept ∙ ap (λ (n : ℕ). n + nodes (shared_type_view ty)) inv.counted ∙ sym (sum_more types ty) ∙ ap (λ (ts : List (Arc Ty Global)). nodes_of_all (map shared_type_view ts)) (sym more_types);
      few = c.in_ok-next.ensures.few;
      limits = subst (All IsKept) (sym more_types) (All-push IsKept types ty inv.limits (subst (λ (t : Ty). IsTrue (is_within_limits (type_view t))) kept c.in_ok-next.ensures.limits));
    }
