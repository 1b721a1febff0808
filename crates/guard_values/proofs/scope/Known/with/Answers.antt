use Rattle.std.proofs.Common.{◌∷◌, [], ◌++◌, ◌+◌, ℕ, List, Option, length, sym, ap, subst, ◌∙◌, IsTrue}
use Rattle.std.specs.Global.{Global}
use Rattle.std.specs.declared.sync.Arc.{Arc}
use Rattle.std.proofs.lemmas.List.{length-append}
use Rattle.guard_model.specs.declared.ty.Ty.{Ty}
use Rattle.guard_values.specs.KeptLengths.{lengths_beside}
use Rattle.guard_values.specs.SingleValues.{are_bounded}
use Rattle.guard_values.proofs.Counting.KnownLengths.{one_more_kept}
use Rattle.guard_values.proofs.Counting.KnownBounds.{one_more_bounded}
use Rattle.guard_values.proofs.scope.Known.with.Goals as goal

pub invariant_of-result : goal.invariant_of-result
invariant_of-result c =
    let ts = c.args.self.types.items in
    let vs = c.args.self.values.items in
    let t = c.args.ty in
    let v = c.args.value in
    let types = c.in_ok-push.ensures.items in
    let values = c.in_ok-push-2.ensures.items in
    record {
      even = ap length values ∙ length-append vs (v ∷ []) ∙ ap (λ n. n + 1) c.args.self.even
          ∙ sym (ap length types ∙ length-append ts (t ∷ []));
      counted = c.in_ok-push-3.ensures.items ∙ ap (λ (ns : List (Option ℕ)). ns ++ c.args.octets ∷ []) c.args.self.counted
          ∙ ap (λ (n : Option ℕ). lengths_beside ts vs ++ n ∷ []) c.requires.counted ∙ one_more_kept ts vs t v c.args.self.even
          ∙ sym (ap (λ (xs : List (Arc Ty Global)). lengths_beside xs c.push-2.new.self.items) types ∙ ap (lengths_beside (ts ++ t ∷ [])) values);
      bounded = subst (λ (xs : List (Arc Ty Global)). IsTrue (are_bounded c.push-4.new.self.items xs)) (sym types)
          (subst (λ (ns : List (Option ℕ)). IsTrue (are_bounded ns (ts ++ t ∷ []))) (sym c.in_ok-push-4.ensures.items)
          (one_more_bounded c.args.self.bounds.items ts c.args.bound t c.args.self.bounded c.requires.bounded));
    }
