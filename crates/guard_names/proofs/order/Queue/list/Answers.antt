use Rattle.std.proofs.Common.{◌≡◌, ◌<◌, [], ◌∷◌, ◌++◌, map, length, set, true, sym, ◌∙◌, ap, subst, arith, length-set}
use Rattle.std.specs.List.{All}
use Rattle.std.proofs.lemmas.List.{length-map}
use Rattle.indexmap.proofs.MapLemmas.{OnOk-map}
use Rattle.guard_names.specs.inside.Queues.{IsReleased, AreFlags}
use Rattle.guard_names.proofs.InOrder.Settling.{row_is, taken_row, taken_total, flag_set, begins, left_same}
use Rattle.guard_names.proofs.InOrder.Queueing.{released_by}
use Rattle.guard_names.proofs.order.Queue.list.Goals as goal

pub settle_all-requires : goal.settle_all-requires
settle_all-requires c =
    let us = map (λ v. v.items) c.args.uses.now in
    let rows = c.args.self.now.waiting.items in
    let count : length us ≡ length c.args.uses.now = length-map c.args.uses.now (λ v. v.items) in
    let below : c.args.next < length us = omega (arith, count, c.requires.next) in
    let l : length rows ≡ length us = c.requires.sized.waiting in
    let in_rows : c.args.next < length rows = omega (arith, l, below) in
    let listed_is = c.in_ok-push.ensures.items in
    let empty = ap (λ v. v.items) c.replace-released.ensures.after ∙ c.new.ensures.items in
    let taken_is = c.deref.ensures.value ∙ ap (λ v. v.items) c.replace-released.ensures.value in
    let released_is = taken_is ∙ row_is (λ v. v.items) rows c.args.next c.index_mut-2.result.now c.index_mut-2.ensures.value in_rows in
    record {
      inside = c.requires.inside;
      released = subst (λ x. All (IsReleased us x) c.deref.result.now) (sym listed_is)
          (subst (All (IsReleased us (c.args.self.now.order.items ++ c.args.next ∷ []))) (sym released_is) (released_by us c.args.self.now.order.items _ _ _ c.args.next c.requires.placed));
      sized = record {
        flags = subst (AreFlags us (set c.args.self.now.listed.items c.args.next true)) (sym listed_is) (flag_set us c.args.self.now.listed.items c.args.self.now.order.items c.args.next c.requires.sized.flags below);
        waiting = length-set rows c.args.next c.replace-released.new.dest ∙ l;
      };
      placed = begins us c.args.self.now.order.items c.push.new.self.items _ (map (λ v. v.items) rows) _ c.args.next c.deref.result.now listed_is
          (taken_row (λ v. v.items) rows c.args.next c.replace-released.new.dest empty) released_is c.requires.placed below;
    }

pub returns : goal.returns
returns c =
    let us = map (λ v. v.items) c.args.uses.now in
    let rows = c.args.self.now.waiting.items in
    let below : c.args.next < length rows = omega (arith, c.requires.sized.waiting, length-map c.args.uses.now (λ v. v.items), c.requires.next) in
    let empty = ap (λ v. v.items) c.replace-released.ensures.after ∙ c.new.ensures.items in
    let taken_is = c.deref.ensures.value ∙ ap (λ v. v.items) c.replace-released.ensures.value in
    let t = taken_total (λ v. v.items) rows c.args.next c.index_mut-2.result.now c.replace-released.new.dest below c.index_mut-2.ensures.value empty in
    record {
      order = OnOk-map c.settle_all.result _ _ (λ h. h ∙ c.in_ok-push.ensures.items) c.settle_all.ensures.order;
      sized = c.settle_all.ensures.sized;
      placed = c.settle_all.ensures.placed;
      left = OnOk-map c.settle_all.result _ _ (λ h. h ∙ left_same _ _ _ _ _ t (ap length taken_is)) c.settle_all.ensures.left;
    }
