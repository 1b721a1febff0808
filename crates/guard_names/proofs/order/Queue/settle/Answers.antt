use Rattle.std.proofs.Common.{◌≡◌, ℕ, ◌<◌, false, List, map, length, get_or, refl, sym, ◌∙◌, ap, subst, arith, length-set}
use Rattle.guard_names.specs.inside.Queues.{used_by}
use Rattle.guard_names.proofs.InOrder.Settling.{row_is, row_of, pushed_row, pushed_total, used_inside, settles_waiting, all_met, one_more_ready, left_more}
use Rattle.guard_names.proofs.InOrder.Queueing.{settled_ready}
use Rattle.guard_names.proofs.order.Queue.settle.Goals as goal

pub first_unlisted-requires : goal.first_unlisted-requires
first_unlisted-requires c =
    let us = map (λ v. v.items) c.args.uses.now in
    let used_is : c.deref.result.now ≡ used_by us c.args.waiting.number = c.deref.ensures.value ∙ row_is (λ v. v.items) c.args.uses.now c.args.waiting.number c.index-uses-waiting.result c.index-uses-waiting.is c.requires.number in
    let f = c.requires.sized.flags in
    λ u h. subst (λ n. u < n) (sym (ap length c.deref-2.ensures.value ∙ f.size)) (used_inside us c.args.self.now.listed.items c.args.self.now.order.items c.requires.inside f c.args.waiting.number c.deref.result.now used_is u h)

pub index_mut-requires : goal.index_mut-requires
index_mut-requires c =
    let us = map (λ v. v.items) c.args.uses.now in
    let used_is : c.deref.result.now ≡ used_by us c.args.waiting.number = c.deref.ensures.value ∙ row_is (λ v. v.items) c.args.uses.now c.args.waiting.number c.index-uses-waiting.result c.index-uses-waiting.is c.requires.number in
    let row = row_of us c.args.self.now.listed.items c.args.self.now.order.items c.requires.inside c.requires.sized.flags c.args.waiting.number c.deref.result.now used_is
    c.args.self.now.waiting.items c.index-uses-waiting.result.items c.in-Some.met c.index.result.now c.requires.sized.waiting c.deref.ensures.value c.in-Some.ensures.inside c.index.ensures in
    let in_rows : c.index.result.now < length c.args.self.now.waiting.items = row.1 in
    omega (arith, in_rows)

pub returns-in_ok-push-in-Some : goal.returns-in_ok-push-in-Some
returns-in_ok-push-in-Some c =
    let us = map (λ v. v.items) c.args.uses.now in
    let used_is : c.deref.result.now ≡ used_by us c.args.waiting.number = c.deref.ensures.value ∙ row_is (λ v. v.items) c.args.uses.now c.args.waiting.number c.index-uses-waiting.result c.index-uses-waiting.is c.requires.number in
    let rows = c.args.self.now.waiting.items in
    let row = row_of us c.args.self.now.listed.items c.args.self.now.order.items c.requires.inside c.requires.sized.flags c.args.waiting.number c.deref.result.now used_is
    rows c.index-uses-waiting.result.items c.in-Some.met c.index.result.now c.requires.sized.waiting c.deref.ensures.value c.in-Some.ensures.inside c.index.ensures in
    let u_is : c.index.result.now ≡ get_or c.deref.result.now c.in-Some.met 0 = row.0 in
    let in_rows : c.index.result.now < length rows = row.1 in
    let flags_are = c.deref-2.ensures.value in
    let found : get_or c.args.self.now.listed.items (get_or c.deref.result.now c.in-Some.met 0) false ≡ false =
    ap (λ x. get_or x (get_or c.deref.result.now c.in-Some.met 0) false) (sym flags_are) ∙ c.in-Some.ensures.found in
    record {
      order = refl {A = List ℕ};
      sized = record {
        flags = c.requires.sized.flags;
        waiting = length-set rows c.index.result.now c.push.new.self ∙ c.requires.sized.waiting;
      };
      placed = λ underway released placed.
          settles_waiting us c.args.self.now.listed.items c.args.self.now.order.items c.requires.inside c.requires.sized.flags c.args.waiting.number c.deref.result.now used_is
          _ underway (map (λ v. v.items) rows) _ c.args.waiting c.in-Some.met c.index.result.now refl c.in-Some.ensures.inside u_is found
          (λ i a b. ap (λ x. get_or x (get_or c.deref.result.now i 0) false) (sym flags_are) ∙ c.in-Some.ensures.before i a b)
          released placed
          (pushed_row (λ v. v.items) rows c.index.result.now c.index_mut.result.now c.push.new.self _ in_rows c.index_mut.ensures.value c.in_ok-push-in-Some.ensures.items);
      left = let t = pushed_total (λ v. v.items) rows c.index.result.now c.index_mut.result.now c.push.new.self _ in_rows c.index_mut.ensures.value c.in_ok-push-in-Some.ensures.items in
          left_more _ _ _ t;
    }

pub returns-in_ok-push-in-None-clause-placed : goal.returns-in_ok-push-in-None-clause-placed
returns-in_ok-push-in-None-clause-placed c =
    let us = map (λ v. v.items) c.args.uses.now in
    let used_is : c.deref.result.now ≡ used_by us c.args.waiting.number = c.deref.ensures.value ∙ row_is (λ v. v.items) c.args.uses.now c.args.waiting.number c.index-uses-waiting.result c.index-uses-waiting.is c.requires.number in
    λ underway released placed.
    settled_ready us c.args.self.now.order.items _ _ underway _ c.args.waiting.number placed
    (λ k. one_more_ready _ _ _ k c.in_ok-push-in-None.ensures.permutation)
    (all_met us c.args.self.now.listed.items c.args.self.now.order.items c.requires.inside c.requires.sized.flags c.args.waiting.number c.deref.result.now used_is c.args.waiting.met released.met
    (λ i a b. ap (λ x. get_or x (get_or c.deref.result.now i 0) false) (sym c.deref-2.ensures.value) ∙ c.in-None.ensures.none i a b))
