use Rattle.std.proofs.Common.{◌≡◌, drop, map, IsTrue}
use Rattle.guard_model.specs.inside.Each.{each}
use Rattle.guard_model.specs.TypeView.{type_view, constraint_view, constraints_of, part_view}
use Rattle.guard_model.proofs.Loops.{with_front}
use Rattle.guard_syntax.specs.SetViews as views
use Rattle.guard_model.specs.Kinds.{kind_of}
use Rattle.guard_constraints.specs.Noted.{AreAgreed}
use Rattle.guard_constraints.specs.inside.Bounds.{Grows, bounds_all}
use Rattle.guard_constraints.specs.inside.Reading.{joined_intersections, joined_differences, read_part}
use Rattle.guard_constraints.specs.Views.{visible_in}
use Rattle.guard_constraints.proofs.written.+sets.Given as goal

abbrev pub invariant-united-loop-other : goal.invariant-united-loop-other
invariant-united-loop-other l = record {
  so_far :
      with_front (map constraint_view l.all.items) (joined_intersections (visible_in l.scope) (type_view l.ty) (map views.joined_intersection_view (drop l.other-index l.others)))
      ≡ joined_intersections (visible_in l.scope) (type_view l.ty) (map views.joined_intersection_view l.others);
  agreed : AreAgreed l.scope.known.now (type_view l.ty) l.noted.agreed;
  grows : Grows l.fn.noted.bound l.noted.bound;
  bounds : IsTrue (bounds_all l.noted.bound (type_view l.ty) (constraints_of (map constraint_view l.all.items)));
}

abbrev pub invariant-met-loop-other : goal.invariant-met-loop-other
invariant-met-loop-other l = record {
  so_far :
      with_front (map constraint_view l.all.items) (joined_differences (visible_in l.scope) (type_view l.ty) (map views.joined_difference_view (drop l.other-index l.others)))
      ≡ joined_differences (visible_in l.scope) (type_view l.ty) (map views.joined_difference_view l.others);
  agreed : AreAgreed l.scope.known.now (type_view l.ty) l.noted.agreed;
  grows : Grows l.fn.noted.bound l.noted.bound;
  bounds : IsTrue (bounds_all l.noted.bound (type_view l.ty) (constraints_of (map constraint_view l.all.items)));
}

abbrev pub invariant-each_part-loop-one : goal.invariant-each_part-loop-one
invariant-each_part-loop-one l =
    with_front (map part_view l.parts.items) (each (read_part (visible_in l.scope) (kind_of (type_view l.ty))) (map views.part_view (drop l.one-index l.listed)))
    ≡ each (read_part (visible_in l.scope) (kind_of (type_view l.ty))) (map views.part_view l.listed)
