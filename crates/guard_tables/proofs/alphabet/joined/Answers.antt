use Rattle.std.proofs.Common.{arith, ◌≡◌, ◌<◌, ◌+◌, ℕ, get_or, length, subst, IsTrue}
use Rattle.std.proofs.lemmas.List.{get_or_default}
use Rattle.guard_tables.specs.inside.JoinedRanges.{begin_by}
use Rattle.guard_tables.proofs.JoinedRanges.{begin_later, more_of}
use Rattle.guard_tables.proofs.alphabet.joined.Goals as goal

pub loop-low-preserved : goal.loop-low-preserved
loop-low-preserved c =
    let ordered = c.args.ordered.now in
    let i = c.loop-low.low-index in
    let items = c.add.new.ranges.items in
    let first : ℕ × ℕ = (0, 0) in
    let lt : i < length ordered = c.loop-low-test.true in
    record {
      apart = c.in_ok-add.ensures.apart;
      order = λ d next.
          let same : get_or ordered (i + 1) first ≡ get_or ordered (i + 1) d = get_or_default ordered (i + 1) first d next in
          let by : IsTrue (begin_by (get_or ordered (i + 1) first).0 items) = begin_later (get_or ordered i first).0 (get_or ordered (i + 1) first).0 items (c.requires i (i + 1) first (omega arith) next) c.in_ok-add.ensures.order in
          subst (λ (r : ℕ × ℕ). IsTrue (begin_by r.0 items)) same by;
      same = λ x. more_of ordered ordered i _ _ (get_or ordered i first) x lt (get_or_default ordered i first (get_or ordered i first) lt) (c.in_ok-add.ensures.same x) (c.loop-low.invariant.same x);
    }
