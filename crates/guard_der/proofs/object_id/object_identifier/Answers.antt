use Rattle.std.proofs.Common.{ℕ, List, None, refl, ◌∙◌, ◌+◌, ◌*◌, ◌-◌, ◌<◌, length, get_or, drop, sym, ap, arith}
use Rattle.std.proofs.lemmas.List.{drop_more, drop_all, take_all, length-drop}
use Rattle.guard_model.specs.AbstractValue as abstract
use Rattle.guard_der.specs.Reading.{unless_fault}
use Rattle.guard_model.proofs.ValueViews.{value_view_object_identifier}
use Rattle.guard_der.proofs.Simple.ObjectIdentifiers.{goes_on, ends, too_long, all_read}
use Rattle.guard_der.proofs.object_id.object_identifier.Goals as goal
use Rattle.guard_der.proofs.object_id.object_identifier.Goals.{then-starts+in_ok-push_arcs, else-starts}

pub returns-then-number-ge-FULL : goal.returns-then-number-ge-FULL
returns-then-number-ge-FULL c =
    let os = c.args.octets.now in
    let more : 0 < length (drop c.loop-index.index os) = omega (arith, length-drop c.loop-index.index os, c.loop-index-test.true) in
    let fault = too_long os c.loop-index.arcs.items (drop c.loop-index.index os) c.loop-index.starts c.loop-index.number more (sym c.is_empty.ensures ∙ c.if-is_empty.false) c.loop-index.invariant c.if-number-ge-FULL.true in
    let code = rw (take_all (length os - c.loop-index.index) (drop c.loop-index.index os) (omega (arith, length-drop c.loop-index.index os))) at c.code_behind_full.ensures in
    rw (c.fault_at-then-number-ge-FULL.ensures, code, fault) refl

pub loop-index-preserved : goal.loop-index-preserved
loop-index-preserved c =
    let os = c.args.octets.now in
    let i = c.loop-index.index in
    let now = rw (drop_more os i 0 c.loop-index-test.true) at c.loop-index.invariant in
    let octet : get_or os i 0 < 256 = omega (arith, c.type_inv.octets i) in
    let fine = sym c.is_padding.ensures ∙ c.if-is_padding.false in
    elim c.if-starts.branch [
      | then-starts+in_ok-push_arcs w ↦
          let arcs = w.in_ok-push_arcs.ensures now.ended now.arcs_are in
          let number = ap (λ (n : ℕ). c.loop-index.number * 128 + n) c.from.ensures in
          ends os c.loop-index.arcs.items c.loop-index.starts c.loop-index.number (get_or os i 0) (drop (i + 1) os) octet now fine c.if-starts.arcs.items _ c.if-starts.number c.if-number-ge-FULL.false w.if-starts.true number (ap (λ v. v.items) w.arcs-is ∙ arcs) w.number-is
      | else-starts w ↦
          goes_on os c.loop-index.arcs.items c.loop-index.starts c.loop-index.number (get_or os i 0) (drop (i + 1) os) octet now fine c.if-starts.arcs.items c.if-starts.number w.if-starts.false (ap (λ v. v.items) w.arcs-is) (w.number-is ∙ ap (λ (n : ℕ). c.loop-index.number * 128 + n) c.from.ensures)
    ]

pub returns-in_ok-from_vec : goal.returns-in_ok-from_vec
returns-in_ok-from_vec c =
    let os = c.args.octets.now in
    let read = rw (drop_all c.loop-index.index os c.loop-index-test.false) at c.loop-index.invariant in
    let all = all_read os c.loop-index.arcs.items c.loop-index.starts c.loop-index.number (sym c.is_empty.ensures ∙ c.if-is_empty.false) read c.if-starts-2.true in
    rw (all.0, value_view_object_identifier c.in_ok-from_vec.field-0) (ap (λ (xs : List ℕ). unless_fault c.args.at None (abstract.object_identifier xs)) (sym (c.in_ok-from_vec.ensures ∙ all.1)))
