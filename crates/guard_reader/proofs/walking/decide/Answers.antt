use Rattle.std.proofs.Common.{◌≡◌, ◌∙◌, ◌-◌, ◌<◌, true, Option, ap, sym, subst, arith, length, vec_len, None, ℕ}
use Rattle.guard_tables.specs.declared.slots.Slots.{Slots}
use Rattle.guard_tables.specs.NodesView.{spots_in}
use Rattle.guard_tables.specs.Slots.{none}
use Rattle.guard_tables.specs.TableNodes.{spot_at, parts_between}
use Rattle.guard_tables.proofs.Spots.{node_at}
use Rattle.guard_reader.specs.Fronts.{alone, begins}
use Rattle.guard_reader.specs.Judging.{fields_judged, message_judged}
use Rattle.guard_reader.specs.inside.Answers.{Answers}
use Rattle.guard_reader.specs.inside.NodeParts.{has_layers}
use Rattle.guard_reader.proofs.NodeSteps.{inside_bare, message_found, message_none, series_judged}
use Rattle.guard_reader.proofs.NodeTags.{identifier_is}
use Rattle.guard_reader.proofs.Ranks.{near_cut}
use Rattle.guard_reader.proofs.walking.decide.Goals as goal

pub fields-requires : goal.fields-requires
fields-requires c =
    let t = c.args.table.now in
    let k = c.len.result - 1 in
    let room : k < vec_len t.hots = omega (arith, c.len.ensures, t.some) in
    let n = node_at t k c.index-top.result.now room c.index-top.ensures in
    omega (arith, n.node.before, room)

pub returns-in-Some : goal.returns-in-Some
returns-in-Some c =
    let t = c.args.table.now in
    let h = c.index-top.result.now in
    let k = c.len.result - 1 in
    let os = c.args.octets.now in
    let inside = c.in-Some.inside.now in
    let top : k ≡ length t.hots.items - 1 = omega (arith, c.len.ensures, t.hots.ok.0) in
    let room : k < vec_len t.hots = omega (arith, c.len.ensures, t.some) in
    let n = node_at t k h room c.index-top.ensures in
    let is = sym (identifier_is t k h n) in
    let octet = subst (λ (o : ℕ). o < 256) is (c.begins.ensures.small c.if-begins.true) in
    let begun = subst (λ (o : ℕ). begins o os ≡ true) is (sym c.begins.ensures.same ∙ c.if-begins.true) in
    let cut = near_cut (spot_at (spots_in t) k).plan os octet begun in
    let judged =
    ap (λ (m : Slots). fields_judged (parts_between (spots_in t) h.first h.count) inside m) c.requires
    ∙ sym (inside_bare t k h n (ap has_layers c.in-Series.is) inside none ∙ series_judged t k h n c.in-Series.is inside none) in
    subst (λ (k : ℕ). Answers c.fields.result c.fields.new.failed (message_judged (spot_at (spots_in t) k).plan os)) top
    (message_found t k os inside c.fields.result c.fields.new.failed (c.in-Some.ensures ∙ ap alone (c.cut_off.ensures ∙ sym cut))
    (subst (λ (r : Option Slots). Answers c.fields.result c.fields.new.failed r) judged c.fields.ensures))

pub returns-in-None : goal.returns-in-None
returns-in-None c =
    let t = c.args.table.now in
    let h = c.index-top.result.now in
    let k = c.len.result - 1 in
    let os = c.args.octets.now in
    let top : k ≡ length t.hots.items - 1 = omega (arith, c.len.ensures, t.hots.ok.0) in
    let room : k < vec_len t.hots = omega (arith, c.len.ensures, t.some) in
    let n = node_at t k h room c.index-top.ensures in
    let is = sym (identifier_is t k h n) in
    let octet = subst (λ (o : ℕ). o < 256) is (c.begins.ensures.small c.if-begins.true) in
    let begun = subst (λ (o : ℕ). begins o os ≡ true) is (sym c.begins.ensures.same ∙ c.if-begins.true) in
    let cut = near_cut (spot_at (spots_in t) k).plan os octet begun in
    subst (λ (k : ℕ). message_judged (spot_at (spots_in t) k).plan os ≡ None) top
    (message_none t k os (c.in-None.ensures ∙ ap alone (c.cut_off.ensures ∙ sym cut)))
