use Rattle.std.proofs.Common.{◌∙◌, ℕ, cond, Option, Some, None, sym, ap, ap₂}
use Rattle.guard_model.specs.declared.tag.Class.{Class}
use Rattle.guard_model.specs.declared.tag.Tag.{Tag}
use Rattle.guard_reader.proofs.LowTags.{by_octet, said}
use Rattle.guard_reader.proofs.set_members.low_tag.Goals as goal

pub returns-then-not-is_whole : goal.returns-then-not-is_whole
returns-then-not-is_whole c =
    let os = c.args.octets.now in
    let e = ap (λ b. cond b (Some (said os)) None) c.if-not-is_whole.true in
    sym (by_octet os c.is_whole.result c.requires.some c.requires.low c.is_whole.ensures ∙ e)

pub returns : goal.returns
returns c =
    let os = c.args.octets.now in
    let e = ap (λ b. cond b (Some (said os)) None) c.if-not-is_whole.false in
    let made : Class → ℕ → Option Tag = λ k n. Some (record { class = k; number = n }) in
    ap₂ made c.class_of.ensures c.from.ensures ∙ sym (by_octet os c.is_whole.result c.requires.some c.requires.low c.is_whole.ensures ∙ e)
