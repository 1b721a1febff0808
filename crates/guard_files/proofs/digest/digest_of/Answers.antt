use Rattle.std.proofs.Common.{Global, List, Vec, ℕ, subst}
use Rattle.sha2.specs.Hashers.{Holds256}
use Rattle.guard_files.specs.Digest.{with_length}
use Rattle.guard_files.proofs.TextsJoined.{one_text_more}
use Rattle.guard_files.proofs.digest.digest_of.Goals as goal

pub loop-module-preserved : goal.loop-module-preserved
loop-module-preserved c =
    let more = one_text_more with_length (λ (text : Vec ℕ Global). text.items) (with_length c.args.texts.now.policy.items)
    c.args.texts.now.modules.items c.deref-module-items.result.now c.loop-module.module-index c.module-item.result
    c.deref-in-loop-module.result.now c.deref-module-items.ensures.value c.module-item.is
    c.deref-in-loop-module.ensures.value c.loop-module-test.true in
    subst (λ (s : List ℕ). Holds256 c.add_text-in-loop-module.new.hasher s) more
    (c.add_text-in-loop-module.ensures _ c.loop-module.invariant)
