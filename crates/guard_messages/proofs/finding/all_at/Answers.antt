use Rattle.std.proofs.Common.{◌≡◌, ◌∙◌, refl, sym, true}
use Rattle.std.proofs.lemmas.Result.{IfOk-weaker}
use Rattle.guard_messages.specs.Finding.{is_input}
use Rattle.guard_messages.proofs.finding.all_at.Goals as goal

pub returns-then-eq : goal.returns-then-eq
returns-then-eq g c =
    let yes : is_input c.args.path.now ≡ true = sym c.eq.ensures ∙ c.if-eq.true in
    record {
      there = rw yes (IfOk-weaker c.read_all.result _ _ (λ o h. (h, refl)) c.read_all.ensures.read);
      none = rw yes c.read_all.ensures.lost;
    }
