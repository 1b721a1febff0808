-- Of octets either a value or a breach is answered.
use Rattle.std.proofs.Common.{◌≡◌, ℕ, List, Result, Ok, Err, sym, ap, ◌∙◌}
use Rattle.guard_model.proofs.Results.{same_Err}
use Rattle.guard_model.specs.AbstractValue.{AbstractValue}
use Rattle.guard_der.specs.Breach.{AbstractBreach}
use Rattle.guard_report.specs.Shown.{shown_undecodable}

pub not_both : (b : AbstractBreach) (v : AbstractValue) → ◌≡◌ {A = Result AbstractValue AbstractBreach} (Err b) (Ok v) → ⊥
not_both b v e = absurd cc

pub same_breach : (show : AbstractBreach → List ℕ) (b c : AbstractBreach) (text : List ℕ)
    → ◌≡◌ {A = Result AbstractValue AbstractBreach} (Err b) (Err c) → text ≡ show c
    → shown_undecodable text ≡ shown_undecodable (show b)
same_breach show b c text same made = ap shown_undecodable (made ∙ ap show (sym (same_Err b c same)))
