use Rattle.std.proofs.Common.{◌≡◌, ◌++◌, List, ℕ, None, Option, Result, Some, ap, refl, sym, subst, ◌∙◌}
use Rattle.std.specs.Prelude.{IfOk, IfSome, codes, decimal}
use Rattle.guard_policy.specs.Policies.{AbstractPolicy, AbstractRoute}
use Rattle.guard_policy.specs.PolicyView.{policy_view, route_view}
use Rattle.guard_policy.specs.declared.verdict.PlainReason.{PlainReason}
use Rattle.guard_policy.specs.Verdicts.{AbstractVerdict, reason_view}
use Rattle.guard_policy.specs.Decisions.{IsReason}
use Rattle.guard_policy.specs.Told.{IsToldReason}
use Rattle.guard_policy.proofs.Reasons.{if_ok_map}
use Rattle.guard_report.specs.Lines.{line_octets, route_text}
use Rattle.guard_report.specs.Text.{verdict_octets}
use Rattle.guard_frames.specs.Bodies.{AbstractBody, HasNames, body_view}
use Rattle.guard_frames.specs.Calls.{EndsLine}
use Rattle.guard_frames.specs.OfPolicy.{route_of, decision_of, gives_of}
use Rattle.guard_frames.specs.Reasons.{reason_of}
use Rattle.guard_frames.specs.declared.why.Reason.{Reason}
use Rattle.guard_frames.proofs.policies.PolicyDecide.line.Goals as goal

-- a line and the reason that it gives, of a verdict that is the reason of a body
module _ {E : Type 0} (text : List ℕ) (p : AbstractPolicy) (b : AbstractBody) (r : AbstractRoute) (n : ℕ) (w : AbstractVerdict) (said : Result Reason E)
    (same : r ≡ route_of b) (is : IsReason p (route_of b) b.message_octets w)
    (lines : IfOk said (λ x. (text ≡ line_octets p r n w) × (reason_of w ≡ Some x))) where
  abbrev IsLine : Reason → Type 0
  IsLine x = (text ≡ line_octets p r n w) × (reason_of w ≡ Some x)

  reports : IfOk said (λ x. (decision_of p).Reports n b text)
  reports = if_ok_map IsLine (λ x. (decision_of p).Reports n b text) said (λ x l. (w, is, l.0 ∙ ap (λ (y : AbstractRoute). line_octets p y n w) same)) lines

  gives : HasNames b → IfOk said (λ x. gives_of p x text)
  gives names = if_ok_map IsLine (λ x. gives_of p x text) said
      (λ x l. (n, b, w, names, is, l.1, l.0 ∙ ap (λ (y : AbstractRoute). line_octets p y n w) same)) lines

verdict_line : {A E : Type 0} (P : AbstractVerdict → A → Type 0) (p : AbstractPolicy) (b : AbstractBody) (o : Option AbstractVerdict) (said : Result A E)
    → (o ≡ None → ⊥) → IsToldReason p (route_of b) b.message_octets o → IfOk said (λ x. IfSome o (λ w. P w x))
    → (w : AbstractVerdict) × IsReason p (route_of b) b.message_octets w × IfOk said (P w)
verdict_line P p b None said whole reason lines = absurd (whole refl)
verdict_line P p b (Some w) said whole reason lines = (w, reason, lines)

-- a reason that is told and has a verdict: that one is the reason, and what holds with it
told_line : {A E : Type 0} (P : AbstractVerdict → A → Type 0) (p : AbstractPolicy) (b : AbstractBody) (told : Option PlainReason) (r : PlainReason) (said : Result A E)
    → (told ≡ Some r) × (reason_view r ≡ None → ⊥) → IfSome told (λ x. IsToldReason p (route_of b) b.message_octets (reason_view x))
    → IfOk said (λ x. IfSome (reason_view r) (λ w. P w x))
    → (w : AbstractVerdict) × IsReason p (route_of b) b.message_octets w × IfOk said (P w)
told_line P p b told r said found reason lines = verdict_line P p b (reason_view r) said found.1 (subst (λ (o : Option PlainReason). IfSome o (λ x. IsToldReason p (route_of b) b.message_octets (reason_view x))) found.0 reason) lines

ends_so : (p : AbstractPolicy) (r : AbstractRoute) (n : ℕ) (w : AbstractVerdict) → EndsLine (line_octets p r n w)
ends_so p r n w = record { front = decimal n ++ codes " " ++ route_text r ++ codes " " ++ verdict_octets p r w; ends = refl }

pub returns-in-Some-clause-reports : goal.returns-in-Some-clause-reports
returns-in-Some-clause-reports c =
    let p = policy_view c.args.self.now in
    let b = body_view c.args.body.now in
    let r = route_view c.route_of.result in
    let text = c.put_line_told.new.line.items in
    let line = told_line (λ w x. (text ≡ line_octets p r c.args.number w) × (reason_of w ≡ Some x)) p b c.args.told c.in-Some.reason c.put_line_told.result
    c.in-Some.ensures c.requires.told c.put_line_told.ensures in
    reports text p b r c.args.number line.0 c.put_line_told.result c.route_of.ensures line.1 line.2

pub returns-in-Some-clause-ends : goal.returns-in-Some-clause-ends
returns-in-Some-clause-ends c =
    let p = policy_view c.args.self.now in
    let b = body_view c.args.body.now in
    let r = route_view c.route_of.result in
    let text = c.put_line_told.new.line.items in
    let line = told_line (λ w x. (text ≡ line_octets p r c.args.number w) × (reason_of w ≡ Some x)) p b c.args.told c.in-Some.reason c.put_line_told.result
    c.in-Some.ensures c.requires.told c.put_line_told.ensures in
    if_ok_map (λ x. (text ≡ line_octets p r c.args.number line.0) × (reason_of line.0 ≡ Some x)) (λ x. EndsLine text) c.put_line_told.result
    (λ x l. subst EndsLine (sym l.0) (ends_so p r c.args.number line.0)) line.2

pub returns-in-Some-clause-gives : goal.returns-in-Some-clause-gives
returns-in-Some-clause-gives c =
    let p = policy_view c.args.self.now in
    let b = body_view c.args.body.now in
    let r = route_view c.route_of.result in
    let text = c.put_line_told.new.line.items in
    let line = told_line (λ w x. (text ≡ line_octets p r c.args.number w) × (reason_of w ≡ Some x)) p b c.args.told c.in-Some.reason c.put_line_told.result
    c.in-Some.ensures c.requires.told c.put_line_told.ensures in
    gives text p b r c.args.number line.0 c.put_line_told.result c.route_of.ensures line.1 line.2 c.requires.names
