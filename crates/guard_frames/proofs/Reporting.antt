-- What becomes of a frame, by its body.
use Rattle.std.proofs.Common.{◌≡◌, ◌⊎◌, ℕ, List, ◌++◌, sym, refl, subst, inl, inr, drop}
use Rattle.std.specs.Prelude.{Option, Some, None, IfSome, codes, decimal}
use Rattle.guard_policy.specs.declared.verdict.PlainReason.{PlainReason}
use Rattle.guard_frames.specs.Bodies.{AbstractBody, IsBody, parts_in}
use Rattle.guard_frames.specs.Outcomes.{Decision, BodyGoes, FrameGoes, IsKnown, staying}
use Rattle.guard_frames.specs.declared.decision.Known.{Known}
use Rattle.guard_frames.specs.declared.decision.Known.TheVariants.{Named}
use Rattle.guard_frames.specs.Guarding.{Adds}
use Rattle.guard_frames.specs.inside.Judged.{IsReportOf, report_line}
use Rattle.guard_frames.specs.declared.why.Why.{Why}
use Rattle.guard_frames.specs.declared.why.Why.TheVariants.{BadHeader, NoMemory, Decided}
use Rattle.guard_frames.proofs.HeaderLaws.{same_parts, no_parts, no_body}

-- ---- the body that is known to stay is what is in the places of its names

pub known_there : (d : Decision) (ReasonsOf : AbstractBody → PlainReason → Type 0) (octets : List ℕ) (known : Known) (b : AbstractBody) (reason : Option PlainReason)
    → known ≡ Named reason → IsKnown d ReasonsOf octets known → Some b ≡ parts_in octets
    → IsBody octets b × (d.LetsGo b → ⊥) × IfSome reason (ReasonsOf b)
known_there d ReasonsOf octets known b reason named so there =
    let k : IsKnown d ReasonsOf octets (Named reason) = subst (IsKnown d ReasonsOf octets) named so in
    subst (λ (y : AbstractBody). IsBody octets y × (d.LetsGo y → ⊥) × IfSome reason (ReasonsOf y)) (same_parts octets b k.0 there k.1) (k.1, k.2, k.3)

pub not_without : (octets : List ℕ) (b : AbstractBody) → IsBody octets b → None ≡ parts_in octets → ⊥
not_without octets b is none = no_body octets (no_parts octets none) b is

-- ---- what is decided of the body becomes of the frame

pub goes_as_body : (d : Decision) (frame octets : List ℕ) → octets ≡ drop 4 frame → BodyGoes d octets → FrameGoes d frame
goes_as_body d frame octets same go = subst (BodyGoes d) same go

reported : (d : Decision) (n : ℕ) (b : AbstractBody) (why : Why) (line : List ℕ) → IsReportOf d n b why line
    → d.Reports n b (report_line n why line) ⊎ (report_line n why line ≡ decimal n ++ codes " no-memory\n")
reported d n b (Decided reason) line h = inl h
reported d n b NoMemory line h = inr refl
reported d n b BadHeader line h = absurd h

pub stays_by_body : (d : Decision) (n : ℕ) (frame octets : List ℕ) (b : AbstractBody) (why : Why) (line : List ℕ) → octets ≡ drop 4 frame → IsBody octets b
    → (d.LetsGo b → ⊥) → IsReportOf d n b why line → Adds d n (staying frame) (report_line n why line)
stays_by_body d n frame octets b why line same is decided h =
    inr (inl (record { stays = refl; body = b; is = subst (λ (s : List ℕ). IsBody s b) same is; decided = decided; text = reported d n b why line h }))

-- what a frame adds, by its number and its line as they were counted and put together
pub adds_line : (d : Decision) (n m : ℕ) (frame line : List ℕ) (why : Why) (said : List ℕ) → n ≡ m → line ≡ report_line n why said
    → Adds d n (staying frame) (report_line n why said) → Adds d m (staying frame) line
adds_line d n m frame line why said number is adds =
    subst (λ (s : List ℕ). Adds d m (staying frame) s) (sym is)
    (subst (λ (k : ℕ). Adds d k (staying frame) (report_line n why said)) number adds)
