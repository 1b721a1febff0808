use Rattle.std.proofs.Common.{◌≡◌, codes, sym, ap, ◌∙◌, subst}
use Rattle.std.specs.Prelude.{option_map, unwrap_or, IfOk, OnOk}
use Rattle.json.specs.Print.{print}
use Rattle.guard_json.specs.Objects.{lone_member}
use Rattle.guard_json.specs.inside.Drafting.{Reads}
use Rattle.guard_json.proofs.Objects.{unwrapped, Reads_unwrapped, nothing_full}
use Rattle.guard_json.proofs.object.text_object.Goals as goal

pub returns-in-Some : goal.returns-in-Some
returns-in-Some c =
    let is = ap (option_map (λ text. text.items)) (sym c.in-Some.is) ∙ c.in_ok-text.ensures.text in
    record { json = unwrapped _ _ _ is; reads = Reads_unwrapped _ _ _ is c.in_ok-text.ensures.reads }

pub returns-in-None : goal.returns-in-None
returns-in-None c =
    let lone = lone_member (codes "text") c.args.line.now in
    let none = sym (nothing_full _ (ap (option_map (λ text. text.items)) (sym c.in-None.is) ∙ c.in_ok-text.ensures.text)) in
    record {
      json = subst (λ full. IfOk c.lone_member.result (λ text. text.items ≡ print (unwrap_or full lone))) none c.lone_member.ensures.json;
      reads = subst (λ full. OnOk c.lone_member.result (Reads (unwrap_or full lone))) none c.lone_member.ensures.reads;
    }
