use Rattle.std.proofs.Common.{◌≡◌, true, sym, ap, ◌∙◌, subst, IsUtf8, arith}
use Rattle.std.proofs.lemmas.Result.{IfOk-weaker, on_ok_weaker}
use Rattle.std.proofs.lemmas.Str.{is_utf8-from_IsUtf8}
use Rattle.json.specs.Print.{print}
use Rattle.guard_json.specs.Objects.{text_object}
use Rattle.guard_json.specs.Taken.{is_one_line}
use Rattle.guard_json.proofs.Drafts.{not_utf8}
use Rattle.guard_json.proofs.Objects.{text_line, octets_line, told_text, told_octets, told_printed}
use Rattle.guard_json.proofs.object.json_line.Goals as goal

pub text_object-requires-text-line : goal.text_object-requires-text-line
text_object-requires-text-line c = λ _. subst IsUtf8 (sym c.in-Ok.ensures.cases.0) c.in-Ok.ensures.cases.1

pub returns-in-Ok : goal.returns-in-Ok
returns-in-Ok c =
    let line = c.args.line.now in
    let same = c.in-Ok.ensures.cases.0 in
    let is = ap (λ l. print (text_object l)) same ∙ text_line line (is_utf8-from_IsUtf8 line c.in-Ok.ensures.cases.1) in
    record {
      json = IfOk-weaker c.text_object.result _ _ (λ x e. e ∙ is) c.text_object.ensures.json;
      reads_back = on_ok_weaker c.text_object.result (λ r. told_printed _ _ line r is (told_text c.in-Ok.text.now ∙ same)) c.text_object.ensures.reads;
      one_line = on_ok_weaker c.text_object.result (λ r. subst (λ t. is_one_line t ≡ true) is r.one) c.text_object.ensures.reads;
    }

pub returns-in-Err : goal.returns-in-Err
returns-in-Err c =
    let line = c.args.line.now in
    let is = octets_line line (not_utf8 line c.in-Err.ensures.cases.0) in
    record {
      json = IfOk-weaker c.octets_object.result _ _ (λ x e. e ∙ is) c.octets_object.ensures.json;
      reads_back = on_ok_weaker c.octets_object.result
          (λ r. told_printed _ _ line r is (told_octets line (λ i. omega (arith, c.type_inv.line i)))) c.octets_object.ensures.reads;
      one_line = on_ok_weaker c.octets_object.result (λ r. subst (λ t. is_one_line t ≡ true) is r.one) c.octets_object.ensures.reads;
    }
