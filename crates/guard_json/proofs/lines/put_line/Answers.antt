use Rattle.std.proofs.Common.{◌≡◌, ◌+◌, ◌<◌, [], ◌∷◌, ◌++◌, length, take, refl, ap, ◌∙◌, subst, arith}
use Rattle.std.proofs.lemmas.List.{length-take}
use Rattle.guard_frames.proofs.Appending.{Appends_none, Appends_is}
use Rattle.guard_json.specs.Cutting.{line_feed}
use Rattle.guard_json.specs.Taken.{is_one_line}
use Rattle.guard_json.specs.Objects.{json_line}
use Rattle.guard_json.specs.inside.Putting.{whole_object}
use Rattle.guard_json.proofs.Takings.{torn_front}
use Rattle.guard_json.proofs.lines.put_line.Goals as goal

pub returns-in_default-clause-part : goal.returns-in_default-clause-part
returns-in_default-clause-part g c = record { part = []; taken = Appends_none _; counted = omega arith; one = refl }

pub returns-in_default-push-clause-part : goal.returns-in_default-push-clause-part
returns-in_default-push-clause-part g c = record { part = []; taken = Appends_none _; counted = omega arith; one = refl }

pub returns-in_default-checked_add-clause-part : goal.returns-in_default-checked_add-clause-part
returns-in_default-checked_add-clause-part g c = record { part = []; taken = Appends_none _; counted = omega arith; one = refl }

pub returns-in-Ok-put_or_count-clause-whole : goal.returns-in-Ok-put_or_count-clause-whole
returns-in-Ok-put_or_count-clause-whole g c =
    let whole : c.as_slice-octets.result.now ≡ whole_object c.args.line.now =
    c.as_slice-octets.ensures.value
    ∙ rw c.in-Ok-push.is at c.push.ensures.items
    ∙ ap (λ x. x ++ line_feed ∷ []) c.in-Ok.ensures.json in
    record {
      taken = Appends_is _ _ _ _ whole c.in-Ok-put_or_count.ensures.all;
      counted = c.in-Some.ensures.1 ∙ ap (λ x. c.args.written + length x) whole;
      tells = c.in-Ok.ensures.reads_back;
      one = c.in-Ok.ensures.one_line;
    }

pub returns-clause-part : goal.returns-clause-part
returns-clause-part g c =
    let n = c.in-Err.sent in
    let octets = c.as_slice-octets.result.now in
    let within = c.in-Err.ensures.part.0 in
    let whole : octets ≡ whole_object c.args.line.now =
    c.as_slice-octets.ensures.value
    ∙ rw c.in-Ok-push.is at c.push.ensures.items
    ∙ ap (λ x. x ++ line_feed ∷ []) c.in-Ok.ensures.json in
    record {
      part = take n octets;
      taken = c.in-Err.ensures.part.1;
      counted = let k : n ≡ length (take n octets) = omega (arith, within, length-take n octets) in ap (λ m. c.args.written + m) k;
      one = ap (λ x. is_one_line (take n x)) whole
          ∙ torn_front (json_line c.args.line.now) n c.in-Ok.ensures.one_line (subst (λ x. n < length x) whole within);
    }
