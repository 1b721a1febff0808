use Rattle.std.proofs.Common.{sym, ap, ◌∙◌}
use Rattle.std.specs.Prelude.{option_map}
use Rattle.std.proofs.lemmas.Option.{none-some}
use Rattle.json.specs.Print.{print}
use Rattle.guard_json.specs.inside.Drafting.{Reads}
use Rattle.guard_json.proofs.Drafts.{Adds_more, only_part, some_is, some_of}
use Rattle.guard_json.proofs.object.lone_member.Goals as goal

pub finish-requires : goal.finish-requires
finish-requires c = record {
  before = c.put-4.ensures.before ∙ c.put-3.ensures.before ∙ c.put-2.ensures.before ∙ c.put.ensures.before ∙ c.new-draft.ensures.before;
  fine = c.put-4.ensures.fine (c.put-3.ensures.fine (c.put-2.ensures.fine (c.put.ensures.fine c.new-draft.ensures.fine)));
}

pub unreachable-requires : goal.unreachable-requires
unreachable-requires c = none-some _
    (ap (option_map (λ text. text.items)) (sym c.in-None.is)
    ∙ c.in_ok-text.ensures.text
    ∙ ap (option_map print) (only_part _ _ _ c.new-draft.ensures.empty
    ((Adds_more c.put.ensures (Adds_more c.put-2.ensures (Adds_more c.put-3.ensures c.put-4.ensures))).added c.in_ok-text.ensures.memory)))

pub returns : goal.returns
returns c =
    let is = only_part _ _ _ c.new-draft.ensures.empty
    ((Adds_more c.put.ensures (Adds_more c.put-2.ensures (Adds_more c.put-3.ensures c.put-4.ensures))).added c.in_ok-text.ensures.memory) in
    record {
      json = some_is (ap (option_map (λ text. text.items)) (sym c.in-Some.is) ∙ c.in_ok-text.ensures.text ∙ ap (option_map print) is);
      reads = some_of Reads _ _ is c.in_ok-text.ensures.reads;
    }
