use Rattle.std.proofs.Common.{ap, ◌∙◌, subst}
use Rattle.std.specs.Prelude.{IfSome, option_map}
use Rattle.json.specs.Print.{print}
use Rattle.guard_json.specs.Members.{members_in}
use Rattle.guard_json.specs.inside.Drafting.{Reads}
use Rattle.guard_json.proofs.Drafts.{Adds_more, Adds_two, if_ok_and, on_ok_and, only_part}
use Rattle.guard_json.proofs.object.full_object.Goals as goal

pub finish-requires : goal.finish-requires
finish-requires c = record {
  before = c.put-4.ensures.before ∙ c.add_members.ensures.before ∙ c.put-3.ensures.before ∙ c.put-2.ensures.before ∙ c.put.ensures.before
      ∙ c.new-draft.ensures.before;
  fine = c.put-4.ensures.fine (c.add_members.ensures.fine (c.put-3.ensures.fine (c.put-2.ensures.fine (c.put.ensures.fine c.new-draft.ensures.fine))));
}

pub returns : goal.returns
returns c =
    let adds = Adds_more c.put.ensures (Adds_more c.put-2.ensures (Adds_more c.put-3.ensures
    (Adds_two c.add_members.ensures (ap members_in c.as_bytes.ensures.value) c.put-4.ensures))) in
    record {
      text = if_ok_and c.finish.result c.finish.ensures.memory c.finish.ensures.text
          (λ m x e. e ∙ ap (option_map print) (only_part _ _ _ c.new-draft.ensures.empty (adds.added m)));
      reads = on_ok_and c.finish.result c.finish.ensures.memory c.finish.ensures.reads
          (λ m h. subst (λ ts. IfSome ts Reads) (only_part _ _ _ c.new-draft.ensures.empty (adds.added m)) h);
    }
