use Rattle.std.proofs.Common.{map, take, Some, sym, ap, ◌∙◌, ◌++◌, ◌∷◌, [], ◌≡◌, List, length, refl, slice_get, option_map, string_bytes}
use Rattle.std.proofs.lemmas.List.{map_push}
use Rattle.std.proofs.lemmas.List.Elements.{All-push}
use Rattle.std.proofs.lemmas.Option.{slice_get_read, slice_get-map}
use Rattle.guard_policy.specs.declared.kept.KeptRule.{KeptRule}
use Rattle.guard_policy.specs.KeptView.{kept_rule_view}
use Rattle.guard_policy.specs.inside.Listings.{place_among, listing, listed_view}
use Rattle.guard_policy.specs.Policies.{AbstractRule}
use Rattle.guard_policy.specs.SaidView.{said_message_view, said_view}
use Rattle.guard_policy.proofs.EntriesRead.{taken_is}
use Rattle.guard_policy.proofs.Keeping.{kept_one, is_listed}
use Rattle.guard_policy.proofs.kept.keep_rules.Goals as goal

pub unreachable-requires : goal.unreachable-requires
unreachable-requires c =
    let messages = map said_message_view c.args.messages.now in
    let rules = map said_view c.args.rules.now in
    let rule = c.index-rules-number.result in
    let there : slice_get rules c.loop-number.number ≡ Some (said_view rule) =
    slice_get-map said_view c.args.rules.now c.loop-number.number
    ∙ ap (option_map said_view) (slice_get_read c.args.rules.now (length c.args.rules.now) c.loop-number.number rule refl c.loop-number-test.true c.index-rules-number.is) in
    is_listed messages rules c.loop-number.number (said_view rule) there c.requires.declared
    (sym (rw c.as_bytes.ensures.value at c.in_default.ensures ∙ c.in_ok-index.ensures rule.message.now))

pub loop-number-preserved : goal.loop-number-preserved
loop-number-preserved c =
    let messages = map said_message_view c.args.messages.now in
    let rules = map said_view c.args.rules.now in
    let n = c.loop-number.number in
    let rule = c.index-rules-number.result in
    let there : slice_get rules n ≡ Some (said_view rule) =
    slice_get-map said_view c.args.rules.now n
    ∙ ap (option_map said_view) (slice_get_read c.args.rules.now (length c.args.rules.now) n rule refl c.loop-number-test.true c.index-rules-number.is) in
    let l = listed_view c.in-Some.listed.now in
    let listed : listing messages rules rule.message.now ≡ Some l =
    sym (rw c.as_bytes.ensures.value at c.in-Some.ensures ∙ c.in_ok-index.ensures rule.message.now) in
    let one = kept_one messages rules n (said_view rule) l c.in_ok-without_type.field-0 there listed (c.in_ok-without_type.ensures.1 ∙ c.type_place-ty.ensures) c.in_ok-without_type.ensures.0 in
    record {
      rules = λ ms tables.
          rw (c.in_ok-push.ensures.items, map_push (kept_rule_view ms) c.loop-number.kept.items, taken_is said_view c.args.rules.now n rule c.loop-number-test.true c.index-rules-number.is)
          (ap (λ (all : List AbstractRule). all ++ kept_rule_view ms c.in_ok-without_type.field-0 ∷ []) (c.loop-number.invariant.rules ms tables)
          ∙ ap (λ (r : AbstractRule). map said_view (take n c.args.rules.now) ++ r ∷ []) (one.0 ms tables));
      placed = rw c.in_ok-push.ensures.items
          (All-push (λ (x : KeptRule). place_among (string_bytes x.message) 0 messages ≡ Some x.ty.message) c.loop-number.kept.items c.in_ok-without_type.field-0 c.loop-number.invariant.placed one.1);
    }
