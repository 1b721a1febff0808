use Rattle.std.proofs.Common.{◌≡◌, ℕ, List, length, false, true, ap, sym, ◌∙◌, map, take, is_some, Option}
use Rattle.std.specs.Prelude.{bytes_eq}
use Rattle.std.specs.Map.{lookup}
use Rattle.guard_policy.specs.declared.index.Listed.{Listed}
use Rattle.guard_policy.specs.inside.Listings.{AbstractListed, listing, listed_view, numbers_for}
use Rattle.guard_policy.specs.SaidView.{said_message_view, said_view}
use Rattle.guard_policy.proofs.EntriesRead.{taken_is}
use Rattle.guard_policy.proofs.Listed.{taken_length, says_new, says_old, inserted_last, is_some-map}
use Rattle.guard_policy.proofs.index.Index.of.Goals as goal
use Rattle.guard_policy.proofs.index.Index.of.Goals.{then-not-contains_key+in_ok-rules+in_ok-of_name+in_ok-insert+in-Some-1, then-not-contains_key+in_ok-rules+in_ok-of_name+in_ok-insert+in-None-1, else-not-contains_key}

pub loop-place-preserved : goal.loop-place-preserved
loop-place-preserved c = λ name.
    let so_far = map said_message_view (take c.loop-place.place c.args.messages.now) in
    let all = map said_view c.args.rules.now in
    let m = said_message_view c.index-messages-place.result in
    let n = c.loop-place.place in
    let counted : n ≡ length so_far = taken_length said_message_view c.args.messages.now n c.loop-place-test.true in
    let more = taken_is said_message_view c.args.messages.now n c.index-messages-place.result c.loop-place-test.true c.index-messages-place.is in
    let tested : c.contains_key.result ≡ is_some (lookup (λ x. bytes_eq m.name x.octets.items) c.loop-place.listed.entries) = rw c.as_bytes-name.ensures.value at c.contains_key.ensures in
    rw more
    (elim c.if-not-contains_key.branch [
      | then-not-contains_key+in_ok-rules+in_ok-of_name+in_ok-insert+in-Some-1 w ↦
          let key = w.in_ok-of_name.field-0 in
          let l : Listed = record { place = n; rules = w.in_ok-rules.rules } in
          let named : key.octets.items ≡ m.name = w.in_ok-of_name.ensures ∙ c.as_bytes-name.ensures.value in
          let numbered : w.in_ok-rules.rules.items ≡ numbers_for m.name 0 all = w.in_ok-rules.ensures ∙ c.in_ok-numbered.ensures m.name in
          let absent : is_some (lookup (λ x. bytes_eq key.octets.items x.octets.items) c.loop-place.listed.entries) ≡ false =
          ap (λ (bytes : List ℕ). is_some (lookup (λ x. bytes_eq bytes x.octets.items) c.loop-place.listed.entries)) named ∙ sym tested ∙ w.if-not-contains_key.true in
          rw w.listed-is
          (says_new so_far all m n counted (λ x. x.octets.items) c.loop-place.listed.entries w.insert.new.self.entries key l c.loop-place.invariant
          (w.in_ok-insert.ensures.entries ∙ inserted_last (λ x y. bytes_eq x.octets.items y.octets.items) c.loop-place.listed.entries key l absent) named (λ i. record { place = n; numbers = numbered i }) name)
      | then-not-contains_key+in_ok-rules+in_ok-of_name+in_ok-insert+in-None-1 w ↦
          let key = w.in_ok-of_name.field-0 in
          let l : Listed = record { place = n; rules = w.in_ok-rules.rules } in
          let named : key.octets.items ≡ m.name = w.in_ok-of_name.ensures ∙ c.as_bytes-name.ensures.value in
          let numbered : w.in_ok-rules.rules.items ≡ numbers_for m.name 0 all = w.in_ok-rules.ensures ∙ c.in_ok-numbered.ensures m.name in
          let absent : is_some (lookup (λ x. bytes_eq key.octets.items x.octets.items) c.loop-place.listed.entries) ≡ false =
          ap (λ (bytes : List ℕ). is_some (lookup (λ x. bytes_eq bytes x.octets.items) c.loop-place.listed.entries)) named ∙ sym tested ∙ w.if-not-contains_key.true in
          rw w.listed-is
          (says_new so_far all m n counted (λ x. x.octets.items) c.loop-place.listed.entries w.insert.new.self.entries key l c.loop-place.invariant
          (w.in_ok-insert.ensures.entries ∙ inserted_last (λ x y. bytes_eq x.octets.items y.octets.items) c.loop-place.listed.entries key l absent) named (λ i. record { place = n; numbers = numbered i }) name)
      | else-not-contains_key w ↦
          let there : is_some (listing so_far all m.name) ≡ true =
          ap (λ (o : Option AbstractListed). is_some o) (sym (c.loop-place.invariant m.name)) ∙ is_some-map listed_view (lookup (λ x. bytes_eq m.name x.octets.items) c.loop-place.listed.entries)
          ∙ sym tested ∙ w.if-not-contains_key.false in
          rw w.listed-is (c.loop-place.invariant name ∙ says_old so_far all m n counted there name)
    ])
