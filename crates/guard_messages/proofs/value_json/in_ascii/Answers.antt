use Rattle.std.proofs.Common.{◌≡◌, ◌∙◌, ◌+◌, ◌<◌, ℕ, List, ◌++◌, ap, append_assoc, arith, drop, flat_map, get_or, length, sym}
use Rattle.std.specs.Str.{chars}
use Rattle.std.proofs.lemmas.Iterator.{YieldsList-from_chars}
use Rattle.std.proofs.lemmas.Iterator.Consumers.{YieldsList-turn, YieldsList-end}
use Rattle.std.proofs.lemmas.List.{append-nil, at_drop_more, drop_all, length_push}
use Rattle.guard_messages.specs.ValueJson.{in_ascii}
use Rattle.guard_messages.proofs.value_json.in_ascii.Goals as goal

one_more : (cs : List ℕ) (n c : ℕ) → (n < length cs) × (c ≡ get_or cs n c) → flat_map in_ascii (drop n cs) ≡ in_ascii c ++ flat_map in_ascii (drop (n + 1) cs)
one_more cs n c h =
    at_drop_more (flat_map in_ascii) cs n c h.0 ∙ ap (λ (x : ℕ). in_ascii x ++ flat_map in_ascii (drop (n + 1) cs)) (sym h.1)

pub loop-character-preserved : goal.loop-character-preserved
loop-character-preserved c =
    let cs = chars c.args.text.now in
    let n = length c.loop-character.yielded in
    let turn = YieldsList-turn (YieldsList-from_chars c.args.text.now c.utf8.text cc) c.loop-character.yielded _ c.loop-character.yielded_by _ _ c.in-Some.character c.in-Some.is c.next.ensures.steps in
    let rest = flat_map in_ascii (drop (n + 1) cs) in
    rw (length_push c.loop-character.yielded c.in-Some.character)
    (ap (λ (xs : List ℕ). xs ++ rest) c.in_ok-add_in_ascii.ensures ∙ append_assoc c.loop-character.out.items (in_ascii c.in-Some.character) rest
    ∙ ap (λ (xs : List ℕ). c.loop-character.out.items ++ xs) (sym (one_more cs n c.in-Some.character turn)) ∙ c.loop-character.invariant)

pub returns : goal.returns
returns c =
    let cs = chars c.args.text.now in
    let out = c.loop-character.out.items in
    let n = length c.loop-character.yielded in
    let last = YieldsList-end (YieldsList-from_chars c.args.text.now c.utf8.text cc) c.loop-character.yielded _ c.loop-character.yielded_by _ _ c.in-None.is c.next.ensures.steps in
    let end = last.1 in
    sym (append-nil out) ∙ ap (λ (xs : List ℕ). out ++ flat_map in_ascii xs) (sym (drop_all n cs (omega (arith, end))))
    ∙ c.loop-character.invariant
