use Rattle.std.proofs.Common.{◌≡◌, List, ℕ, ◌++◌, take, drop, length, sym, ap, subst, ◌∙◌, arith, inr}
use Rattle.std.proofs.lemmas.List.{take_rest, length-take, length-drop, append-nil}
use Rattle.std.proofs.lemmas.Result.{err_from_is_err_and}
use Rattle.guard_model.specs.declared.site.Site.{Site}
use Rattle.std.specs.Global.{Vec}
use Rattle.guard_lexer.specs.declared.token.Token.{Token}
use Rattle.guard_lexer.specs.Lexing.{kind_of}
use Rattle.guard_lexer.specs.inside.Reading.{IsFaultlessItem}
use Rattle.guard_lexer.proofs.ReadItems.{column-fits, fault_here, reads_one, site_more, some_token, no_token}
use Rattle.guard_lexer.proofs.lexer.read_items.Goals as goal
use Rattle.guard_lexer.proofs.lexer.read_items.Goals.{in-Some+in_ok-push, in_default}

pub read_item-requires-clause-column : goal.read_item-requires-clause-column
read_item-requires-clause-column c =
    let text = c.args.text.now in
    omega (arith, column-fits c.args.place (take c.loop-at.at text), ap (λ (s : Site). s.column) c.loop-at.invariant.site_is, length-take c.loop-at.at text, ap length (take_rest text c.loop-at.at), length-drop c.loop-at.at text, c.requires)

pub returns-in_err-item-clause-fault : goal.returns-in_err-item-clause-fault
returns-in_err-item-clause-fault c =
    let p = err_from_is_err_and c.from_residual.result c.from_residual.ensures.1 in
    let text = c.args.text.now in
    rw (p.1, p.2) (inr (fault_here c.args.place text _ c.loop-at.at c.loop-at.site c.loop-at.tokens.items _ c.loop-at.invariant (take_rest text c.loop-at.at) c.in_err-item.ensures.fault))

pub site_behind-site-requires-clause-column : goal.site_behind-site-requires-clause-column
site_behind-site-requires-clause-column c =
    let text = c.args.text.now in
    omega (arith, column-fits c.args.place (take c.loop-at.at text), ap (λ (s : Site). s.column) c.loop-at.invariant.site_is, length-take c.loop-at.at text, ap length (take_rest text c.loop-at.at), length-drop c.loop-at.at text, c.requires, c.split_at.ensures.front_len, c.in_ok-item.ensures.item.within)

pub loop-at-preserved : goal.loop-at-preserved
loop-at-preserved c =
    let text = c.args.text.now in
    let p = c.in_ok-item.item in
    let left_is = take_rest text c.loop-at.at in
    let item : IsFaultlessItem (drop c.loop-at.at text) p = subst (λ (l : List ℕ). IsFaultlessItem l p) left_is c.in_ok-item.ensures.item in
    let octets : c.split_at.result.0.now ≡ take p.len (drop c.loop-at.at text) = c.split_at.ensures.front ∙ ap (take p.len) left_is in
    reads_one c.args.place text c.loop-at.at c.loop-at.site c.site_behind-site.result c.loop-at.tokens.items c.match-kind_of.tokens.items p c.loop-at.invariant item
    (elim c.match-kind_of.branch [
      | in-Some+in_ok-push w ↦
          ap (λ (v : Vec Token). v.items) w.tokens-is ∙ w.in_ok-push.ensures.items
          ∙ ap (λ (ts : List Token). c.loop-at.tokens.items ++ ts) (some_token c.args.place text c.loop-at.at c.loop-at.site p w.in-Some.kind item.within c.loop-at.invariant.site_is (sym (w.in-Some.ensures ∙ ap (kind_of p.kind) octets)))
      | in_default w ↦
          ap (λ (v : Vec Token). v.items) w.tokens-is ∙ sym (append-nil c.loop-at.tokens.items)
          ∙ ap (λ (ts : List Token). c.loop-at.tokens.items ++ ts) (no_token c.args.place text c.loop-at.at p (sym (w.in_default.ensures ∙ ap (kind_of p.kind) octets)))
    ])
    (site_more c.args.place text c.split_at.result.0.now c.loop-at.at p.len c.loop-at.site c.site_behind-site.result c.loop-at.invariant.site_is c.site_behind-site.ensures octets)
