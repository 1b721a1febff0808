use Rattle.std.proofs.Common.{◌≡◌, ◌∷◌, [], ◌++◌, ◌+◌, List, map, sym, ap, ◌∙◌, IsTrue}
use Rattle.std.specs.Global.{Global}
use Rattle.std.specs.declared.sync.Arc.{Arc}
use Rattle.std.specs.Arc.{arc_value}
use Rattle.std.specs.Prelude.{IfSome}
use Rattle.std.proofs.lemmas.List.{map-append}
use Rattle.std.proofs.lemmas.List.Elements.{All-same, All-append, All-cons, All-nil}
use Rattle.guard_der.specs.Fits.{fits}
use Rattle.guard_der.specs.Sound.{is_sound}
use Rattle.guard_model.specs.TypeView.{shared_type_view}
use Rattle.guard_model.specs.declared.ty.Ty.{Ty}
use Rattle.guard_tagging.specs.Faults.{nodes}
use Rattle.guard_tagging.specs.Surroundings.{nodes_of_all}
use Rattle.guard_tagging.proofs.Builds.{nodes_more}
use Rattle.guard_schema.specs.Counting.{all_held, held_by}
use Rattle.guard_schema.specs.Known.{Built}
use Rattle.guard_schema.specs.Pairs.{built_view, paired}
use Rattle.guard_schema.proofs.Filled.Lists.{paired_more, held_more}
use Rattle.guard_schema.proofs.progress.Progress.with.Goals as goal

pub invariant_of-result : goal.invariant_of-result
invariant_of-result c =
    let ts = c.args.self.known.types.items in
    let vs = c.args.self.known.values.items in
    let t = c.args.definition.ty in
    let v = c.args.definition.value in
    let b = built_view (arc_value t) v in
    let types = c.in_ok-more.ensures.types in
    let more = c.in_ok-more.more in
    let all : paired more.types.items more.values.items ≡ paired ts vs ++ b ∷ [] =
    ap (λ (xs : List (Arc Ty Global)). paired xs more.values.items) types
    ∙ ap (paired (ts ++ t ∷ [])) c.in_ok-more.ensures.values ∙ paired_more ts vs t v c.args.self.known.even in
    record {
      counted = c.requires.nodes ∙ ap (λ n. n + nodes (shared_type_view t)) c.args.self.counted
          ∙ sym (ap (λ (xs : List (Arc Ty Global)). nodes_of_all (map shared_type_view xs)) types
          ∙ ap nodes_of_all (map-append shared_type_view ts (t ∷ [])) ∙ nodes_more (map shared_type_view ts) (shared_type_view t));
      few = c.requires.few;
      holding = c.requires.held ∙ ap (λ n. n + held_by b) c.args.self.holding
          ∙ sym (ap all_held all ∙ held_more (paired ts vs) b);
      little = c.requires.little;
      sound = All-same (λ (u : Arc Ty Global). IsTrue (is_sound (shared_type_view u))) _ _ types
          (All-append (λ (u : Arc Ty Global). IsTrue (is_sound (shared_type_view u))) ts (t ∷ []) c.args.self.sound
          (All-cons (λ (u : Arc Ty Global). IsTrue (is_sound (shared_type_view u))) t [] c.requires.sound
          (All-nil (λ (u : Arc Ty Global). IsTrue (is_sound (shared_type_view u))))));
      fitting = All-same (λ (x : Built). IfSome x.value (λ w. IsTrue (fits x.ty w))) _ _ all
          (All-append (λ (x : Built). IfSome x.value (λ w. IsTrue (fits x.ty w))) (paired ts vs)
          (b ∷ []) c.args.self.fitting (All-cons
          (λ (x : Built). IfSome x.value (λ w. IsTrue (fits x.ty w))) b [] c.requires.fits
          (All-nil (λ (x : Built). IfSome x.value (λ w. IsTrue (fits x.ty w))))));
    }

pub returns-clause-more : goal.returns-clause-more
returns-clause-more c =
    let ts = c.args.self.known.types.items in
    ap (λ (xs : List (Arc Ty Global)). paired xs c.in_ok-more.more.values.items) c.in_ok-more.ensures.types
    ∙ ap (paired (ts ++ c.args.definition.ty ∷ [])) c.in_ok-more.ensures.values
    ∙ paired_more ts c.args.self.known.values.items c.args.definition.ty c.args.definition.value
    c.args.self.known.even
