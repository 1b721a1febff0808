-- Texts denote one schema at most, and then they have no fault; they have one first fault at most, the parser's choice
-- aside.
use Rattle.std.proofs.Common.{◌≡◌, ℕ, suc, List, [], ◌∷◌, ◌++◌, length, Option, Some, None, Ok, Err, inl, inr, refl}
use Rattle.std.proofs.Common.{sym, ap, subst, ◌∙◌}
use Rattle.std.proofs.lemmas.Option.{same_Some}
use Rattle.guard_model.specs.declared.site.Site.{Site}
use Rattle.guard_model.specs.AbstractType.{AbstractType}
use Rattle.guard_lexer.proofs.OneAnswer.{one_list, none_lexed}
use Rattle.guard_lexer.proofs.OneAnswer as lexing
use Rattle.guard_syntax.specs.Lexemes.{lexemes_of, sites_of}
use Rattle.guard_syntax.specs.Parses.{IsWritten, HasSites}
use Rattle.guard_syntax.specs.Trees.{WrittenModule, WrittenType, WrittenValue, WrittenAssignment}
use Rattle.guard_syntax.proofs.SoundAndComplete.{one_tree}
use Rattle.guard_names.specs.Declarations.{Definition, definitions}
use Rattle.guard_names.specs.Meanings.{Uses}
use Rattle.guard_names.proofs.InOrder.Orders.{one_order}
use Rattle.guard_names.proofs.Faults.OneFault.{never_both}
use Rattle.guard_names.proofs.Faults.OneFault as names
use Rattle.guard_tagging.specs.Surroundings.{nodes_of_all}
use Rattle.guard_tagging.specs.Types.{Surroundings}
use Rattle.guard_tagging.proofs.Definitions.Meanings.{same_surroundings}
use Rattle.guard_constraints.specs.Visible.{Visible}
use Rattle.guard_schema.specs.OneAnswer.{SameFault, IsDecided}
use Rattle.guard_schema.specs.Faults.{AbstractFault, Lex, Syntax, Name, Tag, Clash, Outcome}
use Rattle.guard_schema.specs.Texts.{IsModuleText, ReadsText, ReadsTexts}
use Rattle.guard_schema.specs.Known.{Known, with_built, none_known, types_of, visible, IsWrittenUnder}
use Rattle.guard_tagcheck.specs.InCommon.{in_common}
use Rattle.guard_schema.specs.Building.{HasTagsUnder, HasTags, TellsApart, Assigns, HasValue, Builds, BuildsNumber}
use Rattle.guard_schema.specs.Building.{BuildsAll}
use Rattle.guard_schema.specs.Accepts.{OrdersNames, ReadsModules, KnowsModules, Knows, Denotes}
use Rattle.guard_schema.proofs.Turns.Outcomes.{is_decided, passes_decided, then_decided}
use Rattle.guard_schema.proofs.OneAnswer.Clashes.{one_clash}
use Rattle.guard_schema.proofs.OneAnswer.Steps.{OneValue, OneConstraint, OneConsFault, member_decided, type_decided}

-- ---- texts

module _ (place : ℕ) (text : List ℕ) where
  one_module : (a b : WrittenModule) → IsModuleText place text a → IsModuleText place text b → a ≡ b
  one_module a b h k =
      let same : k.tokens ≡ h.tokens = one_list place text k.tokens h.tokens k.lexes h.lexes in
      let written : IsWritten b (lexemes_of text h.tokens) =
      subst (λ ts. IsWritten b (lexemes_of text ts)) same k.written in
      let sites : HasSites b (sites_of h.tokens) = subst (λ ts. HasSites b (sites_of ts)) same k.sites in
      sym h.sites ∙ one_tree a b (lexemes_of text h.tokens) h.written written (sites_of h.tokens) ∙ sites

  module_alone : (a : WrittenModule) (f : AbstractFault) → ReadsText place text (Ok a) → ReadsText place text (Err f)
      → ⊥
  module_alone a (Lex f) h k = none_lexed place text h.tokens f h.lexes k.1
  module_alone a (Syntax f) h k = k.1.unwritten a
      (subst (λ ts. IsWritten a (lexemes_of text ts))
      (one_list place text h.tokens k.1.tokens h.lexes k.1.lexes) h.written)
  module_alone a _ h k = k

  first_fault : (f g : AbstractFault) → ReadsText place text (Err f) → ReadsText place text (Err g) → SameFault f g
  first_fault (Lex f) (Lex g) h k = inl (ap Lex (lexing.one_fault place text f g h.1 k.1))
  first_fault (Lex f) (Syntax g) h k = absurd (none_lexed place text k.1.tokens f k.1.lexes h.1)
  first_fault (Lex f) _ h k = absurd k
  first_fault (Syntax f) (Lex g) h k = absurd (none_lexed place text h.1.tokens g h.1.lexes k.1)
  first_fault (Syntax f) (Syntax g) h k = inr (place, text, h.1, k.1)
  first_fault (Syntax f) _ h k = absurd k
  first_fault _ g h k = absurd h

  text_decided : IsDecided (ReadsText place text)
  text_decided = record { one = one_module; alone = module_alone; first = first_fault }

texts_decided : (before : List WrittenModule) (texts : List (List ℕ)) → IsDecided (ReadsTexts before texts)
texts_decided before [] = is_decided before
texts_decided before (text ∷ texts) = then_decided _ _ (text_decided (suc (length before)) text)
    (λ tree. texts_decided (before ++ tree ∷ []) texts)

modules_decided : (texts : List (List ℕ)) → IsDecided (ReadsModules texts)
modules_decided texts = then_decided _ _ (passes_decided _ _) (λ _. texts_decided [] texts)

-- ---- names

names_decided : (ms : List WrittenModule) → IsDecided (OrdersNames ms)
names_decided ms = record {
  one = λ a b h k. one_order (length (definitions ms)) (Uses ms) a b h.1 k.1;
  alone =
      alone;
  first = first;
}
  where
    first : (f g : AbstractFault) → OrdersNames ms (Err f) → OrdersNames ms (Err g) → SameFault f g
    first (Name f) (Name g) h k = inl (ap Name (names.one_fault ms f g h k))
    first (Name f) _ h k = absurd k
    first _ g h k = absurd h

    alone : (order : List ℕ) (f : AbstractFault) → OrdersNames ms (Ok order) → OrdersNames ms (Err f) → ⊥
    alone order (Name f) h k = never_both ms f h.0 k
    alone order _ h k = k

-- ---- definitions

decided_under : (surroundings : Surroundings) (before : ℕ) (tree : WrittenType)
    → IsDecided (HasTagsUnder surroundings before tree)
decided_under surroundings before tree = record { one = λ a b h k. h.1 ∙ sym k.1; alone = alone; first = first }
  where
    first : (f g : AbstractFault) → HasTagsUnder surroundings before tree (Err f)
        → HasTagsUnder surroundings before tree (Err g)
        → SameFault f g
    first (Tag f) (Tag g) h k = inl (ap Tag (same_Some f g (sym h.1.0 ∙ k.1.0)))
    first (Tag f) _ h k = absurd k
    first _ g h k = absurd h

    alone : (t : AbstractType) (f : AbstractFault) → HasTagsUnder surroundings before tree (Ok t)
        → HasTagsUnder surroundings before tree (Err f) → ⊥
    alone t (Tag f) h k = none_some (sym h.0 ∙ k.1.0)
      where
        none_some : None ≡ Some f → ⊥
        none_some e = cc
    alone t _ h k = k

-- a definition has one surroundings
tags_decided : (k : Known) (d : Definition) → IsDecided (HasTags k d)
tags_decided k d = record {
  one = λ a b h l. (decided l.0).one a b (there (Ok a) h l.0 l.1) l.2;
  alone = λ a f h l. (decided l.0).alone a f (there (Ok a) h l.0 l.1) l.2;
  first = λ f g h l. (decided l.0).first f g (there (Err f) h l.0 l.1) l.2;
}
  where
    decided : (s : Surroundings)
        → IsDecided (HasTagsUnder s (nodes_of_all (types_of k.built)) d.assignment.ty)
    decided s = decided_under s (nodes_of_all (types_of k.built)) d.assignment.ty

    there : (answer : Outcome AbstractType) (h : HasTags k d answer) (s : Surroundings) → IsWrittenUnder k d s
        → HasTagsUnder s (nodes_of_all (types_of k.built)) d.assignment.ty answer
    there answer h s under =
        subst (λ (x : Surroundings). HasTagsUnder x (nodes_of_all (types_of k.built)) d.assignment.ty answer)
        (same_surroundings k.modules k.order (types_of k.built) d h.0 s h.1 under) h.2

apart_decided : (site : Site) (t : AbstractType) → IsDecided (TellsApart site t)
apart_decided site t = record { one = λ x y h k. refl; alone = alone; first = first }
  where
    first : (f g : AbstractFault) → TellsApart site t (Err f) → TellsApart site t (Err g) → SameFault f g
    first (Clash r c a) (Clash s d b) h k =
        let same = one_clash t c d h.1 k.1 in
        inl (ap (λ x. Clash x c a) (h.0 ∙ sym k.0)
        ∙ ap (λ x. Clash s x a) same
        ∙ ap (Clash s d) (h.2 ∙ ap (in_common t) same ∙ sym k.2))
    first (Clash r c a) _ h k = absurd k
    first _ g h k = absurd h

    alone : (x : Unit {0}) (f : AbstractFault) → TellsApart site t (Ok x) → TellsApart site t (Err f) → ⊥
    alone x (Clash s c a) h k = h c.path c.first c.second k.1.0
    alone x _ h k = k

module _ (one_value : OneValue) (one_constraint : OneConstraint) (one_cons_fault : OneConsFault) where
  assigned_decided : (names : Visible) (t : AbstractType) (value : Option WrittenValue)
      → IsDecided (Assigns names t value)
  assigned_decided names t None = is_decided None
  assigned_decided names t (Some tree) = then_decided _ _
      (member_decided one_value one_constraint one_cons_fault names t tree) (λ v. is_decided (Some v))

  value_decided : (k : Known) (names : Visible) (a : WrittenAssignment) (t : AbstractType)
      → IsDecided (HasValue k names a t)
  value_decided k names a t =
      then_decided _ _ (assigned_decided names t a.value)
      (λ v. then_decided _ _ (passes_decided _ _) (λ _. is_decided _))

  builds_decided : (k : Known) (d : Definition) → IsDecided (Builds k d)
  builds_decided k d =
      then_decided _ _ (tags_decided k d) (λ bare.
      then_decided _ _ (apart_decided d.assignment.site bare) (λ _.
      then_decided _ _ (type_decided one_value one_constraint one_cons_fault
      (visible k d.home.name) d.assignment.ty bare) (λ t.
      value_decided k (visible k d.home.name) d.assignment t)))

  number_decided : (k : Known) (number : ℕ) → IsDecided (BuildsNumber k number)
  number_decided k number = record {
    one = λ a b h l. (builds_decided k l.0).one a b
        (subst (λ d. Builds k d (Ok a)) (same_Some h.0 l.0 (sym h.1 ∙ l.1)) h.2) l.2;
    alone = λ a f h l. (builds_decided k l.0).alone a f
        (subst (λ d. Builds k d (Ok a)) (same_Some h.0 l.0 (sym h.1 ∙ l.1)) h.2) l.2;
    first = λ f g h l. (builds_decided k l.0).first f g
        (subst (λ d. Builds k d (Err f)) (same_Some h.0 l.0 (sym h.1 ∙ l.1)) h.2) l.2;
  }

  all_decided : (k : Known) (numbers : List ℕ) → IsDecided (BuildsAll k numbers)
  all_decided k [] = is_decided k.built
  all_decided k (number ∷ numbers) = then_decided _ _ (number_decided k number)
      (λ b. all_decided (with_built k b) numbers)

  known_decided : (ms : List WrittenModule) → IsDecided (KnowsModules ms)
  known_decided ms =
      then_decided _ _ (names_decided ms) (λ order.
      then_decided _ _ (all_decided (none_known ms order) order) (λ built. is_decided _))

  pub texts_known : (texts : List (List ℕ)) → IsDecided (Knows texts)
  texts_known texts = then_decided _ _ (modules_decided texts) known_decided

  pub one_schema : (texts : List (List ℕ)) → IsDecided (Denotes texts)
  one_schema texts = then_decided _ _ (texts_known texts) (λ k. is_decided _)
