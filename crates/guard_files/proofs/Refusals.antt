-- What a call refuses is why there is no policy at the path.
use Rattle.std.proofs.Common.{◌≡◌, ◌⊎◌, ℕ, List, Option, Some, None, inl, inr, refl, subst, sym, MatchOption}
use Rattle.std.specs.Prelude.{IfSome}
use Rattle.guard_policy.specs.declared.fault.PolicyFault.{PolicyFault}
use Rattle.guard_policy.specs.Policies.{AbstractPolicy}
use Rattle.guard_policy.specs.Loads.{ListsFiles, ListsNoFiles}
use Rattle.guard_policy.specs.PolicyFaults as policy
use Rattle.guard_frames.specs.declared.texts.TextsFault.{TextsFault}
use Rattle.guard_frames.specs.declared.texts.TextsFault.TheVariants as texts
use Rattle.guard_frames.specs.Texts.{SayPolicy, SayNone}
use Rattle.guard_files.specs.declared.fault.Fault.{Fault}
use Rattle.guard_files.specs.declared.fault.Fault.TheVariants.{CannotRead, TooLarge, Schema, Policy, Run, NoMemory}
use Rattle.guard_files.specs.Faults.{StandsForPolicy, of_texts}
use Rattle.guard_files.specs.Files.{Told, after_read, HasText}
use Rattle.guard_files.specs.Reading.{folder, AreTexts, IsUnreadable, SayNothing, IsNoPolicyAt}
use Rattle.guard_files.specs.inside.Texts.{CannotAllBeRead, IsBeforeModules}

module _ (told : Told) (path : List ℕ) where
  -- the policy's file
  pub policy_unread : (f : Fault) → IsUnreadable told path f → IsNoPolicyAt told path f
  policy_unread (CannotRead file obstacle) h = inl (inl h)
  policy_unread (TooLarge file) h = inl h
  policy_unread NoMemory h = inr (inr refl)
  policy_unread (Schema f) h = absurd h
  policy_unread (Policy f) h = absurd h
  policy_unread (Run f) h = absurd h

  module _ (text : List ℕ) (has : HasText told path text) where
    by_top : (p : PolicyFault) (f : Fault) (named : Option policy.AbstractFault) → policy.named p ≡ named → MatchOption named (f ≡ NoMemory) (λ _. f ≡ Policy p)
        → IfSome named (ListsNoFiles text) → IsNoPolicyAt told path f
    by_top p f None e is h = inr (inr is)
    by_top p f (Some fault) e is h = rw is (inl (text, has, rw e h))

    -- its top
    pub lists_none : (p : PolicyFault) (f : Fault) → StandsForPolicy p f → IfSome (policy.named p) (ListsNoFiles text) → IsNoPolicyAt told path f
    lists_none p f is h = by_top p f (policy.named p) refl is h

    -- the files of its modules
    pub modules_unread : (files : List (List ℕ)) → ListsFiles text files → (f : Fault) → CannotAllBeRead (after_read told) (folder path) files f → IsNoPolicyAt told path f
    modules_unread files listed (CannotRead file obstacle) h = inl (inr (text, files, has, listed, h))
    modules_unread files listed (TooLarge file) h = absurd h
    modules_unread files listed NoMemory h = inr (inr refl)
    modules_unread files listed (Schema f) h = absurd h
    modules_unread files listed (Policy f) h = absurd h
    modules_unread files listed (Run f) h = absurd h

-- a fault of the policy's text alone
pub before_modules : (p : PolicyFault) (f : Fault) → StandsForPolicy p f → IsBeforeModules f
before_modules p f is = go (policy.named p) is
  where
    go : (named : Option policy.AbstractFault) → MatchOption named (f ≡ NoMemory) (λ _. f ≡ Policy p) → IsBeforeModules f
    go None e = subst IsBeforeModules (sym e) tt
    go (Some fault) e = subst IsBeforeModules (sym e) tt

-- what the texts say
pub say_nothing : (modules : List (List ℕ)) (text : List ℕ) (f : TextsFault) → SayNone modules text f → SayNothing modules text (of_texts f) ⊎ (of_texts f ≡ NoMemory)
say_nothing modules text (texts.Schema f) h = inl h
say_nothing modules text (texts.Policy f) h = inl h
say_nothing modules text (texts.Run f) h = absurd h
say_nothing modules text texts.OutOfMemory h = inr refl

pub not_said : (told : Told) (path text : List ℕ) (modules : List (List ℕ)) → AreTexts told path text modules → (f : Fault)
    → SayNothing modules text f ⊎ (f ≡ NoMemory) → IsNoPolicyAt told path f
not_said told path text modules are f h = elim h [
  | inl none ↦ inr (inl (text, modules, are, none))
  | inr e ↦ inr (inr e)
]

-- ---- texts that are these

module _ (modules : List (List ℕ)) (text : List ℕ) (modules₁ : List (List ℕ)) (text₁ : List ℕ) (same_modules : modules₁ ≡ modules) (same_text : text₁ ≡ text) where
  pub say_alike : (p : AbstractPolicy) → SayPolicy modules₁ text₁ p → SayPolicy modules text p
  say_alike p said = subst (λ (t : List ℕ). SayPolicy modules t p) same_text (subst (λ (ms : List (List ℕ)). SayPolicy ms text₁ p) same_modules said)

  pub say_none_alike : (f : TextsFault) → SayNone modules₁ text₁ f → SayNone modules text f
  say_none_alike f none = subst (λ (t : List ℕ). SayNone modules t f) same_text (subst (λ (ms : List (List ℕ)). SayNone ms text₁ f) same_modules none)
