-- What is refused where there is no policy at a path, with the texts over which it is explained.
use Rattle.std.proofs.Common.{◌≡◌, ℕ, Bool, true, false, List, [], inl, inr, refl, subst, sym}
use Rattle.guard_notes.specs.Sources.{AbstractSources, sources}
use Rattle.guard_files.specs.declared.fault.Fault.{Fault}
use Rattle.guard_files.specs.declared.fault.Fault.TheVariants.{CannotRead, TooLarge, Schema, Policy, Run, NoMemory}
use Rattle.guard_files.specs.Explaining.{AreTextsOf, IsExplained, IsExplanation, IsNoPolicyWith, IsRefused}
use Rattle.guard_files.specs.Files.{Told, HasText}
use Rattle.guard_files.specs.Reading.{IsNoPolicyAt, IsUnreadable, SayNothing, SayNoneLoaded}
use Rattle.guard_files.specs.inside.Texts.{IsBeforeModules}
use Rattle.guard_files.proofs.Refusals.{not_said, policy_unread}

module _ (told : Told) (path note : List ℕ) where
  -- nothing is said where memory ran out
  pub silent : (explain : Bool) (f : Fault) → f ≡ NoMemory → note ≡ [] → IsNoPolicyWith explain told path f note
  silent false f is none = (inr (inr is), none)
  silent true f is none = subst (λ (x : Fault). IsExplained told path x note) (sym is) (inr (inr refl), none)

  -- a fault that is explained over these texts
  refused : (explain : Bool) (s : AbstractSources) (text : List ℕ) (f r : Fault) → IsNoPolicyAt told path f → (IsExplanation s text f note → IsExplained told path f note)
      → IsRefused explain s text f r note → IsNoPolicyWith explain told path r note
  refused false s text f r none explained e = (subst (IsNoPolicyAt told path) (sym e.0) none, e.1)
  refused true s text f r none explained (inl e) = subst (λ (x : Fault). IsExplained told path x note) (sym e.0) (explained e.1)
  refused true s text f r none explained (inr e) = silent true r e.0 e.1

  unread : (f : Fault) → IsUnreadable told path f → IsExplanation (sources path [] []) [] f note → IsExplained told path f note
  unread (CannotRead file obstacle) h e = (policy_unread told path (CannotRead file obstacle) h, e)
  unread (TooLarge file) h e = (policy_unread told path (TooLarge file) h, e)
  unread NoMemory h e = (inr (inr refl), e)
  unread (Schema f) h e = absurd h
  unread (Policy f) h e = absurd h
  unread (Run f) h e = absurd h

  -- the policy's file
  pub unread_refused : (explain : Bool) (f r : Fault) → IsUnreadable told path f → IsRefused explain (sources path [] []) [] f r note → IsNoPolicyWith explain told path r note
  unread_refused explain f r h = refused explain (sources path [] []) [] f r (policy_unread told path f h) (unread f h)

  module _ (text : List ℕ) (has : HasText told path text) where
    beside : (f : Fault) → IsBeforeModules f → IsNoPolicyAt told path f → IsExplanation (sources path [] []) text f note → IsExplained told path f note
    beside (Schema f) before missing e = absurd before
    beside (Policy f) before missing e = (text, has, missing, e)
    beside (CannotRead file obstacle) before missing e = (missing, e)
    beside (TooLarge file) before missing e = (missing, e)
    beside (Run f) before missing e = (missing, e)
    beside NoMemory before missing e = (missing, e)

    -- the files that its text lists
    pub beside_refused : (explain : Bool) (f r : Fault) → IsBeforeModules f → IsNoPolicyAt told path f → IsRefused explain (sources path [] []) text f r note → IsNoPolicyWith explain told path r note
    beside_refused explain f r before missing = refused explain (sources path [] []) text f r missing (beside f before missing)

  -- ---- texts that say no policy

  module _ (text : List ℕ) (files modules : List (List ℕ)) (are : AreTextsOf told path text files modules) where
    said_none : (f : Fault) → SayNothing modules text f → IsExplanation (sources path files modules) text f note → IsExplained told path f note
    said_none (Schema f) none e = (text, files, modules, are, none, e)
    said_none (Policy f) none e = (text, are.0, inr (inl (text, modules, (are.0, (files, are.1, are.2)), none)), e)
    said_none (CannotRead file obstacle) none e = absurd none
    said_none (TooLarge file) none e = absurd none
    said_none (Run f) none e = absurd none
    said_none NoMemory none e = absurd none

    explained : (f : Fault) → SayNoneLoaded modules text f → IsExplanation (sources path files modules) text f note → IsExplained told path f note
    explained f (inl none) e = said_none f none e
    explained f (inr is) e = silent true f is (subst (λ (x : Fault). IsExplanation (sources path files modules) text x note) is e)

    pub texts_refused : (explain : Bool) (f r : Fault) → SayNoneLoaded modules text f → IsRefused explain (sources path files modules) text f r note → IsNoPolicyWith explain told path r note
    texts_refused explain f r none =
        refused explain (sources path files modules) text f r (not_said told path text modules (are.0, (files, are.1, are.2)) f none) (explained f none)
