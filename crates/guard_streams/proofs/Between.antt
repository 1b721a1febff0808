-- What is shown between records of many links.
use Rattle.std.proofs.Common.{◌≡◌, ◌∙◌, inl, inr, ℕ, Bool, true, false, List, [], ◌∷◌, ◌++◌, map, sym, refl, subst, append_assoc}
use Rattle.std.specs.Prelude.{Option, Some}
use Rattle.std.specs.List.{concat}
use Rattle.std.specs.Io.KnownBytes.{Consumes}
use Rattle.std.proofs.lemmas.List.{append-nil}
use Rattle.std.proofs.lemmas.List.Elements.{All-cons, All-nil, All-weaker}
use Rattle.guard_frames.proofs.Reading.{Consumes_trans}
use Rattle.guard_files.specs.Files.{Told}
use Rattle.guard_files.specs.Records.{record_octets}
use Rattle.guard_streams.specs.declared.links.Links.{Links}
use Rattle.guard_streams.specs.Counters.{AbstractCounted, counters_text}
use Rattle.guard_streams.specs.Counting.{ShowsLast}
use Rattle.guard_streams.specs.CountingLinks.{IsShownBetween, MayShowCounted, ShowsBetween, ShowsCounted}
use Rattle.guard_streams.specs.LinksCounted.{maybe_counted}
use Rattle.guard_streams.specs.Shown.{Shown, ShowsAt}
use Rattle.guard_streams.specs.Turns.{AbstractMux}
use Rattle.guard_streams.specs.inside.Doing.{mux_of}
use Rattle.guard_streams.proofs.Taking.{TakenSoFar}

pub none_shown : (path : List ℕ) (first : AbstractMux) (a : Option (List ℕ)) (place : Option (List ℕ)) (s : Shown) → ShowsBetween path first a a place s s
none_shown path first a place s = ([], refl, All-nil (IsShownBetween path first a a))

module _ (path : List ℕ) (first : AbstractMux) (a b : Option (List ℕ)) (place : Option (List ℕ)) (old now : Shown)
    (so_far : ShowsBetween path first a b place old now) where
  -- once more was read
  longer : (c : Option (List ℕ)) (more : List ℕ) → Consumes b c more → (text : List ℕ) → IsShownBetween path first a b text →
      IsShownBetween path first a c text
  longer c more read text h =
      let records = concat (map record_octets h.records) in
      record {
        records = h.records;
        rest = h.rest ++ more;
        given = subst (λ (s : List ℕ). Consumes a c s) (append_assoc records h.rest more)
            (Consumes_trans a b c (records ++ h.rest) more h.given read);
        written = h.written;
        last = h.last;
        in_turn = h.in_turn;
        is = h.is;
      }

  pub read_more : (c : Option (List ℕ)) (more : List ℕ) → Consumes b c more → ShowsBetween path first a c place old now
  read_more c more read = (
    so_far.0,
    so_far.1,
    All-weaker (IsShownBetween path first a b) (IsShownBetween path first a c) (longer c more read) so_far.0 so_far.2,
  )

  -- once what is counted may be shown
  pub shown_more : (o o₁ e e₁ : Option (List ℕ)) (told : Told) (links : Links) (new : Shown) → TakenSoFar path first a b o o₁ e e₁ told links →
      MayShowCounted place (maybe_counted links.followed.counted) now new → ShowsBetween path first a b place old new
  shown_more o o₁ e e₁ told links new taken (inl same) =
      subst (λ (s : Shown). ShowsBetween path first a b place old s) (sym same) so_far
  shown_more o o₁ e e₁ told links new taken (inr (text, is, shows)) = (
    text ∷ so_far.0,
    (now, so_far.1, shows),
    All-cons (IsShownBetween path first a b) text so_far.0 (record {
      records = taken.records;
      rest = [];
      given = subst (λ (s : List ℕ). Consumes a b s) (sym (append-nil (concat (map record_octets taken.records)))) taken.given;
      written = taken.written;
      last = mux_of told links;
      in_turn = taken.in_turn;
      is = is;
    }) so_far.2,
  )

-- ---- what is shown at one time

pub shows_yes : (X : List ℕ) (place path : Option (List ℕ)) (is : Bool) (old new : Shown) → place ≡ path → ShowsLast (λ text. text ≡ X) place is old new →
    is ≡ true → ShowsAt old path X new
shows_yes X place path true old new same (text, e, shows) is =
    subst (λ (s : Option (List ℕ)). ShowsAt old s X new) same (subst (λ (s : List ℕ). ShowsAt old place s new) e shows)
shows_yes X place path false old new same h is = absurd cc

pub shows_no : (X : List ℕ) (path : Option (List ℕ)) (is : Bool) (old new : Shown) → ShowsLast (λ text. text ≡ X) path is old new → is ≡ false → new ≡ old
shows_no X path true old new h is = absurd cc
shows_no X path false old new h is = h

pub counted_shown : (c : AbstractCounted) (place : Option (List ℕ)) (is : Bool) (old new : Shown) →
    ShowsLast (λ text. text ≡ counters_text c) place is old new → ShowsCounted place (Some c) is old new
counted_shown c place true old new (text, e, shows) = (text, (c, refl, e), shows)
counted_shown c place false old new h = h

pub may_show : (place : Option (List ℕ)) (counted : Option AbstractCounted) (is : Bool) (old mid new : Shown) → mid ≡ old →
    ShowsCounted place counted is mid new → MayShowCounted place counted old new
may_show place counted true old mid new e (text, is, shows) = inr (text, is, subst (λ (s : Shown). ShowsAt s place text new) e shows)
may_show place counted false old mid new e h = inl (h ∙ e)
