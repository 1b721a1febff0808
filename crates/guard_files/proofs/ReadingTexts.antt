-- Files that are read one after another.
use Rattle.std.proofs.Common.{◌≡◌, ◌∙◌, ap, ℕ, zero, suc, ◌+◌, ◌<◌, ◌≤◌, List, [], ◌∷◌, ◌++◌, map, length, drop, get_or, refl, sym, subst, inl, inr, append_assoc, String, string_bytes}
use Rattle.std.proofs.lemmas.List.{append-nil, drop_all}
use Rattle.std.specs.declared.alloc.Global.{Global}
use Rattle.guard_policy.proofs.EntriesRead.{left_is}
use Rattle.guard_files.specs.Files.{Told, after_read, after_reads, IsLater, HasFront, HasNone}
use Rattle.guard_files.specs.Reading.{HaveTexts, FirstMissing}

-- With these texts, of the names in front of what is left: what holds of the names that are left, by the reads to come,
-- holds of all by the first ones.
pub record ReadSoFar (told now : Told) (beside : List ℕ) (all left done : List (List ℕ)) : Type 0 where
  pub have : (texts : List (List ℕ)) → HaveTexts now beside left texts → HaveTexts told beside all (done ++ texts)
  pub lack : (path : List ℕ) → FirstMissing now beside left path → FirstMissing told beside all path

pub read_none : (told : Told) (beside : List ℕ) (all : List (List ℕ)) → ReadSoFar told told beside all all []
read_none told beside all = record { have = λ texts h. h; lack = λ path h. h }

pub read_one : (told now : Told) (beside : List ℕ) (all left done : List (List ℕ)) (name text : List ℕ) → HasFront now (beside ++ name) text
    → ReadSoFar told now beside all (name ∷ left) done → ReadSoFar told (after_read now) beside all left (done ++ text ∷ [])
read_one told now beside all left done name text has so_far = record {
  have = λ texts h.
      subst (λ (ts : List (List ℕ)). HaveTexts told beside all ts) (sym (append_assoc done (text ∷ []) texts)) (so_far.have (text ∷ texts) (text, texts, has, h, refl));
  lack = λ path h. so_far.lack path (inr (text, has, h));
}

pub read_all : (told now : Told) (beside : List ℕ) (all done : List (List ℕ)) → ReadSoFar told now beside all [] done → HaveTexts told beside all done
read_all told now beside all done so_far = subst (λ (ts : List (List ℕ)). HaveTexts told beside all ts) (append-nil done) (so_far.have [] refl)

pub missing_here : (told now : Told) (beside : List ℕ) (all left done : List (List ℕ)) (name : List ℕ) → HasNone now (beside ++ name)
    → ReadSoFar told now beside all (name ∷ left) done → FirstMissing told beside all (beside ++ name)
missing_here told now beside all left done name none so_far = so_far.lack (beside ++ name) (inl (none, refl))

-- ---- as the loop reads them

-- one more file is read, of the name at the place where the loop is
pub read_next : (told now : Told) (beside : List ℕ) (listed : List (String Global)) (i : ℕ) (name : String Global) (path text : List ℕ) (done : List (List ℕ))
    → i < length listed → name ≡ get_or listed i name → path ≡ beside ++ string_bytes name → HasFront now path text
    → ReadSoFar told now beside (map string_bytes listed) (map string_bytes (drop i listed)) done
    → ReadSoFar told (after_read now) beside (map string_bytes listed) (map string_bytes (drop (i + 1) listed)) (done ++ text ∷ [])
read_next told now beside listed i name path text done lt is at has so_far =
    read_one told now beside (map string_bytes listed) (map string_bytes (drop (i + 1) listed)) done (string_bytes name) text
    (subst (λ (p : List ℕ). HasFront now p text) at has)
    (subst (λ (left : List (List ℕ)). ReadSoFar told now beside (map string_bytes listed) left done) (left_is string_bytes listed i name lt is) so_far)

-- the loop is after them all
pub read_whole : (told now : Told) (beside : List ℕ) (listed : List (String Global)) (i : ℕ) (done : List (List ℕ)) → length listed ≤ i
    → ReadSoFar told now beside (map string_bytes listed) (map string_bytes (drop i listed)) done → HaveTexts told beside (map string_bytes listed) done
read_whole told now beside listed i done past so_far =
    read_all told now beside (map string_bytes listed) done
    (subst (λ (left : List (String Global)). ReadSoFar told now beside (map string_bytes listed) (map string_bytes left) done) (drop_all i listed past) so_far)

-- ---- how many reads later

after_each : (n : ℕ) (told : Told) → after_read (after_reads n told) ≡ after_reads n (after_read told)
after_each zero told = refl
after_each (suc n) told = after_each n (after_read told)

pub now_later : (told : Told) → IsLater told told
now_later told = (0, refl)

-- one read more
pub later_read : (told now next : Told) → IsLater told now → next ≡ after_read now → IsLater told next
later_read told now next h e = (suc h.0, e ∙ ap after_read h.1 ∙ after_each h.0 told)

-- one read before
pub read_later : (told now next : Told) → now ≡ after_read told → IsLater now next → IsLater told next
read_later told now next e h = (suc h.0, h.1 ∙ ap (after_reads h.0) e)
