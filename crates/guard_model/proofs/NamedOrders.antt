-- What is found by name and by number in a list of names, as its orders are made entry by entry.
use Rattle.std.proofs.Common.{◌≡◌, ℕ, ◌+◌, ◌<◌, Bool, true, false, cond, ◌||◌, List, [], ◌∷◌, ◌++◌, map, length, get_or, take, Option, Some, None, refl, sym, ap, ◌∙◌, add-one}
use Rattle.std.specs.Prelude.{ℤ, bytes_eq, is_some}
use Rattle.std.specs.BTreeMap.{BTreeMap, UpdatesBy, is_at}
use Rattle.std.specs.Cmp.{eq_by_cmp_equiv, int_eq_equiv}
use Rattle.std.specs.Cmp.Lexicographic.{slice_cmp, nat_list_cmp_total, nat_list_eq_equiv}
use Rattle.std.specs.Global.{Vec}
use Rattle.std.specs.Map.{KeepsOthers}
use Rattle.std.specs.Option.{option_or}
use Rattle.std.specs.declared.cmp.Ordering.{Ordering}
use Rattle.std.specs.Ordering.{int_eq, is_eq, nat_cmp, eq_by_cmp}
use Rattle.std.proofs.lemmas.Bool.{false≢true}
use Rattle.std.proofs.lemmas.List.{map-append}
use Rattle.std.proofs.lemmas.Map.Text.{is_eq-slice_cmp}
use Rattle.std.proofs.lemmas.Slice.Eq.{bytes_eq-Decides}
use Rattle.std.proofs.Math.Seq.{take-suc}
use Rattle.guard_model.specs.AbstractType.{NamedNumber}
use Rattle.guard_model.specs.NamedLists.{named_view, number_named, is_item}
use Rattle.guard_model.specs.declared.ty.Named.{Named}
use Rattle.guard_model.specs.inside.NamedOrders.{number_at}

-- ---- the list, one entry longer

abbrev pub seen : List Named → ℕ → List NamedNumber
seen entries i = map named_view (take i entries)

one_more : (entries : List Named) (i : ℕ) (d : Named) → i < length entries → seen entries (i + 1) ≡ seen entries i ++ named_view (get_or entries i d) ∷ []
one_more entries i d lt = rw (add-one, take-suc entries i d lt) (map-append named_view (take i entries) (get_or entries i d ∷ []))

number_by : (name : List ℕ) (first last : NamedNumber) (ns : List NamedNumber) (rest : Option ℤ) (b : Bool) → number_named name (ns ++ last ∷ []) ≡ rest → cond b (Some first.number) (number_named name (ns ++ last ∷ [])) ≡ cond b (Some first.number) rest
number_by name first last ns rest b h = ap (λ (x : Option ℤ). cond b (Some first.number) x) h

or_behind : (b : Bool) (z : ℤ) (x y : Option ℤ) → cond b (Some z) (option_or x y) ≡ option_or (cond b (Some z) x) y
or_behind true z x y = refl
or_behind false z x y = refl

number_more : (name : List ℕ) (ns : List NamedNumber) (n : NamedNumber) → number_named name (ns ++ n ∷ []) ≡ option_or (number_named name ns) (number_named name (n ∷ []))
number_more name [] n = refl
number_more name (m ∷ ns) n =
    number_by name m n ns _ (bytes_eq name m.name) (number_more name ns n)
    ∙ or_behind (bytes_eq name m.name) m.number (number_named name ns) (number_named name (n ∷ []))

pub number_after : (name : List ℕ) (entries : List Named) (i : ℕ) (d : Named) (old new : Option ℤ) → i < length entries → old ≡ number_named name (seen entries i)
    → new ≡ option_or old (number_named name (named_view (get_or entries i d) ∷ [])) → new ≡ number_named name (seen entries (i + 1))
number_after name entries i d old new lt was is =
    is
    ∙ ap (λ (x : Option ℤ). option_or x (number_named name (named_view (get_or entries i d) ∷ []))) was
    ∙ sym (number_more name (seen entries i) (named_view (get_or entries i d)))
    ∙ ap (number_named name) (sym (one_more entries i d lt))

or_last : (a b : Bool) → cond b true a ≡ (a || (b || false))
or_last true true = refl
or_last true false = refl
or_last false true = refl
or_last false false = refl

or_in_turn : (a b c : Bool) → (a || (b || c)) ≡ ((a || b) || c)
or_in_turn true b c = refl
or_in_turn false b c = refl

item_more : (z : ℤ) (ns : List NamedNumber) (n : NamedNumber) → is_item z (ns ++ n ∷ []) ≡ (is_item z ns || (int_eq z n.number || false))
item_more z [] n = refl
item_more z (m ∷ ns) n =
    ap (λ (b : Bool). int_eq z m.number || b) (item_more z ns n) ∙ or_in_turn (int_eq z m.number) (is_item z ns) (int_eq z n.number || false)

pub known_after : (z : ℤ) (entries : List Named) (i : ℕ) (d : Named) (old new : Bool) → i < length entries → old ≡ is_item z (seen entries i)
    → new ≡ cond (int_eq (get_or entries i d).number z) true old → new ≡ is_item z (seen entries (i + 1))
known_after z entries i d old new lt was is =
    is
    ∙ ap (λ (b : Bool). cond b true old) (int_eq_equiv.symm (get_or entries i d).number z)
    ∙ ap (λ (b : Bool). cond (int_eq z (get_or entries i d).number) true b) was
    ∙ or_last (is_item z (seen entries i)) (int_eq z (get_or entries i d).number)
    ∙ sym (item_more z (seen entries i) (named_view (get_or entries i d)))
    ∙ ap (is_item z) (sym (one_more entries i d lt))

-- ---- the map, one entry longer

abbrev pub by_octets : Vec ℕ → Vec ℕ → Ordering
by_octets x y = slice_cmp nat_cmp x.items y.items

-- what was found already stays
kept_by : (b : Bool) (old : Option ℤ) (z : ℤ) → (b ≡ true → is_some old ≡ true) → old ≡ option_or old (cond {A = Option ℤ} b (Some z) None)
kept_by true (Some x) z found = refl
kept_by true None z found = absurd (false≢true (found refl))
kept_by false (Some x) z found = refl
kept_by false None z found = refl

pub kept : (numbers : BTreeMap (Vec ℕ) ℤ) (n : NamedNumber) (name : List ℕ) → is_some (number_at numbers n.name) ≡ true → number_at numbers name ≡ option_or (number_at numbers name) (number_named name (n ∷ []))
kept numbers n name found =
    kept_by (bytes_eq name n.name) (number_at numbers name) n.number
    (λ e. ap (λ (bs : List ℕ). is_some (number_at numbers bs)) ((bytes_eq-Decides name n.name).0 e) ∙ found)

put_by : (b : Bool) (old : Option ℤ) (z : ℤ) → (b ≡ true → is_some old ≡ false) → cond b (Some z) old ≡ option_or old (cond {A = Option ℤ} b (Some z) None)
put_by true (Some x) z none = absurd (false≢true (sym (none refl)))
put_by true None z none = refl
put_by false (Some x) z none = refl
put_by false None z none = refl

-- the other names keep their numbers
apart : (bs cs ks : List ℕ) → bytes_eq bs cs ≡ false → is_eq (slice_cmp nat_cmp bs ks) ≡ true → is_eq (slice_cmp nat_cmp cs ks) ≡ false
apart bs cs ks ne hit =
    is_eq-slice_cmp cs ks ∙ nat_list_eq_equiv.symm cs ks ∙ sym (nat_list_eq_equiv.congr bs ks cs (sym (is_eq-slice_cmp bs ks) ∙ hit)) ∙ ne

others : (numbers after : BTreeMap (Vec ℕ) ℤ) (bs cs : List ℕ) → KeepsOthers (eq_by_cmp by_octets) (is_at (λ k. slice_cmp nat_cmp bs k.items)) numbers.entries after.entries → bytes_eq bs cs ≡ false → number_at after cs ≡ number_at numbers cs
unfolding KeepsOthers
others numbers after bs cs stay ne =
    stay (is_at (λ k. slice_cmp nat_cmp cs k.items)) (λ x y. (eq_by_cmp_equiv nat_list_cmp_total).congr cs x.items y.items) (λ k. apart bs cs k.items ne)

module _ (numbers after : BTreeMap (Vec ℕ) ℤ) (bs : List ℕ) (w : Option ℤ) (h : UpdatesBy by_octets (λ k. slice_cmp nat_cmp bs k.items) numbers after w) (cs : List ℕ) where
  updated_by : (b : Bool) → bytes_eq bs cs ≡ b → number_at after cs ≡ cond b w (number_at numbers cs)
  updated_by true same = ap (number_at after) (sym ((bytes_eq-Decides bs cs).0 same)) ∙ h.1
  updated_by false ne = others numbers after bs cs h.3 ne

  updated : number_at after cs ≡ cond (bytes_eq bs cs) w (number_at numbers cs)
  updated = updated_by (bytes_eq bs cs) refl

pub put : (numbers after : BTreeMap (Vec ℕ) ℤ) (n : NamedNumber) (name : List ℕ) → is_some (number_at numbers n.name) ≡ false → UpdatesBy by_octets (λ k. slice_cmp nat_cmp n.name k.items) numbers after (Some n.number)
    → number_at after name ≡ option_or (number_at numbers name) (number_named name (n ∷ []))
put numbers after n name none h =
    updated numbers after n.name (Some n.number) h name
    ∙ ap (λ (b : Bool). cond b (Some n.number) (number_at numbers name)) (nat_list_eq_equiv.symm n.name name)
    ∙ put_by (bytes_eq name n.name) (number_at numbers name) n.number
    (λ e. ap (λ (bs : List ℕ). is_some (number_at numbers bs)) ((bytes_eq-Decides name n.name).0 e) ∙ none)
