-- A point is put at the end of the supports of a cone, one entry after another.
use Rattle.std.proofs.Common.{◌≡◌, ◌≢◌, ℕ, ◌+◌, ◌<◌, Bool, true, false, List, length, get_or, set, take, drop, refl, sym, ap, ◌∙◌, subst, inl, inr, arith}
use Rattle.std.specs.Prelude.{◌==◌, ◌||◌, pos}
use Rattle.std.specs.List.{All}
use Rattle.std.proofs.lemmas.Bool.{cases_eq, eqb-true, eq-eqb, ne_eqb}
use Rattle.std.proofs.lemmas.List.{get_or-set_same, get_or-set_other, take-append-drop}
use Rattle.std.proofs.Math.ListN.{length-set}
use Rattle.std.proofs.lemmas.List.Folds.{Any-from_list_any, list_any-append, list_any_more, list_any_at}
use Rattle.mesh_defs.specs.declared.ConeEntry.{ConeEntry}
use Rattle.plex_defs.specs.Closure.{covers}
use Rattle.plex_walk.specs.Filling.{one_if, IsPut, CanPut}

abbrev pub entry_of : List ConeEntry → ℕ → ConeEntry
entry_of cone k = get_or cone k (record { point = 0; o = pos 0 })

-- one entry more
covers-more : (cone : List ConeEntry) (k p : ℕ) → k < length cone → covers (take (k + 1) cone) p ≡ (covers (take k cone) p || ((entry_of cone k).point == p))
covers-more cone k p within = list_any_more (λ (e : ConeEntry). e.point == p) cone k (record { point = 0; o = pos 0 }) within

covers-still : (cone : List ConeEntry) (k p : ℕ) → k < length cone → covers (take k cone) p ≡ true → covers (take (k + 1) cone) p ≡ true
covers-still cone k p within h = rw (covers-more cone k p within, h) refl

covers-here : (cone : List ConeEntry) (k : ℕ) → k < length cone → covers (take (k + 1) cone) (entry_of cone k).point ≡ true
covers-here cone k within = covers-more cone k (entry_of cone k).point within ∙ rw (eq-eqb (entry_of cone k).point (entry_of cone k).point refl) (or-true (covers (take k cone) (entry_of cone k).point))
  where
    or-true : (b : Bool) → (b || true) ≡ true
    or-true true = refl
    or-true false = refl

or-false : (b : Bool) → (b || false) ≡ b
or-false true = refl
or-false false = refl

covers-other : (cone : List ConeEntry) (k p : ℕ) → k < length cone → (entry_of cone k).point ≢ p → covers (take (k + 1) cone) p ≡ covers (take k cone) p
covers-other cone k p within other = covers-more cone k p within ∙ rw (ne_eqb (entry_of cone k).point p other) (or-false (covers (take k cone) p))

-- what some of the entries are of, all of them are; and so is the point of each entry
pub covers-part : (cone : List ConeEntry) (k p : ℕ) → covers (take k cone) p ≡ true → covers cone p ≡ true
covers-part cone k p h =
    let joined : covers cone p ≡ (covers (take k cone) p || covers (drop k cone) p) = ap (λ (es : List ConeEntry). covers es p) (sym (take-append-drop k cone)) ∙ list_any-append (λ (e : ConeEntry). e.point == p) (take k cone) (drop k cone) in
    joined ∙ rw h refl

pub covers-of : (cone : List ConeEntry) (k : ℕ) → k < length cone → covers cone (entry_of cone k).point ≡ true
covers-of cone k within = list_any_at (λ (e : ConeEntry). e.point == (entry_of cone k).point) cone k (record { point = 0; o = pos 0 }) within (eq-eqb (entry_of cone k).point (entry_of cone k).point refl)

-- a point that is there already changes nothing
covers-again : (cone : List ConeEntry) (k p : ℕ) → k < length cone → covers (take k cone) (entry_of cone k).point ≡ true → covers (take (k + 1) cone) p ≡ covers (take k cone) p
covers-again cone k p within again = elim (cases_eq (entry_of cone k).point p) as (λ _. covers (take (k + 1) cone) p ≡ covers (take k cone) p) [
  | inl same ↦
      let here : covers (take k cone) p ≡ true = ap (λ r. covers (take k cone) r) (sym same) ∙ again in
      covers-still cone k p within here ∙ sym here
  | inr other ↦ covers-other cone k p within other
]

-- what was put for these entries was put for as many others that name the same points
put-same : (q : ℕ) (some more : List ConeEntry) (ends points new_ends new_points : List ℕ) → ((p : ℕ) → covers more p ≡ covers some p)
    → IsPut q some ends points new_ends new_points → IsPut q more ends points new_ends new_points
put-same q some more ends points new_ends new_points same h = record {
  counted = record {
    size = h.counted.size;
    first = h.counted.first;
    points = λ p within. h.counted.points p within ∙ ap (λ b. get_or ends (p + 1) 0 + one_if b) (sym (same p));
  };
  size = h.size;
  there = λ p covered. h.there p (sym (same p) ∙ covered);
  kept = λ i apart. h.kept i (λ p covered. apart p (same p ∙ covered));
}

pub put-again : (q : ℕ) (cone : List ConeEntry) (k : ℕ) (ends points new_ends new_points : List ℕ) → k < length cone → covers (take k cone) (entry_of cone k).point ≡ true
    → IsPut q (take k cone) ends points new_ends new_points → IsPut q (take (k + 1) cone) ends points new_ends new_points
put-again q cone k ends points new_ends new_points within again h = put-same q (take k cone) (take (k + 1) cone) ends points new_ends new_points (λ p. covers-again cone k p within again) h

-- where the points so far end: those of another point are as they were
pub put-more : (q : ℕ) (cone : List ConeEntry) (k : ℕ) (ends points new_ends new_points : List ℕ) → k < length cone → covers (take k cone) (entry_of cone k).point ≡ false
    → (entry_of cone k).point + 1 < length ends → covers cone (entry_of cone k).point ≡ true → ((p : ℕ) → covers (take k cone) p ≡ true → covers cone p ≡ true)
    → CanPut cone ends (length points) → IsPut q (take k cone) ends points new_ends new_points
    → let at = (entry_of cone k).point + 1 in IsPut q (take (k + 1) cone) ends points (set new_ends at (get_or new_ends at 0 + 1)) (set new_points (get_or new_ends at 0) q)
put-more q cone k ends points new_ends new_points within new room covered before can h = record {
  counted = record {
    size = length-set new_ends at (get_or new_ends at 0 + 1) ∙ h.counted.size;
    first = let other : 0 ≢ at = λ (e : 0 ≡ at). omega arith in get_or-set_other new_ends at 0 (get_or new_ends at 0 + 1) 0 other ∙ h.counted.first;
    points = counts;
  };
  size = length-set new_points (get_or new_ends at 0) q ∙ h.size;
  there = there;
  kept = kept;
}
  where
    new_point : ℕ
    new_point = (entry_of cone k).point

    at : ℕ
    at = new_point + 1

    end : get_or new_ends at 0 ≡ get_or ends at 0
    end = h.counted.points new_point room ∙ rw new (omega arith)

    at_set : at < length new_ends
    at_set = omega (arith, h.counted.size, room)

    counts : (p : ℕ) → p + 1 < length ends → get_or (set new_ends at (get_or new_ends at 0 + 1)) (p + 1) 0 ≡ get_or ends (p + 1) 0 + one_if (covers (take (k + 1) cone) p)
    counts p low = elim (cases_eq new_point p) as (λ _. get_or (set new_ends at (get_or new_ends at 0 + 1)) (p + 1) 0 ≡ get_or ends (p + 1) 0 + one_if (covers (take (k + 1) cone) p)) [
      | inl same ↦
          let there : one_if (covers (take (k + 1) cone) p) ≡ 1 = ap one_if (ap (λ r. covers (take (k + 1) cone) r) (sym same) ∙ covers-here cone k within) in
          let put : get_or (set new_ends at (get_or new_ends at 0 + 1)) (p + 1) 0 ≡ get_or new_ends at 0 + 1 =
          ap (λ r. get_or (set new_ends at (get_or new_ends at 0 + 1)) (r + 1) 0) (sym same) ∙ get_or-set_same new_ends at (get_or new_ends at 0 + 1) 0 at_set in
          let place : get_or ends at 0 ≡ get_or ends (p + 1) 0 = ap (λ r. get_or ends (r + 1) 0) same in
          omega (arith, there, put, place, end)
      | inr other ↦
          let apart : p + 1 ≢ at = λ (e : p + 1 ≡ at). let same : new_point ≡ p = omega arith in other same in
          get_or-set_other new_ends at (p + 1) (get_or new_ends at 0 + 1) 0 apart ∙ h.counted.points p low ∙ ap (λ b. get_or ends (p + 1) 0 + one_if b) (sym (covers-other cone k p within other))
    ]

    there : (p : ℕ) → covers (take (k + 1) cone) p ≡ true → get_or (set new_points (get_or new_ends at 0) q) (get_or ends (p + 1) 0) 0 ≡ q
    there p now = elim (cases_eq new_point p) as (λ _. get_or (set new_points (get_or new_ends at 0) q) (get_or ends (p + 1) 0) 0 ≡ q) [
      | inl same ↦
          let place : get_or ends (p + 1) 0 ≡ get_or new_ends at 0 = ap (λ r. get_or ends (r + 1) 0) (sym same) ∙ sym end in
          let low : get_or new_ends at 0 < length new_points = omega (arith, end, h.size, can.within new_point covered) in
          rw place (get_or-set_same new_points (get_or new_ends at 0) q 0 low)
      | inr other ↦
          let old : covers (take k cone) p ≡ true = sym (covers-other cone k p within other) ∙ now in
          let others : p ≢ new_point = λ (e : p ≡ new_point). other (sym e) in
          let apart : get_or ends (p + 1) 0 ≢ get_or new_ends at 0 = λ (e : get_or ends (p + 1) 0 ≡ get_or new_ends at 0). can.apart p new_point (before p old) covered others (e ∙ end) in
          get_or-set_other new_points (get_or new_ends at 0) (get_or ends (p + 1) 0) q 0 apart ∙ h.there p old
    ]

    kept : (i : ℕ) → ((p : ℕ) → covers (take (k + 1) cone) p ≡ true → get_or ends (p + 1) 0 ≢ i) → get_or (set new_points (get_or new_ends at 0) q) i 0 ≡ get_or points i 0
    kept i apart =
        let other : i ≢ get_or new_ends at 0 = λ (e : i ≡ get_or new_ends at 0). apart new_point (covers-here cone k within) (sym end ∙ sym e) in
        get_or-set_other new_points (get_or new_ends at 0) i q 0 other ∙ h.kept i (λ p old. apart p (covers-still cone k p within old))

-- a point that a cone names is below a bound of its points
pub covers-below : (n : ℕ) (cone : List ConeEntry) (p : ℕ) → All (λ (e : ConeEntry). e.point < n) cone → covers cone p ≡ true → p < n
covers-below n cone p below h =
    let (k, e, within, at, same) = Any-from_list_any (λ (e : ConeEntry). e.point == p) cone h in
    let here : e.point < n = subst (λ (c : ConeEntry). c.point < n) at (below k e within) in
    let is : e.point ≡ p = eqb-true e.point p same in
    omega (arith, here, is)
