-- Lists that are cut from one list.
use Rattle.std.proofs.Common.{◌≡◌, ◌≢◌, ℕ, zero, suc, ◌+◌, ◌-◌, ◌<◌, ◌≤◌, List, [], ◌∷◌, ◌++◌, length, map, set, take, drop, get_or, arith, refl, sym, ap, subst, ◌∙◌, ⊎_elim}
use Rattle.std.specs.List.{sum_by}
use Rattle.std.proofs.lemmas.Bool.{cases_lt, cases_eq}
use Rattle.std.proofs.lemmas.List.{length-map, length-take, length-drop, length-set, length-append, map-append, same_lists, get_or-map, get_or_default, get_or_append_left, get_or_at, get_or-set_same, get_or-set_other, take-append-le, take_all, take-set-le, drop-append-le, drop_at, drop-set-lt, drop-set-add, drop-drop, drop_more, drop_all}
use Rattle.std.proofs.lemmas.List.Sums.{sum_by-append}
use Rattle.std.proofs.Math.Seq.{take-set-lt}
use Rattle.plain_lists.specs.Lists.{below}
use Rattle.plain_lists.proofs.Below.{length-below, get_or-map-below}
use Rattle.sf_fabric.specs.Cut.{cut, part, shared, AreCuts}

-- one list fewer than places
pub length-cut : {X : Type 0} (items : List X) (firsts : List ℕ) → length (cut items firsts) ≡ length firsts - 1
unfolding cut
length-cut items firsts = length-map (below (length firsts - 1)) (part items firsts) ∙ length-below (length firsts - 1)

-- each list is its part
pub get_or-cut : {X : Type 0} (items : List X) (firsts : List ℕ) (k : ℕ) (d : List X) → k < length (cut items firsts) → get_or (cut items firsts) k d ≡ part items firsts k
unfolding cut
get_or-cut items firsts k d h = let within : k < length firsts - 1 = omega (arith, length-cut items firsts) in get_or-map-below (part items firsts) (length firsts - 1) k d within

-- and stands between places
pub place-within : {X : Type 0} (items : List X) (firsts : List ℕ) (k : ℕ) → k < length (cut items firsts) → k + 1 < length firsts
place-within items firsts k h = let e = length-cut items firsts in omega arith

module _ {X : Type 0} (items : List X) (firsts : List ℕ) (cuts : AreCuts items firsts) where
  -- places do not fall
  pub places-rise : (j k : ℕ) → j ≤ k → k < length firsts → get_or firsts j 0 ≤ get_or firsts k 0
  places-rise j zero le lt = let same : j ≡ 0 = omega arith in subst (λ i. get_or firsts i 0 ≤ get_or firsts 0 0) (sym same) (omega arith)
  places-rise j (suc k) le lt = ⊎_elim
      (λ below. let before = places-rise j k (omega arith) (omega arith) in let next : get_or firsts k 0 ≤ get_or firsts (k + 1) 0 = cuts.rising k (omega arith) in let more : k + 1 ≡ suc k = omega arith in subst (λ i. get_or firsts j 0 ≤ get_or firsts i 0) more (omega arith))
      (λ here. let same : j ≡ suc k = omega arith in subst (λ i. get_or firsts i 0 ≤ get_or firsts (suc k) 0) (sym same) (omega arith))
      (cases_lt j (suc k))

  -- and lie within the items
  pub place-low : (k : ℕ) → k < length firsts → get_or firsts k 0 ≤ length items
  place-low k lt = let up = places-rise k (length firsts - 1) (omega arith) (omega arith) in omega (arith, up, cuts.ends)

  -- how long a part is
  pub length-part : (k : ℕ) → k + 1 < length firsts → length (part items firsts k) ≡ get_or firsts (k + 1) 0 - get_or firsts k 0
  length-part k lt =
      let first = get_or firsts k 0 in
      let next = get_or firsts (k + 1) 0 in
      omega (arith, length-take (next - first) (drop first items), length-drop first items, place-low (k + 1) lt)

module _ {X : Type 0} (items : List X) (firsts : List ℕ) (cuts : AreCuts items firsts) where
  -- how many items the first parts have
  sum-parts : (n : ℕ) → n < length firsts → sum_by length (map (part items firsts) (below n)) ≡ get_or firsts n 0
  sum-parts zero lt = sym cuts.begins
  sum-parts (suc n) lt =
      let before = sum-parts n (omega arith) in
      let more : n + 1 ≡ suc n = omega arith in
      let here = length-part items firsts cuts n (omega arith) in
      let rise : get_or firsts n 0 ≤ get_or firsts (n + 1) 0 = cuts.rising n (omega arith) in
      ap (sum_by length) (map-append (part items firsts) (below n) (n ∷ [])) ∙ sum_by-append length (map (part items firsts) (below n)) (part items firsts n ∷ [])
      ∙ (omega arith ∙ ap (λ i. get_or firsts i 0) more)

  -- all lists have all items
  pub sum-cut : sum_by length (cut items firsts) ≡ length items
  unfolding cut
  sum-cut = let some = cuts.some in sum-parts (length firsts - 1) (omega arith) ∙ cuts.ends

  -- the items shared out among as many as the parts have are cut at the same places
  shared-from : {Y : Type 0} (m k : ℕ) (others : List Y) → m + k ≡ length firsts - 1 → drop k (cut others firsts) ≡ shared (drop k (map length (cut items firsts))) (drop (get_or firsts k 0) others)
  shared-from zero k others e =
      drop_all k (cut others firsts) (omega (arith, length-cut others firsts, e))
      ∙ sym (ap (λ ns. shared ns (drop (get_or firsts k 0) others)) (drop_all k (map length (cut items firsts)) (omega (arith, length-map (cut items firsts) length, length-cut items firsts, e))))
  shared-from (suc m) k others e =
      let here : k < length (cut items firsts) = omega (arith, length-cut items firsts, e) in
      let there : k < length (cut others firsts) = omega (arith, length-cut others firsts, e) in
      let counted : k < length (map length (cut items firsts)) = omega (arith, length-map (cut items firsts) length) in
      let rise : get_or firsts k 0 ≤ get_or firsts (k + 1) 0 = cuts.rising k (omega arith) in
      let size : get_or (map length (cut items firsts)) k 0 ≡ get_or firsts (k + 1) 0 - get_or firsts k 0 =
      get_or-map length (cut items firsts) k [] 0 here ∙ ap length (get_or-cut items firsts k [] here) ∙ length-part items firsts cuts k (omega arith) in
      let next : get_or firsts k 0 + (get_or firsts (k + 1) 0 - get_or firsts k 0) ≡ get_or firsts (k + 1) 0 = omega arith in
      drop_more (cut others firsts) k [] there
      ∙ (λ i. get_or-cut others firsts k [] there i ∷ shared-from m (k + 1) others (omega arith) i)
      ∙ (λ i. take (sym size i) (drop (get_or firsts k 0) others) ∷ shared (drop (k + 1) (map length (cut items firsts))) ((ap (λ n. drop n others) (sym next) ∙ sym (drop-drop (get_or firsts (k + 1) 0 - get_or firsts k 0) (get_or firsts k 0) others) ∙ ap (λ n. drop n (drop (get_or firsts k 0) others)) (sym size)) i))
      ∙ sym (ap (λ ns. shared ns (drop (get_or firsts k 0) others)) (drop_more (map length (cut items firsts)) k 0 counted))

  pub shared-cut : {Y : Type 0} (others : List Y) → cut others firsts ≡ shared (map length (cut items firsts)) others
  shared-cut others = shared-from (length firsts - 1) 0 others (omega arith) ∙ ap (λ n. shared (map length (cut items firsts)) (drop n others)) cuts.begins

  -- and each list has as many
  pub lengths-cut : {Y : Type 0} (others : List Y) → length others ≡ length items → map length (cut others firsts) ≡ map length (cut items firsts)
  lengths-cut others size =
      let also : AreCuts others firsts = record { some = cuts.some; begins = cuts.begins; rising = cuts.rising; ends = cuts.ends ∙ sym size } in
      same_lists (map length (cut others firsts)) (map length (cut items firsts))
      (length-map (cut others firsts) length ∙ length-cut others firsts ∙ sym (length-map (cut items firsts) length ∙ length-cut items firsts))
      (λ k d lt.
      let there : k < length (cut others firsts) = omega (arith, length-map (cut others firsts) length) in
      let here : k < length (cut items firsts) = omega (arith, length-cut items firsts, length-cut others firsts) in
      let place : k + 1 < length firsts = place-within items firsts k here in
      get_or-map length (cut others firsts) k [] d there ∙ ap length (get_or-cut others firsts k [] there) ∙ length-part others firsts also k place
      ∙ sym (get_or-map length (cut items firsts) k [] d here ∙ ap length (get_or-cut items firsts k [] here) ∙ length-part items firsts cuts k place))

  -- where an item of a list lies
  pub put-within : (k i first : ℕ) → k < length (cut items firsts) → i < length (get_or (cut items firsts) k []) → first ≡ get_or firsts k first → first + i < length items
  put-within k i first h low at =
      let place : k + 1 < length firsts = place-within items firsts k h in
      let own : i < length (part items firsts k) = subst (λ (l : List X). i < length l) (get_or-cut items firsts k [] h) low in
      let is : first ≡ get_or firsts k 0 = at ∙ get_or_default firsts k first 0 (omega arith) in
      let rise : get_or firsts k 0 ≤ get_or firsts (k + 1) 0 = cuts.rising k place in
      omega (arith, is, own, length-part items firsts cuts k place, place-low items firsts cuts (k + 1) place)

  -- an item that is put changes its list alone
  put-other : (k j i : ℕ) (x : X) → k + 1 < length firsts → j + 1 < length firsts → j ≢ k → i < length (part items firsts k) → part (set items (get_or firsts k 0 + i) x) firsts j ≡ part items firsts j
  put-other k j i x lt there other low =
      let size = length-part items firsts cuts k lt in
      let rise : get_or firsts k 0 ≤ get_or firsts (k + 1) 0 = cuts.rising k lt in
      let first = get_or firsts j 0 in
      let count = get_or firsts (j + 1) 0 - first in
      ⊎_elim
      (λ before.
      let up : get_or firsts (j + 1) 0 ≤ get_or firsts k 0 = places-rise items firsts cuts (j + 1) k (omega arith) (omega arith) in
      let own : first ≤ get_or firsts (j + 1) 0 = cuts.rising j there in
      let at : get_or firsts k 0 + i ≡ first + (get_or firsts k 0 + i - first) = omega arith in
      ap (λ n. take count (drop first (set items n x))) at
      ∙ ap (take count) (drop-set-add first items (get_or firsts k 0 + i - first) x)
      ∙ take-set-le count (drop first items) (get_or firsts k 0 + i - first) x (omega arith))
      (λ after.
      let past : k < j = omega (arith, other, after) in
      let up : get_or firsts (k + 1) 0 ≤ first = places-rise items firsts cuts (k + 1) j (omega arith) (omega arith) in
      ap (take count) (drop-set-lt first items (get_or firsts k 0 + i) x (omega arith)))
      (cases_lt j k)

  put-own : (k i : ℕ) (x : X) → k + 1 < length firsts → i < length (part items firsts k) → part (set items (get_or firsts k 0 + i) x) firsts k ≡ set (part items firsts k) i x
  put-own k i x lt low =
      let size = length-part items firsts cuts k lt in
      let first = get_or firsts k 0 in
      let count = get_or firsts (k + 1) 0 - first in
      ap (take count) (drop-set-add first items i x) ∙ take-set-lt count (drop first items) i x (omega arith)

  pub cut-put : (k i : ℕ) (x : X) → k < length (cut items firsts) → i < length (get_or (cut items firsts) k []) → cut (set items (get_or firsts k 0 + i) x) firsts ≡ set (cut items firsts) k (set (get_or (cut items firsts) k []) i x)
  cut-put k i x h low =
      let own : get_or (cut items firsts) k [] ≡ part items firsts k = get_or-cut items firsts k [] h in
      let within : i < length (part items firsts k) = subst (λ (l : List X). i < length l) own low in
      let lt : k + 1 < length firsts = place-within items firsts k h in
      same_lists (cut (set items (get_or firsts k 0 + i) x) firsts) (set (cut items firsts) k (set (get_or (cut items firsts) k []) i x))
      (length-cut (set items (get_or firsts k 0 + i) x) firsts ∙ sym (length-set (cut items firsts) k (set (get_or (cut items firsts) k []) i x) ∙ length-cut items firsts))
      (λ j d there.
      let listed : j < length (cut items firsts) = omega (arith, there, length-cut items firsts, length-cut (set items (get_or firsts k 0 + i) x) firsts) in
      get_or-cut (set items (get_or firsts k 0 + i) x) firsts j d there
      ∙ ⊎_elim
      (λ same.
      ap (part (set items (get_or firsts k 0 + i) x) firsts) same ∙ put-own k i x lt within ∙ ap (λ (l : List X). set l i x) (sym own)
      ∙ sym (ap (λ n. get_or (set (cut items firsts) k (set (get_or (cut items firsts) k []) i x)) n d) same ∙ get_or-set_same (cut items firsts) k (set (get_or (cut items firsts) k []) i x) d h))
      (λ other.
      put-other k j i x lt (place-within items firsts j listed) other within
      ∙ sym (get_or-set_other (cut items firsts) k j (set (get_or (cut items firsts) k []) i x) d other ∙ get_or-cut items firsts j d listed))
      (cases_eq j k))

  -- ---- one list more

  pub cuts-more : (own : List X) → AreCuts (items ++ own) (firsts ++ length (items ++ own) ∷ [])
  cuts-more own =
      let some = cuts.some in
      let size : length (firsts ++ length (items ++ own) ∷ []) ≡ length firsts + 1 = length-append firsts (length (items ++ own) ∷ []) in
      let last : get_or (firsts ++ length (items ++ own) ∷ []) (length firsts) 0 ≡ length (items ++ own) = get_or_at firsts (length (items ++ own)) [] 0 (length firsts) refl in
      record {
        some = omega arith;
        begins = get_or_append_left firsts (length (items ++ own) ∷ []) 0 0 (omega arith) ∙ cuts.begins;
        rising = λ k lt. ⊎_elim
            (λ inner.
            let here = get_or_append_left firsts (length (items ++ own) ∷ []) 0 k (omega arith) in
            let next = get_or_append_left firsts (length (items ++ own) ∷ []) 0 (k + 1) inner in
            let rise = cuts.rising k inner in omega arith)
            (λ outer.
            let at : length firsts ≡ k + 1 = omega arith in
            let here = get_or_append_left firsts (length (items ++ own) ∷ []) 0 k (omega arith) in
            let low = place-low items firsts cuts k (omega arith) in
            let more = length-append items own in
            subst (λ n. get_or (firsts ++ length (items ++ own) ∷ []) k 0 ≤ get_or (firsts ++ length (items ++ own) ∷ []) n 0) at (omega arith))
            (cases_lt (k + 1) (length firsts));
        ends = let at : length (firsts ++ length (items ++ own) ∷ []) - 1 ≡ length firsts = omega arith in ap (λ n. get_or (firsts ++ length (items ++ own) ∷ []) n 0) at ∙ last;
      }

  part-kept : (own : List X) (k : ℕ) → k + 1 < length firsts → part (items ++ own) (firsts ++ length (items ++ own) ∷ []) k ≡ part items firsts k
  part-kept own k lt =
      let first = get_or firsts k 0 in
      let next = get_or firsts (k + 1) 0 in
      let here = get_or_append_left firsts (length (items ++ own) ∷ []) 0 k (omega arith) in
      let there = get_or_append_left firsts (length (items ++ own) ∷ []) 0 (k + 1) lt in
      (λ i. take (there i - here i) (drop (here i) (items ++ own)))
      ∙ ap (take (next - first)) (drop-append-le first items own (place-low items firsts cuts k (omega arith)))
      ∙ take-append-le (next - first) (drop first items) own (omega (arith, length-drop first items, place-low items firsts cuts (k + 1) lt))

  part-last : (own : List X) (m : ℕ) → m + 1 ≡ length firsts → part (items ++ own) (firsts ++ length (items ++ own) ∷ []) m ≡ own
  part-last own m e =
      let back : length firsts - 1 ≡ m = omega arith in
      let here : get_or (firsts ++ length (items ++ own) ∷ []) m 0 ≡ length items = get_or_append_left firsts (length (items ++ own) ∷ []) 0 m (omega arith) ∙ ap (λ n. get_or firsts n 0) (sym back) ∙ cuts.ends in
      let there : get_or (firsts ++ length (items ++ own) ∷ []) (m + 1) 0 ≡ length (items ++ own) = ap (λ n. get_or (firsts ++ length (items ++ own) ∷ []) n 0) e ∙ get_or_at firsts (length (items ++ own)) [] 0 (length firsts) refl in
      let size = length-append items own in
      (λ i. take (there i - here i) (drop (here i) (items ++ own)))
      ∙ ap (take (length (items ++ own) - length items)) (drop_at items own (length items) refl)
      ∙ take_all (length (items ++ own) - length items) own (omega arith)

  pub cut-more : (own : List X) → cut (items ++ own) (firsts ++ length (items ++ own) ∷ []) ≡ cut items firsts ++ own ∷ []
  cut-more own =
      let some = cuts.some in
      let size : length (firsts ++ length (items ++ own) ∷ []) ≡ length firsts + 1 = length-append firsts (length (items ++ own) ∷ []) in
      let all = length-cut (items ++ own) (firsts ++ length (items ++ own) ∷ []) in
      let old = length-cut items firsts in
      let pushed = length-append (cut items firsts) (own ∷ []) in
      same_lists (cut (items ++ own) (firsts ++ length (items ++ own) ∷ [])) (cut items firsts ++ own ∷ []) (omega arith)
      (λ k d lt. get_or-cut (items ++ own) (firsts ++ length (items ++ own) ∷ []) k d lt ∙ ⊎_elim
      (λ inner. part-kept own k (omega arith) ∙ sym (get_or_append_left (cut items firsts) (own ∷ []) d k inner ∙ get_or-cut items firsts k d inner))
      (λ outer. part-last own k (omega arith) ∙ sym (get_or_at (cut items firsts) own [] d k (omega arith)))
      (cases_lt k (length (cut items firsts))))

-- no list
pub cuts-none : {X : Type 0} → AreCuts {X = X} [] (0 ∷ [])
cuts-none = record { some = omega arith; begins = refl; rising = λ k lt. absurd (omega arith); ends = refl }

pub cut-none : {X : Type 0} → cut {X = X} [] (0 ∷ []) ≡ []
unfolding cut
cut-none = refl
