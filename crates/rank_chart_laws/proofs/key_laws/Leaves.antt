-- The leaves that ranks find, by word, are those of the forest of the home round.
use Rattle.std.proofs.Common.{◌≡◌, ◌≢◌, ℕ, zero, suc, ◌+◌, ◌-◌, ◌*◌, ◌^◌, ◌<◌, ◌≤◌, Bool, true, false, ◌&&◌, ◌||◌, ◌==◌, List, [], ◌∷◌, ◌++◌, map, length, get_or, replicate, Option, Some, None, refl, sym, ap, ◌∙◌, subst, ⊎_elim, arith}
use Rattle.std.specs.Prelude.{filter_map, flat_map, find, option_map, IsPermutation}
use Rattle.std.specs.List.{list_any, AllByRecursion, cons_option, enumerate_from}
use Rattle.std.specs.List.Sorted.{IsNonDecreasingBy}
use Rattle.std.proofs.lemmas.Bool.{and_parts, and_from, eq-eqb, eqb-true, both_ways, cond-false, cond-true, cases_lt}
use Rattle.std.proofs.lemmas.List.{append-nil, length-map, length-replicate, get_or-map}
use Rattle.std.proofs.lemmas.List.Concat.{flat_map-append}
use Rattle.plain_lists.specs.Lists.{below}
use Rattle.plain_lists.proofs.Below.{below-all, length-below, get_or-below, get_or-map-below}
use Rattle.plain_lists.proofs.Each.{all_at, all_flat_map, all_from, all_map, all_mapped, all_weaker}
use Rattle.plain_lists.proofs.Filters.{flat_map_same, map_map_same}
use Rattle.plain_lists.proofs.Finding.{among, any_map, any_same, found-any, same_tests, stands as every-stands}
use Rattle.rank_chart_laws.proofs.meeting_laws.Lists.{any_flat, by_number, passes_below}
use Rattle.mesh_defs.specs.Mesh.{Mesh}
use Rattle.mesh_defs.specs.Points.{Point, Sight, shows, sights}
use Rattle.mesh_defs.specs.RightMesh.{in_some}
use Rattle.sf_defs.specs.declared.Leaf.{Leaf}
use Rattle.sf_defs.specs.Asks.{IsRising}
use Rattle.sf_defs.specs.Forest.{leaf, root_of}
use Rattle.sf_ops.specs.Copies.{value_or, AreCopies}
use Rattle.rank_defs.specs.Ranks.{assigned, owner, is_shared, own_key}
use Rattle.rank_defs.specs.Spread.{PlainShared, IsShared}
use Rattle.rank_laws.proofs.orient_laws.Rising.{rising-append, rising-one}
use Rattle.rank_laws.proofs.orient_laws.Seen.{contained-seen}
use Rattle.rank_chart_laws.specs.home_laws.HomeForest.{home_of, home_roots, home_leaf}
use Rattle.rank_chart_laws.specs.key_laws.Places.{run, is_word}
use Rattle.rank_chart_laws.specs.key_laws.Words.{part, numbered, word_numbers, leaves_found, leaf_number, AreAllWords, AreWordPlaces}
use Rattle.rank_chart_laws.proofs.key_laws.Rising.{any-permutation, earlier-lower, put-rising, run-rising, run-within, same-numbers}
use Rattle.rank_chart_laws.proofs.key_laws.Puts.{put-there}
use Rattle.rank_chart_laws.proofs.key_laws.Charts as charts
use Rattle.rank_chart_laws.proofs.key_laws.WordPlaces as words
use Rattle.rank_chart_laws.proofs.key_laws.Stands as stands
use Rattle.rank_chart_laws.proofs.key_laws.OwnWords as ownwords

-- ---- lists of what is given

-- the test passes what is given
abbrev pub passes_given : {Y : Type 0} → (Y → Bool) → Option Y → Bool
passes_given q None = false
passes_given q (Some y) = q y

any-given : {X Y : Type 0} (q : Y → Bool) (f : X → Option Y) (xs : List X) → list_any q (filter_map f xs) ≡ list_any (λ x. passes_given q (f x)) xs
any-given q f [] = refl
any-given {X} {Y} q f (x ∷ xs) = go (f x) (any-given q f xs)
  where
    go : (o : Option Y) → list_any q (filter_map f xs) ≡ list_any (λ y. passes_given q (f y)) xs → list_any q (cons_option o (filter_map f xs)) ≡ (passes_given q o || list_any (λ y. passes_given q (f y)) xs)
    go None h = h
    go (Some y) h = ap (λ b. q y || b) h

-- what is given by things with rising numbers, under the same numbers, rises
rising-given : {X Y : Type 0} (key : X → ℕ) (number : Y → ℕ) (f : X → Option Y) → ((x : X) (y : Y) → f x ≡ Some y → number y ≡ key x) → (xs : List X) → IsRising (map key xs) → IsRising (map number (filter_map f xs))
rising-given key number f same [] h = tt
rising-given {X} {Y} key number f same (x ∷ xs) h = go (f x) refl (rising-given key number f same xs h.1)
  where
    above : (k : ℕ) → (zs : List X) → AllByRecursion (λ j. k < j) (map key zs) → AllByRecursion (λ j. k < j) (map number (filter_map f zs))
    above k [] h = tt
    above k (z ∷ zs) h = also (f z) refl (above k zs h.1)
      where
        also : (o : Option Y) → f z ≡ o → AllByRecursion (λ j. k < j) (map number (filter_map f zs)) → AllByRecursion (λ j. k < j) (map number (cons_option o (filter_map f zs)))
        also None e r = r
        also (Some y) e r = (let n = same z y e in let lt = h.0 in omega (arith, n, lt), r)

    go : (o : Option Y) → f x ≡ o → IsRising (map number (filter_map f xs)) → IsRising (map number (cons_option o (filter_map f xs)))
    go None e r = r
    go (Some y) e r = (subst (λ k. AllByRecursion (λ j. k < j) (map number (filter_map f xs))) (sym (same x y e)) (above (key x) xs h.0), r)

-- in a list with rising numbers things with one number are one
rising-once : {X : Type 0} (key : X → ℕ) (has : X → X → Bool) → ((p x : X) → has p x ≡ true → p ≡ x) → (xs : List X) → IsRising (map key xs) → (p q : X) → list_any (has p) xs ≡ true → list_any (has q) xs ≡ true → key p ≡ key q → p ≡ q
rising-once key has told [] h p q a b e = absurd (cc a)
rising-once {X} key has told (x ∷ xs) h p q a b e = go (has p x) refl (has q x) refl a b (λ c d. rising-once key has told xs h.1 p q c d e)
  where
    behind : (t : X) → list_any (has t) xs ≡ true → key x < key t
    behind t c = let (y, lt, f) = among (λ y. key x < key y) (has t) xs (all_mapped (λ k. key x < k) key xs h.0) c in subst (λ z. key x < key z) (sym (told t y f)) lt

    go : (u : Bool) → has p x ≡ u → (v : Bool) → has q x ≡ v → (u || list_any (has p) xs) ≡ true → (v || list_any (has q) xs) ≡ true → (list_any (has p) xs ≡ true → list_any (has q) xs ≡ true → p ≡ q) → p ≡ q
    go true f true g a b r = told p x f ∙ sym (told q x g)
    go true f false g a b r = absurd (let lt = behind q b in let same = ap key (told p x f) in omega (arith, lt, same, e))
    go false f true g a b r = absurd (let lt = behind p a in let same = ap key (told q x g) in omega (arith, lt, same, e))
    go false f false g a b r = r a b

-- ---- leaves

abbrev same_leaf : Leaf → Leaf → Bool
same_leaf k l = (k.local == l.local) && ((k.rank == l.rank) && (k.index == l.index))

same_leaf-self : (l : Leaf) → same_leaf l l ≡ true
same_leaf-self l = and_from (l.local == l.local) ((l.rank == l.rank) && (l.index == l.index)) (eq-eqb l.local l.local refl) (and_from (l.rank == l.rank) (l.index == l.index) (eq-eqb l.rank l.rank refl) (eq-eqb l.index l.index refl))

same_leaf-true : (k l : Leaf) → same_leaf k l ≡ true → k ≡ l
same_leaf-true k l h =
    let both = and_parts (k.local == l.local) ((k.rank == l.rank) && (k.index == l.index)) h in
    let rest = and_parts (k.rank == l.rank) (k.index == l.index) both.1 in
    λ i. record { local = eqb-true k.local l.local both.0 i; rank = eqb-true k.rank l.rank rest.0 i; index = eqb-true k.index l.index rest.1 i }

-- ---- roots by rank and index

abbrev root_number : (ℕ × ℕ) × Point → ℕ
root_number w = w.0.0 * 2 ^ 32 + w.0.1

module _ (count : ℕ → ℕ) (points : ℕ → ℕ → Point) where
  abbrev row : ℕ → List ((ℕ × ℕ) × Point)
  row q = map (λ k. ((q, k), points q k)) (below (count q))

  row-numbers : (q : ℕ) → map root_number (row q) ≡ run (q * 2 ^ 32) (count q)
  row-numbers q = map_map_same root_number (λ k. ((q, k), points q k)) (λ k. q * 2 ^ 32 + k) (below (count q)) (all_from (λ k. root_number ((q, k), points q k) ≡ q * 2 ^ 32 + k) (λ k. refl) (below (count q)))

  rows-low : (n : ℕ) → ((q : ℕ) → q < n → count q < 2 ^ 32) → AllByRecursion (λ w. root_number w < n * 2 ^ 32) (flat_map row (below n))
  rows-low n few = all_flat_map (λ w. root_number w < n * 2 ^ 32) row (below n) (all_weaker (λ q. q < n) (λ q. AllByRecursion (λ w. root_number w < n * 2 ^ 32) (row q))
      (λ q low. all_map (λ w. root_number w < n * 2 ^ 32) (λ k. ((q, k), points q k)) (below (count q)) (all_weaker (λ k. k < count q) (λ k. q * 2 ^ 32 + k < n * 2 ^ 32) (λ k lt. let c = few q low in omega (arith, c, lt, low)) (below (count q)) (below-all (count q)))) (below n) (below-all n))

  rows-rise : (n : ℕ) → ((q : ℕ) → q < n → count q < 2 ^ 32) → IsRising (map root_number (flat_map row (below n)))
  rows-rise zero few = tt
  rows-rise (suc n) few =
      subst (λ l. IsRising (map root_number l)) (sym (flat_map-append row (below n) (n ∷ []) ∙ ap (λ l. flat_map row (below n) ++ l) (append-nil (row n))))
      (rising-append root_number (n * 2 ^ 32) (flat_map row (below n)) (row n) (rows-rise n (λ q low. few q (omega (arith, low)))) (rows-low n (λ q low. few q (omega (arith, low))))
      (subst IsRising (sym (row-numbers n)) (run-rising (n * 2 ^ 32) (count n)))
      (all_map (λ w. n * 2 ^ 32 ≤ root_number w) (λ k. ((n, k), points n k)) (below (count n)) (all_from (λ k. n * 2 ^ 32 ≤ n * 2 ^ 32 + k) (λ k. omega arith) (below (count n)))))

-- ---- ranks that have words

module _ (s : PlainShared) (m : Mesh) (dofs : List (List ℕ)) (a : List ℕ) (n : ℕ) (is : IsShared s m dofs a n) (places : List (List ℕ)) (all : AreAllWords s places) where
  abbrev pub pt : ℕ → ℕ → Point
  pt r i = ownwords.pt s m dofs a n is r i

  abbrev pub long : ℕ → ℕ
  long r = ownwords.long s m dofs a n is r

  abbrev pub middle-from : ℕ → ℕ
  middle-from r = ownwords.middle-from s m dofs a n is r

  -- the places of a rank's words, and the point at one of them
  abbrev pub at : ℕ → List ℕ
  at r = get_or places r []

  abbrev pub word-at : ℕ → ℕ → ℕ
  word-at q k = get_or (at q) k 0

  -- the place of a point on a rank
  abbrev pub local : ℕ → Point → ℕ
  local r p = charts.place m n a is.mesh is.assignment.each r p

  pub own-words : (r : ℕ) → r < n → AreWordPlaces s r (at r)
  own-words r low = all.each r (omega (arith, low, stands.ranks-are s m dofs a n is))

  -- a word stands at a place of its rank, which owns it
  pub word-inside : (q k : ℕ) → q < n → k < length (at q) → (middle-from q ≤ word-at q k) × (word-at q k < long q)
  word-inside q k low lt = all_at (λ i. (middle-from q ≤ i) × (i < long q)) (at q) k 0 (ownwords.within s m dofs a n is q low (at q) (own-words q low)) lt

  pub word-owned : (q k : ℕ) → q < n → k < length (at q) → owner m a (pt q (word-at q k)) ≡ q
  word-owned q k low lt =
      let inside = word-inside q k low lt in
      let word = all_at (λ i. is_word (charts.forest m n a is.mesh is.assignment.each) q i ≡ true) (at q) k 0 (ownwords.are-words s m dofs a n is q low (at q) (own-words q low)) lt in
      let both = and_parts (owner m a (pt q (word-at q k)) == q) (is_shared m a (pt q (word-at q k))) (sym (words.word-is m n a is.mesh is.assignment.each q (word-at q k) low inside.1) ∙ word) in
      eqb-true (owner m a (pt q (word-at q k))) q both.0

  -- the roots of the home round by these places
  pub roots-are : home_roots m a n ≡ flat_map (row (λ q. length (at q)) (λ q k. pt q (word-at q k))) (below n)
  unfolding home_roots
  roots-are = flat_map_same (λ q. map (λ (w : ℕ × Point). ((q, w.0), w.1)) (enumerate_from 0 (home_of m a q))) (row (λ q. length (at q)) (λ q k. pt q (word-at q k))) (below n)
      (all_weaker (λ q. q < n) (λ q. map (λ (w : ℕ × Point). ((q, w.0), w.1)) (enumerate_from 0 (home_of m a q)) ≡ row (λ q. length (at q)) (λ q k. pt q (word-at q k)) q) each (below n) (below-all n))
    where
      nowhere : Point
      nowhere = record { dim = 0; vertices = [] }

      each : (q : ℕ) → q < n → map (λ (w : ℕ × Point). ((q, w.0), w.1)) (enumerate_from 0 (home_of m a q)) ≡ row (λ q. length (at q)) (λ q k. pt q (word-at q k)) q
      each q low =
          let count = ownwords.counts-are s m dofs a n is q low (at q) (own-words q low) in
          sym (by_number (λ k. ((q, k), pt q (word-at q k))) (λ (w : ℕ × Point). ((q, w.0), w.1)) (home_of m a q) nowhere
          (λ k lt. ap (λ p. ((q, k), p)) (sym (ap (λ l. get_or l k nowhere) (sym (ownwords.points-are s m dofs a n is q low (at q) (own-words q low))) ∙ get_or-map (pt q) (at q) k 0 nowhere (omega (arith, lt, count))))))
          ∙ ap (λ c. map (λ k. ((q, k), pt q (word-at q k))) (below c)) count

  -- ---- the numbers of the words

  pub number-there : (q k : ℕ) → q < n → k < length (at q) → get_or (get_or (word_numbers s places) q []) (word-at q k) 0 ≡ k
  unfolding word_numbers
  number-there q k low lt =
      let here : q < length s.parts = omega (arith, low, stands.ranks-are s m dofs a n is) in
      let size = length-replicate {A = ℕ} (length (part s q).sets) 0 ∙ stands.sets-long s m dofs a n is q low in
      ap (λ l. get_or l (word-at q k) 0) (get_or-map-below (numbered s places) (length s.parts) q [] here)
      ∙ (put-there (replicate (length (part s q).sets) 0) (at q) (below (length (at q))) k
      (all_weaker (λ i. (middle-from q ≤ i) × (i < long q)) (λ p. p < length (replicate (length (part s q).sets) 0)) (λ p w. omega (arith, w.1, size)) (at q) (ownwords.within s m dofs a n is q low (at q) (own-words q low)))
      (ownwords.apart s m dofs a n is q low (at q) (own-words q low)) lt (omega (arith, length-below (length (at q))))
      ∙ get_or-below (length (at q)) k 0 lt)

  module _ (numbers : List (List ℕ)) (told : AreCopies s.forest (word_numbers s places) (word_numbers s places) numbers) where
    -- a point that another rank owns is told the number of its word there
    pub told-number : (r i : ℕ) → r < n → middle-from r ≤ i → i < long r → owner m a (pt r i) ≢ r
        → (k : ℕ) × (k < length (at (owner m a (pt r i)))) × (word-at (owner m a (pt r i)) k ≡ local (owner m a (pt r i)) (pt r i)) × (get_or (get_or numbers r []) i 0 ≡ k)
    told-number r i low le inside ne =
        let o : ℕ = owner m a (pt r i) in
        let j : ℕ = local o (pt r i) in
        let low-o : o < n = charts.owner-low m n a is.mesh is.assignment.each r i inside in
        let there = charts.at-home m n a is.mesh is.assignment.each (pt r i) (charts.inside-mesh m n a is.mesh is.assignment.each r i inside) in
        let word = ownwords.ghost-word s m dofs a n is r i low le inside ne in
        let (k, lt, e) = ownwords.word-placed s m dofs a n is o low-o (at o) (own-words o low-o) j word.1 there.0 word.0 in
        let root : root_of s.forest r i ≡ Some (o, j) = ap (λ f. root_of f r i) (stands.forest-is s m dofs a n is) ∙ charts.root-ghost m n a is.mesh is.assignment.each r i low inside ne in
        (k, lt, e, told r i ∙ (ap (value_or (word_numbers s places) (get_or (get_or (word_numbers s places) r []) i 0)) root ∙ (ap (λ p. get_or (get_or (word_numbers s places) o []) p 0) (sym e) ∙ number-there o k low-o lt)))

    -- ---- the leaves of a rank

    module _ (r : ℕ) (low : r < n) where
      abbrev found-at : ℕ → Option Leaf
      found-at i = option_map (λ (root : ℕ × ℕ). leaf i (root.0, get_or (get_or numbers r []) i 0)) (root_of s.forest r i)

      abbrev home-at : ℕ → ℕ → Option Leaf
      home-at q k = home_leaf m a local r ((q, k), pt q (word-at q k))

      abbrev count : ℕ
      count = length (charts.faces m n a is.mesh is.assignment.each r) + length (charts.edges m n a is.mesh is.assignment.each r)

      found-run : leaves_found s r (get_or numbers r []) ≡ filter_map found-at (run (middle-from r) count)
      unfolding leaves_found
      found-run = (λ i. filter_map found-at (run (stands.first-face-is s m dofs a n is r low i) (stands.face-count-is s m dofs a n is r low i + stands.edge-count-is s m dofs a n is r low i)))

      run-inside : (i : ℕ) → (middle-from r ≤ i) × (i < middle-from r + count) → i < long r
      run-inside i w = let whole = charts.own-length m n a is.mesh is.assignment.each r in omega (arith, w.1, whole)

      -- a point that another rank owns gives the leaf of its word
      given : (i : ℕ) → middle-from r ≤ i → i < long r → owner m a (pt r i) ≢ r
          → (k : ℕ) × (k < length (at (owner m a (pt r i)))) × (pt (owner m a (pt r i)) (word-at (owner m a (pt r i)) k) ≡ pt r i) × (found-at i ≡ Some (leaf i (owner m a (pt r i), k)))
      given i le inside ne =
          let o : ℕ = owner m a (pt r i) in
          let (k, lt, e, number) = told-number r i low le inside ne in
          let there = charts.at-home m n a is.mesh is.assignment.each (pt r i) (charts.inside-mesh m n a is.mesh is.assignment.each r i inside) in
          let root : root_of s.forest r i ≡ Some (o, local o (pt r i)) = ap (λ f. root_of f r i) (stands.forest-is s m dofs a n is) ∙ charts.root-ghost m n a is.mesh is.assignment.each r i low inside ne in
          (k, lt, ap (pt o) e ∙ there.1, ap (option_map (λ (t : ℕ × ℕ). leaf i (t.0, get_or (get_or numbers r []) i 0))) root ∙ ap (λ w. Some (leaf i (o, w))) number)

      -- one that the rank owns gives none
      not-given : (i : ℕ) → i < long r → owner m a (pt r i) ≡ r → found-at i ≡ None
      not-given i inside e = ap (option_map (λ (t : ℕ × ℕ). leaf i (t.0, get_or (get_or numbers r []) i 0))) (ap (λ f. root_of f r i) (stands.forest-is s m dofs a n is) ∙ charts.root-own m n a is.mesh is.assignment.each r i low inside e)

      -- the rank sees its points
      key-seen : (i : ℕ) → middle-from r ≤ i → i < long r → own_key m a r (pt r i) ≡ Some (charts.sight m n a is.mesh is.assignment.each r i).key
      unfolding own_key
      key-seen i le inside = ap (option_map (λ (t : Sight). t.key)) (charts.seen-first m n a is.mesh is.assignment.each r i inside le)

      seen-inside : (p : Point) (k : ℕ) → p.dim ≢ 0 → own_key m a r p ≡ Some k → in_some p (assigned m a r) ≡ true
      unfolding own_key
      seen-inside p k ne e = contained-seen p ne (assigned m a r) ∙ go (find (shows p) (sights (assigned m a r))) refl e
        where
          go : (o : Option Sight) → find (shows p) (sights (assigned m a r)) ≡ o → option_map (λ (t : Sight). t.key) o ≡ Some k → list_any (shows p) (sights (assigned m a r)) ≡ true
          go None f h = absurd (cc h)
          go (Some t) f h = found-any (shows p) (sights (assigned m a r)) t f

      forth : (l : Leaf) (i : ℕ) → middle-from r ≤ i → i < long r → passes_given (same_leaf l) (found-at i) ≡ true → list_any (λ q. list_any (λ k. passes_given (same_leaf l) (home-at q k)) (below (length (at q)))) (below n) ≡ true
      forth l i le inside h = go (owner m a (pt r i) == r) refl
        where
          go : (b : Bool) → (owner m a (pt r i) == r) ≡ b → list_any (λ q. list_any (λ k. passes_given (same_leaf l) (home-at q k)) (below (length (at q)))) (below n) ≡ true
          go true e = absurd (cc (sym (ap (passes_given (same_leaf l)) (not-given i inside (eqb-true (owner m a (pt r i)) r e))) ∙ h))
          go false e =
              let o : ℕ = owner m a (pt r i) in
              let ne : o ≢ r = λ f. both_ways (o == r) e (eq-eqb o r f) in
              let (k, lt, point, is_leaf) = given i le inside ne in
              let low-o : o < n = charts.owner-low m n a is.mesh is.assignment.each r i inside in
              let there : home-at o k ≡ Some (leaf i (o, k)) =
              ap (λ p. home_leaf m a local r ((o, k), p)) point
              ∙ (cond-false (o == r) None (option_map (λ (x : ℕ). leaf (local r (pt r i)) (o, k)) (own_key m a r (pt r i))) e
              ∙ (ap (option_map (λ (x : ℕ). leaf (local r (pt r i)) (o, k))) (key-seen i le inside)
              ∙ ap (λ j. Some (leaf j (o, k))) (charts.place-own m n a is.mesh is.assignment.each r i inside))) in
              passes_below (λ q. list_any (λ k. passes_given (same_leaf l) (home-at q k)) (below (length (at q)))) n o low-o
              (passes_below (λ k. passes_given (same_leaf l) (home-at o k)) (length (at o)) k lt (ap (passes_given (same_leaf l)) (there ∙ sym is_leaf) ∙ h))

      back : (l : Leaf) (q k : ℕ) → q < n → k < length (at q) → passes_given (same_leaf l) (home-at q k) ≡ true → list_any (λ i. passes_given (same_leaf l) (found-at i)) (run (middle-from r) count) ≡ true
      back l q k low-q lt h = go (owner m a p == r) refl (own_key m a r p) refl
        where
          p : Point
          p = pt q (word-at q k)

          go : (b : Bool) → (owner m a p == r) ≡ b → (o : Option ℕ) → own_key m a r p ≡ o → list_any (λ i. passes_given (same_leaf l) (found-at i)) (run (middle-from r) count) ≡ true
          go true e o f = absurd (cc (sym (ap (passes_given (same_leaf l)) (cond-true (owner m a p == r) None (option_map (λ (x : ℕ). leaf (local r p) (q, k)) (own_key m a r p)) e)) ∙ h))
          go false e None f = absurd (cc (sym (ap (passes_given (same_leaf l)) (cond-false (owner m a p == r) None (option_map (λ (x : ℕ). leaf (local r p) (q, k)) (own_key m a r p)) e ∙ ap (option_map (λ (x : ℕ). leaf (local r p) (q, k))) f)) ∙ h))
          go false e (Some key) f =
              let word = word-inside q k low-q lt in
              let mine : owner m a p ≡ q = word-owned q k low-q lt in
              let here = charts.place-there m n a is.mesh is.assignment.each r p (seen-inside p key (charts.middle-dim m n a is.mesh is.assignment.each q (word-at q k) word.0 word.1) f) in
              let i : ℕ = local r p in
              let le : middle-from r ≤ i = ownwords.stays-middle s m dofs a n is q (word-at q k) word.0 word.1 r i here.0 here.1 in
              let ne : owner m a (pt r i) ≢ r = λ g. both_ways (owner m a p == r) e (eq-eqb (owner m a p) r (ap (owner m a) (sym here.1) ∙ g)) in
              let (j, less, point, is_leaf) = given i le here.0 ne in
              let owner-is : owner m a (pt r i) ≡ q = ap (owner m a) here.1 ∙ mine in
              let less-q : j < length (at q) = subst (λ o. j < length (at o)) owner-is less in
              let point-q : pt q (word-at q j) ≡ p = subst (λ o. pt o (word-at o j) ≡ pt r i) owner-is point ∙ here.1 in
              let same-place : word-at q j ≡ word-at q k = charts.one-place m n a is.mesh is.assignment.each q (word-at q j) (word-at q k) (word-inside q j low-q less-q).1 word.1 point-q in
              let same : j ≡ k = one j k less-q lt same-place in
              let target : home-at q k ≡ Some (leaf i (q, k)) = cond-false (owner m a p == r) None (option_map (λ (x : ℕ). leaf (local r p) (q, k)) (own_key m a r p)) e ∙ ap (option_map (λ (x : ℕ). leaf (local r p) (q, k))) f in
              let leaves : found-at i ≡ home-at q k = is_leaf ∙ ((λ t. Some (leaf i (owner-is t, same t))) ∙ sym target) in
              let shift : middle-from r + (i - middle-from r) ≡ i = omega (arith, le) in
              any_map (λ i. passes_given (same_leaf l) (found-at i)) (λ x. middle-from r + x) (below count)
              ∙ passes_below (λ x. passes_given (same_leaf l) (found-at (middle-from r + x))) count (i - middle-from r) (let whole = charts.own-length m n a is.mesh is.assignment.each r in let inside = here.0 in omega (arith, le, inside, whole)) (ap (λ x. passes_given (same_leaf l) (found-at x)) shift ∙ (ap (passes_given (same_leaf l)) leaves ∙ h))
            where
              one : (x y : ℕ) → x < length (at q) → y < length (at q) → word-at q x ≡ word-at q y → x ≡ y
              one x y lx ly same = ⊎_elim
                  (λ (less : x < y). absurd (ownwords.apart s m dofs a n is q low-q (at q) (own-words q low-q) x y less ly same))
                  (λ (ge : y ≤ x). ⊎_elim
                  (λ (less : y < x). absurd (ownwords.apart s m dofs a n is q low-q (at q) (own-words q low-q) y x less lx (sym same)))
                  (λ (le : x ≤ y). omega (arith, ge, le))
                  (cases_lt y x))
                  (cases_lt x y)

      abbrev pub target : List Leaf
      target = filter_map (home_leaf m a local r) (home_roots m a n)

      same-members : (l : Leaf) → list_any (same_leaf l) (leaves_found s r (get_or numbers r [])) ≡ list_any (same_leaf l) target
      same-members l =
          ap (list_any (same_leaf l)) found-run ∙ any-given (same_leaf l) found-at (run (middle-from r) count)
          ∙ (same_tests (list_any (λ i. passes_given (same_leaf l) (found-at i)) (run (middle-from r) count)) (list_any (λ q. list_any (λ k. passes_given (same_leaf l) (home-at q k)) (below (length (at q)))) (below n))
          (λ h. let (i, w, e) = among (λ i. (middle-from r ≤ i) × (i < middle-from r + count)) (λ i. passes_given (same_leaf l) (found-at i)) (run (middle-from r) count) (run-within (middle-from r) count) h in forth l i w.0 (run-inside i w) e)
          (λ h.
          let (q, low-q, e) = among (λ q. q < n) (λ q. list_any (λ k. passes_given (same_leaf l) (home-at q k)) (below (length (at q)))) (below n) (below-all n) h in
          let (k, lt, f) = among (λ k. k < length (at q)) (λ k. passes_given (same_leaf l) (home-at q k)) (below (length (at q))) (below-all (length (at q))) e in
          back l q k low-q lt f)
          ∙ sym (ap (λ ws. list_any (same_leaf l) (filter_map (home_leaf m a local r) ws)) roots-are
          ∙ (any-given (same_leaf l) (home_leaf m a local r) (flat_map (row (λ q. length (at q)) (λ q k. pt q (word-at q k))) (below n))
          ∙ (sym (any_flat (λ w. passes_given (same_leaf l) (home_leaf m a local r w)) (row (λ q. length (at q)) (λ q k. pt q (word-at q k))) (below n))
          ∙ any_same (λ q. list_any (λ w. passes_given (same_leaf l) (home_leaf m a local r w)) (row (λ q. length (at q)) (λ q k. pt q (word-at q k)) q)) (λ q. list_any (λ k. passes_given (same_leaf l) (home-at q k)) (below (length (at q))))
          (λ q. any_map (λ w. passes_given (same_leaf l) (home_leaf m a local r w)) (λ k. ((q, k), pt q (word-at q k))) (below (length (at q)))) (below n)))))

      few-words : (q : ℕ) → q < n → length (at q) < 2 ^ 32
      few-words q low-q = ownwords.words-low s m dofs a n is q low-q (at q) (own-words q low-q)

      target-rises : IsRising (map leaf_number target)
      target-rises = subst (λ ws. IsRising (map leaf_number (filter_map (home_leaf m a local r) ws))) (sym roots-are)
          (rising-given root_number leaf_number (home_leaf m a local r) numbers-same (flat_map (row (λ q. length (at q)) (λ q k. pt q (word-at q k))) (below n)) (rows-rise (λ q. length (at q)) (λ q k. pt q (word-at q k)) n few-words))
        where
          numbers-same : (w : (ℕ × ℕ) × Point) (l : Leaf) → home_leaf m a local r w ≡ Some l → leaf_number l ≡ root_number w
          numbers-same w l e = go (owner m a w.1 == r) refl (own_key m a r w.1) refl
            where
              go : (b : Bool) → (owner m a w.1 == r) ≡ b → (o : Option ℕ) → own_key m a r w.1 ≡ o → leaf_number l ≡ root_number w
              go true f o g = absurd (cc (sym (cond-true (owner m a w.1 == r) None (option_map (λ (x : ℕ). leaf (local r w.1) w.0) (own_key m a r w.1)) f) ∙ e))
              go false f None g = absurd (cc (sym (cond-false (owner m a w.1 == r) None (option_map (λ (x : ℕ). leaf (local r w.1) w.0) (own_key m a r w.1)) f ∙ ap (option_map (λ (x : ℕ). leaf (local r w.1) w.0)) g) ∙ e))
              go false f (Some k) g = ap leaf-number-or (sym (sym (cond-false (owner m a w.1 == r) None (option_map (λ (x : ℕ). leaf (local r w.1) w.0) (own_key m a r w.1)) f ∙ ap (option_map (λ (x : ℕ). leaf (local r w.1) w.0)) g) ∙ e))
                where
                  leaf-number-or : Option Leaf → ℕ
                  leaf-number-or None = 0
                  leaf-number-or (Some l) = leaf_number l

      -- the leaves that the rank finds have different numbers
      found-locals : IsRising (map (λ (l : Leaf). l.local) (leaves_found s r (get_or numbers r [])))
      found-locals = subst (λ ls. IsRising (map (λ (l : Leaf). l.local) ls)) (sym found-run)
          (rising-given (λ i. i) (λ (l : Leaf). l.local) found-at local-is (run (middle-from r) count) (subst IsRising (sym (same-numbers (run (middle-from r) count))) (run-rising (middle-from r) count)))
        where
          local-is : (i : ℕ) (l : Leaf) → found-at i ≡ Some l → l.local ≡ i
          local-is i l e = go (root_of s.forest r i) refl
            where
              local-or : Option Leaf → ℕ
              local-or None = i
              local-or (Some k) = k.local

              go : (o : Option (ℕ × ℕ)) → root_of s.forest r i ≡ o → l.local ≡ i
              go None f = ap local-or (sym e ∙ ap (option_map (λ (root : ℕ × ℕ). leaf i (root.0, get_or (get_or numbers r []) i 0))) f)
              go (Some t) f = ap local-or (sym e ∙ ap (option_map (λ (root : ℕ × ℕ). leaf i (root.0, get_or (get_or numbers r []) i 0))) f)

      pub found-apart : (i j : ℕ) (d : Leaf) → i < j → j < length (leaves_found s r (get_or numbers r [])) → leaf_number (get_or (leaves_found s r (get_or numbers r [])) i d) ≢ leaf_number (get_or (leaves_found s r (get_or numbers r [])) j d)
      found-apart i j d lt high e =
          let ls : List Leaf = leaves_found s r (get_or numbers r []) in
          let k : Leaf = get_or ls i d in
          let l : Leaf = get_or ls j d in
          let same : k ≡ l = rising-once leaf_number same_leaf same_leaf-true target target-rises k l (sym (same-members k) ∙ standing i (omega (arith, lt, high))) (sym (same-members l) ∙ standing j high) e in
          let order = earlier-lower (map (λ (t : Leaf). t.local) ls) found-locals i j 0 lt (omega (arith, high, length-map ls (λ (t : Leaf). t.local))) in
          let at-i = get_or-map (λ (t : Leaf). t.local) ls i d 0 (omega (arith, lt, high)) in
          let at-j = get_or-map (λ (t : Leaf). t.local) ls j d 0 high in
          omega (arith, order, at-i, at-j, ap (λ (t : Leaf). t.local) same)
        where
          standing : (x : ℕ) → x < length (leaves_found s r (get_or numbers r [])) → list_any (same_leaf (get_or (leaves_found s r (get_or numbers r [])) x d)) (leaves_found s r (get_or numbers r [])) ≡ true
          standing x low-x = all_at (λ t. (p : Leaf → Bool) → p t ≡ true → list_any p (leaves_found s r (get_or numbers r [])) ≡ true) (leaves_found s r (get_or numbers r [])) x d (every-stands (leaves_found s r (get_or numbers r []))) low-x (same_leaf (get_or (leaves_found s r (get_or numbers r [])) x d)) (same_leaf-self (get_or (leaves_found s r (get_or numbers r [])) x d))

      -- put in order, the leaves that the rank found are those of the home round
      pub leaves-sorted : (ls : List Leaf) → IsPermutation (leaves_found s r (get_or numbers r [])) ls → IsNonDecreasingBy leaf_number ls → ls ≡ target
      leaves-sorted ls same up = rising-one leaf_number (λ l. l) same_leaf same_leaf-self same_leaf-true (λ l. Unit {0}) (λ k l x y e. e) ls target
          (all_from (λ l. Unit {0}) (λ l. tt) ls) (all_from (λ l. Unit {0}) (λ l. tt) target)
          (put-rising leaf_number (leaves_found s r (get_or numbers r [])) ls same up found-apart) target-rises
          (λ l. sym (any-permutation (same_leaf l) (leaves_found s r (get_or numbers r [])) ls same) ∙ same-members l)
