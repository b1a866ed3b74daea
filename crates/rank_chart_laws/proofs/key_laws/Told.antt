-- What the steps come to: the round is the home round, and after it the ranks have the keys of their points.
use Rattle.std.proofs.Common.{◌≡◌, ◌≢◌, ℕ, zero, suc, ◌<◌, ◌≤◌, Bool, true, false, ◌==◌, List, [], ◌∷◌, map, length, get_or, Option, Some, None, refl, sym, ap, ◌∙◌, subst, ⊎_elim, arith}
use Rattle.std.specs.Prelude.{filter_map, find, option_map, unwrap_or}
use Rattle.std.specs.List.{list_any, AllByRecursion}
use Rattle.std.proofs.lemmas.Bool.{and_from, eq-eqb, eqb-true, both_ways, cases_lt}
use Rattle.std.proofs.lemmas.List.{length-map, get_or-map}
use Rattle.plain_lists.specs.Lists.{below, picked}
use Rattle.plain_lists.proofs.Below.{at-below, below-all, get_or-map-below, map-below-length}
use Rattle.plain_lists.proofs.Each.{all_at, all_from, all_in_flat_map, all_mapped, all_weaker}
use Rattle.plain_lists.proofs.Filters.{map_same, map_map_same}
use Rattle.plain_lists.proofs.Finding.{among, any_map, found-any, stands as every-stands}
use Rattle.rank_chart_laws.proofs.meeting_laws.Lists.{any_flat}
use Rattle.mesh_defs.specs.Mesh.{Mesh}
use Rattle.mesh_defs.specs.Points.{Point, Sight, point_of, shows, sights, same_point, first_sight, key}
use Rattle.mesh_defs.specs.RightMesh.{in_some}
use Rattle.mesh_laws.proofs.Firsts.{same_point-true}
use Rattle.sf_defs.specs.Rounds.{Round}
use Rattle.sf_defs.specs.Forest.{Forest, root_of}
use Rattle.sf_defs.specs.declared.Op.TheVariants.{Min}
use Rattle.sf_ops.specs.Asked.{asks_of, words_of}
use Rattle.dist_state.specs.shared_state.Points.{shared_at}
use Rattle.sf_ops.specs.Copies.{value_or, AreCopies}
use Rattle.rank_defs.specs.Ranks.{assigned, owner, is_shared, own_key}
use Rattle.rank_defs.specs.Spread.{SharedPart, PlainShared, IsShared}
use Rattle.rank_defs.specs.Home.{home_points, home_words, IsHomeRound}
use Rattle.rank_laws.proofs.orient_laws.HomeParts.{home-parts}
use Rattle.rank_laws.proofs.orient_laws.OwnSights.{unshared-first}
use Rattle.rank_laws.proofs.orient_laws.Seen.{contained-seen}
use Rattle.rank_chart_laws.specs.home_laws.HomeForest.{home_of, home_counts, home_values, home_roots, home_leaf, home_forest, HaveOwnKeys}
use Rattle.rank_chart_laws.proofs.home_laws.OneRound.{one-round}
use Rattle.rank_chart_laws.proofs.home_laws.KeysBack.{keys-back}
use Rattle.rank_chart_laws.specs.field_laws.Weights.{no_sight}
use Rattle.rank_chart_laws.specs.key_laws.Keys.{keys_on, own_point_keys}
use Rattle.rank_chart_laws.specs.key_laws.Places.{put, part_keys}
use Rattle.rank_chart_laws.specs.key_laws.Words.{part, seen_keys, word_numbers, word_keys, told_keys, AreAllWords, AreWordPlaces, IsWordForest, IsKeyRound}
use Rattle.rank_chart_laws.proofs.key_laws.Rising.{all-places}
use Rattle.rank_chart_laws.proofs.key_laws.Puts.{put-elsewhere, put-there}
use Rattle.rank_chart_laws.proofs.key_laws.Charts as charts
use Rattle.rank_chart_laws.proofs.key_laws.WordPlaces as words
use Rattle.rank_chart_laws.proofs.key_laws.Stands as stands
use Rattle.rank_chart_laws.proofs.key_laws.OwnWords as ownwords
use Rattle.rank_chart_laws.proofs.key_laws.Leaves as leaves

-- a list by its places
list-places : {X : Type 0} (xs : List X) (d : X) → map (λ k. get_or xs k d) (below (length xs)) ≡ xs
list-places {X} xs d = map-below-length (λ k. get_or xs k d) (λ x. x) xs d (λ k low. refl) ∙ same xs
  where
    same : (ys : List X) → map (λ y. y) ys ≡ ys
    same [] = refl
    same (y ∷ ys) = λ i. y ∷ same ys i

-- the length of a list of lists, entry by entry
length-entry : (xss : List (List ℕ)) (k : ℕ) → length (get_or xss k []) ≡ get_or (map length xss) k 0
length-entry [] k = refl
length-entry (xs ∷ xss) zero = refl
length-entry (xs ∷ xss) (suc k) = length-entry xss k

module _ (s : PlainShared) (m : Mesh) (dofs : List (List ℕ)) (a : List ℕ) (n : ℕ) (is : IsShared s m dofs a n) (places : List (List ℕ)) (all : AreAllWords s places) where
  abbrev pt : ℕ → ℕ → Point
  pt r i = ownwords.pt s m dofs a n is r i

  abbrev sight : ℕ → ℕ → Sight
  sight r i = charts.sight m n a is.mesh is.assignment.each r i

  abbrev long : ℕ → ℕ
  long r = ownwords.long s m dofs a n is r

  abbrev middle-from : ℕ → ℕ
  middle-from r = ownwords.middle-from s m dofs a n is r

  abbrev at : ℕ → List ℕ
  at r = get_or places r []

  abbrev word-at : ℕ → ℕ → ℕ
  word-at q k = get_or (at q) k 0

  abbrev local : ℕ → Point → ℕ
  local r p = charts.place m n a is.mesh is.assignment.each r p

  own-words : (r : ℕ) → r < n → AreWordPlaces s r (at r)
  own-words r low = all.each r (omega (arith, low, stands.ranks-are s m dofs a n is))

  count-is : length places ≡ n
  count-is = all.ranks ∙ stands.ranks-are s m dofs a n is

  places-listed : places ≡ map at (below n)
  places-listed = sym (list-places places []) ∙ ap (λ k. map at (below k)) count-is

  counts-are : map length places ≡ home_counts m a n
  unfolding home_counts
  counts-are = ap (map length) places-listed ∙ map_map_same length at (λ r. length (home_of m a r)) (below n)
      (all_weaker (λ r. r < n) (λ r. length (at r) ≡ length (home_of m a r)) (λ r low. sym (ownwords.counts-are s m dofs a n is r low (at r) (own-words r low))) (below n) (below-all n))

  -- ---- the keys that ranks see

  seen-at : (r : ℕ) → r < n → get_or (seen_keys s) r [] ≡ map (λ (t : Sight). t.key) (charts.own m n a is.mesh is.assignment.each r)
  seen-at r low = ap (λ l. get_or l r []) (stands.seen-are s m dofs a n is) ∙ get_or-map-below (λ q. map (λ (t : Sight). t.key) (charts.own m n a is.mesh is.assignment.each q)) n r [] low

  seen-key : (r i : ℕ) → r < n → i < long r → get_or (get_or (seen_keys s) r []) i 0 ≡ (sight r i).key
  seen-key r i low inside = ap (λ l. get_or l i 0) (seen-at r low) ∙ get_or-map (λ (t : Sight). t.key) (charts.own m n a is.mesh is.assignment.each r) i no_sight 0 inside

  own-key-is : (r i : ℕ) → middle-from r ≤ i → i < long r → own_key m a r (pt r i) ≡ Some (sight r i).key
  unfolding own_key
  own-key-is r i le inside = ap (option_map (λ (t : Sight). t.key)) (charts.seen-first m n a is.mesh is.assignment.each r i inside le)

  key-inside : (r : ℕ) (p : Point) (k : ℕ) → p.dim ≢ 0 → own_key m a r p ≡ Some k → in_some p (assigned m a r) ≡ true
  unfolding own_key
  key-inside r p k ne e = contained-seen p ne (assigned m a r) ∙ go (find (shows p) (sights (assigned m a r))) refl e
    where
      go : (o : Option Sight) → find (shows p) (sights (assigned m a r)) ≡ o → option_map (λ (t : Sight). t.key) o ≡ Some k → list_any (shows p) (sights (assigned m a r)) ≡ true
      go None f h = absurd (cc h)
      go (Some t) f h = found-any (shows p) (sights (assigned m a r)) t f

  -- a point of a word stands at a place of a word
  word-of : (p : Point) → list_any (same_point p) (home_points m a n) ≡ true → (q : ℕ) × (i : ℕ) × (q < n) × (middle-from q ≤ i) × (i < long q) × (pt q i ≡ p)
  word-of p h =
      let (q, low, e) = among (λ q. q < n) (λ q. list_any (same_point p) (home_of m a q)) (below n) (below-all n) (any_flat (same_point p) (home_of m a) (below n) ∙ (ap (list_any (same_point p)) (sym (home-parts m a n)) ∙ h)) in
      let (i, w, f) = among (λ i. (middle-from q ≤ i) × (i < long q)) (λ i. same_point p (pt q i)) (at q) (ownwords.within s m dofs a n is q low (at q) (own-words q low)) (sym (any_map (same_point p) (pt q) (at q)) ∙ (ap (list_any (same_point p)) (ownwords.points-are s m dofs a n is q low (at q) (own-words q low)) ∙ e)) in
      (q, i, low, w.0, w.1, sym (same_point-true p (pt q i) f))

  have-own-keys : HaveOwnKeys m a n local (seen_keys s)
  have-own-keys r low p h k e =
      let (q, j, low-q, le, inside, point) = word-of p h in
      let ne : p.dim ≢ 0 = λ z. charts.middle-dim m n a is.mesh is.assignment.each q j le inside (ap (λ (t : Point). t.dim) point ∙ z) in
      let there = charts.place-there m n a is.mesh is.assignment.each r p (key-inside r p k ne e) in
      let middle = ownwords.stays-middle s m dofs a n is q j le inside r (local r p) there.0 (there.1 ∙ sym point) in
      let own : Some (sight r (local r p)).key ≡ Some k = sym (own-key-is r (local r p) middle there.0) ∙ (ap (own_key m a r) there.1 ∙ e) in
      seen-key r (local r p) low there.0 ∙ ap (λ o. unwrap_or o 0) own

  -- the words' first values are the keys of their ranks
  values-are : word_keys places (seen_keys s) ≡ home_values m a n
  unfolding home_values home_words
  values-are = ap (λ k. map (λ r. picked (get_or (seen_keys s) r []) (at r)) (below k)) count-is
      ∙ map_same (λ r. picked (get_or (seen_keys s) r []) (at r)) (λ r. home_words m a (home_of m a r)) (below n) (all_weaker (λ r. r < n) (λ r. picked (get_or (seen_keys s) r []) (at r) ≡ home_words m a (home_of m a r)) each (below n) (below-all n))
    where
      word : Point → ℕ
      word p = unwrap_or (own_key m a (owner m a p) p) 0

      each : (r : ℕ) → r < n → picked (get_or (seen_keys s) r []) (at r) ≡ map word (home_of m a r)
      each r low =
          map_same (λ i. get_or (get_or (seen_keys s) r []) i 0) (λ i. word (pt r i)) (at r)
          (all-places (λ i. get_or (get_or (seen_keys s) r []) i 0 ≡ word (pt r i)) (at r) 0 (λ k lt.
          let inside = leaves.word-inside s m dofs a n is places all r k low lt in
          let mine = leaves.word-owned s m dofs a n is places all r k low lt in
          seen-key r (word-at r k) low inside.1 ∙ sym (ap (λ o. unwrap_or (own_key m a o (pt r (word-at r k))) 0) mine ∙ ap (λ o. unwrap_or o 0) (own-key-is r (word-at r k) inside.0 inside.1))))
          ∙ (sym (map_map_same word (pt r) (λ i. word (pt r i)) (at r) (all_from (λ i. word (pt r i) ≡ word (pt r i)) (λ i. refl) (at r))) ∙ ap (map word) (ownwords.points-are s m dofs a n is r low (at r) (own-words r low)))

  -- ---- the round

  module _ (numbers : List (List ℕ)) (told : AreCopies s.forest (word_numbers s places) (word_numbers s places) numbers) where
    forest-is : (f : Forest) → IsWordForest s places numbers f → f ≡ home_forest m a n local
    unfolding home_forest
    forest-is f made = λ i. record { roots = (made.roots ∙ counts-are) i; leaves = leaves-are i }
      where
        long-is : length f.leaves ≡ n
        long-is = made.ranks ∙ stands.ranks-are s m dofs a n is

        leaves-are : f.leaves ≡ map (λ r. filter_map (home_leaf m a local r) (home_roots m a n)) (below n)
        leaves-are = sym (list-places f.leaves []) ∙ (ap (λ k. map (λ r. get_or f.leaves r []) (below k)) long-is
            ∙ map_same (λ r. get_or f.leaves r []) (λ r. filter_map (home_leaf m a local r) (home_roots m a n)) (below n)
            (all_weaker (λ r. r < n) (λ r. get_or f.leaves r [] ≡ filter_map (home_leaf m a local r) (home_roots m a n))
            (λ r low. let here : r < length s.parts = omega (arith, low, stands.ranks-are s m dofs a n is) in leaves.leaves-sorted s m dofs a n is places all numbers told r low (get_or f.leaves r []) (made.same r here) (made.rising r here)) (below n) (below-all n)))

    pub round-is : (r : Round) → IsKeyRound s places numbers r → IsHomeRound m a n r
    round-is r run = one-round m a n local (seen_keys s) have-own-keys r run.tag (run.before ∙ ap words_of values-are) (run.asks ∙ ap (λ f. asks_of f Min (seen_keys s)) (forest-is run.forest run.of_words)) run.legal

  -- ---- the keys

  module _ (r : Round) (round : IsHomeRound m a n r) (least : List (List ℕ)) (shape : map length least ≡ map length places) (words-back : words_of least ≡ r.after) where
    -- the words have the keys of their points
    word-key : (q k : ℕ) → q < n → k < length (at q) → key m (pt q (word-at q k)) ≡ Some (get_or (get_or least q []) k 0)
    word-key q k low lt = at-below (λ k. key m (pt q (word-at q k)) ≡ Some (get_or (get_or least q []) k 0)) (length (at q)) (all_mapped Has (λ k. ((q, k), pt q (word-at q k))) (below (length (at q))) of-rank) k lt
      where
        Has : (ℕ × ℕ) × Point → Type 0
        Has w = key m w.1 ≡ Some (get_or (get_or least w.0.0 []) w.0.1 0)

        back : AllByRecursion Has (home_roots m a n)
        back = keys-back m n a is.assignment.each r round least (shape ∙ counts-are) words-back

        of-rank : AllByRecursion Has (map (λ k. ((q, k), pt q (word-at q k))) (below (length (at q))))
        of-rank = at-below (λ q. AllByRecursion Has (map (λ k. ((q, k), pt q (word-at q k))) (below (length (at q))))) n
            (all_in_flat_map Has (λ q. map (λ k. ((q, k), pt q (word-at q k))) (below (length (at q)))) (below n) (subst (AllByRecursion Has) (leaves.roots-are s m dofs a n is places all) back)) q low

    told-at : (q : ℕ) → q < n → get_or (told_keys s places least) q [] ≡ put (part_keys (part s q)) (at q) (get_or least q [])
    unfolding told_keys
    told-at q low = get_or-map-below (λ q. put (part_keys (part s q)) (at q) (get_or least q [])) (length s.parts) q [] (omega (arith, low, stands.ranks-are s m dofs a n is))

    part-key : (q i : ℕ) → q < n → i < long q → get_or (part_keys (part s q)) i 0 ≡ (sight q i).key
    part-key q i low inside = ap (λ l. get_or l i 0) (stands.keys-are s m dofs a n is q low) ∙ get_or-map (λ (t : Sight). t.key) (charts.own m n a is.mesh is.assignment.each q) i no_sight 0 inside

    keys-long : (q : ℕ) → q < n → length (part_keys (part s q)) ≡ long q
    keys-long q low = ap length (stands.keys-are s m dofs a n is q low) ∙ length-map (charts.own m n a is.mesh is.assignment.each q) (λ (t : Sight). t.key)

    -- a point that is no word of its owner is first seen as it stands there
    other-first : (q i : ℕ) → q < n → i < long q → owner m a (pt q i) ≡ q → list_any (λ p. p == i) (at q) ≡ false → first_sight m (pt q i) ≡ Some (sight q i)
    other-first q i low inside mine none = ⊎_elim
        (λ (lt : i < middle-from q). charts.low-first m n a is.mesh is.assignment.each q i lt)
        (λ (le : middle-from q ≤ i). sym (unshared-first m a q (pt q i) (charts.middle-dim m n a is.mesh is.assignment.each q i le inside) (alone le (is_shared m a (pt q i)) refl) (charts.inside-rank m n a is.mesh is.assignment.each q i inside)) ∙ charts.seen-first m n a is.mesh is.assignment.each q i inside le)
        (cases_lt i (middle-from q))
      where
        alone : middle-from q ≤ i → (b : Bool) → is_shared m a (pt q i) ≡ b → is_shared m a (pt q i) ≡ false
        alone le false e = e
        alone le true e = absurd (
            let (k, lt, f) = ownwords.word-placed s m dofs a n is q low (at q) (own-words q low) i le inside (words.word-is m n a is.mesh is.assignment.each q i low inside ∙ and_from (owner m a (pt q i) == q) (is_shared m a (pt q i)) (eq-eqb (owner m a (pt q i)) q mine) e) in
            both_ways (list_any (λ p. p == i) (at q)) none (all_at (λ t. (p : ℕ → Bool) → p t ≡ true → list_any p (at q) ≡ true) (at q) k 0 (every-stands (at q)) lt (λ p. p == i) (eq-eqb (word-at q k) i f)))

    -- an owner has the key of each of its points
    owned-key : (q i : ℕ) → q < n → i < long q → owner m a (pt q i) ≡ q → get_or (get_or (told_keys s places least) q []) i 0 ≡ unwrap_or (key m (pt q i)) 0
    unfolding key
    owned-key q i low inside mine = ap (λ l. get_or l i 0) (told-at q low) ∙ go (list_any (λ p. p == i) (at q)) refl
      where
        go : (b : Bool) → list_any (λ p. p == i) (at q) ≡ b → get_or (put (part_keys (part s q)) (at q) (get_or least q [])) i 0 ≡ unwrap_or (key m (pt q i)) 0
        go false e = put-elsewhere (part_keys (part s q)) (at q) (get_or least q []) i e ∙ (part-key q i low inside ∙ sym (ap (λ o. unwrap_or (option_map (λ (t : Sight). t.key) o) 0) (other-first q i low inside mine e)))
        go true e =
            let (k, lt, f) = ownwords.at-place (λ p. p == i) (at q) e in
            let same : word-at q k ≡ i = eqb-true (word-at q k) i f in
            let long-q = keys-long q low in
            let size : length (get_or least q []) ≡ length (at q) = length-entry least q ∙ (ap (λ l. get_or l q 0) shape ∙ sym (length-entry places q)) in
            ap (λ j. get_or (put (part_keys (part s q)) (at q) (get_or least q [])) j 0) (sym same)
            ∙ (put-there (part_keys (part s q)) (at q) (get_or least q []) k
            (all_weaker (λ j. (middle-from q ≤ j) × (j < long q)) (λ j. j < length (part_keys (part s q))) (λ j w. omega (arith, w.1, long-q)) (at q) (ownwords.within s m dofs a n is q low (at q) (own-words q low)))
            (ownwords.apart s m dofs a n is q low (at q) (own-words q low)) lt (omega (arith, size))
            ∙ sym (ap (λ j. unwrap_or (key m (pt q j)) 0) (sym same) ∙ ap (λ o. unwrap_or o 0) (word-key q k low lt)))

    module _ (keys : List (List ℕ)) (copies : AreCopies s.forest (told_keys s places least) (told_keys s places least) keys) (lengths : map length keys ≡ s.forest.roots) where
      -- so has each rank
      key-at : (q i : ℕ) → q < n → i < long q → get_or (get_or keys q []) i 0 ≡ unwrap_or (key m (pt q i)) 0
      key-at q i low inside = go (owner m a (pt q i) == q) refl
        where
          go : (b : Bool) → (owner m a (pt q i) == q) ≡ b → get_or (get_or keys q []) i 0 ≡ unwrap_or (key m (pt q i)) 0
          go true e =
              let mine = eqb-true (owner m a (pt q i)) q e in
              let root : root_of s.forest q i ≡ None = ap (λ f. root_of f q i) (stands.forest-is s m dofs a n is) ∙ charts.root-own m n a is.mesh is.assignment.each q i low inside mine in
              copies q i ∙ (ap (value_or (told_keys s places least) (get_or (get_or (told_keys s places least) q []) i 0)) root ∙ owned-key q i low inside mine)
          go false e =
              let o : ℕ = owner m a (pt q i) in
              let j : ℕ = local o (pt q i) in
              let ne : o ≢ q = λ f. both_ways (o == q) e (eq-eqb o q f) in
              let there = charts.at-home m n a is.mesh is.assignment.each (pt q i) (charts.inside-mesh m n a is.mesh is.assignment.each q i inside) in
              let root : root_of s.forest q i ≡ Some (o, j) = ap (λ f. root_of f q i) (stands.forest-is s m dofs a n is) ∙ charts.root-ghost m n a is.mesh is.assignment.each q i low inside ne in
              copies q i ∙ (ap (value_or (told_keys s places least) (get_or (get_or (told_keys s places least) q []) i 0)) root
              ∙ (owned-key o j (charts.owner-low m n a is.mesh is.assignment.each q i inside) there.0 (ap (owner m a) there.1) ∙ ap (λ p. unwrap_or (key m p) 0) there.1))

      lengths-are : map length keys ≡ map (λ (p : SharedPart). length p.sets) s.parts
      lengths-are = lengths ∙ (stands.laid-out s m dofs a n is).roots

      keys-count : length keys ≡ n
      keys-count =
          let e = ap length lengths-are in
          let f = length-map keys (length {A = ℕ}) in
          let g = length-map s.parts (λ (p : SharedPart). length p.sets) in
          let h = stands.ranks-are s m dofs a n is in
          omega arith

      own-long : (q : ℕ) → q < n → length (get_or keys q []) ≡ long q
      own-long q low =
          length-entry keys q ∙ (ap (λ l. get_or l q 0) lengths-are
          ∙ (get_or-map (λ (p : SharedPart). length p.sets) s.parts q (shared_at [] 0) 0 (omega (arith, low, stands.ranks-are s m dofs a n is))
          ∙ stands.sets-long s m dofs a n is q low))

      pub keys-told : keys ≡ own_point_keys m a n
      unfolding own_point_keys
      keys-told = sym (list-places keys []) ∙ (ap (λ k. map (λ q. get_or keys q []) (below k)) keys-count
          ∙ map_same (λ q. get_or keys q []) (keys_on m a) (below n) (all_weaker (λ q. q < n) (λ q. get_or keys q [] ≡ keys_on m a q) each (below n) (below-all n)))
        where
          each : (q : ℕ) → q < n → get_or keys q [] ≡ keys_on m a q
          each q low =
              sym (list-places (get_or keys q []) 0)
              ∙ (ap (λ k. map (λ i. get_or (get_or keys q []) i 0) (below k)) (own-long q low)
              ∙ map-below-length (λ i. get_or (get_or keys q []) i 0) (λ (t : Sight). unwrap_or (key m (point_of t)) 0) (charts.own m n a is.mesh is.assignment.each q) no_sight (λ i lt. key-at q i low lt))
