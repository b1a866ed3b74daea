-- The home round and the number round meet the conditions of a round.
use Rattle.std.proofs.Common.{◌≡◌, ◌⊎◌, ℕ, zero, suc, ◌+◌, ◌*◌, ◌<◌, ◌≤◌, ◌^◌, Bool, true, false, cond, ◌&&◌, ◌==◌, nat_lt, List, [], ◌∷◌, ◌++◌, map, length, get_or, sum_by, Option, Some, None, refl, sym, ap, ◌∙◌, subst, inr, arith}
use Rattle.std.specs.Prelude.{find, flat_map, filter_map, option_map, unwrap_or}
use Rattle.std.specs.List.{AllByRecursion, filter, enumerate_from, cons_option}
use Rattle.std.proofs.lemmas.List.{length-append, length-map}
use Rattle.std.proofs.lemmas.List.Sums.{length-filter, count_by-le-length, sum_by-cons}
use Rattle.plain_lists.specs.Lists.{below}
use Rattle.plain_lists.proofs.Below.{length-below}
use Rattle.plain_lists.proofs.Each.{all_weaker, all_from, all_map, all_filter, all_flat_map}
use Rattle.plain_lists.proofs.Filters.{count_nothing}
use Rattle.plain_lists.proofs.Finding.{find-has}
use Rattle.mesh_defs.specs.Tables.{dim_of}
use Rattle.mesh_defs.specs.Mesh.{Mesh, Cell, placed_cells}
use Rattle.mesh_defs.specs.Points.{Point, Sight, point_of, shows, sights_of, sights}
use Rattle.mesh_defs.specs.Diagram.{strata, chart}
use Rattle.mesh_defs.specs.RightMesh.{IsRightMesh, in_some}
use Rattle.mesh_laws.proofs.Keys.{KeysRise, sights_of-rise}
use Rattle.sf_defs.specs.declared.Op.TheVariants.{Load, Sum, Min, Replace}
use Rattle.sf_defs.specs.declared.Ask.{Ask}
use Rattle.sf_defs.specs.PrintedOrder.{is_load, kind_of}
use Rattle.sf_defs.specs.Rounds.{all_asks, asks_on, same_op, added, SuitsWord, MeetsConditions}
use Rattle.rank_defs.specs.Ranks.{IsRightAssignment, rank_of, assigned, held_cells, held, owner, is_shared, owned, own_key}
use Rattle.rank_defs.specs.Home.{put_in_order, precedes, by_vertices, shared_points, home_points, home_words, home_asks, number_asks}
use Rattle.headline_laws.proofs.seed_laws.Asking.{IsMin, mins-suit}
use Rattle.headline_laws.proofs.due_laws.Few.{length-numbered, strata-few}

-- ---- lists

-- what is chosen is no more
chosen-few : {X : Type 0} (p : X → Bool) (xs : List X) → length (filter p xs) ≤ length xs
chosen-few p xs = let count = length-filter p xs in let few = count_by-le-length p xs in omega (arith, count, few)

-- what is given is no more
given-few : {X Y : Type 0} (f : X → Option Y) (xs : List X) → length (filter_map f xs) ≤ length xs
given-few f [] = omega arith
given-few {X} {Y} f (x ∷ xs) = go (f x) (given-few f xs)
  where
    go : (o : Option Y) → length (filter_map f xs) ≤ length xs → length (cons_option o (filter_map f xs)) ≤ suc (length xs)
    go None r = omega (arith, r)
    go (Some y) r = omega (arith, r)

-- what all that is given has
each-given : {X Y : Type 0} (Q : X → Type 0) (P : Y → Type 0) (f : X → Option Y) → ((x : X) (y : Y) → Q x → f x ≡ Some y → P y) → (xs : List X) → AllByRecursion Q xs → AllByRecursion P (filter_map f xs)
each-given Q P f h [] all = tt
each-given {X} {Y} Q P f h (x ∷ xs) all = go (f x) refl (each-given Q P f h xs all.1)
  where
    go : (o : Option Y) → f x ≡ o → AllByRecursion P (filter_map f xs) → AllByRecursion P (cons_option o (filter_map f xs))
    go None e r = r
    go (Some y) e r = (h x y all.0 e, r)

-- numbers of a list are below its end
numbers-below : {X : Type 0} (n : ℕ) (xs : List X) → AllByRecursion (λ (w : ℕ × X). w.0 < n + length xs) (enumerate_from n xs)
numbers-below n [] = tt
numbers-below {X} n (x ∷ xs) = (omega arith, all_weaker (λ (w : ℕ × X). w.0 < n + 1 + length xs) (λ (w : ℕ × X). w.0 < n + length (x ∷ xs)) (λ w h. omega (arith, h)) (enumerate_from (n + 1) xs) (numbers-below (n + 1) xs))

-- the entry at a place, or 0
at-or_zero : (P : ℕ → Type 0) (xs : List ℕ) (w : ℕ) → AllByRecursion P xs → P 0 → P (get_or xs w 0)
at-or_zero P [] w h z = z
at-or_zero P (x ∷ xs) zero h z = h.0
at-or_zero P (x ∷ xs) (suc w) h z = at-or_zero P xs w h.1 z

-- sorting keeps the length
put-length : (p : Point) (qs : List Point) → length (put_in_order p qs) ≡ suc (length qs)
put-length p [] = refl
put-length p (q ∷ qs) = go (precedes p.vertices q.vertices) (put-length p qs)
  where
    go : (b : Bool) → length (put_in_order p qs) ≡ suc (length qs) → length (cond b (p ∷ q ∷ qs) (q ∷ put_in_order p qs)) ≡ suc (suc (length qs))
    go true r = refl
    go false r = ap suc r

sorted-length : (ps : List Point) → length (by_vertices ps) ≡ length ps
unfolding by_vertices
sorted-length [] = refl
sorted-length (p ∷ ps) = put-length p (by_vertices ps) ∙ ap suc (sorted-length ps)

-- ---- the home round

module _ (m : Mesh) (a : List ℕ) (n : ℕ) (right : IsRightMesh m) (parts : IsRightAssignment m n a) where
  points-bound : length (strata m) ≤ 6750000
  points-bound = let few = strata-few m right.sound in let cells = right.few_cells in omega (arith, few, cells)

  -- the words of one rank
  rank-bound : (r : ℕ) → length (flat_map (λ dim. by_vertices (filter (λ p. (owner m a p == r) && (p.dim == dim)) (shared_points m a))) (2 ∷ 1 ∷ [])) ≤ 13500000
  unfolding shared_points
  rank-bound r =
      let part : ℕ → List Point = λ dim. by_vertices (filter (λ p. (owner m a p == r) && (p.dim == dim)) (shared_points m a)) in
      let joined = length-append (part 2) (part 1 ++ []) in
      let joined' = length-append (part 1) [] in
      omega (arith, joined, joined', bound 2, bound 1)
    where
      mid : Sight → Bool
      mid s = nat_lt 0 (dim_of s.poly) && nat_lt (dim_of s.poly) m.dim

      bound : (dim : ℕ) → length (by_vertices (filter (λ p. (owner m a p == r) && (p.dim == dim)) (filter (is_shared m a) (map point_of (filter mid (strata m)))))) ≤ 6750000
      bound dim =
          let size = sorted-length (filter (λ p. (owner m a p == r) && (p.dim == dim)) (filter (is_shared m a) (map point_of (filter mid (strata m))))) in
          let first = chosen-few (λ p. (owner m a p == r) && (p.dim == dim)) (filter (is_shared m a) (map point_of (filter mid (strata m)))) in
          let second = chosen-few (is_shared m a) (map point_of (filter mid (strata m))) in
          let mapped = length-map (filter mid (strata m)) point_of in
          let third = chosen-few mid (strata m) in
          omega (arith, size, first, second, mapped, third, points-bound)

  words-bound : length (home_points m a n) < 2 ^ 32
  unfolding home_points
  words-bound =
      let all = joined (below n) in
      let count = length-below n in
      let few = parts.few_ranks in
      omega (arith, all, count, few)
    where
      of_rank : ℕ → List Point
      of_rank r = flat_map (λ dim. by_vertices (filter (λ p. (owner m a p == r) && (p.dim == dim)) (shared_points m a))) (2 ∷ 1 ∷ [])

      joined : (rs : List ℕ) → length (flat_map of_rank rs) ≤ 13500000 * length rs
      joined [] = omega arith
      joined (r ∷ rs) = let both = length-append (of_rank r) (flat_map of_rank rs) in let rest = joined rs in omega (arith, both, rest, rank-bound r)

  -- what a rank asks
  asks-are : (r : ℕ) → AllByRecursion (λ (b : Ask). (b.op ≡ Min) × (b.word < length (home_points m a n))) (home_asks m a (home_points m a n) r)
  unfolding home_asks
  asks-are r = each-given (λ (w : ℕ × Point). w.0 < 0 + length (home_points m a n)) (λ (b : Ask). (b.op ≡ Min) × (b.word < length (home_points m a n))) asked each (enumerate_from 0 (home_points m a n)) (numbers-below 0 (home_points m a n))
    where
      asked : ℕ × Point → Option Ask
      asked w = cond (owner m a w.1 == r) None (option_map (λ k. record { word = w.0; op = Min; value = k }) (own_key m a r w.1))

      each : (w : ℕ × Point) (b : Ask) → w.0 < 0 + length (home_points m a n) → asked w ≡ Some b → (b.op ≡ Min) × (b.word < length (home_points m a n))
      each w b low e = go (owner m a w.1 == r) (own_key m a r w.1) e
        where
          go : (c : Bool) (o : Option ℕ) → cond c None (option_map (λ k. record { word = w.0; op = Min; value = k }) o) ≡ Some b → (b.op ≡ Min) × (b.word < length (home_points m a n))
          go true o f = absurd (cc f)
          go false None f = absurd (cc f)
          go false (Some k) f = let word : w.0 ≡ b.word = cc f in (cc f, omega (arith, low, word))

  asks-few : (r : ℕ) → length (home_asks m a (home_points m a n) r) < 2 ^ 32
  unfolding home_asks
  asks-few r = let few = given-few asked (enumerate_from 0 (home_points m a n)) in let size = length-numbered 0 (home_points m a n) in omega (arith, few, size, words-bound)
    where
      asked : ℕ × Point → Option Ask
      asked w = cond (owner m a w.1 == r) None (option_map (λ k. record { word = w.0; op = Min; value = k }) (own_key m a r w.1))

  abbrev asks : List (List Ask)
  asks = map (home_asks m a (home_points m a n)) (below n)

  all-are : AllByRecursion (λ (b : Ask). (b.op ≡ Min) × (b.word < length (home_points m a n))) (all_asks asks)
  all-are = all_flat_map (λ (b : Ask). (b.op ≡ Min) × (b.word < length (home_points m a n))) (λ own. own) asks (all_map (AllByRecursion (λ (b : Ask). (b.op ≡ Min) × (b.word < length (home_points m a n)))) (home_asks m a (home_points m a n)) (below n) (all_from (λ r. AllByRecursion (λ (b : Ask). (b.op ≡ Min) × (b.word < length (home_points m a n))) (home_asks m a (home_points m a n) r)) asks-are (below n)))

  mins : AllByRecursion IsMin (all_asks asks)
  mins = all_weaker (λ (b : Ask). (b.op ≡ Min) × (b.word < length (home_points m a n))) IsMin (λ b h. h.0) (all_asks asks) all-are

  -- keys fit into words
  keys-high : (low high : ℕ) (ss : List Sight) → KeysRise low high ss → AllByRecursion (λ (s : Sight). s.key < high) ss × (low ≤ high)
  keys-high low high [] r = (tt, r)
  keys-high low high (s ∷ ss) r = let rest = keys-high (s.key + 1) high ss r.1 in ((omega (arith, rest.1), rest.0), omega (arith, r.0, rest.1))

  keys-fit : (r : ℕ) → AllByRecursion (λ (s : Sight). s.key < 2 ^ 64) (sights (assigned m a r))
  unfolding assigned
  keys-fit r = all_flat_map (λ (s : Sight). s.key < 2 ^ 64) sights_of (filter (λ c. rank_of a c == r) (placed_cells m))
      (all_filter (λ c. AllByRecursion (λ (s : Sight). s.key < 2 ^ 64) (sights_of c)) (λ c. rank_of a c == r) (placed_cells m)
      (all_weaker (λ (c : ℕ × Cell). c.0 < 0 + length m.cells) (λ c. AllByRecursion (λ (s : Sight). s.key < 2 ^ 64) (sights_of c))
      (λ c low. all_weaker (λ (s : Sight). s.key < 64 * c.0 + 64) (λ (s : Sight). s.key < 2 ^ 64) (λ s k. let few = right.few_cells in omega (arith, k, low, few)) (sights_of c) (keys-high (64 * c.0) (64 * c.0 + 64) (sights_of c) (sights_of-rise c.0 c.1)).0)
      (placed_cells m) (numbers-below 0 m.cells)))

  words-fit : AllByRecursion (λ k. k < 2 ^ 64) (home_words m a (home_points m a n))
  unfolding home_words own_key
  words-fit = all_map (λ k. k < 2 ^ 64) (λ p. unwrap_or (option_map (λ (s : Sight). s.key) (find (shows p) (sights (assigned m a (owner m a p))))) 0) (home_points m a n) (all_from (λ p. unwrap_or (option_map (λ (s : Sight). s.key) (find (shows p) (sights (assigned m a (owner m a p))))) 0 < 2 ^ 64) fits (home_points m a n))
    where
      fits : (p : Point) → unwrap_or (option_map (λ (s : Sight). s.key) (find (shows p) (sights (assigned m a (owner m a p))))) 0 < 2 ^ 64
      fits p = go (find (shows p) (sights (assigned m a (owner m a p)))) refl
        where
          go : (o : Option Sight) → find (shows p) (sights (assigned m a (owner m a p))) ≡ o → unwrap_or (option_map (λ (s : Sight). s.key) o) 0 < 2 ^ 64
          go None e = omega arith
          go (Some s) e = find-has (λ (s : Sight). s.key < 2 ^ 64) (shows p) (sights (assigned m a (owner m a p))) s (keys-fit (owner m a p)) e

  length-words : length (home_words m a (home_points m a n)) ≡ length (home_points m a n)
  unfolding home_words
  length-words = length-map (home_points m a n) (λ p. unwrap_or (own_key m a (owner m a p) p) 0)

  length-asks : length asks ≡ n
  length-asks = length-map (below n) (home_asks m a (home_points m a n)) ∙ length-below n

  pub home-meets : MeetsConditions (home_words m a (home_points m a n)) asks
  home-meets = record {
    some_rank = let some = parts.some_rank in omega (arith, length-asks, some);
    few_ranks = let few = parts.few_ranks in omega (arith, length-asks, few);
    few_words = omega (arith, length-words, words-bound);
    few_asks = all_map (λ (own : List Ask). length own < 2 ^ 32) (home_asks m a (home_points m a n)) (below n) (all_from (λ r. length (home_asks m a (home_points m a n) r) < 2 ^ 32) asks-few (below n));
    in_range = all_weaker (λ (b : Ask). (b.op ≡ Min) × (b.word < length (home_points m a n))) (λ (b : Ask). b.word < length (home_words m a (home_points m a n))) (λ b h. let low = h.1 in omega (arith, low, length-words)) (all_asks asks) all-are;
    plain_loads = all_weaker IsMin (λ (b : Ask). b.op ≡ Load → b.value ≡ 0) (λ b is load. absurd (apart (sym is ∙ load))) (all_asks asks) mins;
    words_suit = λ w low. mins-suit (get_or (home_words m a (home_points m a n)) w 0) (asks_on w asks) (at-or_zero (λ k. k < 2 ^ 64) (home_words m a (home_points m a n)) w words-fit (omega arith)) (all_filter IsMin (λ (b : Ask). b.word == w) (all_asks asks) mins);
  }
    where
      apart : Min ≡ Load → ⊥
      apart e = cc e

  -- ---- the number round

  abbrev number_ask : ℕ → Ask
  number_ask r = record { word = 0; op = Sum; value = length (owned m a r) }

  owned-bound : (r : ℕ) → length (owned m a r) ≤ 6750000
  unfolding owned held chart
  owned-bound r = let mine = chosen-few (λ s. owner m a (point_of s) == r) (held m a r 0) in let few = chosen-few (λ s. in_some (point_of s) (held_cells m a r 0)) (strata m) in omega (arith, mine, few, points-bound)

  abbrev IsCount : Ask → Type 0
  IsCount b = (b.op ≡ Sum) × (b.word ≡ 0) × (added b ≤ 6750000)

  counts-are : AllByRecursion IsCount (all_asks (number_asks m a n))
  unfolding number_asks
  counts-are = all_flat_map IsCount (λ own. own) (map (λ r. number_ask r ∷ []) (below n)) (all_map (AllByRecursion IsCount) (λ r. number_ask r ∷ []) (below n) (all_from (λ r. AllByRecursion IsCount (number_ask r ∷ [])) (λ r. ((refl, refl, owned-bound r), tt)) (below n)))

  counts-length : length (all_asks (number_asks m a n)) ≤ 64
  unfolding number_asks
  counts-length = let all = joined (below n) in let count = length-below n in let few = parts.few_ranks in omega (arith, all, count, few)
    where
      joined : (rs : List ℕ) → length (flat_map (λ own. own) (map (λ r. number_ask r ∷ []) rs)) ≡ length rs
      joined [] = refl
      joined (r ∷ rs) = ap suc (joined rs)

  counts-added : (bs : List Ask) → AllByRecursion IsCount bs → sum_by added bs ≤ 6750000 * length bs
  counts-added [] h = omega arith
  counts-added (b ∷ bs) h = let both = sum_by-cons added b bs in let rest = counts-added bs h.1 in let own = h.0.2 in omega (arith, both, rest, own)

  counts-suit : (bs : List Ask) → length bs ≤ 64 → AllByRecursion IsCount bs → SuitsWord 0 bs
  counts-suit bs few h = record {
    one_kind = one bs h;
    one_replace = let none = count_nothing (λ (b : Ask). same_op b.op Replace) bs (all_weaker IsCount (λ (b : Ask). same_op b.op Replace ≡ false) (λ b is. ap (λ op. same_op op Replace) is.0) bs h) in omega (arith, none);
    sums_fit = let most = counts-added bs h in omega (arith, most, few);
  }
    where
      one : (cs : List Ask) → AllByRecursion IsCount cs → AllByRecursion (λ (b : Ask). (b.op ≡ Load) ⊎ (b.op ≡ kind_of cs)) cs
      one [] g = tt
      one (c ∷ cs) g =
          let kind : kind_of (c ∷ cs) ≡ Sum = ap (λ op. cond (is_load op) (kind_of cs) op) g.0.0 in
          all_weaker IsCount (λ (b : Ask). (b.op ≡ Load) ⊎ (b.op ≡ kind_of (c ∷ cs))) (λ b is. inr (is.0 ∙ sym kind)) (c ∷ cs) g

  length-counts : length (number_asks m a n) ≡ n
  unfolding number_asks
  length-counts = length-map (below n) (λ r. number_ask r ∷ []) ∙ length-below n

  each-count : AllByRecursion (λ (own : List Ask). length own < 2 ^ 32) (number_asks m a n)
  unfolding number_asks
  each-count = all_map (λ (own : List Ask). length own < 2 ^ 32) (λ r. number_ask r ∷ []) (below n) (all_from (λ r. length (number_ask r ∷ []) < 2 ^ 32) (λ r. omega arith) (below n))

  pub number-meets : MeetsConditions (0 ∷ []) (number_asks m a n)
  number-meets = record {
    some_rank = let some = parts.some_rank in omega (arith, length-counts, some);
    few_ranks = let few = parts.few_ranks in omega (arith, length-counts, few);
    few_words = omega arith;
    few_asks = each-count;
    in_range = all_weaker IsCount (λ (b : Ask). b.word < 1) (λ b is. let word = is.1 in omega (arith, word)) (all_asks (number_asks m a n)) counts-are;
    plain_loads = all_weaker IsCount (λ (b : Ask). b.op ≡ Load → b.value ≡ 0) (λ b is load. absurd (apart (sym is.0 ∙ load))) (all_asks (number_asks m a n)) counts-are;
    words_suit = λ w low. subst (λ first. SuitsWord first (asks_on w (number_asks m a n))) (sym (at w low)) (counts-suit (asks_on w (number_asks m a n)) (let fewer = chosen-few (λ (b : Ask). b.word == w) (all_asks (number_asks m a n)) in omega (arith, fewer, counts-length)) (all_filter IsCount (λ (b : Ask). b.word == w) (all_asks (number_asks m a n)) counts-are));
  }
    where
      apart : Sum ≡ Load → ⊥
      apart e = cc e

      nothing : List ℕ
      nothing = 0 ∷ []

      at : (w : ℕ) → w < 1 → get_or nothing w 0 ≡ 0
      at zero low = refl
      at (suc w) low = absurd (omega (arith, low))
