-- The last values of the home round are the keys.
use Rattle.std.proofs.Common.{◌≡◌, ◌≢◌, ℕ, zero, suc, ◌+◌, ◌<◌, ◌≤◌, min, Bool, true, false, cond, not, ◌&&◌, ◌==◌, nat_lt, List, [], ◌∷◌, map, length, get_or, Option, Some, None, refl, sym, ap, ◌∙◌, subst, inl, inr, ◌⊎◌, ⊎_elim, arith, zero-add}
use Rattle.std.specs.Prelude.{find, flat_map, option_map, filter_map, unwrap_or}
use Rattle.std.specs.List.{list_any, AllByRecursion, filter, enumerate_from, cons_option}
use Rattle.std.proofs.lemmas.Bool.{eq-eqb, eqb-true, ne_eqb, ltb-true, and_parts, and_from, and_left, or_left, or_right, or_cases, cond-true, cond-false, both_ways, cases_lt}
use Rattle.std.proofs.lemmas.List.Folds.{list_any-append}
use Rattle.std.proofs.lemmas.List.{length-map, get_or-map, get_or_past}
use Rattle.plain_lists.specs.Lists.{below, same_list, sorted}
use Rattle.plain_lists.proofs.Each.{all_both, all_at, all_weaker, all_from, all_map, all_filter, all_flat_map, all_mapped}
use Rattle.plain_lists.proofs.Finding.{none_passes, any_map, any_weaker, among, any_filter, stands, find-cases}
use Rattle.plain_lists.proofs.Filters.{filter_passing}
use Rattle.plain_lists.proofs.Below.{below-all, length-below, get_or-map-below}
use Rattle.mesh_defs.specs.Tables.{dim_of}
use Rattle.mesh_defs.specs.Mesh.{Mesh, Cell, placed_cells}
use Rattle.mesh_defs.specs.Points.{Point, Sight, point_of, shows, sights_of, sights, vertex_sight, key, contains}
use Rattle.mesh_defs.specs.Diagram.{strata}
use Rattle.mesh_laws.proofs.Containing.{sights_of-any_place}
use Rattle.sf_defs.specs.declared.Op.{Op}
use Rattle.sf_defs.specs.declared.Op.TheVariants.{Min}
use Rattle.sf_defs.specs.declared.Ask.{Ask}
use Rattle.sf_defs.specs.declared.Turn.{Turn}
use Rattle.sf_defs.specs.Asks.{step, Entry, Replays, after_ask}
use Rattle.sf_defs.specs.Rounds.{Round, entry_at, in_order, places_of, places_on}
use Rattle.rank_defs.specs.Ranks.{IsAssignment, rank_of, assigned, ranks_at, owner, is_shared, own_key}
use Rattle.rank_defs.specs.Home.{precedes, put_in_order, by_vertices, shared_points, home_points, home_words, home_asks, IsHomeRound}
use Rattle.mesh_defs.specs.RightMesh.{in_some}
use Rattle.rank_laws.proofs.Lists.{least-some}
use Rattle.rank_laws.proofs.Owning.{owner-assigned, owner-below}
use Rattle.rank_laws.proofs.OwnKeys.{given-among, key-of_own_keys}

-- ---- minima one after another

-- a minimum leaves the lesser value
min-step : (a : Ask) (word : ℕ) → a.op ≡ Min → after_ask a word ≡ min word a.value
unfolding step
min-step a word h = ap (λ op. step op a.value word) h

-- what replays by minima alone ends at the least of the first value and the asked ones
mins-replay : (word : ℕ) (es : List Entry) (last : ℕ) → AllByRecursion (λ (e : Entry). e.ask.op ≡ Min) es → Replays word es last
    → (last ≤ word) × AllByRecursion (λ (e : Entry). last ≤ e.ask.value) es × ((last ≡ word) ⊎ (list_any (λ (e : Entry). e.ask.value == last) es ≡ true))
mins-replay word [] last m r = (omega (arith, r), tt, inl (sym r))
mins-replay word (e ∷ es) last m r =
    let after : after_ask e.ask word ≡ min word e.ask.value = min-step e.ask word m.0 in
    let rest = mins-replay (after_ask e.ask word) es last m.1 r.1 in (
      omega (arith, rest.0, after),
      (omega (arith, rest.0, after), rest.1),
      ⊎_elim
          (λ (is : last ≡ after_ask e.ask word). ⊎_elim (λ (lt : word < e.ask.value). inl (omega (arith, is, after))) (λ (le : e.ask.value ≤ word). inr (or_left (e.ask.value == last) (list_any (λ (d : Entry). d.ask.value == last) es) (eq-eqb e.ask.value last (omega (arith, is, after))))) (cases_lt word e.ask.value))
          (λ h. inr (or_right (e.ask.value == last) (list_any (λ (d : Entry). d.ask.value == last) es) h)) rest.2,
    )

-- ---- asks by their places

-- a place among the places on a word, of a list that is numbered from n on, is no earlier
places-from : (n w k : ℕ) (asks : List Ask) → list_any (λ i. i == k) (map (λ (x : ℕ × Ask). x.0) (filter (λ (x : ℕ × Ask). x.1.word == w) (enumerate_from n asks))) ≡ true → n ≤ k
places-from n w k [] h = absurd (cc h)
places-from n w k (a ∷ asks) h = go (a.word == w) h (places-from (n + 1) w k asks)
  where
    rest : List ℕ
    rest = map (λ (x : ℕ × Ask). x.0) (filter (λ (x : ℕ × Ask). x.1.word == w) (enumerate_from (n + 1) asks))

    go : (b : Bool) → list_any (λ i. i == k) (map (λ (x : ℕ × Ask). x.0) (cond b ((n, a) ∷ filter (λ (x : ℕ × Ask). x.1.word == w) (enumerate_from (n + 1) asks)) (filter (λ (x : ℕ × Ask). x.1.word == w) (enumerate_from (n + 1) asks)))) ≡ true
        → (list_any (λ i. i == k) rest ≡ true → n + 1 ≤ k) → n ≤ k
    go true g r = ⊎_elim (λ e. let same = eqb-true n k e in omega arith) (λ e. let later = r e in omega arith) (or_cases (n == k) (list_any (λ i. i == k) rest) g)
    go false g r = let later = r g in omega arith

-- at a place on a word stands an ask on the word, which has what all asks have
at-place-on : (Q : Ask → Type 0) (n w j : ℕ) (d : Ask) (asks : List Ask) → AllByRecursion Q asks → list_any (λ i. i == n + j) (map (λ (x : ℕ × Ask). x.0) (filter (λ (x : ℕ × Ask). x.1.word == w) (enumerate_from n asks))) ≡ true
    → Q (get_or asks j d) × ((get_or asks j d).word ≡ w)
at-place-on Q n w j d [] q h = absurd (cc h)
at-place-on Q n w zero d (a ∷ asks) q h = go (a.word == w) refl h
  where
    late : list_any (λ i. i == n + 0) (map (λ (x : ℕ × Ask). x.0) (filter (λ (x : ℕ × Ask). x.1.word == w) (enumerate_from (n + 1) asks))) ≡ true → ⊥
    late g = let low = places-from (n + 1) w (n + 0) asks g in omega arith

    go : (b : Bool) → (a.word == w) ≡ b → list_any (λ i. i == n + 0) (map (λ (x : ℕ × Ask). x.0) (cond b ((n, a) ∷ filter (λ (x : ℕ × Ask). x.1.word == w) (enumerate_from (n + 1) asks)) (filter (λ (x : ℕ × Ask). x.1.word == w) (enumerate_from (n + 1) asks)))) ≡ true → Q a × (a.word ≡ w)
    go true e g = (q.0, eqb-true a.word w e)
    go false e g = absurd (late g)
at-place-on Q n w (suc j) d (a ∷ asks) q h = at-place-on Q (n + 1) w j d asks q.1 (go (a.word == w) h)
  where
    rest : List ℕ
    rest = map (λ (x : ℕ × Ask). x.0) (filter (λ (x : ℕ × Ask). x.1.word == w) (enumerate_from (n + 1) asks))

    moved : list_any (λ i. i == n + suc j) rest ≡ true → list_any (λ i. i == n + 1 + j) rest ≡ true
    moved g = subst (λ k. list_any (λ i. i == k) rest ≡ true) (let e : n + suc j ≡ n + 1 + j = omega arith in e) g

    go : (b : Bool) → list_any (λ i. i == n + suc j) (map (λ (x : ℕ × Ask). x.0) (cond b ((n, a) ∷ filter (λ (x : ℕ × Ask). x.1.word == w) (enumerate_from (n + 1) asks)) (filter (λ (x : ℕ × Ask). x.1.word == w) (enumerate_from (n + 1) asks)))) ≡ true → list_any (λ i. i == n + 1 + j) rest ≡ true
    go true g = moved (⊎_elim (λ e. let same = eqb-true n (n + suc j) e in absurd (omega arith)) (λ e. e) (or_cases (n == n + suc j) (list_any (λ i. i == n + suc j) rest) g))
    go false g = moved g

-- the place of an ask on a word is one of the places on it
place-there : (n w j : ℕ) (d : Ask) (asks : List Ask) → j < length asks → (get_or asks j d).word ≡ w → list_any (λ i. i == n + j) (map (λ (x : ℕ × Ask). x.0) (filter (λ (x : ℕ × Ask). x.1.word == w) (enumerate_from n asks))) ≡ true
place-there n w j d [] low h = absurd (omega arith)
place-there n w zero d (a ∷ asks) low h = ap (λ l. list_any (λ i. i == n + 0) (map (λ (x : ℕ × Ask). x.0) l)) (cond-true (a.word == w) ((n, a) ∷ rest) rest (eq-eqb a.word w h)) ∙ or_left (n == n + 0) (list_any (λ i. i == n + 0) (map (λ (x : ℕ × Ask). x.0) rest)) (eq-eqb n (n + 0) (omega arith))
  where
    rest : List (ℕ × Ask)
    rest = filter (λ (x : ℕ × Ask). x.1.word == w) (enumerate_from (n + 1) asks)
place-there n w (suc j) d (a ∷ asks) low h = go (a.word == w) (subst (λ k. list_any (λ i. i == k) (map (λ (x : ℕ × Ask). x.0) rest) ≡ true) (let e : n + 1 + j ≡ n + suc j = omega arith in e) (place-there (n + 1) w j d asks (omega arith) h))
  where
    rest : List (ℕ × Ask)
    rest = filter (λ (x : ℕ × Ask). x.1.word == w) (enumerate_from (n + 1) asks)

    go : (b : Bool) → list_any (λ i. i == n + suc j) (map (λ (x : ℕ × Ask). x.0) rest) ≡ true → list_any (λ i. i == n + suc j) (map (λ (x : ℕ × Ask). x.0) (cond b ((n, a) ∷ rest) rest)) ≡ true
    go true r = or_right (n == n + suc j) (list_any (λ i. i == n + suc j) (map (λ (x : ℕ × Ask). x.0) rest)) r
    go false r = r

-- ---- turns by rank and place

-- some turn of a rank has this place, and it has what all turns have
turn-at : (P : Turn → Type 0) (rank k : ℕ) (turns : List Turn) → AllByRecursion P turns → list_any (λ i. i == k) (places_of rank turns) ≡ true → (t : Turn) × P t × (t.rank ≡ rank) × (t.index ≡ k)
turn-at P rank k [] h e = absurd (cc e)
turn-at P rank k (t ∷ turns) h e = go (t.rank == rank) refl e (turn-at P rank k turns h.1)
  where
    Found : Type 0
    Found = (u : Turn) × P u × (u.rank ≡ rank) × (u.index ≡ k)

    go : (b : Bool) → (t.rank == rank) ≡ b → list_any (λ i. i == k) (map (λ (u : Turn). u.index) (cond b (t ∷ filter (λ (u : Turn). u.rank == rank) turns) (filter (λ (u : Turn). u.rank == rank) turns))) ≡ true → (list_any (λ i. i == k) (places_of rank turns) ≡ true → Found) → Found
    go true f g r = ⊎_elim (λ here. (t, h.0, eqb-true t.rank rank f, eqb-true t.index k here)) r (or_cases (t.index == k) (list_any (λ i. i == k) (places_of rank turns)) g)
    go false f g r = r g

-- each turn has its place among those of its rank
own-places : (turns : List Turn) → AllByRecursion (λ (t : Turn). list_any (λ i. i == t.index) (places_of t.rank turns) ≡ true) turns
own-places turns = all_weaker (λ (t : Turn). (p : Turn → Bool) → p t ≡ true → list_any p turns ≡ true) (λ (t : Turn). list_any (λ i. i == t.index) (places_of t.rank turns) ≡ true)
    (λ t s. any_map (λ i. i == t.index) (λ (u : Turn). u.index) (filter (λ (u : Turn). u.rank == t.rank) turns) ∙ any_filter (λ (u : Turn). u.index == t.index) (λ (u : Turn). u.rank == t.rank) turns
    ∙ s (λ u. (u.rank == t.rank) && (u.index == t.index)) (and_from (t.rank == t.rank) (t.index == t.index) (eq-eqb t.rank t.rank refl) (eq-eqb t.index t.index refl))) turns (stands turns)

-- ---- what ranks ask in the home round

module _ (m : Mesh) (a : List ℕ) (d : Point) where
  -- what a rank asks for the point of a word
  ask_for : ℕ → ℕ × Point → Option Ask
  ask_for r w = cond (owner m a w.1 == r) None (option_map (λ k. record { word = w.0; op = Min; value = k }) (own_key m a r w.1))

  -- each ask is the least with the rank's own least key of the word's point
  asks-have : (r n : ℕ) (points : List Point) → AllByRecursion (λ (x : Ask). (x.op ≡ Min) × ((j : ℕ) × (x.word ≡ n + j) × (own_key m a r (get_or points j d) ≡ Some x.value))) (filter_map (ask_for r) (enumerate_from n points))
  unfolding ask_for
  asks-have r n [] = tt
  asks-have r n (p ∷ points) = go (owner m a p == r) (own_key m a r p) refl (later (asks-have r (n + 1) points))
    where
      Has : Ask → Type 0
      Has x = (x.op ≡ Min) × ((j : ℕ) × (x.word ≡ n + j) × (own_key m a r (get_or (p ∷ points) j d) ≡ Some x.value))

      Later : Ask → Type 0
      Later x = (x.op ≡ Min) × ((j : ℕ) × (x.word ≡ n + 1 + j) × (own_key m a r (get_or points j d) ≡ Some x.value))

      rest : List Ask
      rest = filter_map (ask_for r) (enumerate_from (n + 1) points)

      later : AllByRecursion Later rest → AllByRecursion Has rest
      later t = all_weaker Later Has (λ x h. (h.0, (suc h.1.0, omega (arith, h.1.1), h.1.2))) rest t

      go : (b : Bool) (o : Option ℕ) → own_key m a r p ≡ o → AllByRecursion Has rest → AllByRecursion Has (cons_option (cond b None (option_map (λ k. record { word = n; op = Min; value = k }) o)) rest)
      go true o e h = h
      go false None e h = h
      go false (Some k) e h = ((refl, (0, omega arith, e)), h)

  -- what is asked for the point of a word stands at some place
  ask-there : (r n j : ℕ) (x e : Ask) (points : List Point) → j < length points → ask_for r (n + j, get_or points j d) ≡ Some x → (i : ℕ) × (i < length (filter_map (ask_for r) (enumerate_from n points))) × (get_or (filter_map (ask_for r) (enumerate_from n points)) i e ≡ x)
  ask-there r n j x e [] low h = absurd (omega arith)
  ask-there r n zero x e (p ∷ points) low h = subst (λ o. (i : ℕ) × (i < length (cons_option o rest)) × (get_or (cons_option o rest) i e ≡ x)) (sym (subst (λ k. ask_for r (k, p) ≡ Some x) (let z : n + 0 ≡ n = omega arith in z) h)) (0, omega arith, refl)
    where
      rest : List Ask
      rest = filter_map (ask_for r) (enumerate_from (n + 1) points)
  ask-there r n (suc j) x e (p ∷ points) low h = go (ask_for r (n, p)) (ask-there r (n + 1) j x e points (omega arith) (subst (λ k. ask_for r (k, get_or points j d) ≡ Some x) (let z : n + suc j ≡ n + 1 + j = omega arith in z) h))
    where
      rest : List Ask
      rest = filter_map (ask_for r) (enumerate_from (n + 1) points)

      go : (o : Option Ask) → (i : ℕ) × (i < length rest) × (get_or rest i e ≡ x) → (i : ℕ) × (i < length (cons_option o rest)) × (get_or (cons_option o rest) i e ≡ x)
      go None t = t
      go (Some y) (i, l, g) = (suc i, omega arith, g)

-- ---- the points of the words

-- what all points have, they have in order
all-in_order : (P : Point → Type 0) (points : List Point) → AllByRecursion P points → AllByRecursion P (by_vertices points)
unfolding by_vertices
all-in_order P [] h = tt
all-in_order P (p ∷ points) h = put p (by_vertices points) h.0 (all-in_order P points h.1)
  where
    put : (q : Point) (qs : List Point) → P q → AllByRecursion P qs → AllByRecursion P (put_in_order q qs)
    put q [] x t = (x, tt)
    put q (y ∷ ys) x t = go (precedes q.vertices y.vertices) (put q ys x t.1)
      where
        go : (b : Bool) → AllByRecursion P (put_in_order q ys) → AllByRecursion P (cond b (q ∷ y ∷ ys) (y ∷ put_in_order q ys))
        go true r = (x, t)
        go false r = (t.0, r)

-- a shared point is no vertex, and some cell contains it
IsWord : Mesh → Point → Type 0
IsWord m p = (p.dim ≢ 0) × (in_some p (placed_cells m) ≡ true)

-- the points of the words are such points
words-are : (m : Mesh) (a : List ℕ) (n : ℕ) → AllByRecursion (IsWord m) (home_points m a n)
unfolding home_points shared_points is_shared ranks_at IsWord
words-are m a n = all_flat_map (IsWord m) of_rank (below n) (all_from _ (λ r. all_flat_map (IsWord m) (of_dim r) (2 ∷ 1 ∷ []) (all_from _ (λ dim. all-in_order (IsWord m) (filter (λ p. (owner m a p == r) && (p.dim == dim)) shared) (all_filter (IsWord m) (λ p. (owner m a p == r) && (p.dim == dim)) shared good)) (2 ∷ 1 ∷ []))) (below n))
  where
    between : Sight → Bool
    between s = nat_lt 0 (dim_of s.poly) && nat_lt (dim_of s.poly) m.dim

    shared : List Point
    shared = filter (is_shared m a) (map point_of (filter between (strata m)))

    of_dim : ℕ → ℕ → List Point
    of_dim r dim = by_vertices (filter (λ p. (owner m a p == r) && (p.dim == dim)) shared)

    of_rank : ℕ → List Point
    of_rank r = flat_map (of_dim r) (2 ∷ 1 ∷ [])

    contained : (p : Point) → is_shared m a p ≡ true → in_some p (placed_cells m) ≡ true
    contained p h = any_weaker (λ (c : ℕ × Cell). contains c.1 p && not (rank_of a c == owner m a p)) (λ (c : ℕ × Cell). contains c.1 p) (λ c e. (and_parts (contains c.1 p) (not (rank_of a c == owner m a p)) e).0) (placed_cells m)
        (sym (any_map (λ q. not (q == owner m a p)) (rank_of a) (filter (λ (c : ℕ × Cell). contains c.1 p) (placed_cells m)) ∙ any_filter (λ (c : ℕ × Cell). not (rank_of a c == owner m a p)) (λ (c : ℕ × Cell). contains c.1 p) (placed_cells m)) ∙ h)

    good : AllByRecursion (IsWord m) shared
    good = all_both (λ (p : Point). p.dim ≢ 0) (λ p. is_shared m a p ≡ true) (IsWord m) (λ p e h. (e, contained p h)) shared
        (all_filter (λ (p : Point). p.dim ≢ 0) (is_shared m a) (map point_of (filter between (strata m)))
        (all_map (λ (p : Point). p.dim ≢ 0) point_of (filter between (strata m))
        (all_weaker (λ s. between s ≡ true) (λ (s : Sight). dim_of s.poly ≢ 0) (λ s h e. let low = ltb-true 0 (dim_of s.poly) (and_parts (nat_lt 0 (dim_of s.poly)) (nat_lt (dim_of s.poly) m.dim) h).0 in absurd (omega arith)) (filter between (strata m)) (filter_passing between (strata m)))))
        (filter_passing (is_shared m a) (map point_of (filter between (strata m))))

-- a rank with a cell that contains a face or an edge has an own key for it
own-some : (m : Mesh) (a : List ℕ) (r : ℕ) (p : Point) → p.dim ≢ 0 → in_some p (assigned m a r) ≡ true → (k : ℕ) × (own_key m a r p ≡ Some k)
unfolding own_key contains
own-some m a r p ne h = ⊎_elim (λ (w : (s : Sight) × (find (shows p) (sights (assigned m a r)) ≡ Some s)). (w.0.key, ap (option_map (λ (t : Sight). t.key)) w.1)) (λ none. absurd (both_ways _ none (seen (assigned m a r) h))) (find-cases (shows p) (sights (assigned m a r)))
  where
    by_cell : (c : ℕ × Cell) → contains c.1 p ≡ true → list_any (shows p) (sights_of c) ≡ true
    by_cell c e = ⊎_elim (λ v. absurd (both_ways _ no_vertex v)) (λ s. sights_of-any_place p c.0 0 c.1 ∙ s)
        (or_cases (list_any (shows p) (map vertex_sight c.1.vertices)) (list_any (shows p) (sights_of (0, c.1))) (sym (list_any-append (shows p) (map vertex_sight c.1.vertices) (sights_of (0, c.1))) ∙ e))
      where
        no_vertex : list_any (shows p) (map vertex_sight c.1.vertices) ≡ false
        no_vertex = none_passes (shows p) (map vertex_sight c.1.vertices) (all_map (λ t. shows p t ≡ false) vertex_sight c.1.vertices (all_from (λ v. shows p (vertex_sight v) ≡ false) (λ v. and_left (p.dim == 0) (same_list p.vertices (sorted (v ∷ []))) (ne_eqb p.dim 0 ne)) c.1.vertices))

    seen : (cells : List (ℕ × Cell)) → in_some p cells ≡ true → list_any (shows p) (sights cells) ≡ true
    seen [] e = absurd (cc e)
    seen (c ∷ cells) e = list_any-append (shows p) (sights_of c) (sights cells) ∙ ⊎_elim (λ x. or_left _ _ (by_cell c x)) (λ x. or_right (list_any (shows p) (sights_of c)) (list_any (shows p) (sights cells)) (seen cells x)) (or_cases (contains c.1 p) (in_some p cells) e)

-- ---- the last values

-- what a function gives on the numbers below n
given-all-below : (P : ℕ → Type 0) (h : ℕ → Option ℕ) (n : ℕ) → ((r k : ℕ) → r < n → h r ≡ Some k → P k) → AllByRecursion P (filter_map h (below n))
given-all-below P h n f = go (below n) (below-all n)
  where
    go : (rs : List ℕ) → AllByRecursion (λ r. r < n) rs → AllByRecursion P (filter_map h rs)
    go [] b = tt
    go (r ∷ rs) b = one (h r) refl (go rs b.1)
      where
        one : (o : Option ℕ) → h r ≡ o → AllByRecursion P (filter_map h rs) → AllByRecursion P (cons_option o (filter_map h rs))
        one None e t = t
        one (Some k) e t = (f r k b.0 e, t)

module _ (m : Mesh) (n : ℕ) (a : List ℕ) (parts : IsAssignment m n a) (r : Round) (home : IsHomeRound m a n r) (w : ℕ) (d : Point) (low : w < length (home_points m a n)) where
  abbrev points : List Point
  points = home_points m a n

  -- the point of the word
  abbrev p : Point
  p = get_or points w d

  -- the word, the first and the last value
  abbrev first : ℕ
  first = get_or r.before w 0

  abbrev last : ℕ
  last = get_or r.after w 0

  abbrev no_ask : Ask
  no_ask = record { word = 0; op = Op.Load; value = 0 }

  is_word : IsWord m p
  is_word = all_at (IsWord m) (home_points m a n) w d (words-are m a n) low

  -- there are as many words as points
  word_there : w < length r.before
  unfolding home_words
  word_there = omega (arith, ap length home.words, length-map (home_points m a n) (λ q. unwrap_or (own_key m a (owner m a q) q) 0))

  -- the owner's own least key is the first value
  first-own : own_key m a (owner m a p) p ≡ Some first
  unfolding home_words IsWord
  first-own = let (k, e) = own-some m a (owner m a p) p is_word.0 (owner-assigned m a p is_word.1) in
      e ∙ ap Some (sym (ap (λ l. get_or l w 0) home.words ∙ get_or-map (λ q. unwrap_or (own_key m a (owner m a q) q) 0) (home_points m a n) w d 0 low ∙ ap (λ o. unwrap_or o 0) e))

  -- what a rank below n asks, and that no other rank asks
  asks-of : (rank : ℕ) → rank < n → get_or r.asks rank [] ≡ home_asks m a points rank
  asks-of rank h = ap (λ l. get_or l rank []) home.asks ∙ get_or-map-below (home_asks m a (home_points m a n)) n rank [] h

  asks-beyond : (rank : ℕ) → n ≤ rank → get_or r.asks rank [] ≡ []
  asks-beyond rank h = ap (λ l. get_or l rank []) home.asks ∙ get_or_past (map (home_asks m a (home_points m a n)) (below n)) rank [] (omega (arith, length-map (below n) (home_asks m a (home_points m a n)), length-below n))

  -- a turn on the word asks for the least with its rank's own key
  abbrev IsTurn : Turn → Type 0
  IsTurn t = ((entry_at r.asks r.got t).ask.op ≡ Min) × (t.rank < n) × (own_key m a t.rank p ≡ Some (entry_at r.asks r.got t).ask.value)

  turns-are : AllByRecursion IsTurn (get_or r.order w [])
  unfolding home_asks ask_for
  turns-are = all_weaker (λ (t : Turn). list_any (λ i. i == t.index) (places_of t.rank (get_or r.order w [])) ≡ true) IsTurn turn (get_or r.order w []) (own-places (get_or r.order w []))
    where
      -- a turn on the word is an ask on it
      asked : (t : Turn) → list_any (λ i. i == t.index) (places_of t.rank (get_or r.order w [])) ≡ true → list_any (λ i. i == 0 + t.index) (places_on w (get_or r.asks t.rank [])) ≡ true
      asked t h = subst (λ k. list_any (λ i. i == k) (places_on w (get_or r.asks t.rank [])) ≡ true) (sym (zero-add t.index)) (ap (list_any (λ i. i == t.index)) (sym (home.legal.each_once w t.rank word_there)) ∙ h)

      turn : (t : Turn) → list_any (λ i. i == t.index) (places_of t.rank (get_or r.order w [])) ≡ true → IsTurn t
      turn t h = ⊎_elim
          (λ (lt : t.rank < n).
          let (has, on) = at-place-on (λ (x : Ask). (x.op ≡ Min) × ((j : ℕ) × (x.word ≡ 0 + j) × (own_key m a t.rank (get_or points j d) ≡ Some x.value))) 0 w t.index no_ask (home_asks m a points t.rank) (asks-have m a d t.rank 0 points) (subst (λ l. list_any (λ i. i == 0 + t.index) (places_on w l) ≡ true) (asks-of t.rank lt) (asked t h)) in
          let is : get_or (get_or r.asks t.rank []) t.index no_ask ≡ get_or (home_asks m a points t.rank) t.index no_ask = ap (λ l. get_or l t.index no_ask) (asks-of t.rank lt) in
          let there : has.1.0 ≡ w = omega (arith, has.1.1, on) in
          (ap (λ (x : Ask). x.op) is ∙ has.0, lt, ap (λ j. own_key m a t.rank (get_or points j d)) (sym there) ∙ has.1.2 ∙ ap (λ (x : Ask). Some x.value) (sym is)))
          (λ (ge : n ≤ t.rank). absurd (cc (subst (λ l. list_any (λ i. i == 0 + t.index) (places_on w l) ≡ true) (asks-beyond t.rank ge) (asked t h))))
          (cases_lt t.rank n)

  -- how the replay ends
  ends : (last ≤ first) × AllByRecursion (λ (e : Entry). last ≤ e.ask.value) (in_order r w) × ((last ≡ first) ⊎ (list_any (λ (e : Entry). e.ask.value == last) (in_order r w) ≡ true))
  ends = mins-replay first (in_order r w) last (all_map (λ (e : Entry). e.ask.op ≡ Min) (entry_at r.asks r.got) (get_or r.order w []) (all_weaker IsTurn (λ t. (entry_at r.asks r.got t).ask.op ≡ Min) (λ t h. h.0) (get_or r.order w []) turns-are)) (home.legal.replays w word_there)

  -- the last value is the own key of some rank
  last-own : (k : ℕ) × (k < n) × (own_key m a k p ≡ Some last)
  unfolding IsWord
  last-own = ⊎_elim
      (λ (e : last ≡ first). (owner m a p, owner-below m n a parts p is_word.1, first-own ∙ ap Some (sym e)))
      (λ e. let (t, h, v) = among IsTurn (λ t. (entry_at r.asks r.got t).ask.value == last) (get_or r.order w []) turns-are (sym (any_map (λ (x : Entry). x.ask.value == last) (entry_at r.asks r.got) (get_or r.order w [])) ∙ e) in
      (t.rank, h.1, h.2 ∙ ap Some (eqb-true (entry_at r.asks r.got t).ask.value last v)))
      ends.2

  -- no rank's own key is below it
  last-low : (rank k : ℕ) → rank < n → own_key m a rank p ≡ Some k → last ≤ k
  unfolding home_asks ask_for
  last-low rank k h e = go (owner m a p == rank) refl
    where
      in_order_of : places_of rank (get_or r.order w []) ≡ places_on w (home_asks m a points rank)
      in_order_of = home.legal.each_once w rank word_there ∙ ap (places_on w) (asks-of rank h)

      asked : (owner m a p == rank) ≡ false → ask_for m a d rank (0 + w, p) ≡ Some (record { word = 0 + w; op = Min; value = k })
      asked f = cond-false (owner m a p == rank) None (option_map (λ v. record { word = 0 + w; op = Min; value = v }) (own_key m a rank p)) f ∙ ap (option_map (λ v. record { word = 0 + w; op = Min; value = v })) e

      -- the rank's own ask
      mine : Ask
      mine = record { word = 0 + w; op = Min; value = k }

      -- a place of the ask is a place of the rank's turns on the word
      turned : (i : ℕ) → i < length (home_asks m a points rank) → get_or (home_asks m a points rank) i no_ask ≡ mine → list_any (λ j. j == i) (places_of rank (get_or r.order w [])) ≡ true
      turned i l is = ap (list_any (λ j. j == i)) in_order_of ∙ subst (λ j. list_any (λ x. x == j) (places_on w (home_asks m a points rank)) ≡ true) (zero-add i) (place-there 0 w i no_ask (home_asks m a points rank) l (ap (λ (x : Ask). x.word) is ∙ zero-add w))

      -- the turn with this place asks with the own key
      asks-own : (i : ℕ) → get_or (home_asks m a points rank) i no_ask ≡ mine → (t : Turn) → t.rank ≡ rank → t.index ≡ i → (entry_at r.asks r.got t).ask.value ≡ k
      asks-own i is t at_rank at_index = ap (λ (x : Ask). x.value) ((λ j. get_or (get_or r.asks (at_rank j) []) (at_index j) no_ask) ∙ ap (λ q. get_or q i no_ask) (asks-of rank h) ∙ is)

      go : (b : Bool) → (owner m a p == rank) ≡ b → last ≤ k
      go true f = let same : first ≡ k = cc (sym first-own ∙ ap (λ q. own_key m a q p) (eqb-true (owner m a p) rank f) ∙ e) in omega (arith, ends.0)
      go false f =
          let (i, l, is) = ask-there m a d rank 0 w mine no_ask points low (asked f) in
          let (t, v, at_rank, at_index) = turn-at (λ t. last ≤ (entry_at r.asks r.got t).ask.value) rank i (get_or r.order w []) (all_mapped (λ (x : Entry). last ≤ x.ask.value) (entry_at r.asks r.got) (get_or r.order w []) ends.1) (turned i l is) in
          omega (arith, v, asks-own i is t at_rank at_index)

  -- the last value of the word is the key of its point
  pub last-key : key m p ≡ Some last
  unfolding IsWord
  last-key = let (rank, h, e) = last-own in
      sym (key-of_own_keys m p is_word.0 n a parts)
      ∙ least-some last (filter_map (λ q. own_key m a q p) (below n)) (given-among (λ q. own_key m a q p) n rank last h e) (given-all-below (λ v. last ≤ v) (λ q. own_key m a q p) n last-low)
