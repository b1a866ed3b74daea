-- What the greatest offers come to: at each copy of a face or an edge the order in which the cell of its key has its vertices.
use Rattle.std.proofs.Common.{◌≡◌, ◌≢◌, ◌⊎◌, ℕ, zero, suc, ◌+◌, ◌-◌, ◌<◌, ◌≤◌, Bool, true, false, not, ◌==◌, List, [], ◌∷◌, ◌++◌, map, length, get_or, sum, Some, None, refl, sym, ap, ◌∙◌, subst, inl, inr, ⊎_elim, arith, zero-add}
use Rattle.std.specs.Prelude.{unwrap_or}
use Rattle.std.specs.List.{AllByRecursion, enumerate_from}
use Rattle.std.proofs.lemmas.Bool.{both_ways, cases_lt, eq-eqb, eqb-true}
use Rattle.std.proofs.lemmas.List.{length-append, length-map, get_or-map}
use Rattle.std.proofs.lemmas.List.FromFn.{length-enumerate_from}
use Rattle.plain_lists.specs.Lists.{below}
use Rattle.plain_lists.proofs.Below.{below-all, length-below, get_or-map-below, map-below-length}
use Rattle.plain_lists.proofs.Each.{all_filter, all_from, all_map, all_weaker}
use Rattle.plain_lists.proofs.Filters.{image-at, map_same, map_map_same}
use Rattle.mesh_defs.specs.Mesh.{Mesh}
use Rattle.mesh_defs.specs.Points.{Point, Sight, point_of, first_sight, key}
use Rattle.mesh_defs.specs.Diagram.{place_in}
use Rattle.sf_defs.specs.declared.Leaf.{Leaf}
use Rattle.sf_defs.specs.Forest.{Forest, leaf, leaves_on, root_of}
use Rattle.sf_ops.specs.Asked.{first_word, word_of, words_of}
use Rattle.sf_ops.specs.Copies.{value_or}
use Rattle.sf_ops.proofs.Words.{first_word-within, length-words_of}
use Rattle.rank_defs.specs.Ranks.{assigned, owner}
use Rattle.rank_defs.specs.Spread.{PlainShared, IsShared, place_at_owner, leaves_at_owners, ghost_places, point_forest}
use Rattle.local_points.specs.Points.{faces_among, edges_among}
use Rattle.rank_laws.specs.share_laws.Charts.{own_charts}
use Rattle.rank_chart_laws.specs.meeting_laws.Sets.{filled}
use Rattle.rank_laws.specs.orient_laws.Named.{seen_first}
use Rattle.rank_chart_laws.specs.field_laws.Weights.{no_sight}
use Rattle.rank_chart_laws.specs.key_laws.Keys.{keys_on, own_point_keys}
use Rattle.rank_chart_laws.specs.key_laws.Places.{first_face, face_count, edge_count}
use Rattle.rank_chart_laws.specs.key_laws.Words.{part}
use Rattle.rank_chart_laws.proofs.key_laws.Charts as charts
use Rattle.rank_chart_laws.proofs.key_laws.Stands as stands
use Rattle.rank_cones.specs.arrangement_laws.Arrangements.{arrangements_on, own_arrangements}
use Rattle.rank_cones.specs.arrangement_laws.Orders.{in_order, order_number}
use Rattle.rank_cones.specs.arrangement_laws.Told.{offer, offers, rank_offers, ordered_by, all_ordered, AreGreatest}
use Rattle.rank_cones.proofs.arrangement_laws.Orders.{order-back}
use Rattle.rank_cones.proofs.arrangement_laws.Greatest.{each-numbered, greatest-word, word-there}
use Rattle.rank_cones.proofs.arrangement_laws.Offers as offered

-- the length of a list of lists, entry by entry
length-entry : (xss : List (List ℕ)) (k : ℕ) → length (get_or xss k []) ≡ get_or (map length xss) k 0
length-entry [] k = refl
length-entry (xs ∷ xss) zero = refl
length-entry (xs ∷ xss) (suc k) = length-entry xss k

module _ (s : PlainShared) (m : Mesh) (dofs : List (List ℕ)) (a : List ℕ) (n : ℕ) (is : IsShared s m dofs a n) (keys : List (List ℕ)) (keys-are : keys ≡ own_point_keys m a n) where
  abbrev pt : ℕ → ℕ → Point
  pt r i = offered.pt s m dofs a n is r i

  abbrev sight : ℕ → ℕ → Sight
  sight r i = offered.sight s m dofs a n is r i

  abbrev own : ℕ → List Sight
  own r = charts.own m n a is.mesh is.assignment.each r

  abbrev long : ℕ → ℕ
  long r = offered.long s m dofs a n is r

  abbrev middle-from : ℕ → ℕ
  middle-from r = offered.middle-from s m dofs a n is r

  abbrev place : ℕ → Point → ℕ
  place r p = offered.place s m dofs a n is r p

  abbrev order-of : Point → ℕ
  order-of p = offered.order-of s m dofs a n is p

  abbrev word : ℕ → ℕ → ℕ
  word r i = offered.word s m dofs a n is keys keys-are r i

  -- ---- shapes

  roots-are : s.forest.roots ≡ map (λ r. long r) (below n)
  unfolding point_forest own_charts
  roots-are = ap (λ (f : Forest). f.roots) (stands.forest-is s m dofs a n is)
      ∙ map_map_same length own (λ r. long r) (below n) (all_from (λ r. long r ≡ long r) (λ r. refl) (below n))

  -- there is a key for each point of each rank, and an offer
  pub keys-shape : map length keys ≡ s.forest.roots
  unfolding own_point_keys
  keys-shape = ap (map length) keys-are
      ∙ (map_map_same length (keys_on m a) (λ r. long r) (below n) (all_from (λ r. length (keys_on m a r) ≡ long r) (λ r. length-map (own r) (λ t. unwrap_or (key m (point_of t)) 0)) (below n))
      ∙ sym roots-are)

  pub offers-shape : map length (offers s keys) ≡ s.forest.roots
  unfolding offers
  offers-shape =
      map_map_same length (λ r. rank_offers (part s r) (get_or keys r [])) (λ r. length (part s r).sets) (below (length s.parts))
      (all_from (λ r. length (rank_offers (part s r) (get_or keys r [])) ≡ length (part s r).sets) (λ r. length-map (below (length (part s r).sets)) (λ i. offer (part s r) (get_or (get_or keys r []) i 0) i) ∙ length-below (length (part s r).sets)) (below (length s.parts)))
      ∙ (ap (λ k. map (λ r. length (part s r).sets) (below k)) (stands.ranks-are s m dofs a n is)
      ∙ (map_same (λ r. length (part s r).sets) (λ r. long r) (below n) (all_weaker (λ r. r < n) (λ r. length (part s r).sets ≡ long r) (λ r low. stands.sets-long s m dofs a n is r low) (below n) (below-all n))
      ∙ sym roots-are))

  -- the orders of all points, by rank
  abbrev bounds-by_rank : List (List ℕ)
  bounds-by_rank = map (λ r. map (λ t. order-of (point_of t)) (own r)) (below n)

  bounds-shape : map length bounds-by_rank ≡ s.forest.roots
  bounds-shape =
      map_map_same length (λ r. map (λ t. order-of (point_of t)) (own r)) (λ r. long r) (below n) (all_from (λ r. length (map (λ t. order-of (point_of t)) (own r)) ≡ long r) (λ r. length-map (own r) (λ t. order-of (point_of t))) (below n))
      ∙ sym roots-are

  bound-at : (r i : ℕ) → r < n → i < long r → get_or (get_or bounds-by_rank r []) i 0 ≡ order-of (pt r i)
  bound-at r i low inside = ap (λ l. get_or l i 0) (get_or-map-below (λ q. map (λ t. order-of (point_of t)) (own q)) n r [] low) ∙ get_or-map (λ t. order-of (point_of t)) (own r) i no_sight 0 inside

  -- a list of words for each root has them at the words of the roots
  root-inside : (r i : ℕ) → r < n → i < long r → i < get_or s.forest.roots r 0
  root-inside r i low inside = let e = ap (λ l. get_or l r 0) roots-are ∙ get_or-map-below (λ q. long q) n r 0 low in omega (arith, inside, e)

  word-at : (values : List (List ℕ)) → map length values ≡ s.forest.roots → (r i : ℕ) → r < n → i < long r → get_or (words_of values) (first_word s.forest.roots r + i) 0 ≡ get_or (get_or values r []) i 0
  word-at values shape r i low inside =
      ap (λ roots. get_or (words_of values) (first_word roots r + i) 0) (sym shape)
      ∙ word-there values r i (let e = length-entry values r ∙ ap (λ l. get_or l r 0) shape in let h = root-inside r i low inside in omega (arith, e, h))

  abbrev bound : ℕ → ℕ
  bound w = get_or (words_of bounds-by_rank) w 0

  bound-word : (r i : ℕ) → r < n → i < long r → bound (first_word s.forest.roots r + i) ≡ order-of (pt r i)
  bound-word r i low inside = word-at bounds-by_rank bounds-shape r i low inside ∙ bound-at r i low inside

  -- ---- leaves

  leaves-count : length s.forest.leaves ≡ n
  unfolding point_forest own_charts
  leaves-count = ap (λ (f : Forest). length f.leaves) (stands.forest-is s m dofs a n is)
      ∙ (length-map (enumerate_from 0 (map own (below n))) (λ (r : ℕ × List Sight). leaves_at_owners m a (map own (below n)) (ghost_places m a r.0 r.1))
      ∙ (length-enumerate_from 0 (map own (below n)) ∙ (length-map (below n) own ∙ length-below n)))

  chart-at : (r : ℕ) → r < n → get_or (own_charts m a n) r [] ≡ own r
  unfolding own_charts
  chart-at r low = get_or-map-below own n r [] low

  leaves-are : (r : ℕ) → r < n → leaves_on s.forest r ≡ leaves_at_owners m a (own_charts m a n) (ghost_places m a r (own r))
  unfolding point_forest
  leaves-are r low =
      ap (λ (f : Forest). get_or f.leaves r []) (stands.forest-is s m dofs a n is)
      ∙ (image-at [] (λ (x : ℕ × List Sight). leaves_at_owners m a (own_charts m a n) (ghost_places m a x.0 x.1)) (λ j. refl) 0 (own_charts m a n) r
      ∙ ap (λ (x : ℕ × List Sight). leaves_at_owners m a (own_charts m a n) (ghost_places m a x.0 x.1)) (λ i. (zero-add r i, chart-at r low i)))

  -- no rank offers more than the order of a point
  all-low : (r i : ℕ) → r < n → i < long r → word r i ≤ order-of (pt r i)
  all-low r i low inside = ⊎_elim
      (λ (lt : i < middle-from r). let e = offered.low-offer s m dofs a n is keys keys-are r i low lt inside in omega (arith, e))
      (λ (le : middle-from r ≤ i). offered.middle-low s m dofs a n is keys keys-are r i low le inside)
      (cases_lt i (middle-from r))

  leaf-low : (r i : ℕ) → r < n → i < long r → word r i ≤ bound (word_of s.forest.roots (leaf i (place_at_owner m a (own_charts m a n) (pt r i))))
  leaf-low r i low inside =
      let p : Point = pt r i in
      let o : ℕ = owner m a p in
      let there = charts.at-home m n a is.mesh is.assignment.each p (charts.inside-mesh m n a is.mesh is.assignment.each r i inside) in
      let low-o : o < n = charts.owner-low m n a is.mesh is.assignment.each r i inside in
      let same : bound (word_of s.forest.roots (leaf i (place_at_owner m a (own_charts m a n) p))) ≡ order-of p =
      (ap (λ c. bound (first_word s.forest.roots o + place_in c p)) (chart-at o low-o)) ∙ (bound-word o (place o p) low-o there.0 ∙ ap order-of there.1) in
      let up = all-low r i low inside in
      omega (arith, up, same)

  leaves-low : (r : ℕ) → r < length s.forest.leaves → AllByRecursion (λ (l : Leaf). word r l.local ≤ bound (word_of s.forest.roots l)) (leaves_on s.forest r)
  leaves-low r within =
      let low : r < n = omega (arith, within, leaves-count) in
      let root : Sight → ℕ × ℕ = λ t. place_at_owner m a (own_charts m a n) (point_of t) in
      subst (AllByRecursion (λ (l : Leaf). word r l.local ≤ bound (word_of s.forest.roots l))) (sym (leaves-are r low))
      (all_map (λ (l : Leaf). word r l.local ≤ bound (word_of s.forest.roots l)) (λ (t : ℕ × Sight). leaf t.0 (root t.1)) (ghost_places m a r (own r))
      (all_filter (λ (t : ℕ × Sight). word r t.0 ≤ bound (word_of s.forest.roots (leaf t.0 (root t.1)))) (λ (t : ℕ × Sight). not (owner m a (point_of t.1) == r)) (enumerate_from 0 (own r))
      (each-numbered (λ i t. word r i ≤ bound (word_of s.forest.roots (leaf i (root t)))) 0 (own r) no_sight
      (λ k inside. subst (λ i. word r i ≤ bound (word_of s.forest.roots (leaf i (root (sight r k))))) (sym (zero-add k)) (leaf-low r k low inside)))))

  -- ---- what is heard

  module _ (orders : List (List ℕ)) (greatest : AreGreatest s.forest (offers s keys) orders) where
    -- the owner of a face or an edge has its order
    root-order : (q k : ℕ) → q < n → middle-from q ≤ k → k < long q → get_or (get_or greatest.roots (owner m a (pt q k)) []) (place (owner m a (pt q k)) (pt q k)) 0 ≡ order-of (pt q k)
    root-order q k low le inside =
        sym (word-at greatest.roots greatest.shape o j low-o there.0)
        ∙ (greatest.folds.words w within
        ∙ (greatest-word s.forest (offers s keys) bound o j first leaves-low (subst (λ x. x ≤ bound w) (sym here) (omega (arith, all-low o j low-o there.0, at-root))) some
        ∙ (at-root ∙ ap order-of there.1)))
      where
        p : Point
        p = pt q k

        o : ℕ
        o = owner m a p

        j : ℕ
        j = place o p

        w : ℕ
        w = first_word s.forest.roots o + j

        first : ℕ
        first = get_or (words_of (offers s keys)) w 0

        there : (j < long o) × (pt o j ≡ p)
        there = charts.at-home m n a is.mesh is.assignment.each p (charts.inside-mesh m n a is.mesh is.assignment.each q k inside)

        low-o : o < n
        low-o = charts.owner-low m n a is.mesh is.assignment.each q k inside

        here : first ≡ word o j
        here = word-at (offers s keys) offers-shape o j low-o there.0

        at-root : bound w ≡ order-of (pt o j)
        at-root = bound-word o j low-o there.0

        within : w < length (words_of (offers s keys))
        within =
            let count = length-words_of (offers s keys) ∙ ap sum offers-shape in
            let ranks = ap length roots-are ∙ (length-map (below n) (λ r. long r) ∙ length-below n) in
            let last = first_word-within s.forest.roots o (omega (arith, low-o, ranks)) in
            let inner = root-inside o j low-o there.0 in
            omega (arith, count, last, inner)

        some : (first ≡ bound w) ⊎ ((r : ℕ) × (local : ℕ) × (r < length s.forest.leaves) × (root_of s.forest r local ≡ Some (o, j)) × (word r local ≡ bound w))
        some =
            let (r, i, low-r, inside-r, same, e) = offered.offered s m dofs a n is keys keys-are q k low le inside in
            go r i low-r inside-r same e (o == r) refl
          where
            go : (r i : ℕ) → r < n → i < long r → pt r i ≡ pt q k → word r i ≡ order-of p → (b : Bool) → (o == r) ≡ b → (first ≡ bound w) ⊎ ((r : ℕ) × (local : ℕ) × (r < length s.forest.leaves) × (root_of s.forest r local ≡ Some (o, j)) × (word r local ≡ bound w))
            go r i low-r inside-r same e true f =
                let mine = eqb-true o r f in
                let spot : i ≡ j = sym (charts.place-own m n a is.mesh is.assignment.each r i inside-r) ∙ (λ t. place (sym mine t) (same t)) in
                inl (here ∙ ((λ t. word (mine t) (sym spot t)) ∙ (e ∙ (sym (ap order-of there.1) ∙ sym at-root))))
            go r i low-r inside-r same e false f =
                let other : owner m a (pt r i) ≢ r = λ g. both_ways (o == r) f (eq-eqb o r (sym (ap (owner m a) same) ∙ g)) in
                let root : root_of s.forest r i ≡ Some (o, j) = ap (λ t. root_of t r i) (stands.forest-is s m dofs a n is) ∙ (charts.root-ghost m n a is.mesh is.assignment.each r i low-r inside-r other ∙ ap (λ t. Some (owner m a t, place (owner m a t) t)) same) in
                inr (r, i, omega (arith, low-r, leaves-count), root, e ∙ (sym (ap order-of there.1) ∙ sym at-root))

    -- so has each rank that has it
    told-order : (q k : ℕ) → q < n → middle-from q ≤ k → k < long q → get_or (get_or orders q []) k 0 ≡ order-of (pt q k)
    told-order q k low le inside = greatest.copies q k ∙ go (owner m a (pt q k) == q) refl
      where
        go : (b : Bool) → (owner m a (pt q k) == q) ≡ b → value_or greatest.roots (get_or (get_or greatest.roots q []) k 0) (root_of s.forest q k) ≡ order-of (pt q k)
        go true e =
            let mine = eqb-true (owner m a (pt q k)) q e in
            let root : root_of s.forest q k ≡ None = ap (λ f. root_of f q k) (stands.forest-is s m dofs a n is) ∙ charts.root-own m n a is.mesh is.assignment.each q k low inside mine in
            let spot : place q (pt q k) ≡ k = charts.place-own m n a is.mesh is.assignment.each q k inside in
            ap (value_or greatest.roots (get_or (get_or greatest.roots q []) k 0)) root
            ∙ ((λ i. get_or (get_or greatest.roots (sym mine i) []) (sym spot i) 0)
            ∙ (ap (λ r. get_or (get_or greatest.roots (owner m a (pt q k)) []) (place r (pt q k)) 0) (sym mine)
            ∙ root-order q k low le inside))
        go false e =
            let other : owner m a (pt q k) ≢ q = λ g. both_ways (owner m a (pt q k) == q) e (eq-eqb (owner m a (pt q k)) q g) in
            let root = ap (λ f. root_of f q k) (stands.forest-is s m dofs a n is) ∙ charts.root-ghost m n a is.mesh is.assignment.each q k low inside other in
            ap (value_or greatest.roots (get_or (get_or greatest.roots q []) k 0)) root ∙ root-order q k low le inside

    -- the vertices in the order that is told are those of the cell of the key
    rank-told : (r : ℕ) → r < n → ordered_by (part s r) (get_or orders r []) ≡ arrangements_on m a r
    unfolding seen_first
    rank-told r low =
        ap (λ k. map vertices-at (below k)) count
        ∙ map-below-length vertices-at (λ t. filled (seen_first m t).arrangement) seen no_sight each
      where
        seen : List Sight
        seen = faces_among (assigned m a r) ++ edges_among (assigned m a r)

        vertices-at : ℕ → List ℕ
        vertices-at k = in_order (filled (get_or (part s r).sets (first_face (part s r) + k) [])) (get_or (get_or orders r []) (first_face (part s r) + k) 0)

        count : face_count (part s r) + edge_count (part s r) ≡ length seen
        count = ap (λ cells. length (faces_among cells) + length (edges_among cells)) (offered.cells-are s m dofs a n is r low) ∙ sym (length-append (faces_among (assigned m a r)) (edges_among (assigned m a r)))

        each : (k : ℕ) → k < length seen → vertices-at k ≡ filled (seen_first m (get_or seen k no_sight)).arrangement
        each k lt =
            let i : ℕ = middle-from r + k in
            let le : middle-from r ≤ i = omega arith in
            let total = charts.own-length m n a is.mesh is.assignment.each r in
            let faces-long = stands.face-count-is s m dofs a n is r low in
            let edges-long = stands.edge-count-is s m dofs a n is r low in
            let inside : i < long r = omega (arith, lt, count, total, faces-long, edges-long) in
            let back : i - middle-from r ≡ k = omega arith in
            let here : get_or seen k no_sight ≡ sight r i = ap (λ x. get_or seen x no_sight) (sym back) ∙ offered.middle-there s m dofs a n is r i le in
            let sorts = offered.listed-sorted s m dofs a n is r i le inside in
            let (t, f) = offered.first-there s m dofs a n is r i le inside in
            let list : List ℕ = offered.listed s m dofs a n is (pt r i) in
            let few : length list ≤ 4 = offered.listed-few s m dofs a n is r i le inside in
            ap (λ x. in_order (filled (get_or (part s r).sets (x + k) [])) (get_or (get_or orders r []) (x + k) 0)) (stands.first-face-is s m dofs a n is r low)
            ∙ ((λ j. in_order (filled (offered.set-there s m dofs a n is r i low inside j)) (told-order r i low le inside j))
            ∙ ((λ j. in_order (filled (sym sorts j)) (order_number (filled (sym sorts j)) (filled list)))
            ∙ (order-back list few
            ∙ (ap (λ o. filled (unwrap_or o no_sight).arrangement) f
            ∙ (sym (ap (λ o. filled (unwrap_or o (sight r i)).arrangement) f)
            ∙ sym (ap (λ x. filled (unwrap_or (first_sight m (point_of x)) x).arrangement) here))))))

    pub all-told : all_ordered s orders ≡ own_arrangements m a n
    unfolding all_ordered own_arrangements
    all-told = ap (λ k. map (λ r. ordered_by (part s r) (get_or orders r [])) (below k)) (stands.ranks-are s m dofs a n is)
        ∙ map_same (λ r. ordered_by (part s r) (get_or orders r [])) (arrangements_on m a) (below n) (all_weaker (λ r. r < n) (λ r. ordered_by (part s r) (get_or orders r []) ≡ arrangements_on m a r) (λ r low. rank-told r low) (below n) (below-all n))
