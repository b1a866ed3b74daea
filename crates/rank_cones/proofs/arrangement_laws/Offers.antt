-- What ranks offer: of a face or an edge the order in which the cell of its key has its vertices, or nothing; and that order where the
-- rank has that cell.
use Rattle.std.proofs.Common.{◌≡◌, ◌≢◌, ℕ, ◌+◌, ◌-◌, ◌<◌, ◌≤◌, Bool, true, false, cond, ◌==◌, List, [], ◌++◌, length, get_or, Some, refl, sym, ap, ap₂, ◌∙◌, subst, ⊎_elim, arith}
use Rattle.std.specs.Prelude.{find, option_map, unwrap_or}
use Rattle.std.specs.List.{list_any}
use Rattle.std.proofs.lemmas.Bool.{both_ways, eq-eqb, eqb-true, lt-ltb, le-ltb}
use Rattle.std.proofs.lemmas.List.{append_assoc, length-append, get_or-append-add, get_or-map}
use Rattle.plain_lists.specs.Lists.{sorted}
use Rattle.plain_lists.proofs.Below.{get_or-map-below}
use Rattle.plain_lists.proofs.Finding.{find-cases, find-passes, found-any}
use Rattle.mesh_defs.specs.Mesh.{Mesh, placed_cells}
use Rattle.mesh_defs.specs.Points.{Point, Sight, point_of, shows, sights, sights_of, first_sight, key}
use Rattle.mesh_defs.specs.RightMesh.{in_some}
use Rattle.mesh_laws.proofs.Firsts.{shows-true}
use Rattle.rank_defs.specs.Ranks.{assigned, rank_of, own_key}
use Rattle.rank_defs.specs.Spread.{PlainShared, IsShared, shared_part}
use Rattle.rank_laws.proofs.Found.{length-sorted}
use Rattle.rank_laws.proofs.OwnKeys.{find-part}
use Rattle.rank_laws.proofs.Owning.{below_among, ranks-below}
use Rattle.local_points.specs.Points.{faces_among, edges_among}
use Rattle.rank_chart_laws.specs.meeting_laws.Sets.{filled}
use Rattle.rank_laws.specs.orient_laws.Named.{own_sight}
use Rattle.rank_laws.proofs.orient_laws.Seen.{contained-seen}
use Rattle.rank_laws.proofs.orient_laws.OwnSights.{agreeing-first, first-of_cells}
use Rattle.rank_chart_laws.specs.field_laws.Weights.{no_sight}
use Rattle.interp_share.proofs.own_field_laws.Points.{faces-listed, edges-listed}
use Rattle.rank_chart_laws.specs.key_laws.Keys.{keys_on, own_point_keys}
use Rattle.rank_chart_laws.specs.key_laws.Places.{first_face}
use Rattle.rank_chart_laws.specs.key_laws.Words.{part}
use Rattle.rank_chart_laws.proofs.key_laws.Charts as charts
use Rattle.rank_chart_laws.proofs.key_laws.WordPlaces as words
use Rattle.rank_chart_laws.proofs.key_laws.Stands as stands
use Rattle.rank_chart_laws.proofs.key_laws.OwnWords as ownwords
use Rattle.rank_cones.specs.arrangement_laws.Orders.{order_number}
use Rattle.rank_cones.specs.arrangement_laws.Told.{middle_at, offer, offers, rank_offers}

-- an entry of the second of two lists
at-second : {X : Type 0} (xs ys : List X) (i : ℕ) (d : X) → length xs ≤ i → get_or (xs ++ ys) i d ≡ get_or ys (i - length xs) d
at-second xs ys i d le = ap (λ k. get_or (xs ++ ys) k d) (let e : i ≡ length xs + (i - length xs) = omega (arith, le) in e) ∙ get_or-append-add xs ys (i - length xs) d

module _ (s : PlainShared) (m : Mesh) (dofs : List (List ℕ)) (a : List ℕ) (n : ℕ) (is : IsShared s m dofs a n) where
  abbrev pub pt : ℕ → ℕ → Point
  pt r i = charts.pt m n a is.mesh is.assignment.each r i

  abbrev pub sight : ℕ → ℕ → Sight
  sight r i = charts.sight m n a is.mesh is.assignment.each r i

  abbrev pub long : ℕ → ℕ
  long r = length (charts.own m n a is.mesh is.assignment.each r)

  abbrev pub middle-from : ℕ → ℕ
  middle-from r = charts.face-from m n a is.mesh is.assignment.each r

  abbrev pub place : ℕ → Point → ℕ
  place r p = charts.place m n a is.mesh is.assignment.each r p

  -- the vertices of a point as the cell of its key has them, and their order as a number
  abbrev pub listed : Point → List ℕ
  listed p = (unwrap_or (first_sight m p) no_sight).arrangement

  abbrev pub order-of : Point → ℕ
  order-of p = order_number (filled p.vertices) (filled (listed p))

  -- ---- faces and edges by place

  pub cells-are : (r : ℕ) → r < n → (part s r).cells ≡ assigned m a r
  unfolding shared_part
  cells-are r low = ap (λ p. p.cells) (stands.part-is s m dofs a n is r low)

  pub middle-listed : (r : ℕ) → charts.faces m n a is.mesh is.assignment.each r ++ charts.edges m n a is.mesh is.assignment.each r ≡ faces_among (assigned m a r) ++ edges_among (assigned m a r)
  middle-listed r = ap₂ (λ x y. x ++ y) (faces-listed m is.mesh a r) (edges-listed m is.mesh a r)

  -- a place behind cells and vertices has the face or the edge that stands there
  pub middle-there : (r i : ℕ) → middle-from r ≤ i → get_or (faces_among (assigned m a r) ++ edges_among (assigned m a r)) (i - middle-from r) no_sight ≡ sight r i
  middle-there r i le =
      let before : List Sight = charts.tops m n a is.mesh is.assignment.each r ++ charts.corners m n a is.mesh is.assignment.each r in
      let faces : List Sight = charts.faces m n a is.mesh is.assignment.each r in
      let edges : List Sight = charts.edges m n a is.mesh is.assignment.each r in
      let count : length before ≡ middle-from r = length-append (charts.tops m n a is.mesh is.assignment.each r) (charts.corners m n a is.mesh is.assignment.each r) in
      sym (ap (λ l. get_or l i no_sight) (charts.own-is m n a is.mesh is.assignment.each r ∙ append_assoc before faces edges)
      ∙ (at-second before (faces ++ edges) i no_sight (omega (arith, le, count))
      ∙ (ap (λ k. get_or (faces ++ edges) (i - k) no_sight) count
      ∙ ap (λ l. get_or l (i - middle-from r) no_sight) (middle-listed r))))

  pub middle-is : (r i : ℕ) → r < n → middle-from r ≤ i → middle_at (part s r) i ≡ sight r i
  middle-is r i low le =
      (λ j. get_or (faces_among (cells-are r low j) ++ edges_among (cells-are r low j)) (i - stands.first-face-is s m dofs a n is r low j) no_sight)
      ∙ middle-there r i le

  -- the vertices of the point at a place
  pub set-there : (r i : ℕ) → r < n → i < long r → get_or (part s r).sets i [] ≡ (pt r i).vertices
  set-there r i low inside = ap (λ l. get_or l i []) (stands.sets-are s m dofs a n is r low) ∙ words.set-is m n a is.mesh is.assignment.each r i inside

  -- ---- first sights

  -- some cell sees a face or an edge first
  pub first-there : (r i : ℕ) → middle-from r ≤ i → i < long r → (t : Sight) × (first_sight m (pt r i) ≡ Some t)
  first-there r i le inside = ⊎_elim
      (λ (f : (t : Sight) × (find (shows p) (sights (placed_cells m)) ≡ Some t)). (f.0, first-of_cells m p ne ∙ f.1))
      (λ (none : list_any (shows p) (sights (placed_cells m)) ≡ false). absurd (both_ways (list_any (shows p) (sights (placed_cells m))) none (sym (contained-seen p ne (placed_cells m)) ∙ charts.inside-mesh m n a is.mesh is.assignment.each r i inside)))
      (find-cases (shows p) (sights (placed_cells m)))
    where
      p : Point
      p = pt r i

      ne : p.dim ≢ 0
      ne = charts.middle-dim m n a is.mesh is.assignment.each r i le inside

  -- its vertices in the order of that cell are the point's
  pub listed-sorted : (r i : ℕ) → middle-from r ≤ i → i < long r → sorted (listed (pt r i)) ≡ (pt r i).vertices
  listed-sorted r i le inside =
      let p : Point = pt r i in
      let (t, f) = first-there r i le inside in
      let ne = charts.middle-dim m n a is.mesh is.assignment.each r i le inside in
      let shown = shows-true p t (find-passes (shows p) (sights (placed_cells m)) t (sym (first-of_cells m p ne) ∙ f)) in
      ap (λ o. sorted (unwrap_or o no_sight).arrangement) f ∙ sym (ap (λ (q : Point). q.vertices) shown)

  -- and there are at most four
  pub listed-few : (r i : ℕ) → middle-from r ≤ i → i < long r → length (listed (pt r i)) ≤ 4
  listed-few r i le inside =
      let few = (words.middle-packable m n a is.mesh is.assignment.each r i le inside).few in
      let same = sym (length-sorted (listed (pt r i))) ∙ ap length (listed-sorted r i le inside) in
      omega (arith, few, same)

  -- a rank has the cell of the key
  pub rank-there : (q k : ℕ) → middle-from q ≤ k → k < long q → (r : ℕ) × (r < n) × (own_sight m a r (pt q k) ≡ first_sight m (pt q k)) × (in_some (pt q k) (assigned m a r) ≡ true)
  unfolding assigned
  rank-there q k le inside =
      let p : Point = pt q k in
      let ne = charts.middle-dim m n a is.mesh is.assignment.each q k le inside in
      let (t, f) = first-there q k le inside in
      let among : find (shows p) (sights (placed_cells m)) ≡ Some t = sym (first-of_cells m p ne) ∙ f in
      let (c, found, some) = find-part (shows p) sights_of (placed_cells m) t among in
      let r : ℕ = rank_of a c in
      let own : find (shows p) (sights (assigned m a r)) ≡ Some t = found (λ d. rank_of a d == rank_of a c) (eq-eqb r r refl) in (
        r,
        below_among (rank_of a) n r (placed_cells m) (ranks-below m n a is.assignment.each) (some (λ d. rank_of a d == rank_of a c) (eq-eqb r r refl)),
        own ∙ sym f,
        contained-seen p ne (assigned m a r) ∙ found-any (shows p) (sights (assigned m a r)) t own,
      )

  -- ---- offers

  module _ (keys : List (List ℕ)) (keys-are : keys ≡ own_point_keys m a n) where
    key-there : (r i : ℕ) → r < n → i < long r → get_or (get_or keys r []) i 0 ≡ unwrap_or (key m (pt r i)) 0
    unfolding own_point_keys
    key-there r i low inside =
        ap (λ ks. get_or (get_or ks r []) i 0) keys-are
        ∙ (ap (λ l. get_or l i 0) (get_or-map-below (keys_on m a) n r [] low)
        ∙ get_or-map (λ s. unwrap_or (key m (point_of s)) 0) (charts.own m n a is.mesh is.assignment.each r) i no_sight 0 inside)

    abbrev pub word : ℕ → ℕ → ℕ
    word r i = get_or (get_or (offers s keys) r []) i 0

    offer-there : (r i : ℕ) → r < n → i < long r → word r i ≡ offer (part s r) (get_or (get_or keys r []) i 0) i
    unfolding offers
    offer-there r i low inside =
        ap (λ l. get_or l i 0) (get_or-map-below (λ q. rank_offers (part s q) (get_or keys q [])) (length s.parts) r [] (omega (arith, low, stands.ranks-are s m dofs a n is)))
        ∙ get_or-map-below (λ k. offer (part s r) (get_or (get_or keys r []) k 0) k) (length (part s r).sets) i 0 (omega (arith, inside, stands.sets-long s m dofs a n is r low))

    -- cells and vertices offer nothing
    pub low-offer : (r i : ℕ) → r < n → i < middle-from r → i < long r → word r i ≡ 0
    unfolding offer
    low-offer r i low lt inside =
        offer-there r i low inside
        ∙ ap (λ b. cond b 0 (cond ((middle_at (part s r) i).key == get_or (get_or keys r []) i 0) (order_number (filled (get_or (part s r).sets i [])) (filled (middle_at (part s r) i).arrangement)) 0))
        (lt-ltb i (first_face (part s r)) (omega (arith, lt, stands.first-face-is s m dofs a n is r low)))

    -- what a rank offers of a face or an edge
    middle-offer : (r i : ℕ) → r < n → middle-from r ≤ i → i < long r → word r i ≡ cond ((sight r i).key == unwrap_or (key m (pt r i)) 0) (order_number (filled (pt r i).vertices) (filled (sight r i).arrangement)) 0
    unfolding offer
    middle-offer r i low le inside =
        offer-there r i low inside
        ∙ (ap (λ b. cond b 0 (cond ((middle_at (part s r) i).key == get_or (get_or keys r []) i 0) (order_number (filled (get_or (part s r).sets i [])) (filled (middle_at (part s r) i).arrangement)) 0))
        (le-ltb i (first_face (part s r)) (omega (arith, le, stands.first-face-is s m dofs a n is r low)))
        ∙ (λ j. cond ((middle-is r i low le j).key == key-there r i low inside j) (order_number (filled (set-there r i low inside j)) (filled (middle-is r i low le j).arrangement)) 0))

    -- where the rank first sees it as all cells do, it offers the order
    pub whole-offer : (r i : ℕ) → r < n → middle-from r ≤ i → i < long r → own_sight m a r (pt r i) ≡ first_sight m (pt r i) → word r i ≡ order-of (pt r i)
    unfolding key
    whole-offer r i low le inside e =
        let p : Point = pt r i in
        let own : Some (sight r i) ≡ first_sight m p = sym (charts.seen-first m n a is.mesh is.assignment.each r i inside le) ∙ e in
        middle-offer r i low le inside
        ∙ ((λ j. cond ((unwrap_or (own j) no_sight).key == unwrap_or (key m p) 0) (order_number (filled p.vertices) (filled (unwrap_or (own j) no_sight).arrangement)) 0)
        ∙ ap (λ b. cond b (order-of p) 0) (by (sight r i) own))
      where
        by : (t : Sight) → Some t ≡ first_sight m (pt r i) → ((unwrap_or (first_sight m (pt r i)) no_sight).key == unwrap_or (option_map (λ (u : Sight). u.key) (first_sight m (pt r i))) 0) ≡ true
        by t f = subst (λ o. ((unwrap_or o no_sight).key == unwrap_or (option_map (λ (u : Sight). u.key) o) 0) ≡ true) f (eq-eqb t.key t.key refl)

    -- else it offers nothing
    pub middle-low : (r i : ℕ) → r < n → middle-from r ≤ i → i < long r → word r i ≤ order-of (pt r i)
    unfolding key own_key
    middle-low r i low le inside = go ((sight r i).key == unwrap_or (key m p) 0) refl
      where
        p : Point
        p = pt r i

        go : (b : Bool) → ((sight r i).key == unwrap_or (key m p) 0) ≡ b → word r i ≤ order-of p
        go true e =
            let (t, f) = first-there r i le inside in
            let keyed : key m p ≡ Some (unwrap_or (key m p) 0) = ap (option_map (λ (u : Sight). u.key)) f ∙ sym (ap (λ o. Some (unwrap_or (option_map (λ (u : Sight). u.key) o) 0)) f) in
            let own : own_key m a r p ≡ Some (sight r i).key = ap (option_map (λ (u : Sight). u.key)) (charts.seen-first m n a is.mesh is.assignment.each r i inside le) in
            let agree : own_key m a r p ≡ key m p = own ∙ (ap Some (eqb-true (sight r i).key (unwrap_or (key m p) 0) e) ∙ sym keyed) in
            let is = whole-offer r i low le inside (agreeing-first m a r p (charts.middle-dim m n a is.mesh is.assignment.each r i le inside) agree) in
            omega (arith, is)
        go false e =
            let is = middle-offer r i low le inside ∙ ap (λ b. cond b (order_number (filled p.vertices) (filled (sight r i).arrangement)) 0) e in
            omega (arith, is)

    -- some rank offers the order
    pub offered : (q k : ℕ) → q < n → middle-from q ≤ k → k < long q → (r : ℕ) × (i : ℕ) × (r < n) × (i < long r) × (pt r i ≡ pt q k) × (word r i ≡ order-of (pt q k))
    offered q k low le inside =
        let p : Point = pt q k in
        let (r, low-r, first, has) = rank-there q k le inside in
        let there = charts.place-there m n a is.mesh is.assignment.each r p has in
        let middle = ownwords.stays-middle s m dofs a n is q k le inside r (place r p) there.0 there.1 in
        (r, place r p, low-r, there.0, there.1, whole-offer r (place r p) low-r middle there.0 (subst (λ t. own_sight m a r t ≡ first_sight m t) (sym there.1) first) ∙ ap order-of there.1)
