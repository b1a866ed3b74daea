-- The words of a rank, put in order, are its part of the home round.
use Rattle.std.proofs.Common.{◌≡◌, ◌≢◌, ℕ, ◌+◌, ◌-◌, ◌<◌, ◌≤◌, Bool, true, false, cond, ◌&&◌, ◌||◌, ◌==◌, nat_lt, List, [], ◌∷◌, ◌++◌, map, length, get_or, refl, sym, ap, ◌∙◌, subst, ⊎_elim, arith}
use Rattle.std.specs.Prelude.{is_none}
use Rattle.std.specs.List.{list_any, AllByRecursion}
use Rattle.std.proofs.lemmas.Bool.{cases_lt, eq-eqb, eqb-true, ne_eqb, both_ways}
use Rattle.std.proofs.lemmas.List.{append-nil, length-append, get_or-map, get_or_append_left, get_or-append-add}
use Rattle.std.proofs.lemmas.List.Folds.{list_any-append}
use Rattle.plain_lists.specs.Lists.{below}
use Rattle.plain_lists.proofs.Below.{map-below-length}
use Rattle.plain_lists.proofs.Each.{all_append, all_append_first, all_append_second, all_at, all_both, all_filter, all_map, all_mapped, all_weaker}
use Rattle.plain_lists.proofs.Filters.{filter_passing}
use Rattle.plain_lists.proofs.Finding.{any_agree, any_filter, any_map, none_passes}
use Rattle.mesh_defs.specs.Tables.{dim_of}
use Rattle.mesh_defs.specs.Mesh.{Mesh}
use Rattle.mesh_defs.specs.Points.{Point, Sight, point_of, shows, same_point}
use Rattle.mesh_defs.specs.RightMesh.{IsRightMesh}
use Rattle.sf_defs.specs.Asks.{IsRising}
use Rattle.sf_defs.specs.Forest.{degree}
use Rattle.rank_defs.specs.Ranks.{IsAssignment, assigned, owner, is_shared}
use Rattle.rank_defs.specs.Home.{precedes}
use Rattle.rank_defs.specs.Spread.{own_stratum}
use Rattle.rank_laws.proofs.share_laws.Own.{own-of_dim, own-vertices_of_dim}
use Rattle.rank_laws.specs.share_laws.Packed.{IsPackable}
use Rattle.rank_laws.specs.orient_laws.Named.{IsMiddle, StandInOrder, home_part, own_home}
use Rattle.rank_laws.proofs.orient_laws.HomeParts.{home-sorted}
use Rattle.rank_laws.proofs.orient_laws.Shared.{shared-degree}
use Rattle.rank_chart_laws.specs.OwnRanks.{own_middle}
use Rattle.rank_chart_laws.proofs.Few.{vertices-few}
use Rattle.rank_chart_laws.proofs.Lower.{IsLower, all-lower}
use Rattle.rank_chart_laws.proofs.Wholes.{own-sound}
use Rattle.rank_chart_laws.specs.field_laws.Weights.{no_sight}
use Rattle.rank_chart_laws.specs.key_laws.Places.{run, is_word, words_among, set_number, AreInOrder}
use Rattle.rank_chart_laws.proofs.key_laws.Sets.{number-names, number-orders}
use Rattle.rank_chart_laws.proofs.key_laws.Rising.{all-permutation, any-permutation, chosen-rising, earlier-lower, put-rising, run-rising, run-within}
use Rattle.rank_chart_laws.proofs.key_laws.Charts.{own, sight, pt, forest, tops, corners, faces, edges, face-from, edge-from, at-face, at-edge, own-is, one-place, root-ghost, root-own}

module _ (m : Mesh) (n : ℕ) (a : List ℕ) (mesh : IsRightMesh m) (parts : IsAssignment m n a) where
  -- ---- sets

  abbrev pub sets : ℕ → List (List ℕ)
  sets r = map (λ (s : Sight). (point_of s).vertices) (own m n a mesh parts r)

  abbrev point-at : ℕ → ℕ → Point
  point-at r i = pt m n a mesh parts r i

  abbrev long : ℕ → ℕ
  long r = length (own m n a mesh parts r)

  pub set-is : (r i : ℕ) → i < long r → get_or (sets r) i [] ≡ (point-at r i).vertices
  set-is r i low = get_or-map (λ (s : Sight). (point_of s).vertices) (own m n a mesh parts r) i no_sight [] low

  -- faces and edges are on few vertices
  middle-lower : (r : ℕ) → AllByRecursion (λ s. IsLower m (point_of s)) (faces m n a mesh parts r ++ edges m n a mesh parts r)
  middle-lower r =
      let few = vertices-few m mesh in
      let cells = assigned m a r in
      let are = own-sound m mesh.sound mesh.differ a r in
      all_mapped (IsLower m) point_of (own_middle m cells) (all_append_second (IsLower m) (map point_of (corners m n a mesh parts r)) (map point_of (own_middle m cells)) (all-lower m mesh.sound (omega (arith, few)) cells are))

  pub middle-packable : (r i : ℕ) → face-from m n a mesh parts r ≤ i → i < long r → IsPackable (point-at r i).vertices
  middle-packable r i le low = ⊎_elim
      (λ lt. at-face m n a mesh parts (λ s. IsPackable (point_of s).vertices) r i (all_weaker (λ s. IsLower m (point_of s)) (λ s. IsPackable (point_of s).vertices) (λ s l. l.packable) (faces m n a mesh parts r) (all_append_first (λ s. IsLower m (point_of s)) (faces m n a mesh parts r) (edges m n a mesh parts r) (middle-lower r))) le lt)
      (λ ge. at-edge m n a mesh parts (λ s. IsPackable (point_of s).vertices) r i (all_weaker (λ s. IsLower m (point_of s)) (λ s. IsPackable (point_of s).vertices) (λ s l. l.packable) (edges m n a mesh parts r) (all_append_second (λ s. IsLower m (point_of s)) (faces m n a mesh parts r) (edges m n a mesh parts r) (middle-lower r))) ge low)
      (cases_lt i (edge-from m n a mesh parts r))

  -- ---- words

  -- a point is a word where the rank owns it and shares it
  pub word-is : (r i : ℕ) → r < n → i < long r → is_word (forest m n a mesh parts) r i ≡ ((owner m a (point-at r i) == r) && is_shared m a (point-at r i))
  word-is r i low inside = go (owner m a (point-at r i) == r) refl
    where
      go : (b : Bool) → (owner m a (point-at r i) == r) ≡ b → is_word (forest m n a mesh parts) r i ≡ ((owner m a (point-at r i) == r) && is_shared m a (point-at r i))
      go true e =
          let mine = eqb-true (owner m a (point-at r i)) r e in
          (λ j. is_none (root-own m n a mesh parts r i low inside mine j) && nat_lt 0 (degree (forest m n a mesh parts) r i))
          ∙ (sym (shared-degree m n a mesh.sound parts r i low no_sight inside mine) ∙ sym (ap (λ b. b && is_shared m a (point-at r i)) e))
      go false e =
          let other : owner m a (point-at r i) ≢ r = λ f. both_ways (owner m a (point-at r i) == r) e (eq-eqb (owner m a (point-at r i)) r f) in
          (λ j. is_none (root-ghost m n a mesh parts r i low inside other j) && nat_lt 0 (degree (forest m n a mesh parts) r i)) ∙ sym (ap (λ b. b && is_shared m a (point-at r i)) e)

  -- a part of the chart whose points have one dimension, which no other points have
  pub record IsPart (r d first count : ℕ) : Type 0 where
    pub before : List Sight
    pub here : List Sight
    pub after : List Sight
    pub all : own m n a mesh parts r ≡ (before ++ here) ++ after
    pub from : first ≡ length before
    pub size : count ≡ length here
    pub inside : AllByRecursion (λ (s : Sight). dim_of s.poly ≡ d) here
    pub others_before : AllByRecursion (λ (s : Sight). dim_of s.poly ≢ d) before
    pub others_after : AllByRecursion (λ (s : Sight). dim_of s.poly ≢ d) after
    pub middle : face-from m n a mesh parts r ≤ first

  module _ (r : ℕ) (low : r < n) (d first count : ℕ) (part : IsPart r d first count) where
    -- its places
    abbrev Within : ℕ → Type 0
    Within i = (first ≤ i) × (i < first + count)

    within-chart : (i : ℕ) → Within i → i < long r
    within-chart i w =
        let whole = ap length part.all in
        omega (arith, w.1, whole, length-append (part.before ++ part.here) part.after, length-append part.before part.here, part.from, part.size)

    stands : (k : ℕ) → k < count → sight m n a mesh parts r (first + k) ≡ get_or part.here k no_sight
    stands k lt =
        ap (λ l. get_or l (first + k) no_sight) part.all
        ∙ (get_or_append_left (part.before ++ part.here) part.after no_sight (first + k) (omega (arith, lt, length-append part.before part.here, part.from, part.size))
        ∙ (ap (λ j. get_or (part.before ++ part.here) (j + k) no_sight) part.from ∙ get_or-append-add part.before part.here k no_sight))

    part-dim : (i : ℕ) → Within i → (point-at r i).dim ≡ d
    part-dim i w =
        let k : ℕ = i - first in
        let same : i ≡ first + k = omega (arith, w.0) in
        let lt : k < count = omega (arith, w.0, w.1) in
        ap (λ j. (point-at r j).dim) same ∙ (ap (λ (s : Sight). dim_of s.poly) (stands k lt) ∙ all_at (λ (s : Sight). dim_of s.poly ≡ d) part.here k no_sight part.inside (omega (arith, lt, part.size)))

    abbrev number : ℕ → ℕ
    number i = set_number (get_or (sets r) i [])

    packed : (i : ℕ) → Within i → IsPackable (get_or (sets r) i [])
    packed i w = subst IsPackable (sym (set-is r i (within-chart i w))) (middle-packable r i (omega (arith, part.middle, w.0)) (within-chart i w))

    -- ---- the chosen places

    abbrev chosen : List ℕ
    chosen = words_among (forest m n a mesh parts) r first count

    chosen-within : AllByRecursion Within chosen
    unfolding words_among
    chosen-within = all_filter Within (is_word (forest m n a mesh parts) r) (run first count) (run-within first count)

    chosen-words : AllByRecursion (λ i. is_word (forest m n a mesh parts) r i ≡ true) chosen
    unfolding words_among
    chosen-words = filter_passing (is_word (forest m n a mesh parts) r) (run first count)

    chosen-rises : IsRising chosen
    unfolding words_among
    chosen-rises = chosen-rising (is_word (forest m n a mesh parts) r) (run first count) (run-rising first count)

    -- their sets have different numbers
    numbers-differ : (i j : ℕ) (e : ℕ) → i < j → j < length chosen → number (get_or chosen i e) ≢ number (get_or chosen j e)
    numbers-differ i j e lt high same =
        let p : ℕ = get_or chosen i e in
        let q : ℕ = get_or chosen j e in
        let wp : Within p = all_at Within chosen i e chosen-within (omega (arith, lt, high)) in
        let wq : Within q = all_at Within chosen j e chosen-within high in
        let sets-same : get_or (sets r) p [] ≡ get_or (sets r) q [] = number-names (get_or (sets r) p []) (get_or (sets r) q []) (packed p wp) (packed q wq) same in
        let vertices : (point-at r p).vertices ≡ (point-at r q).vertices = sym (set-is r p (within-chart p wp)) ∙ (sets-same ∙ set-is r q (within-chart q wq)) in
        let dims : (point-at r p).dim ≡ (point-at r q).dim = part-dim p wp ∙ sym (part-dim q wq) in
        let points : point-at r p ≡ point-at r q = λ k. record { dim = dims k; vertices = vertices k } in
        let one : p ≡ q = one-place m n a mesh parts r p q (within-chart p wp) (within-chart q wq) points in
        let order : p < q = earlier-lower chosen chosen-rises i j e lt high in
        omega (arith, one, order)

    -- the points that the rank owns and shares
    abbrev mine : Point → Bool
    mine q = ((owner m a q == r) && (q.dim == d)) && is_shared m a q

    not-mine : (p : Point) (ss : List Sight) → AllByRecursion (λ (s : Sight). dim_of s.poly ≢ d) ss → list_any (λ s. mine (point_of s) && shows p s) ss ≡ false
    not-mine p ss h = none_passes (λ s. mine (point_of s) && shows p s) ss (all_weaker (λ (s : Sight). dim_of s.poly ≢ d) (λ s. (mine (point_of s) && shows p s) ≡ false)
        (λ s ne. (λ k. ((owner m a (point_of s) == r) && ne_eqb (dim_of s.poly) d ne k) && is_shared m a (point_of s) && shows p s) ∙ nothing (owner m a (point_of s) == r) (is_shared m a (point_of s)) (shows p s)) ss h)
      where
        nothing : (b c e : Bool) → (((b && false) && c) && e) ≡ false
        nothing true c e = refl
        nothing false c e = refl

    same-points : (p : Point) → list_any (λ i. same_point p (point-at r i)) chosen ≡ list_any (same_point p) (own_home m a r d)
    unfolding words_among own_home
    same-points p =
        any_filter (λ i. same_point p (point-at r i)) (is_word (forest m n a mesh parts) r) (run first count)
        ∙ (any_agree (λ i. is_word (forest m n a mesh parts) r i && same_point p (point-at r i)) (λ i. mine (point-at r i) && same_point p (point-at r i)) (run first count)
        (all_weaker Within (λ i. (is_word (forest m n a mesh parts) r i && same_point p (point-at r i)) ≡ (mine (point-at r i) && same_point p (point-at r i))) (λ i w. ap (λ b. b && same_point p (point-at r i)) (word-is r i low (within-chart i w) ∙ with-dim (owner m a (point-at r i) == r) (is_shared m a (point-at r i)) ((point-at r i).dim == d) (eq-eqb (point-at r i).dim d (part-dim i w)))) (run first count) (run-within first count))
        ∙ (listed
        ∙ (sym (list_any-append G (part.before ++ part.here) part.after ∙ (λ k. (list_any-append G part.before part.here k || not-mine p part.after part.others_after k)) ∙ (λ k. ((not-mine p part.before part.others_before k || list_any G part.here) || false)) ∙ last (list_any G part.here))
        ∙ (ap (list_any G) (sym part.all)
        ∙ (sym (any_map (λ q. mine q && same_point p q) point_of (own m n a mesh parts r))
        ∙ sym (any_filter (same_point p) mine (map point_of (own m n a mesh parts r))))))))
      where
        G : Sight → Bool
        G s = mine (point_of s) && shows p s

        last : (b : Bool) → ((false || b) || false) ≡ b
        last true = refl
        last false = refl

        with-dim : (b c e : Bool) → e ≡ true → (b && c) ≡ ((b && e) && c)
        with-dim true c e h = ap (λ x. x && c) (sym h)
        with-dim false c e h = refl

        listed : list_any (λ i. mine (point-at r i) && same_point p (point-at r i)) (run first count) ≡ list_any G part.here
        listed =
            any_map (λ i. mine (point-at r i) && same_point p (point-at r i)) (λ k. first + k) (below count)
            ∙ (sym (any_map (λ b. b) (λ k. G (sight m n a mesh parts r (first + k))) (below count))
            ∙ (ap (λ j. list_any (λ b. b) (map (λ k. G (sight m n a mesh parts r (first + k))) (below j))) part.size
            ∙ (ap (list_any (λ b. b)) (map-below-length (λ k. G (sight m n a mesh parts r (first + k))) G part.here no_sight (λ k lt. ap G (stands k (omega (arith, lt, part.size)))))
            ∙ any_map (λ b. b) G part.here)))

    -- ---- in order

    module _ (places : List ℕ) (order : AreInOrder (sets r) chosen places) where
      pub places-within : AllByRecursion Within places
      places-within = all-permutation Within chosen places order.same chosen-within

      pub places-words : AllByRecursion (λ i. is_word (forest m n a mesh parts) r i ≡ true) places
      places-words = all-permutation (λ i. is_word (forest m n a mesh parts) r i ≡ true) chosen places order.same chosen-words

      pub places-rise : IsRising (map number places)
      places-rise = put-rising number chosen places order.same order.rising numbers-differ

      stand : (ps : List ℕ) → AllByRecursion Within ps → IsRising (map number ps) → StandInOrder (map (point-at r) ps)
      stand [] w h = tt
      stand (q ∷ ps) w h = (
        all_map (λ (t : Point). precedes t.vertices (point-at r q).vertices ≡ false) (point-at r) ps
            (all_both Within (λ i. number q < number i) (λ i. precedes (point-at r i).vertices (point-at r q).vertices ≡ false) later ps w.1 (all_mapped (λ k. number q < k) number ps h.0)),
        stand ps w.1 h.1,
      )
        where
          later : (i : ℕ) → Within i → number q < number i → precedes (point-at r i).vertices (point-at r q).vertices ≡ false
          later i v lt =
              (λ k. precedes (sym (set-is r i (within-chart i v)) k) (sym (set-is r q (within-chart q w.0)) k))
              ∙ number-orders (get_or (sets r) q []) (get_or (sets r) i []) (packed q w.0) (packed i v) lt

      -- the points at the places are the rank's part of the home round
      pub part-is : IsMiddle m d → map (point-at r) places ≡ home_part m a r d
      part-is middle = home-sorted m mesh.sound a r d middle (map (point-at r) places) (stand places places-within places-rise)
          (λ p. any_map (same_point p) (point-at r) places ∙ (sym (any-permutation (λ i. same_point p (point-at r i)) chosen places order.same) ∙ same-points p))

  -- ---- faces and edges

  pub faces-part : (r : ℕ) → m.dim ≡ 3 → IsPart r 2 (face-from m n a mesh parts r) (length (faces m n a mesh parts r))
  faces-part r solid = record {
    before = tops m n a mesh parts r ++ corners m n a mesh parts r;
    here = faces m n a mesh parts r;
    after = edges m n a mesh parts r;
    all = own-is m n a mesh parts r;
    from = sym (length-append (tops m n a mesh parts r) (corners m n a mesh parts r));
    size = refl;
    inside = of-faces (m.dim == 3);
    others_before = all_append (λ (s : Sight). dim_of s.poly ≢ 2) (tops m n a mesh parts r) (corners m n a mesh parts r)
        (all_weaker (λ (s : Sight). dim_of s.poly ≡ m.dim) (λ (s : Sight). dim_of s.poly ≢ 2) (λ s h e. omega (arith, h, e, solid)) (tops m n a mesh parts r) (own-of_dim m (assigned m a r) m.dim))
        (all_weaker (λ (s : Sight). dim_of s.poly ≡ 0) (λ (s : Sight). dim_of s.poly ≢ 2) (λ s h e. omega (arith, h, e)) (corners m n a mesh parts r) (own-vertices_of_dim m (assigned m a r)));
    others_after = all_weaker (λ (s : Sight). dim_of s.poly ≡ 1) (λ (s : Sight). dim_of s.poly ≢ 2) (λ s h e. omega (arith, h, e)) (edges m n a mesh parts r) (own-of_dim m (assigned m a r) 1);
    middle = omega arith;
  }
    where
      of-faces : (b : Bool) → AllByRecursion (λ (s : Sight). dim_of s.poly ≡ 2) (cond b (own_stratum (assigned m a r) 2) [])
      of-faces true = own-of_dim m (assigned m a r) 2
      of-faces false = tt

  pub edges-part : (r : ℕ) → IsPart r 1 (edge-from m n a mesh parts r) (length (edges m n a mesh parts r))
  edges-part r = record {
    before = (tops m n a mesh parts r ++ corners m n a mesh parts r) ++ faces m n a mesh parts r;
    here = edges m n a mesh parts r;
    after = [];
    all = own-is m n a mesh parts r ∙ sym (append-nil (((tops m n a mesh parts r ++ corners m n a mesh parts r) ++ faces m n a mesh parts r) ++ edges m n a mesh parts r));
    from = sym (length-append (tops m n a mesh parts r ++ corners m n a mesh parts r) (faces m n a mesh parts r) ∙ ap (λ k. k + length (faces m n a mesh parts r)) (length-append (tops m n a mesh parts r) (corners m n a mesh parts r)));
    size = refl;
    inside = own-of_dim m (assigned m a r) 1;
    others_before = all_append (λ (s : Sight). dim_of s.poly ≢ 1) (tops m n a mesh parts r ++ corners m n a mesh parts r) (faces m n a mesh parts r)
        (all_append (λ (s : Sight). dim_of s.poly ≢ 1) (tops m n a mesh parts r) (corners m n a mesh parts r)
        (all_weaker (λ (s : Sight). dim_of s.poly ≡ m.dim) (λ (s : Sight). dim_of s.poly ≢ 1) (λ s h e. ⊎_elim (λ (f : m.dim ≡ 2). omega (arith, h, e, f)) (λ (f : m.dim ≡ 3). omega (arith, h, e, f)) mesh.sound.dim) (tops m n a mesh parts r) (own-of_dim m (assigned m a r) m.dim))
        (all_weaker (λ (s : Sight). dim_of s.poly ≡ 0) (λ (s : Sight). dim_of s.poly ≢ 1) (λ s h e. omega (arith, h, e)) (corners m n a mesh parts r) (own-vertices_of_dim m (assigned m a r))))
        (of-faces (m.dim == 3));
    others_after = tt;
    middle = omega arith;
  }
    where
      of-faces : (b : Bool) → AllByRecursion (λ (s : Sight). dim_of s.poly ≢ 1) (cond b (own_stratum (assigned m a r) 2) [])
      of-faces true = all_weaker (λ (s : Sight). dim_of s.poly ≡ 2) (λ (s : Sight). dim_of s.poly ≢ 1) (λ s h e. omega (arith, h, e)) (own_stratum (assigned m a r) 2) (own-of_dim m (assigned m a r) 2)
      of-faces false = tt
