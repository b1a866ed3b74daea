-- Things in an order by their keys, and the places where they went.
use Rattle.std.proofs.Common.{◌≡◌, ℕ, ◌<◌, Bool, true, false, cond, ◌==◌, List, [], map, take, length, get_or, slice_index, refl, sym, ap, ◌∙◌, arith}
use Rattle.std.specs.List.Sorted.{IsNonDecreasingBy}
use Rattle.std.proofs.lemmas.List.{length-map, get_or-map, get_or_default}
use Rattle.std.proofs.lemmas.List.Sorted.{IsPermutation-map}
use Rattle.plain_lists.specs.Lists.{below}
use Rattle.plain_lists.proofs.Below.{length-below, get_or-map-below}
use Rattle.mesh_defs.specs.declared.Poly.TheVariants.{Vertex, Triangle, Quad}
use Rattle.mesh_defs.specs.Points.{Sight}
use Rattle.rank_cones.specs.held_points.Order.{IsOrder, AreMoves}
use Rattle.rank_cones.specs.held_points.Held.{AreByKey, given, given_point, face_on, no_vertex}
use Rattle.rank_cones.proofs.held_points.Orders.{order-long, order-has}

-- a face has the key under which it is given
pub face-key : (key : ℕ) (four : List ℕ) → (face_on key four).key ≡ key
face-key key four = go (slice_index four 3 == no_vertex)
  where
    go : (b : Bool) → (cond {A = Sight} b (record { key = key; poly = Triangle; arrangement = take 3 four }) (record { key = key; poly = Quad; arrangement = four })).key ≡ key
    go true = refl
    go false = refl

module _ (on : ℕ → List ℕ → Sight) (keyed : (key : ℕ) (four : List ℕ) → (on key four).key ≡ key) (keys : List ℕ) (lists : List (List ℕ)) (order moves : List ℕ) (is : IsOrder keys order) (went : AreMoves order moves) where
  -- the point at a place
  abbrev point : ℕ → Sight
  point = given_point on keys lists

  -- no point
  abbrev none : Sight
  none = record { key = 0; poly = Vertex; arrangement = [] }

  rising : IsNonDecreasingBy (λ (s : Sight). s.key) (map point order)
  rising i j d low high =
      let long = length-map order point in
      let first : (get_or (map point order) i d).key ≡ get_or keys (get_or order i 0) 0 = ap (λ (s : Sight). s.key) (get_or-map point order i 0 d (omega arith)) ∙ keyed (get_or keys (get_or order i 0) 0) (get_or lists (get_or order i 0) []) in
      let second : (get_or (map point order) j d).key ≡ get_or keys (get_or order j 0) 0 = ap (λ (s : Sight). s.key) (get_or-map point order j 0 d (omega arith)) ∙ keyed (get_or keys (get_or order j 0) 0) (get_or lists (get_or order j 0) []) in
      let least = is.rising i j 0 low (omega arith) in
      omega arith

  -- where the point at a place went
  placed-there : (k : ℕ) → k < length keys → (slice_index moves k < length order) × (get_or order (slice_index moves k) 0 ≡ k)
  placed-there k low =
      let (j, there, at) = order-has keys order is k low in
      let same : get_or order j 0 ≡ k = get_or_default order j 0 k there ∙ at in
      let went-there : slice_index moves k ≡ j = ap (λ i. get_or moves i 0) (sym same) ∙ went.places j there in
      (omega arith, ap (λ i. get_or order i 0) went-there ∙ same)

  pub by-key : AreByKey (given on keys lists) (map point order) moves
  by-key = record {
    same = IsPermutation-map point (below (length keys)) order is.same;
    rising = rising;
    count = went.count ∙ order-long keys order is ∙ sym own-long;
    within = λ k low. let there = placed-there k (omega (arith, own-long)) in omega (arith, there.0, length-map order point);
    places = λ k low.
        let in_keys : k < length keys = omega (arith, own-long) in
        let there = placed-there k in_keys in
        get_or-map point order (slice_index moves k) 0 none there.0 ∙ ap point there.1 ∙ sym (get_or-map-below point (length keys) k none in_keys);
  }
    where
      own-long : length (given on keys lists) ≡ length keys
      own-long = length-map (below (length keys)) point ∙ length-below (length keys)
