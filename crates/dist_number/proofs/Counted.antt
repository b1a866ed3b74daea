-- How many points the ranks of a distribution own.
use Rattle.std.proofs.Common.{◌≡◌, ℕ, ◌+◌, ◌<◌, Bool, true, false, cond, ◌==◌, List, [], ◌∷◌, map, length, get_or, count_by, refl, sym, ap, ◌∙◌, arith}
use Rattle.std.specs.List.{filter}
use Rattle.std.proofs.lemmas.List.{length-map}
use Rattle.std.proofs.lemmas.List.Sums.{sum_by-cons}
use Rattle.std.proofs.lemmas.Grind.{same_number_lists}
use Rattle.plain_lists.specs.Lists.{below}
use Rattle.plain_lists.proofs.Below.{length-below, get_or-map-below}
use Rattle.mesh_defs.specs.Mesh.{Mesh}
use Rattle.mesh_defs.specs.Points.{Sight, point_of}
use Rattle.sf_defs.specs.declared.Tag.TheVariants.{Number}
use Rattle.sf_defs.specs.Rounds.{Round, IsLegal}
use Rattle.rank_defs.specs.Ranks.{held_cells, held, owner, owned}
use Rattle.rank_defs.specs.Home.{number_asks, IsNumberRound}
use Rattle.rank_defs.specs.Spread.{LocalMesh, PlainDist, local_mesh, plain_dist, IsDist}
use Rattle.rank_laws.proofs.Owning.{owned-order}
use Rattle.dist_number.specs.Asked.{own_count, own_counts, sum_of, sums_of}
use Rattle.dist_number.proofs.Listed.{length-own_counts, own_counts-at}

-- ---- what a distribution has

-- the mesh of a rank
abbrev pub rank_mesh : Mesh → List (List ℕ) → List ℕ → ℕ → ℕ → LocalMesh
rank_mesh m dofs a k r = local_mesh m dofs a (held_cells m a r k)

pub locals-are : (d : PlainDist) (m : Mesh) (dofs : List (List ℕ)) (a : List ℕ) (n k : ℕ) → IsDist d m dofs a n k → d.locals ≡ map (rank_mesh m dofs a k) (below n)
unfolding plain_dist
locals-are d m dofs a n k is = ap (λ (e : PlainDist). e.locals) is.value

pub length-locals : (d : PlainDist) (m : Mesh) (dofs : List (List ℕ)) (a : List ℕ) (n k : ℕ) → IsDist d m dofs a n k → length d.locals ≡ n
length-locals d m dofs a n k is = ap length (locals-are d m dofs a n k is) ∙ (length-map (below n) (rank_mesh m dofs a k) ∙ length-below n)

pub local-at : (d : PlainDist) (m : Mesh) (dofs : List (List ℕ)) (a : List ℕ) (n k r : ℕ) (other : LocalMesh) → IsDist d m dofs a n k → r < n → get_or d.locals r other ≡ rank_mesh m dofs a k r
local-at d m dofs a n k r other is low = ap (λ (ls : List LocalMesh). get_or ls r other) (locals-are d m dofs a n k is) ∙ get_or-map-below (rank_mesh m dofs a k) n r other low

-- the owners of the points that a rank holds
pub owners-are : (m : Mesh) (dofs : List (List ℕ)) (a : List ℕ) (k r : ℕ) → (rank_mesh m dofs a k r).owners ≡ map (λ s. owner m a (point_of s)) (held m a r k)
unfolding local_mesh held
owners-are m dofs a k r = refl

-- ---- counting

-- as many images pass a test as are kept by it
pub count-images : {X : Type 0} (f : X → ℕ) (r : ℕ) (xs : List X) → count_by (λ o. o == r) (map f xs) ≡ length (filter (λ x. f x == r) xs)
count-images f r [] = refl
count-images f r (x ∷ xs) = sum_by-cons (λ o. cond (o == r) 1 0) (f x) (map f xs) ∙ (ap (λ n. cond (f x == r) 1 0 + n) (count-images f r xs) ∙ kept (f x == r))
  where
    kept : (b : Bool) → cond b 1 0 + length (filter (λ y. f y == r) xs) ≡ length (cond b (x ∷ filter (λ y. f y == r) xs) (filter (λ y. f y == r) xs))
    kept true = omega arith
    kept false = omega arith

-- a rank of a distribution owns as many points as are defined
pub own_count-is : (m : Mesh) (dofs : List (List ℕ)) (a : List ℕ) (k r : ℕ) → own_count r (rank_mesh m dofs a k r) ≡ length (owned m a r)
unfolding own_count
own_count-is m dofs a k r =
    ap (count_by (λ o. o == r)) (owners-are m dofs a k r)
    ∙ (count-images (λ (s : Sight). owner m a (point_of s)) r (held m a r k) ∙ ap length (owned-order m a r k))

pub own_counts-are : (d : PlainDist) (m : Mesh) (dofs : List (List ℕ)) (a : List ℕ) (n k : ℕ) → IsDist d m dofs a n k → own_counts d ≡ map (λ r. length (owned m a r)) (below n)
own_counts-are d m dofs a n k is =
    let count = length-own_counts d in
    let ranks = length-locals d m dofs a n k is in
    let expected = length-map (below n) (λ r. length (owned m a r)) in
    same_number_lists (own_counts d) (map (λ r. length (owned m a r)) (below n)) (omega (arith, count, ranks, expected, length-below n))
    (λ r low.
    let within : r < n = omega (arith, low, count, ranks) in
    own_counts-at d r (rank_mesh m dofs a k r) (omega (arith, within, ranks)) (local-at d m dofs a n k r (rank_mesh m dofs a k r) is within)
    ∙ (own_count-is m dofs a k r ∙ sym (get_or-map-below (λ q. length (owned m a q)) n r 0 within)))

-- ---- the number round

-- one Sum of each rank is what the number round asks
pub asks-are : (m : Mesh) (a : List ℕ) (n : ℕ) → sums_of (map (λ r. length (owned m a r)) (below n)) ≡ number_asks m a n
unfolding sums_of number_asks
asks-are m a n = images (below n)
  where
    images : (rs : List ℕ) → map (λ v. sum_of v ∷ []) (map (λ r. length (owned m a r)) rs) ≡ map (λ r. sum_of (length (owned m a r)) ∷ []) rs
    images [] = refl
    images (r ∷ rs) = ap (λ l. (sum_of (length (owned m a r)) ∷ []) ∷ l) (images rs)

-- a legal round of these asks is the number round of every mesh for which the distribution stands
pub number-round : (d : PlainDist) (r : Round) (m : Mesh) (dofs : List (List ℕ)) (a : List ℕ) (n k : ℕ) → IsDist d m dofs a n k → IsLegal r → r.tag ≡ Number → r.before ≡ 0 ∷ [] → r.asks ≡ sums_of (own_counts d) → IsNumberRound m a n r
number-round d r m dofs a n k is legal tag before asks = record {
  tag = tag;
  words = before;
  asks = asks ∙ (ap sums_of (own_counts-are d m dofs a n k is) ∙ asks-are m a n);
  legal = legal;
}
