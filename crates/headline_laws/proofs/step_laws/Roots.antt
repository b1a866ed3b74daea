-- The place of a point at its owner, as the forest of shared points has it.
use Rattle.std.proofs.Common.{◌≡◌, ℕ, zero, suc, ◌+◌, ◌<◌, ◌≤◌, Bool, true, false, cond, not, ◌==◌, List, [], ◌∷◌, map, length, get_or, Option, Some, None, refl, sym, ap, ◌∙◌, arith, zero-add}
use Rattle.std.specs.Prelude.{filter, find, option_map, unwrap_or}
use Rattle.std.specs.List.{AllByRecursion, enumerate_from, list_any}
use Rattle.std.proofs.lemmas.Bool.{eq-eqb, eqb-true, ne_eqb, and_parts, cond-true, cond-false, not-true}
use Rattle.plain_lists.specs.Lists.{below}
use Rattle.plain_lists.proofs.Each.{all_at, all_weaker, all_map, all_filter}
use Rattle.plain_lists.proofs.Filters.{image-at}
use Rattle.plain_lists.proofs.Finding.{each_fails, find-none, none_passes}
use Rattle.plain_lists.proofs.Below.{get_or-map-below}
use Rattle.mesh_defs.specs.Mesh.{Mesh}
use Rattle.mesh_defs.specs.Points.{Sight, point_of, shows}
use Rattle.mesh_defs.specs.Diagram.{chart, strata, place_in}
use Rattle.mesh_defs.specs.Sights.{points_differ}
use Rattle.mesh_defs.specs.RightMesh.{IsFlatOrSolid}
use Rattle.mesh_laws.proofs.Firsts.{shows-own, same_point-sym}
use Rattle.sf_defs.specs.declared.Leaf.{Leaf}
use Rattle.sf_defs.specs.Forest.{leaf, root_at, leaves_on, root_of}
use Rattle.rank_defs.specs.Ranks.{held, owner}
use Rattle.rank_defs.specs.Spread.{charts, place_at_owner, leaves_at_owners, ghost_places, point_forest}
use Rattle.rank_laws.proofs.Strata.{strata-differ}
use Rattle.headline_laws.proofs.Cones.{differ-filter}
use Rattle.walk_defs.specs.step_defs.Steps as steps
use Rattle.headline_laws.proofs.step_laws.Chosen.{enumerated-numbers}
use Rattle.headline_laws.proofs.step_laws.Local.{no_sight}

-- ---- leaves by their places

-- a list of chosen elements as leaves has the leaf of each of them at its place, and no other
pub leaf-at : {X : Type 0} (test : X → Bool) (root : X → ℕ × ℕ) (base : ℕ) (xs : List X) (p : ℕ) (d : X) → p < length xs
    → find (λ (l : Leaf). l.local == base + p) (map (λ (x : ℕ × X). leaf x.0 (root x.1)) (filter (λ (x : ℕ × X). test x.1) (enumerate_from base xs))) ≡ cond (test (get_or xs p d)) (Some (leaf (base + p) (root (get_or xs p d)))) None
leaf-at test root base [] p d lt = absurd (omega (arith, lt))
leaf-at {X = X} test root base (x ∷ xs) zero d lt = go (test x)
  where
    rest : List (ℕ × X)
    rest = filter (λ (y : ℕ × X). test y.1) (enumerate_from (base + 1) xs)

    at_base : (base == base + 0) ≡ true
    at_base = eq-eqb base (base + 0) (omega arith)

    later : AllByRecursion (λ (l : Leaf). (l.local == base + 0) ≡ false) (map (λ (y : ℕ × X). leaf y.0 (root y.1)) rest)
    later = all_map (λ (l : Leaf). (l.local == base + 0) ≡ false) (λ (y : ℕ × X). leaf y.0 (root y.1)) rest
        (all_filter (λ (y : ℕ × X). (y.0 == base + 0) ≡ false) (λ (y : ℕ × X). test y.1) (enumerate_from (base + 1) xs)
        (all_weaker (λ (y : ℕ × X). (base + 1 ≤ y.0) × (y.0 < base + 1 + length xs)) (λ (y : ℕ × X). (y.0 == base + 0) ≡ false) (λ y h. ne_eqb y.0 (base + 0) (λ e. absurd (omega (arith, e, h.0)))) (enumerate_from (base + 1) xs) (enumerated-numbers (base + 1) xs)))

    here : base ≡ base + 0
    here = omega arith

    go : (b : Bool) → find (λ (l : Leaf). l.local == base + 0) (map (λ (y : ℕ × X). leaf y.0 (root y.1)) (cond b ((base, x) ∷ rest) rest)) ≡ cond b (Some (leaf (base + 0) (root x))) None
    go true = cond-true (base == base + 0) (Some (leaf base (root x))) (find (λ (l : Leaf). l.local == base + 0) (map (λ (y : ℕ × X). leaf y.0 (root y.1)) rest)) at_base ∙ ap (λ j. Some (leaf j (root x))) here
    go false = find-none (λ (l : Leaf). l.local == base + 0) (map (λ (y : ℕ × X). leaf y.0 (root y.1)) rest) (none_passes (λ (l : Leaf). l.local == base + 0) (map (λ (y : ℕ × X). leaf y.0 (root y.1)) rest) later)
leaf-at {X = X} test root base (x ∷ xs) (suc p) d lt = go (test x) (leaf-at test root (base + 1) xs p d (omega (arith, lt)))
  where
    rest : List (ℕ × X)
    rest = filter (λ (y : ℕ × X). test y.1) (enumerate_from (base + 1) xs)

    same : base + 1 + p ≡ base + suc p
    same = omega arith

    answer : ℕ → Option Leaf
    answer j = cond (test (get_or xs p d)) (Some (leaf j (root (get_or xs p d)))) None

    moved : find (λ (l : Leaf). l.local == base + 1 + p) (map (λ (y : ℕ × X). leaf y.0 (root y.1)) rest) ≡ answer (base + 1 + p) → find (λ (l : Leaf). l.local == base + suc p) (map (λ (y : ℕ × X). leaf y.0 (root y.1)) rest) ≡ answer (base + suc p)
    moved h = coe 0 1 (i. find (λ (l : Leaf). l.local == same i) (map (λ (y : ℕ × X). leaf y.0 (root y.1)) rest) ≡ answer (same i)) h

    go : (b : Bool) → find (λ (l : Leaf). l.local == base + 1 + p) (map (λ (y : ℕ × X). leaf y.0 (root y.1)) rest) ≡ answer (base + 1 + p)
        → find (λ (l : Leaf). l.local == base + suc p) (map (λ (y : ℕ × X). leaf y.0 (root y.1)) (cond b ((base, x) ∷ rest) rest)) ≡ answer (base + suc p)
    go true h = cond-false (base == base + suc p) (Some (leaf base (root x))) (find (λ (l : Leaf). l.local == base + suc p) (map (λ (y : ℕ × X). leaf y.0 (root y.1)) rest)) (ne_eqb base (base + suc p) (λ e. absurd (omega (arith, e)))) ∙ moved h
    go false h = moved h

-- ---- places of points that differ

-- each of some different points stands at its own place
pub own-place : (ss : List Sight) → points_differ ss ≡ true → (p : ℕ) (d : Sight) → p < length ss → place_in ss (point_of (get_or ss p d)) ≡ p
own-place [] h p d lt = absurd (omega (arith, lt))
own-place (s ∷ ss) h zero d lt = ap (λ b. cond (not b) (1 + place_in ss (point_of s)) 0) (shows-own s)
own-place (s ∷ ss) h (suc p) d lt =
    let both = and_parts (not (list_any (shows (point_of s)) ss)) (points_differ ss) h in
    let other : shows (point_of s) (get_or ss p d) ≡ false = all_at (λ t. shows (point_of s) t ≡ false) ss p d (each_fails (shows (point_of s)) ss (not-true (list_any (shows (point_of s)) ss) both.0)) (omega (arith, lt)) in
    let rest = own-place ss both.1 p d (omega (arith, lt)) in
    ap (λ b. cond (not b) (1 + place_in ss (point_of (get_or ss p d))) 0) (same_point-sym (point_of (get_or ss p d)) (point_of s) ∙ other) ∙ omega (arith, rest)

-- ---- the forest of shared points

module _ (m : Mesh) (dim : IsFlatOrSolid m) (a : List ℕ) (n k : ℕ) where
  -- the points of a rank's chart differ
  pub held-differ : (r : ℕ) → points_differ (held m a r k) ≡ true
  unfolding held chart
  held-differ r = differ-filter _ (strata m) (strata-differ m dim)

  leaves-are : (r : ℕ) → r < n → leaves_on (point_forest m a (charts m a n k)) r ≡ leaves_at_owners m a (charts m a n k) (ghost_places m a r (held m a r k))
  unfolding point_forest charts
  leaves-are r low =
      image-at [] (λ (x : ℕ × List Sight). leaves_at_owners m a (charts m a n k) (ghost_places m a x.0 x.1)) (λ j. refl) 0 (map (λ q. held m a q k) (below n)) r
      ∙ ap (λ (x : ℕ × List Sight). leaves_at_owners m a (charts m a n k) (ghost_places m a x.0 x.1)) (λ i. (zero-add r i, get_or-map-below (λ q. held m a q k) n r [] low i))

  -- the root of a point is there where another rank owns it
  root-is : (r : ℕ) → r < n → (p : ℕ) → p < length (held m a r k) → root_of (point_forest m a (charts m a n k)) r p
      ≡ cond (not (owner m a (point_of (get_or (held m a r k) p no_sight)) == r)) (Some (place_at_owner m a (charts m a n k) (point_of (get_or (held m a r k) p no_sight)))) None
  unfolding root_of
  root-is r low p lt =
      ap (λ ls. option_map root_at (find (λ (l : Leaf). l.local == p) ls)) (leaves-are r low)
      ∙ coe 0 1 (i. option_map root_at (find (λ (l : Leaf). l.local == zero-add p i) leaves) ≡ option_map root_at (answer (zero-add p i))) (ap (option_map root_at) (leaf-at (λ s. not (owner m a (point_of s) == r)) (λ s. place_at_owner m a (charts m a n k) (point_of s)) 0 (held m a r k) p no_sight lt))
      ∙ by (not (owner m a (point_of s) == r))
    where
      s : Sight
      s = get_or (held m a r k) p no_sight

      leaves : List Leaf
      leaves = leaves_at_owners m a (charts m a n k) (ghost_places m a r (held m a r k))

      answer : ℕ → Option Leaf
      answer j = cond (not (owner m a (point_of s) == r)) (Some (leaf j (place_at_owner m a (charts m a n k) (point_of s)))) None

      by : (b : Bool) → option_map root_at (cond b (Some (leaf p (place_at_owner m a (charts m a n k) (point_of s)))) None) ≡ cond b (Some (place_at_owner m a (charts m a n k) (point_of s))) None
      by true = refl
      by false = refl

  -- the place of a held point at its owner
  pub place-is : (r : ℕ) → r < n → (p : ℕ) → p < length (held m a r k) → let s = get_or (held m a r k) p no_sight in
      steps.place_at_owner (point_forest m a (charts m a n k)) r p ≡ place_in (get_or (charts m a n k) (owner m a (point_of s)) []) (point_of s)
  unfolding charts
  place-is r low p lt = ap (λ (o : Option (ℕ × ℕ)). (unwrap_or {T = ℕ × ℕ} o (r, p)).1) (root-is r low p lt) ∙ go (owner m a (point_of s) == r) refl
    where
      s : Sight
      s = get_or (held m a r k) p no_sight

      go : (b : Bool) → (owner m a (point_of s) == r) ≡ b → (unwrap_or {T = ℕ × ℕ} (cond (not b) (Some (place_at_owner m a (charts m a n k) (point_of s))) None) (r, p)).1 ≡ place_in (get_or (charts m a n k) (owner m a (point_of s)) []) (point_of s)
      go false e = refl
      go true e =
          let mine : owner m a (point_of s) ≡ r = eqb-true (owner m a (point_of s)) r e in
          sym (own-place (held m a r k) (held-differ r) p no_sight lt)
          ∙ ap (λ l. place_in l (point_of s)) (sym (get_or-map-below (λ q. held m a q k) n r [] low))
          ∙ ap (λ o. place_in (get_or (charts m a n k) o []) (point_of s)) (sym mine)
