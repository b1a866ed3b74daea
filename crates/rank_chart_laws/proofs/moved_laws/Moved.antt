-- What each point has, moved with the points.
use Rattle.std.proofs.Common.{◌≡◌, ◌⊎◌, ℕ, ◌<◌, Bool, true, false, cond, ◌==◌, List, [], ◌∷◌, ◌++◌, map, length, get_or, Option, Some, None, refl, sym, ap, ap₂, ◌∙◌, subst, inl, inr, arith}
use Rattle.std.specs.Prelude.{◌+◌, ◌*◌, ◌/◌, slice_index, unwrap_or, option_map, option_and_then}
use Rattle.std.specs.List.{list_any, AllByRecursion, position_or_len}
use Rattle.std.proofs.lemmas.Bool.{eqb-true}
use Rattle.std.proofs.lemmas.List.{length-map, get_or-map, map-append}
use Rattle.plain_lists.specs.Lists.{below}
use Rattle.plain_lists.proofs.Below.{map-below-length}
use Rattle.plain_lists.proofs.Each.{all_at, all_from, all_weaker, all_both}
use Rattle.plain_lists.proofs.Filters.{map_map_same}
use Rattle.mesh_defs.specs.declared.Place.{Place}
use Rattle.mesh_defs.specs.declared.Place.TheVariants.{Node, Element}
use Rattle.mesh_defs.specs.Tables.{dim_of}
use Rattle.mesh_defs.specs.Mesh.{Mesh, Section}
use Rattle.mesh_defs.specs.Points.{Point, Sight, point_of, shows, first_sight, key}
use Rattle.mesh_defs.specs.Diagram.{place_in}
use Rattle.mesh_laws.proofs.Firsts.{shows-own, shows-true}
use Rattle.plex_defs.specs.Fields.{word_of, row_values, number_on, data_words, weight, dof_words, fields}
use Rattle.rank_laws.proofs.orient_laws.Seen.{IsFirst}
use Rattle.rank_chart_laws.specs.moved_laws.Moves.{moved_list}
use Rattle.rank_chart_laws.specs.moved_laws.Sames.{AreSamePoints, moves_between, HaveSameNumbers}
use Rattle.rank_chart_laws.proofs.moved_laws.Places.{no_sight, length-moves, same-length, came-from, found-at}

module _ (old new : List Sight) (are : AreSamePoints old new) where
  -- what both charts have alike at each point
  pub moved-list : {X : Type 0} (none : X) (was is : Sight → X) → AllByRecursion (λ s. AllByRecursion (λ t. shows (point_of s) t ≡ true → was s ≡ is t) new) old → map is new ≡ moved_list none (moves_between old new) (map was old)
  unfolding moved_list
  moved-list {X} none was is alike =
      sym (map-below-length at is new no_sight each)
      ∙ ap (λ n. map at (below n)) (same-length old new are ∙ sym (length-moves old new are))
    where
      at : ℕ → X
      at j = get_or (map was old) (position_or_len (λ k. k == j) (moves_between old new)) none

      each : (j : ℕ) → j < length new → at j ≡ is (get_or new j no_sight)
      each j low =
          let t = get_or new j no_sight in
          let i = place_in old (point_of t) in
          let from = came-from old new are j low in
          let same = shows-true (point_of t) (get_or old i no_sight) from.1 in
          ap (λ k. get_or (map was old) k none) (found-at old new are j low)
          ∙ get_or-map was old i no_sight none from.0
          ∙ all_at (λ u. shows (point_of (get_or old i no_sight)) u ≡ true → was (get_or old i no_sight) ≡ is u) new j no_sight
          (all_at (λ s. AllByRecursion (λ u. shows (point_of s) u ≡ true → was s ≡ is u) new) old i no_sight alike from.0) low
          (ap (λ q. shows q t) (sym same) ∙ shows-own t)

  -- what is told of points, as their owners
  pub moved-points : {X : Type 0} (none : X) (told : Point → X) → map (λ s. told (point_of s)) new ≡ moved_list none (moves_between old new) (map (λ s. told (point_of s)) old)
  moved-points none told = moved-list none (λ s. told (point_of s)) (λ s. told (point_of s))
      (all_from (λ s. AllByRecursion (λ t. shows (point_of s) t ≡ true → told (point_of s) ≡ told (point_of t)) new) (λ s. all_from (λ t. shows (point_of s) t ≡ true → told (point_of s) ≡ told (point_of t)) (λ t h. ap told (shows-true (point_of s) t h)) new) old)

  -- the keys of points that stand as they are first seen
  pub moved-keys : (m : Mesh) → AllByRecursion (IsFirst m) new → map (λ (s : Sight). s.key) new ≡ moved_list 0 (moves_between old new) (map (λ s. unwrap_or (key m (point_of s)) 0) old)
  unfolding key
  moved-keys m first = moved-list 0 (λ s. unwrap_or (key m (point_of s)) 0) (λ (s : Sight). s.key)
      (all_from (λ s. AllByRecursion (λ t. shows (point_of s) t ≡ true → unwrap_or (key m (point_of s)) 0 ≡ t.key) new) (λ s. all_weaker (IsFirst m) (λ t. shows (point_of s) t ≡ true → unwrap_or (key m (point_of s)) 0 ≡ t.key) (told s) new first) old)
    where
      told : (s t : Sight) → IsFirst m t → shows (point_of s) t ≡ true → unwrap_or (key m (point_of s)) 0 ≡ t.key
      told s t is h = ap (λ p. unwrap_or (key m p) 0) (shows-true (point_of s) t h) ∙ ap (λ o. unwrap_or (option_map (λ (u : Sight). u.key) o) 0) is

  module _ (m : Mesh) (numbers : HaveSameNumbers m old new) where
    number-same : (on : Place) (s t : Sight) → (shows (point_of s) t ≡ true → (dim_of s.poly ≡ 0) ⊎ (dim_of s.poly ≡ m.dim) → s.key ≡ t.key) → shows (point_of s) t ≡ true → number_on m on s ≡ number_on m on t
    number-same Node s t h e = ap (λ (p : Point). cond (p.dim == 0) (Some s.key) None) (shows-true (point_of s) t e) ∙ go (dim_of t.poly == 0) refl
      where
        dims : dim_of s.poly ≡ dim_of t.poly
        dims = ap (λ (p : Point). p.dim) (shows-true (point_of s) t e)

        go : (b : Bool) → (dim_of t.poly == 0) ≡ b → cond b (Some s.key) None ≡ cond b (Some t.key) None
        go true is = ap (λ k. Some k) (h e (inl (dims ∙ eqb-true (dim_of t.poly) 0 is)))
        go false is = refl
    number-same Element s t h e = ap (λ (p : Point). cond (p.dim == m.dim) (Some (s.key / 64)) None) (shows-true (point_of s) t e) ∙ go (dim_of t.poly == m.dim) refl
      where
        dims : dim_of s.poly ≡ dim_of t.poly
        dims = ap (λ (p : Point). p.dim) (shows-true (point_of s) t e)

        go : (b : Bool) → (dim_of t.poly == m.dim) ≡ b → cond b (Some (s.key / 64)) None ≡ cond b (Some (t.key / 64)) None
        go true is = ap (λ k. Some (k / 64)) (h e (inr (dims ∙ eqb-true (dim_of t.poly) m.dim is)))
        go false is = refl

    data-moved : (f : Section) → map (data_words m f) new ≡ moved_list [] (moves_between old new) (map (data_words m f) old)
    unfolding data_words
    data-moved f = moved-list [] (data_words m f) (data_words m f)
        (all_weaker (λ s. AllByRecursion (λ t. shows (point_of s) t ≡ true → (dim_of s.poly ≡ 0) ⊎ (dim_of s.poly ≡ m.dim) → s.key ≡ t.key) new) (λ s. AllByRecursion (λ t. shows (point_of s) t ≡ true → data_words m f s ≡ data_words m f t) new)
        (λ s all. all_weaker (λ t. shows (point_of s) t ≡ true → (dim_of s.poly ≡ 0) ⊎ (dim_of s.poly ≡ m.dim) → s.key ≡ t.key) (λ t. shows (point_of s) t ≡ true → data_words m f s ≡ data_words m f t) (λ t h e. one s t (number-same f.on s t h e)) new all) old numbers)
      where
        one : (s t : Sight) → number_on m f.on s ≡ number_on m f.on t → data_words m f s ≡ data_words m f t
        one s t e = ap (λ o. map word_of (unwrap_or (option_and_then (row_values f) o) [])) e

    dofs-moved : (counts : List ℕ) → map (dof_words m counts) new ≡ moved_list [] (moves_between old new) (map (dof_words m counts) old)
    unfolding dof_words
    dofs-moved counts = moved-points [] (λ (p : Point). map (λ i. (i + 1) * weight m p) (below (slice_index counts p.dim)))

    -- the words of all fields
    pub moved-fields : (dofs : List (List ℕ)) → fields m dofs new ≡ map (moved_list [] (moves_between old new)) (fields m dofs old)
    unfolding fields
    moved-fields dofs =
        let mv = moved_list [] (moves_between old new) in
        ap₂ (λ x y. x ++ y)
        (sym (map_map_same mv (λ f. map (data_words m f) old) (λ f. map (data_words m f) new) m.fields (all_from (λ f. mv (map (data_words m f) old) ≡ map (data_words m f) new) (λ f. sym (data-moved f)) m.fields)))
        (sym (map_map_same mv (λ counts. map (dof_words m counts) old) (λ counts. map (dof_words m counts) new) dofs (all_from (λ counts. mv (map (dof_words m counts) old) ≡ map (dof_words m counts) new) (λ counts. sym (dofs-moved counts)) dofs)))
        ∙ sym (map-append mv (map (λ f. map (data_words m f) old) m.fields) (map (λ counts. map (dof_words m counts) old) dofs))
