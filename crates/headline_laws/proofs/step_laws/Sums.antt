-- The sums of a step.
use Rattle.std.proofs.Common.{◌≡◌, ℕ, ◌+◌, ◌-◌, ◌<◌, Bool, true, false, cond, ◌==◌, List, [], ◌++◌, map, length, get_or, sum_by, count_by, Option, Some, None, ℤ, pos, refl, sym, ap, ◌∙◌}
use Rattle.std.specs.Prelude.{flat_map, take, drop, sum, fold, int_lt, if◌then◌else◌, unwrap_or}
use Rattle.std.specs.List.{AllByRecursion, enumerate_from}
use Rattle.std.proofs.lemmas.List.FromFn.{length-enumerate_from}
use Rattle.std.proofs.lemmas.Bool.{eqb-true}
use Rattle.std.proofs.Math.Seq.{take-append_seam, drop-append_seam}
use Rattle.std.proofs.lemmas.List.{length-map, get_or-map}
use Rattle.std.proofs.lemmas.List.Concat.{length-flat_map}
use Rattle.std.proofs.lemmas.List.Folds.{flat_map-map}
use Rattle.plain_lists.specs.Lists.{below}
use Rattle.plain_lists.proofs.Each.{all_from, all_weaker}
use Rattle.plain_lists.proofs.Filters.{map_map_same, flat_map_same}
use Rattle.mesh_defs.specs.declared.ConeEntry.{ConeEntry}
use Rattle.mesh_defs.specs.Tables.{dim_of, facets_of}
use Rattle.mesh_defs.specs.Mesh.{Mesh, Row, Section}
use Rattle.mesh_defs.specs.Points.{Point, Sight}
use Rattle.mesh_defs.specs.Diagram.{entry, cone, place_in}
use Rattle.mesh_defs.specs.RightMesh.{IsRightMesh}
use Rattle.input_defs.specs.text_defs.Text.{Rank, number_of}
use Rattle.plex_defs.specs.Fields.{data_words, dof_words}
use Rattle.rank_defs.specs.Ranks.{held_cells, owned}
use Rattle.rank_defs.specs.Spread.{LocalMesh, plain_dist}
use Rattle.input_defs.specs.Plans.{DofsLine}
use Rattle.input_defs.specs.Further.{data_at}
use Rattle.headline_defs.specs.Lines.{sum_line}
use Rattle.headline_defs.specs.StepText.{ranks_with, numbered, sums_text}
use Rattle.walk_defs.specs.step_defs.Words.{signed_of, FitsWord, FitsWords}
use Rattle.walk_defs.specs.step_defs.Points.{owned_by, covers_of}
use Rattle.walk_defs.specs.step_defs.Steps.{ranks_of, own, of_owned, words_in, coordinates_at, total_of, plain_sums}
use Rattle.headline_laws.proofs.step_laws.Chosen.{sum_same, sum_mapped, sum-nested, texts-nested, map-nested}
use Rattle.headline_laws.proofs.step_laws.Local.{no_sight, counts_of, poly-is, covers-is, values-back, data_fields, dofs_fields, fields-are}
use Rattle.headline_laws.proofs.step_laws.Tails.{at-is}
use Rattle.headline_laws.proofs.step_laws.Numbers.{numbered-points, numbered-texts}
use Rattle.headline_laws.proofs.step_laws.Owned.{ranks-same, local_of, chart_of, each-rank, own-texts}
use Rattle.headline_laws.proofs.step_laws.Counts.{held-sum, owned-sum}

-- the orientations of a cone are the same under any numbers
turns-same : (m : Mesh) (number other : Point → ℕ) (s : Sight) → map (λ (e : ConeEntry). e.o) (cone m number s) ≡ map (λ (e : ConeEntry). e.o) (cone m other s)
unfolding cone entry
turns-same m number other s =
    map_map_same (λ (e : ConeEntry). e.o) (entry m number s.arrangement) (λ f. (entry m other s.arrangement f).o) (facets_of s.poly) (all_from _ (λ f. refl) (facets_of s.poly))
    ∙ sym (map_map_same (λ (e : ConeEntry). e.o) (entry m other s.arrangement) (λ f. (entry m other s.arrangement f).o) (facets_of s.poly) (all_from _ (λ f. refl) (facets_of s.poly)))

module _ (m : Mesh) (dofs : List DofsLine) (a : List ℕ) (n k : ℕ) (bases : List ℕ) (right : IsRightMesh m) (fits : FitsWords m) where
  abbrev all : List Rank
  all = ranks_with m n a k bases

  abbrev ranks : List (ℕ × LocalMesh)
  ranks = ranks_of (plain_dist m (counts_of dofs) a n k)

  abbrev at : ℕ → ℕ → Sight
  at r p = get_or (chart_of m dofs a n k r) p no_sight

  -- the owned points of all ranks
  points : List Sight
  points = map (λ (p : ℕ × Sight). p.1) (numbered all)

  -- values of owned points, by what the points are
  values-are : {X : Type 0} (f : LocalMesh → ℕ → List X) (g : Sight → List X) → ((r p : ℕ) → p < length (chart_of m dofs a n k r) → f (local_of m dofs a n k r) p ≡ g (at r p)) → of_owned f ranks ≡ flat_map g points
  unfolding points
  values-are f g same =
      each-rank m dofs a n k (λ rank. flat_map (f rank.1) (own rank))
      ∙ ranks-same n (λ r. flat_map (f (local_of m dofs a n k r)) (owned_by r (local_of m dofs a n k r))) (λ r. flat_map g (owned m a r)) (λ r low. own-texts m dofs a n k r (f (local_of m dofs a n k r)) g (same r))
      ∙ sym (texts-nested g (owned m a) (below n)) ∙ ap (flat_map g) (sym (numbered-points m a n k bases))

  -- ---- entries

  entries : List ConeEntry
  entries = flat_map (λ (p : ℕ × Sight). cone m (number_of all) p.1) (numbered all)

  turns-are : map (λ (e : ConeEntry). e.o) (of_owned covers_of ranks) ≡ map (λ (e : ConeEntry). e.o) entries
  unfolding entries
  turns-are =
      map-nested (λ (e : ConeEntry). e.o) (λ rank. flat_map (covers_of rank.1) (own rank)) ranks
      ∙ each-rank m dofs a n k (λ rank. map (λ (e : ConeEntry). e.o) (flat_map (covers_of rank.1) (own rank)))
      ∙ ranks-same n _ (λ r. flat_map (λ s. map (λ (e : ConeEntry). e.o) (cone m (number_of all) s)) (owned m a r))
      (λ r low. map-nested (λ (e : ConeEntry). e.o) (covers_of (local_of m dofs a n k r)) (owned_by r (local_of m dofs a n k r))
      ∙ own-texts m dofs a n k r (λ p. map (λ (e : ConeEntry). e.o) (covers_of (local_of m dofs a n k r) p)) (λ s. map (λ (e : ConeEntry). e.o) (cone m (number_of all) s))
      (λ p lt. ap (map (λ (e : ConeEntry). e.o)) (covers-is m dofs a (held_cells m a r k) p lt) ∙ turns-same m (place_in (chart_of m dofs a n k r)) (number_of all) (at r p)))
      ∙ sym (numbered-texts m a n k bases right (λ (x : ℕ × Sight). map (λ (e : ConeEntry). e.o) (cone m (number_of all) x.1)))
      ∙ sym (map-nested (λ (e : ConeEntry). e.o) (λ (p : ℕ × Sight). cone m (number_of all) p.1) (numbered all))

  entries-many : length (of_owned covers_of ranks) ≡ length entries
  entries-many = sym (length-map (of_owned covers_of ranks) (λ (e : ConeEntry). e.o)) ∙ ap length turns-are ∙ length-map entries (λ (e : ConeEntry). e.o)

  entries-back : count_by (λ (e : ConeEntry). int_lt e.o (pos 0)) (of_owned covers_of ranks) ≡ count_by (λ (e : ConeEntry). int_lt e.o (pos 0)) entries
  entries-back =
      sym (sum_mapped (λ o. cond (int_lt o (pos 0)) 1 0) (λ (e : ConeEntry). e.o) (of_owned covers_of ranks))
      ∙ ap (sum_by (λ o. cond (int_lt o (pos 0)) 1 0)) turns-are
      ∙ sum_mapped (λ o. cond (int_lt o (pos 0)) 1 0) (λ (e : ConeEntry). e.o) entries

  -- ---- coordinates

  at-sum : of_owned coordinates_at ranks ≡ flat_map (λ (s : Sight). if dim_of s.poly == 0 then get_or m.at s.key [] else []) points
  at-sum = values-are coordinates_at (λ s. if dim_of s.poly == 0 then get_or m.at s.key [] else []) one
    where
      one : (r p : ℕ) → p < length (chart_of m dofs a n k r) → coordinates_at (local_of m dofs a n k r) p ≡ (if dim_of (at r p).poly == 0 then get_or m.at (at r p).key [] else [])
      one r p lt = ap (λ q. if dim_of q == 0 then mine else []) (poly-is m dofs a (held_cells m a r k) p lt) ∙ go (dim_of (at r p).poly == 0) refl
        where
          mine : List ℤ
          mine = get_or (local_of m dofs a n k r).at (p - (local_of m dofs a n k r).diagram.cells) []

          go : (b : Bool) → (dim_of (at r p).poly == 0) ≡ b → cond b mine [] ≡ cond b (get_or m.at (at r p).key []) []
          go true e = at-is m dofs a (held_cells m a r k) right.sound.dim p lt (eqb-true (dim_of (at r p).poly) 0 e)
          go false e = refl

  -- ---- words

  -- the words of a point in some fields that are given by sections or lines
  words-of : {X : Type 0} (f : X → Sight → List ℕ) (xs : List X) (r p : ℕ) → p < length (chart_of m dofs a n k r) → words_in (map (λ x. map (f x) (chart_of m dofs a n k r)) xs) p ≡ flat_map (λ x. f x (at r p)) xs
  words-of f xs r p lt =
      flat_map-map (λ l. get_or l p []) (λ x. map (f x) (chart_of m dofs a n k r)) xs
      ∙ flat_map_same (λ x. get_or (map (f x) (chart_of m dofs a n k r)) p []) (λ x. f x (at r p)) xs (all_from _ (λ x. get_or-map (f x) (chart_of m dofs a n k r) p no_sight [] lt) xs)

  data-first : (r : ℕ) → take (length m.fields) (local_of m dofs a n k r).fields ≡ data_fields m dofs a (held_cells m a r k)
  data-first r =
      ap (take (length m.fields)) (fields-are m dofs a (held_cells m a r k))
      ∙ ap (λ j. take j (data_fields m dofs a (held_cells m a r k) ++ dofs_fields m dofs a (held_cells m a r k))) (sym (length-map m.fields (λ f. map (data_words m f) (chart_of m dofs a n k r))))
      ∙ take-append_seam (data_fields m dofs a (held_cells m a r k)) (dofs_fields m dofs a (held_cells m a r k))

  dofs-last : (r : ℕ) → drop (length m.fields) (local_of m dofs a n k r).fields ≡ dofs_fields m dofs a (held_cells m a r k)
  dofs-last r =
      ap (drop (length m.fields)) (fields-are m dofs a (held_cells m a r k))
      ∙ ap (λ j. drop j (data_fields m dofs a (held_cells m a r k) ++ dofs_fields m dofs a (held_cells m a r k))) (sym (length-map m.fields (λ f. map (data_words m f) (chart_of m dofs a n k r))))
      ∙ drop-append_seam (data_fields m dofs a (held_cells m a r k)) (dofs_fields m dofs a (held_cells m a r k))

  -- the values of a point in all sections
  values_of : Option (List ℤ) → List ℤ
  values_of o = elim o [ None ↦ [] | Some values ↦ values ]

  data-sum : map signed_of (of_owned (λ l p. words_in (take (length m.fields) l.fields) p) ranks) ≡ flat_map (λ s. flat_map (λ (f : Section). values_of (data_at m s f)) m.fields) points
  unfolding points values_of
  data-sum =
      ap (map signed_of) (values-are (λ l p. words_in (take (length m.fields) l.fields) p) (λ s. flat_map (λ f. data_words m f s) m.fields) (λ r p lt. ap (λ l. words_in l p) (data-first r) ∙ words-of (data_words m) m.fields r p lt))
      ∙ map-nested signed_of (λ s. flat_map (λ f. data_words m f s) m.fields) points
      ∙ flat_map_same (λ s. map signed_of (flat_map (λ f. data_words m f s) m.fields)) (λ s. flat_map (λ (f : Section). values_of (data_at m s f)) m.fields) points (all_from _ one points)
    where
      by : (o : Option (List ℤ)) → unwrap_or o [] ≡ values_of o
      by None = refl
      by (Some values) = refl

      one : (s : Sight) → map signed_of (flat_map (λ f. data_words m f s) m.fields) ≡ flat_map (λ (f : Section). values_of (data_at m s f)) m.fields
      one s =
          map-nested signed_of (λ f. data_words m f s) m.fields
          ∙ flat_map_same (λ f. map signed_of (data_words m f s)) (λ (f : Section). values_of (data_at m s f)) m.fields
          (all_weaker (λ (f : Section). AllByRecursion (λ (r : Row). AllByRecursion FitsWord r.values) f.rows) (λ f. map signed_of (data_words m f s) ≡ values_of (data_at m s f)) (λ f rows. values-back m s f rows ∙ by (data_at m s f)) m.fields fits)

  dofs-sum : sum (of_owned (λ l p. words_in (drop (length m.fields) l.fields) p) ranks) ≡ sum_by (λ s. sum_by (λ (d : DofsLine). fold ◌+◌ 0 (dof_words m d.dofs s)) dofs) points
  unfolding points
  dofs-sum =
      ap sum (values-are (λ l p. words_in (drop (length m.fields) l.fields) p) (λ s. flat_map (λ (d : DofsLine). dof_words m d.dofs s) dofs)
      (λ r p lt. ap (λ l. words_in l p) (dofs-last r) ∙ words-of (dof_words m) (counts_of dofs) r p lt ∙ flat_map-map (λ counts. dof_words m counts (at r p)) (λ (d : DofsLine). d.dofs) dofs))
      ∙ sum-nested (λ w. w) (λ s. flat_map (λ (d : DofsLine). dof_words m d.dofs s) dofs) points
      ∙ sum_same (λ s. sum (flat_map (λ (d : DofsLine). dof_words m d.dofs s) dofs)) (λ s. sum_by (λ (d : DofsLine). fold ◌+◌ 0 (dof_words m d.dofs s)) dofs) points
      (all_from _ (λ s. sum-nested (λ w. w) (λ (d : DofsLine). dof_words m d.dofs s) dofs) points)

  -- ---- all sums

  points-many : sum_by (λ r. length (own r)) ranks ≡ length points
  unfolding points
  points-many = owned-sum m dofs a n k bases ∙ sym (length-points)
    where
      length-points : length (map (λ (p : ℕ × Sight). p.1) (numbered all)) ≡ sum_by (λ (r : Rank). length r.owned) all
      length-points =
          length-map (numbered all) (λ (p : ℕ × Sight). p.1)
          ∙ length-flat_map (λ (r : Rank). enumerate_from r.base r.owned) all
          ∙ sum_same (λ (r : Rank). length (enumerate_from r.base r.owned)) (λ (r : Rank). length r.owned) all (all_from _ (λ (r : Rank). length-enumerate_from r.base r.owned) all)

  pub sums-are : plain_sums (length m.fields) ranks ≡ sums_text m dofs all
  unfolding plain_sums sums_text points entries values_of
  sums-are = (λ i. sum_line (held-sum m dofs a n k bases i) (points-many i) (entries-many i) (entries-back i) (total_of (at-sum i)) (total_of (data-sum i)) (dofs-sum i))
