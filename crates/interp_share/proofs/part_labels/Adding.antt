-- Labels of one mark more.
use Rattle.std.proofs.Common.{◌≡◌, ℕ, ◌+◌, ◌<◌, Bool, true, false, cond, ◌==◌, List, [], ◌∷◌, ◌++◌, map, length, get_or, take, set, ap, ◌∙◌}
use Rattle.std.specs.Prelude.{filter}
use Rattle.std.proofs.lemmas.List.{take_more, map-append, append-nil}
use Rattle.std.proofs.lemmas.List.Elements.{filter-append}
use Rattle.std.proofs.lemmas.List.Sums.{fold-append}
use Rattle.mesh_defs.specs.Mesh.{Mark}
use Rattle.mesh_defs.specs.Points.{Sight}
use Rattle.plex_base.specs.Dim.{dim_number}
use Rattle.plex_base.specs.declared.dim.Dim.{Dim}
use Rattle.plex_base.specs.declared.dim.Dim.TheVariants.{Zero, One, Two, Three}
use Rattle.plex_defs.specs.Labels.{with_pair, label_of}
use Rattle.rank_chart_laws.specs.label_laws.Marks.{marked_pair, marked_pairs}
use Rattle.dist_state.specs.scatter_state.Parts.{mark_at}
use Rattle.interp_share.specs.part_labels.Parts.{labels_from}

module _ (points : List Sight) (marks : List Mark) (i : ℕ) (low : i < length marks) where
  -- one label
  label-more : (d e : ℕ) → (mark_at marks i).dim ≡ e → label_of (marked_pairs points d (take (i + 1) marks)) ≡ cond (e == d) (with_pair (label_of (marked_pairs points d (take i marks))) (marked_pair points (mark_at marks i))) (label_of (marked_pairs points d (take i marks)))
  label-more d e is =
      ap (λ l. label_of (marked_pairs points d l)) (take_more marks i (mark_at [] 0) low)
      ∙ ap (λ l. label_of (map (marked_pair points) l)) (filter-append (λ (k : Mark). k.dim == d) (take i marks) (mark_at marks i ∷ []))
      ∙ ap (λ n. label_of (map (marked_pair points) (filter (λ (k : Mark). k.dim == d) (take i marks) ++ cond (n == d) (mark_at marks i ∷ []) []))) is
      ∙ go (e == d)
    where
      go : (b : Bool) → label_of (map (marked_pair points) (filter (λ (k : Mark). k.dim == d) (take i marks) ++ cond b (mark_at marks i ∷ []) [])) ≡ cond b (with_pair (label_of (marked_pairs points d (take i marks))) (marked_pair points (mark_at marks i))) (label_of (marked_pairs points d (take i marks)))
      go true = ap label_of (map-append (marked_pair points) (filter (λ (k : Mark). k.dim == d) (take i marks)) (mark_at marks i ∷ [])) ∙ fold-append with_pair [] (marked_pairs points d (take i marks)) (marked_pair points (mark_at marks i) ∷ [])
      go false = ap (λ l. label_of (map (marked_pair points) l)) (append-nil (filter (λ (k : Mark). k.dim == d) (take i marks)))

  -- the four labels
  pub labels-more : (d : Dim) → (mark_at marks i).dim ≡ dim_number d
      → labels_from points (take (i + 1) marks) ≡ set (labels_from points (take i marks)) (dim_number d) (with_pair (get_or (labels_from points (take i marks)) (dim_number d) []) (marked_pair points (mark_at marks i)))
  labels-more Zero e = λ j. label-more 0 0 e j ∷ label-more 1 0 e j ∷ label-more 2 0 e j ∷ label-more 3 0 e j ∷ []
  labels-more One e = λ j. label-more 0 1 e j ∷ label-more 1 1 e j ∷ label-more 2 1 e j ∷ label-more 3 1 e j ∷ []
  labels-more Two e = λ j. label-more 0 2 e j ∷ label-more 1 2 e j ∷ label-more 2 2 e j ∷ label-more 3 2 e j ∷ []
  labels-more Three e = λ j. label-more 0 3 e j ∷ label-more 1 3 e j ∷ label-more 2 3 e j ∷ label-more 3 3 e j ∷ []
