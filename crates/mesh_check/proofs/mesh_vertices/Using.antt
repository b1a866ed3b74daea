-- Which nodes the elements of the mesh's dimension have, element by element.
use Rattle.std.proofs.Common.{◌≡◌, ℕ, ◌+◌, ◌<◌, Bool, true, false, ◌&&◌, ◌||◌, List, map, length, take, refl, sym, ap, ◌∙◌}
use Rattle.std.specs.Prelude.{Some}
use Rattle.std.specs.List.{slice_get}
use Rattle.std.proofs.lemmas.List.Folds.{list_any_more}
use Rattle.std.proofs.lemmas.Option.{get_or_from_slice_get}
use Rattle.plain_lists.proofs.Filters.{map_same}
use Rattle.plain_lists.proofs.Each.{all_from}
use Rattle.input_defs.specs.Content.{Element, Content}
use Rattle.input_defs.specs.Sections.{has_number}
use Rattle.input_defs.specs.Meshes.{is_top}
use Rattle.mesh_check.specs.mesh_vertices.Vertices.{is_used_by}

module _ (c : Content) (es : List Element) (i : ℕ) (e : Element) (low : i < length es) (at : slice_get es i ≡ Some e) where
  one-more : (n : ℕ) → is_used_by c (take (i + 1) es) n ≡ (is_used_by c (take i es) n || (is_top c e && has_number e.nodes n))
  one-more n = list_any_more (λ f. is_top c f && has_number f.nodes n) es i e low ∙ ap (λ (f : Element). is_used_by c (take i es) n || (is_top c f && has_number f.nodes n)) (get_or_from_slice_get es i e e at)

  -- an element of the mesh's dimension uses its nodes
  pub used-next : (ns : List ℕ) → is_top c e ≡ true → map (λ n. is_used_by c (take i es) n || has_number e.nodes n) ns ≡ map (is_used_by c (take (i + 1) es)) ns
  used-next ns top = map_same (λ n. is_used_by c (take i es) n || has_number e.nodes n) (is_used_by c (take (i + 1) es)) ns
      (all_from (λ n. (is_used_by c (take i es) n || has_number e.nodes n) ≡ is_used_by c (take (i + 1) es) n) (λ n. sym (one-more n ∙ ap (λ t. is_used_by c (take i es) n || (t && has_number e.nodes n)) top)) ns)

  -- another one uses none
  pub used-skips : (ns : List ℕ) → is_top c e ≡ false → map (is_used_by c (take i es)) ns ≡ map (is_used_by c (take (i + 1) es)) ns
  used-skips ns low_dim = map_same (is_used_by c (take i es)) (is_used_by c (take (i + 1) es)) ns
      (all_from (λ n. is_used_by c (take i es) n ≡ is_used_by c (take (i + 1) es) n) (λ n. sym (one-more n ∙ ap (λ t. is_used_by c (take i es) n || (t && has_number e.nodes n)) low_dim ∙ or-false (is_used_by c (take i es) n))) ns)
    where
      or-false : (a : Bool) → (a || false) ≡ a
      or-false true = refl
      or-false false = refl
