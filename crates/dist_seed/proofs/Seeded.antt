-- What all ranks are given, put together.
use Rattle.std.proofs.Common.{◌≡◌, ℕ, ◌^◌, ◌<◌, ◌≤◌, List, map, length, sym, ap, ◌∙◌, subst, arith}
use Rattle.std.specs.List.{AllByRecursion}
use Rattle.std.proofs.lemmas.List.{length-map}
use Rattle.plain_lists.specs.Lists.{below}
use Rattle.plain_lists.proofs.Below.{length-below}
use Rattle.plain_lists.proofs.Each.{all_map, all_from}
use Rattle.mesh_defs.specs.Mesh.{Mesh, Section}
use Rattle.mesh_defs.specs.RightMesh.{IsRightMesh}
use Rattle.plex_defs.specs.Fields.{AreRightDofs, row_values}
use Rattle.rank_defs.specs.Ranks.{IsRightAssignment, assigned}
use Rattle.rank_defs.specs.Spread.{ScatterPart, PlainScatter, scatter_part, plain_scatter, section_numbers, vertices_among, IsScatter}
use Rattle.mesh_defs.specs.Diagram.{chart}
use Rattle.dist_state.specs.scatter_state.Whole.{IsWholeScatter}
use Rattle.dist_seed.specs.rank_cells.Own.{Held, held_of}
use Rattle.dist_seed.specs.Parts.{part_given}

-- a rank has rows of each data section
part-rows : (m : Mesh) (a : List ℕ) (r : ℕ) → length (part_given m a r).rows ≡ length m.fields
unfolding part_given scatter_part
part-rows m a r = length-map m.fields (λ (f : Section). map (row_values f) (section_numbers f.on (assigned m a r) (vertices_among (chart m (assigned m a r)))))

-- as many ranks hold cells as there are
pub length-held : (m : Mesh) (a : List ℕ) (n : ℕ) (held : List Held) → held ≡ map (held_of m a) (below n) → length held ≡ n
length-held m a n held are = ap length are ∙ length-map (below n) (held_of m a) ∙ length-below n

module _ (m : Mesh) (a : List ℕ) (n : ℕ) (s : PlainScatter) (parts : s.parts ≡ map (part_given m a) (below n)) (sections : s.sections ≡ map (λ (f : Section). (f.on, f.comps)) m.fields) where
  pub whole-scatter : 1 ≤ n → n ≤ 64 → length s.sections < 2 ^ 32 → length s.dofs ≤ 8 → IsWholeScatter s
  whole-scatter some few few_sections few_dofs =
      let count : length s.parts ≡ n = ap length parts ∙ length-map (below n) (part_given m a) ∙ length-below n in
      let size : length s.sections ≡ length m.fields = ap length sections ∙ length-map m.fields (λ (f : Section). (f.on, f.comps)) in
      record {
        some_rank = omega (arith, count, some);
        few_ranks = omega (arith, count, few);
        rows = subst (AllByRecursion (λ (part : ScatterPart). length part.rows ≡ length s.sections)) (sym parts)
            (all_map (λ (part : ScatterPart). length part.rows ≡ length s.sections) (part_given m a) (below n) (all_from (λ r. length (part_given m a r).rows ≡ length s.sections) (λ r. part-rows m a r ∙ sym size) (below n)));
        few_sections = few_sections;
        few_dofs = omega (arith, few_dofs);
      }

  pub seeded : (dofs : List (List ℕ)) → IsRightMesh m → AreRightDofs dofs → IsRightAssignment m n a → s.whole ≡ length m.cells → s.dofs ≡ dofs → IsScatter s m dofs a n
  unfolding plain_scatter part_given
  seeded dofs right counts assignment whole same = record {
    mesh = right;
    counts = counts;
    assignment = assignment;
    value = λ i. record { whole = whole i; sections = sections i; dofs = same i; parts = parts i };
  }
