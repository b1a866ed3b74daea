use Rattle.std.proofs.Common.{◌≡◌, [], ◌∷◌, refl, sym, subst, arith}
use Rattle.std.specs.Prelude.{pos, negsuc}
use Rattle.std.proofs.lemmas.Grind.{common_steps}
use Rattle.plain_lists.specs.Lists.{sorted}
use Rattle.mesh_defs.specs.declared.Poly.TheVariants.{Triangle}
use Rattle.mesh_defs.specs.Mesh.{Mesh, Mark}
use Rattle.mesh_defs.specs.Points.{sights_of, contains}
use Rattle.mesh_defs.specs.RightMesh.{IsOnPoint}
use Rattle.mesh_tests.proofs.mesh.triangle.Goals as goal

abbrev one_cell : Mesh
one_cell = record {
  dim = 2;
  at = (pos 0 ∷ pos 0 ∷ pos 0 ∷ []) ∷ (pos 10 ∷ pos 0 ∷ pos 0 ∷ []) ∷ (pos 0 ∷ pos 10 ∷ negsuc 0 ∷ []) ∷ [];
  cells = record { poly = Triangle; vertices = 0 ∷ 1 ∷ 2 ∷ [] } ∷ [];
  marks = [];
  names = [];
  fields = [];
  unused = 0;
  loose = 0;
  merged = 0;
}

abbrev rim : Mark
rim = record { dim = 1; vertices = 2 ∷ 1 ∷ []; value = negsuc 6 }

rim-on_point : IsOnPoint one_cell rim
unfolding sights_of contains sorted
rim-on_point = refl

pub add_mark-requires-clause-point : goal.add_mark-requires-clause-point
add_mark-requires-clause-point c =
    let same : c.add_cell.new.self ≡ one_cell = grind (arith, common_steps) in
    subst (λ (m : Mesh). IsOnPoint m rim) (sym same) rim-on_point
