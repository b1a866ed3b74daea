-- Sums of the ranks' own weights over the forest of a scatter.
use Rattle.std.proofs.Common.{◌≡◌, ℕ, List, map, length, sym, ap, ◌∙◌, arith}
use Rattle.std.proofs.lemmas.List.{length-map}
use Rattle.mesh_defs.specs.Mesh.{Mesh}
use Rattle.sf_defs.specs.Forest.{Forest}
use Rattle.sf_ops.specs.Asked.{AreRootValues, CoverLeaves}
use Rattle.rank_defs.specs.Spread.{PlainScatter, IsScatter, point_forest}
use Rattle.rank_laws.specs.share_laws.Charts.{own_charts}
use Rattle.sf_defs.specs.sums.Sums.{AreSums, SumsFit}
use Rattle.rank_chart_laws.proofs.field_laws.Shared.{sums-fit}
use Rattle.interp_share.specs.own_field_laws.Own.{part_weights}
use Rattle.interp_share.proofs.own_field_laws.Forests.{forest-of_parts}
use Rattle.interp_share.proofs.own_field_laws.Totals.{own-roots, own-leaves, own-totals}
use Rattle.interp_share.specs.part_fields.Ranks.{IsForestOf, AreNeeded}
use Rattle.interp_share.proofs.part_fields.Scatters.{own-words}

module _ (s : PlainScatter) (f : Forest) (h : IsForestOf s f) where
  -- the forest of whatever mesh the scatter stands for
  forest-is : (m : Mesh) (dofs : List (List ℕ)) (a : List ℕ) (n : ℕ) → IsScatter s m dofs a n → f ≡ point_forest m a (own_charts m a n)
  forest-is m dofs a n is = h.forest ∙ (forest-of_parts s h.some.m h.some.dofs h.some.a h.some.n h.some.is ∙ sym (forest-of_parts s m dofs a n is))

  -- the own weights are words of its roots and leaves, and their sums fit
  pub part-roots : AreRootValues f (map part_weights s.parts)
  part-roots = coe 0 1 (j. AreRootValues (sym h.forest j) (sym (own-words s h.some.m h.some.dofs h.some.a h.some.n h.some.is) j)) (own-roots h.some.m h.some.a h.some.n)

  pub part-leaves : CoverLeaves f (map part_weights s.parts)
  part-leaves = coe 0 1 (j. CoverLeaves (sym h.forest j) (sym (own-words s h.some.m h.some.dofs h.some.a h.some.n h.some.is) j)) (own-leaves h.some.m h.some.a h.some.n)

  pub part-sums_fit : SumsFit f (map part_weights s.parts)
  part-sums_fit =
      let is = h.some.is in
      coe 0 1 (j. SumsFit (sym h.forest j) (sym (own-words s h.some.m h.some.dofs h.some.a h.some.n h.some.is) j)) (sums-fit h.some.m h.some.n h.some.a is.mesh.sound.dim is.mesh.sound is.assignment.each is.mesh.few_cells is.assignment.few_ranks)

  -- the sums are the weights of all points
  pub sums-needed : (sums : List (List ℕ)) → AreSums f (map part_weights s.parts) sums → AreNeeded s sums
  sums-needed sums added = record {
    many = sym (length-map sums length) ∙ (ap length added.shape ∙ (length-map (map part_weights s.parts) length ∙ length-map s.parts part_weights));
    totals = λ some m dofs a n is. own-totals m a n sums is.mesh is.assignment (coe 0 1 (j. AreSums (forest-is m dofs a n is j) (own-words s m dofs a n is j) sums) added);
  }

-- where no field asks for weights, any lists will do
pub none-needed : (s : PlainScatter) (weights : List (List ℕ)) → length s.dofs ≡ 0 → length weights ≡ length s.parts → AreNeeded s weights
none-needed s weights none many = record { many = many; totals = λ some m dofs a n is. absurd (omega (arith, some, none)) }
