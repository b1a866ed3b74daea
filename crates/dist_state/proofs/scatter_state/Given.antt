-- Cells and marks from their lists, by place.
use Rattle.std.proofs.Common.{◌≡◌, ℕ, zero, suc, ◌<◌, ◌≤◌, List, [], ◌∷◌, length, map, get_or, slice_index, refl, ap, arith}
use Rattle.mesh_defs.specs.declared.Poly.{Poly}
use Rattle.mesh_defs.specs.declared.Poly.TheVariants.{Vertex}
use Rattle.mesh_defs.specs.Mesh.{Cell, Mark}
use Rattle.plex_base.specs.Dim.{dim_number}
use Rattle.rank_defs.specs.Spread.{ScatterPart}
use Rattle.dist_state.specs.declared.scatter_state.rank_part.MarkHead.{MarkHead}
use Rattle.dist_state.specs.declared.scatter_state.rank_part.PartLists.{PartLists}
use Rattle.dist_state.specs.scatter_state.Parts.{cells_of, marks_of, part_of, number_of, cell_at, AreRightLists, IsRightPart}

-- ---- cells

pub length-cells_of : (ns : List ℕ) (polys : List Poly) (lists : List (List ℕ)) → length polys ≡ length ns → length lists ≡ length ns → length (cells_of ns polys lists) ≡ length ns
length-cells_of [] polys lists p l = refl
length-cells_of (n ∷ ns) [] lists p l = absurd (omega (arith, p))
length-cells_of (n ∷ ns) (poly ∷ polys) [] p l = absurd (omega (arith, l))
length-cells_of (n ∷ ns) (poly ∷ polys) (vs ∷ lists) p l = ap suc (length-cells_of ns polys lists (omega (arith, p)) (omega (arith, l)))

pub numbers-cells_of : (ns : List ℕ) (polys : List Poly) (lists : List (List ℕ)) → length polys ≡ length ns → length lists ≡ length ns → map number_of (cells_of ns polys lists) ≡ ns
numbers-cells_of [] polys lists p l = refl
numbers-cells_of (n ∷ ns) [] lists p l = absurd (omega (arith, p))
numbers-cells_of (n ∷ ns) (poly ∷ polys) [] p l = absurd (omega (arith, l))
numbers-cells_of (n ∷ ns) (poly ∷ polys) (vs ∷ lists) p l = ap (λ ks. n ∷ ks) (numbers-cells_of ns polys lists (omega (arith, p)) (omega (arith, l)))

pub cells_of-at : (ns : List ℕ) (polys : List Poly) (lists : List (List ℕ)) → length polys ≡ length ns → length lists ≡ length ns
    → (i : ℕ) → cell_at (cells_of ns polys lists) i ≡ (slice_index ns i, record { poly = get_or polys i Vertex; vertices = get_or lists i [] })
cells_of-at [] [] [] p l i = refl
cells_of-at [] (poly ∷ polys) lists p l i = absurd (omega (arith, p))
cells_of-at [] [] (vs ∷ lists) p l i = absurd (omega (arith, l))
cells_of-at (n ∷ ns) [] lists p l i = absurd (omega (arith, p))
cells_of-at (n ∷ ns) (poly ∷ polys) [] p l i = absurd (omega (arith, l))
cells_of-at (n ∷ ns) (poly ∷ polys) (vs ∷ lists) p l zero = refl
cells_of-at (n ∷ ns) (poly ∷ polys) (vs ∷ lists) p l (suc i) = cells_of-at ns polys lists (omega (arith, p)) (omega (arith, l)) i

-- taken apart and put together again
pub cells_of-parts : (cells : List (ℕ × Cell)) → cells_of (map number_of cells) (map (λ (c : ℕ × Cell). c.1.poly) cells) (map (λ (c : ℕ × Cell). c.1.vertices) cells) ≡ cells
cells_of-parts [] = refl
cells_of-parts (c ∷ cells) = ap (λ cs. c ∷ cs) (cells_of-parts cells)

-- ---- marks

pub length-marks_of : (heads : List MarkHead) (lists : List (List ℕ)) → length lists ≡ length heads → length (marks_of heads lists) ≡ length heads
length-marks_of [] lists l = refl
length-marks_of (head ∷ heads) [] l = absurd (omega (arith, l))
length-marks_of (head ∷ heads) (vs ∷ lists) l = ap suc (length-marks_of heads lists (omega (arith, l)))

pub marks_of-at : (heads : List MarkHead) (lists : List (List ℕ)) (i : ℕ) (head : MarkHead) (d : Mark) → length lists ≡ length heads → i < length heads
    → get_or (marks_of heads lists) i d ≡ record { dim = dim_number (get_or heads i head).dim; vertices = get_or lists i []; value = (get_or heads i head).value }
marks_of-at [] lists i head d l low = absurd (omega (arith, low))
marks_of-at (h ∷ heads) [] i head d l low = absurd (omega (arith, l))
marks_of-at (h ∷ heads) (vs ∷ lists) zero head d l low = refl
marks_of-at (h ∷ heads) (vs ∷ lists) (suc i) head d l low = marks_of-at heads lists i head d (omega (arith, l)) (omega (arith, low))

-- ---- a part

-- what right lists make is a right part
pub right-part : (lists : PartLists) → AreRightLists lists → IsRightPart (part_of lists)
right-part lists right = record {
  owners = right.owners;
  at = right.at;
  few_marks = let count = length-marks_of lists.marks.items lists.mark_vertices right.mark_vertices in omega (arith, count, right.few_marks);
}
