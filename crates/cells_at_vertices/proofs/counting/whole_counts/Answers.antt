use Rattle.std.proofs.Common.{◌≡◌, ℕ, List, length, ap, sym, subst, subst₂}
use Rattle.std.proofs.lemmas.Result.{IfOk-weaker}
use Rattle.plain_lists.specs.Vectors.{lists_of}
use Rattle.mesh_defs.specs.Mesh.{Mesh}
use Rattle.sf_ops.specs.Asked.{AreRootValues, CoverLeaves}
use Rattle.sf_defs.specs.sums.Sums.{AreSums, SumsFit}
use Rattle.cells_at_vertices.specs.declared.counts.VertexCount.{VertexCount}
use Rattle.cells_at_vertices.specs.Counts.{vertex_counts}
use Rattle.cells_at_vertices.specs.Own.{IsOf}
use Rattle.cells_at_vertices.specs.Picked.{AreAllPicked, AreForPoints}
use Rattle.cells_at_vertices.proofs.Spread.{own-roots, own-leaves, own-fit, sums-for_points, picked-are}
use Rattle.cells_at_vertices.proofs.counting.whole_counts.Goals as goal

pub sum_copies-requires-clause-places : goal.sum_copies-requires-clause-places
sum_copies-requires-clause-places g c =
    let h = c.requires in
    let counts = lists_of c.in_ok-own.own.items in
    subst₂ AreRootValues (sym c.points.ensures) (sym (ap (λ l. lists_of l) c.deref.ensures.value)) (own-roots c.args.dist.now h.m h.a h.n h.is counts c.in_ok-own.ensures)

pub sum_copies-requires-clause-leaves : goal.sum_copies-requires-clause-leaves
sum_copies-requires-clause-leaves g c =
    let h = c.requires in
    let counts = lists_of c.in_ok-own.own.items in
    subst₂ CoverLeaves (sym c.points.ensures) (sym (ap (λ l. lists_of l) c.deref.ensures.value)) (own-leaves c.args.dist.now h.m h.a h.n h.is counts c.in_ok-own.ensures)

pub sum_copies-requires-clause-fit : goal.sum_copies-requires-clause-fit
sum_copies-requires-clause-fit g c =
    let h = c.requires in
    let counts = lists_of c.in_ok-own.own.items in
    subst₂ SumsFit (sym c.points.ensures) (sym (ap (λ l. lists_of l) c.deref.ensures.value)) (own-fit c.args.dist.now h.m h.a h.n h.is counts c.in_ok-own.ensures)

pub of-requires : goal.of-requires
of-requires g c =
    let h = c.requires in
    let d = c.args.dist.now in
    let counts = lists_of c.in_ok-own.own.items in
    let sums = lists_of c.in_ok-whole.whole.items in
    let added : AreSums d.points counts sums = coe 0 1 (j. AreSums (c.points.ensures j) (lists_of (c.deref.ensures.value j)) sums) c.in_ok-whole.ensures.sums in
    subst (AreForPoints d.locals) (sym (ap (λ l. lists_of l) c.deref-2.ensures.value)) (sums-for_points d h.m h.a h.n h.is counts sums c.in_ok-own.ensures added)

pub returns-clause-counts : goal.returns-clause-counts
returns-clause-counts g c =
    let d = c.args.dist.now in
    let counts = lists_of c.in_ok-own.own.items in
    let sums = lists_of c.in_ok-whole.whole.items in
    let added : AreSums d.points counts sums = coe 0 1 (j. AreSums (c.points.ensures j) (lists_of (c.deref.ensures.value j)) sums) c.in_ok-whole.ensures.sums in
    IfOk-weaker c.of.result (λ (picked : List (List VertexCount)). AreAllPicked d.locals (lists_of c.deref-2.result.now) (length d.locals) picked) (λ (picked : List (List VertexCount)). (m : Mesh) (a : List ℕ) (n : ℕ) → IsOf d m a n → picked ≡ vertex_counts m a n)
    (λ picked all m a n is. picked-are d m a n is counts sums picked c.in_ok-own.ensures added (subst (λ (l : List (List ℕ)). AreAllPicked d.locals l (length d.locals) picked) (ap (λ l. lists_of l) c.deref-2.ensures.value) all)) c.of.ensures
