use Rattle.std.proofs.Common.{◌≡◌, ◌++◌, ℕ, List, map, length, take, drop, arith, sym, ap, subst, ◌∙◌}
use Rattle.plain_lists.specs.Vectors.{lists_of}
use Rattle.std.proofs.lemmas.List.{length-map}
use Rattle.std.proofs.Math.Seq.{take-append_seam}
use Rattle.sf_defs.specs.Forest.{Forest}
use Rattle.sf_ops.specs.Asked.{CoverLeaves}
use Rattle.sf_ops.specs.Copies.{AreCopies}
use Rattle.sf_ops.proofs.Words.{length-lists_of}
use Rattle.dist_number.specs.Places.{numbers_at_owners}
use Rattle.dist_number.proofs.Room.{drawn_bases_fit}
use Rattle.dist_number.proofs.Numbered.{root-values, leaves-covered, numbers-are}
use Rattle.dist_number.proofs.spreading.spread.Goals as goal

pub numbers_at_owners-requires : goal.numbers_at_owners-requires
numbers_at_owners-requires g c = drawn_bases_fit c.args.d.now c.args.bases.now.bases c.requires

pub numbers_at_owners-requires-2 : goal.numbers_at_owners-requires-2
numbers_at_owners-requires-2 g c = drawn_bases_fit c.args.d.now c.args.bases.now.bases c.requires

pub bcast-requires-clause-roots : goal.bcast-requires-clause-roots
bcast-requires-clause-roots g c =
    let q = c.requires in
    let d = c.args.d.now in
    let own : lists_of c.deref.result.now ≡ numbers_at_owners d c.args.bases.now.bases = ap lists_of c.deref.ensures.value ∙ c.in_ok-own.ensures in
    ap (map length) own ∙ (root-values d q.mesh q.dofs q.assignment q.ranks q.layers q.dist c.args.bases.now.bases ∙ sym (ap (λ (f : Forest). f.roots) c.points.ensures))

pub bcast-requires-clause-leaves : goal.bcast-requires-clause-leaves
bcast-requires-clause-leaves g c =
    let q = c.requires in
    let d = c.args.d.now in
    let held : lists_of c.deref_mut.result.now ≡ numbers_at_owners d c.args.bases.now.bases = ap lists_of c.deref_mut.ensures.value ∙ c.in_ok-held.ensures in
    let covered = leaves-covered d q.mesh q.dofs q.assignment q.ranks q.layers q.dist c.args.bases.now.bases in
    subst (λ (f : Forest). CoverLeaves f (lists_of c.deref_mut.result.now)) (sym c.points.ensures) (subst (CoverLeaves d.points) (sym held) covered)

pub returns-clause-numbers : goal.returns-clause-numbers
returns-clause-numbers g c m dofs a n k is =
    let d = c.args.d.now in
    let own : lists_of c.deref.result.now ≡ numbers_at_owners d c.args.bases.now.bases = ap lists_of c.deref.ensures.value ∙ c.in_ok-own.ensures in
    let held : lists_of c.deref_mut.result.now ≡ numbers_at_owners d c.args.bases.now.bases = ap lists_of c.deref_mut.ensures.value ∙ c.in_ok-held.ensures in
    let after : List (List ℕ) = lists_of c.bcast.new.leaves in
    let count : c.in_ok-held.held.len ≡ length c.bcast.new.leaves = omega (arith, ap length c.in_ok-bcast.ensures.shape, length-map after (length {A = ℕ}), length-map (lists_of c.deref_mut.result.now) (length {A = ℕ}), length-lists_of c.bcast.new.leaves, length-lists_of c.deref_mut.result.now, c.deref_mut.ensures.len) in
    let whole = ap (λ (l : ℕ). lists_of (take l (c.bcast.new.leaves ++ drop (length c.bcast.new.leaves) c.in_ok-held.held.items))) count ∙ ap lists_of (take-append_seam c.bcast.new.leaves (drop (length c.bcast.new.leaves) c.in_ok-held.held.items)) in
    c.from_ranks.ensures ∙ (whole ∙ numbers-are d m dofs a n k is c.args.bases.now.bases after
    (subst (λ (f : Forest). AreCopies f (numbers_at_owners d c.args.bases.now.bases) (numbers_at_owners d c.args.bases.now.bases) after) c.points.ensures
    (subst (λ (l : List (List ℕ)). AreCopies c.points.result.now l (numbers_at_owners d c.args.bases.now.bases) after) own
    (subst (λ (l : List (List ℕ)). AreCopies c.points.result.now (lists_of c.deref.result.now) l after) held c.in_ok-bcast.ensures.copies)))
    (c.in_ok-bcast.ensures.shape ∙ ap (map length) held))
