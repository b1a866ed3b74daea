use Rattle.std.proofs.Common.{◌≡◌, ℕ, ◌+◌, Option, length, get_or, Vec, Global, ap, ap₂, sym, ◌∙◌, arith}
use Rattle.std.specs.Prelude.{filter_map, option_map}
use Rattle.sf_defs.specs.declared.Leaf.{Leaf}
use Rattle.sf_defs.specs.Forest.{Forest, leaf, root_of}
use Rattle.local_points.specs.Points.{Local}
use Rattle.rank_chart_laws.specs.key_laws.Places.{run, face_count, edge_count}
use Rattle.rank_chart_laws.specs.key_laws.Words.{part, leaf_found, leaves_found}
use Rattle.orient_iface.proofs.iface_keys.Steps.{given-some, given-none}
use Rattle.orient_iface.proofs.iface_keys.leaves.leaves_found.Goals.{in-Some+in_ok-push-in-Some, in-None}
use Rattle.orient_iface.proofs.iface_keys.leaves.leaves_found.Goals as goal

pub loop-k-preserved : goal.loop-k-preserved
loop-k-preserved c =
    let place : ℕ = c.first_face-first.result + c.loop-k.k in
    let found : ℕ → Option Leaf = leaf_found c.args.shared.now.forest c.args.rank c.args.numbers.now in
    let of_root : Option (ℕ × ℕ) → Option Leaf = option_map (λ (root : ℕ × ℕ). leaf place (root.0, get_or c.args.numbers.now place 0)) in
    let there : root_of c.args.shared.now.forest c.args.rank place ≡ c.root_of.result = ap (λ (f : Forest). root_of f c.args.rank place) (sym c.forest.ensures) ∙ sym c.root_of.ensures in
    elim c.match-root_of.branch [
      | in-Some+in_ok-push-in-Some w ↦ given-some found c.first_face-first.result c.loop-k.k c.loop-k.leaves.items c.match-root_of.leaves.items _ c.loop-k.invariant (ap of_root (there ∙ w.in-Some.is)) (ap (λ (v : Vec Leaf Global). v.items) w.leaves-is ∙ w.in_ok-push-in-Some.ensures.items)
      | in-None w ↦ given-none found c.first_face-first.result c.loop-k.k c.loop-k.leaves.items c.match-root_of.leaves.items c.loop-k.invariant (ap of_root (there ∙ w.in-None.is)) (ap (λ (v : Vec Leaf Global). v.items) w.leaves-is)
    ]

pub returns : goal.returns
unfolding leaves_found
returns c =
    let faces : c.faces.result ≡ face_count (part c.args.shared.now c.args.rank) = c.faces.ensures.count ∙ ap (λ (l : Local). length l.faces) c.local.ensures in
    let edges : c.edges.result ≡ edge_count (part c.args.shared.now c.args.rank) = c.edges.ensures.count ∙ ap (λ (l : Local). length l.edges) c.local-2.ensures in
    let all : c.loop-k.k ≡ face_count (part c.args.shared.now c.args.rank) + edge_count (part c.args.shared.now c.args.rank) = omega arith in
    c.loop-k.invariant ∙ ap₂ (λ first count. filter_map (leaf_found c.args.shared.now.forest c.args.rank c.args.numbers.now) (run first count)) c.first_face-first.ensures all
