use Rattle.std.proofs.Common.{◌≡◌, ℕ, ◌+◌, ◌-◌, ◌<◌, length, get_or, set, drop, arith, refl, sym, subst, ◌∙◌}
use Rattle.std.proofs.lemmas.List.{length-set}
use Rattle.plain_lists.proofs.Each.{all_at}
use Rattle.sf_defs.specs.declared.Leaf.{Leaf}
use Rattle.sf_defs.specs.Forest.{leaves_on}
use Rattle.sf_ops.specs.Copies.{handed}
use Rattle.sf_ops.proofs.Conditions.{at_place}
use Rattle.sf_ops.proofs.Loads.{handed_more}
use Rattle.sf_ops.proofs.broadcast.hand_out.Goals as goal

pub loop-k-preserved : goal.loop-k-preserved
loop-k-preserved c =
    let i : ℕ = c.leaf_count-count.result - 1 - c.loop-k.k in
    let leaf : Leaf = c.leaf-leaf.result in
    let place = at_place (leaves_on c.args.forest.now c.args.rank) i leaf c.leaf-leaf.ensures in
    let here : c.leaf_count-count.result - c.loop-k.k ≡ i + 1 = omega arith in
    let next : i ≡ c.leaf_count-count.result - (c.loop-k.k + 1) = omega arith in
    let covered : leaf.local < length c.args.own.now.items = subst (λ (l : Leaf). l.local < length c.args.own.now.items) place.1 (all_at (λ (l : Leaf). l.local < length c.args.own.now.items) (leaves_on c.args.forest.now c.args.rank) i leaf c.requires.covers place.0) in
    record {
      size = length-set c.loop-k.own.items leaf.local (get_or c.args.got.now i 0) ∙ c.loop-k.invariant.size;
      count = c.loop-k.invariant.count;
      values = λ local. subst (λ (n : ℕ). get_or (set c.loop-k.own.items leaf.local (get_or c.args.got.now i 0)) local 0 ≡ handed (drop n (leaves_on c.args.forest.now c.args.rank)) (drop n c.args.got.now) (get_or c.args.own.now.items local 0) local) next
          (handed_more (leaves_on c.args.forest.now c.args.rank) c.args.got.now c.loop-k.own.items c.args.own.now.items i leaf (get_or c.args.got.now i 0) place.0 c.requires.count place.1 refl (subst (λ (n : ℕ). leaf.local < n) (sym c.loop-k.invariant.size) covered)
          (λ q. subst (λ (n : ℕ). get_or c.loop-k.own.items q 0 ≡ handed (drop n (leaves_on c.args.forest.now c.args.rank)) (drop n c.args.got.now) (get_or c.args.own.now.items q 0) q) here (c.loop-k.invariant.values q)) local);
    }
