use Rattle.std.proofs.Common.{◌≡◌, ◌<◌, ℕ, List, Option, length, map, arith, sym, ap, ◌∙◌}
use Rattle.std.proofs.lemmas.List.{length-map}
use Rattle.sf_defs.specs.Forest.{leaves_on, or_else}
use Rattle.sf_algebra.proofs.Noting.{noted, first_of, noted-none, shape-none, first_to-more, first_to-all, written-back}
use Rattle.sf_algebra.proofs.inverting.leaves_of_roots.Goals as goal

pub loop-rank-init : goal.loop-rank-init
loop-rank-init c = record {
  shape = ap (map length) c.in_ok-found.ensures ∙ shape-none c.args.a.now.roots;
  noted = λ to index. ap (λ (found : List (List (Option (ℕ × ℕ)))). noted found to index) c.in_ok-found.ensures ∙ noted-none c.args.a.now.roots to index;
}

pub loop-rank-preserved : goal.loop-rank-preserved
loop-rank-preserved c =
    let new : List (List (Option (ℕ × ℕ))) = c.note_leaves.new.found in
    let old : List (List (Option (ℕ × ℕ))) = c.loop-rank.found.items in
    let same : length new ≡ length old = sym (length-map new length) ∙ (ap length (c.note_leaves.ensures.shape ∙ sym c.loop-rank.invariant.shape) ∙ length-map old length) in
    let back = written-back new old c.loop-rank.found.len same (sym (ap length c.deref_mut.ensures.value) ∙ c.deref_mut.ensures.len) in
    let within : c.loop-rank.rank < length c.args.a.now.leaves = omega (arith, c.ranks-rank-end.ensures.ranks, c.ranks-rank-end.ensures.for_ranks.ranks) in
    record {
      shape = ap (map length) back ∙ c.note_leaves.ensures.shape;
      noted = λ to index.
          ap (λ (found : List (List (Option (ℕ × ℕ)))). noted found to index) back
          ∙ (c.note_leaves.ensures.noted to index
          ∙ (ap (λ (found : List (List (Option (ℕ × ℕ)))). or_else (noted found to index) (first_of to index (c.loop-rank.rank, leaves_on c.args.a.now c.loop-rank.rank))) c.deref_mut.ensures.value
          ∙ (ap (λ o. or_else o (first_of to index (c.loop-rank.rank, leaves_on c.args.a.now c.loop-rank.rank))) (c.loop-rank.invariant.noted to index)
          ∙ sym (first_to-more c.args.a.now c.loop-rank.rank to index within))));
    }

pub returns-clause-leaves : goal.returns-clause-leaves
returns-clause-leaves c = λ rank index. c.loop-rank.invariant.noted rank index ∙ first_to-all c.args.a.now c.loop-rank.rank rank index (omega (arith, c.ranks-rank-end.ensures.ranks, c.ranks-rank-end.ensures.for_ranks.ranks))
