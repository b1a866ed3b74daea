use Rattle.std.proofs.Common.{◌≡◌, ◌<◌, ℕ, ◌+◌, List, [], ◌∷◌, Vec, Global, length, get_or, ap, sym, subst, ◌∙◌, arith}
use Rattle.std.proofs.lemmas.List.{map-append, get_or-map, length-map}
use Rattle.plain_lists.specs.Vectors.{lists_of}
use Rattle.cells_at_vertices.specs.declared.counts.VertexCount.{VertexCount}
use Rattle.cells_at_vertices.specs.Picked.{picked_counts, AreAllPicked}
use Rattle.cells_at_vertices.proofs.Ranks.{picked-more}
use Rattle.cells_at_vertices.proofs.counts.VertexCounts.of.Goals as goal

pub of_rank-requires : goal.of_rank-requires
of_rank-requires c =
    let words = c.args.words.now in
    let r = c.loop-rank.rank in
    let low : r < length words = omega (arith, c.loop-rank-test.true, c.ranks-rank-end.ensures.ranks, c.requires.many, length-map words (λ (v : Vec ℕ Global). v.items)) in
    let own : c.deref.result.now ≡ get_or (lists_of words) r [] = c.deref.ensures.value ∙ (ap (λ (v : Vec ℕ Global). v.items) c.index-words-rank.is ∙ sym (get_or-map (λ (v : Vec ℕ Global). v.items) words r c.index-words-rank.result [] low)) in
    ap length own ∙ c.requires.each r c.local.result.now c.local.ensures

pub loop-rank-preserved : goal.loop-rank-preserved
loop-rank-preserved c =
    let locals = c.args.dist.now.locals in
    let words = c.args.words.now in
    let r = c.loop-rank.rank in
    let low : r < length words = omega (arith, c.loop-rank-test.true, c.ranks-rank-end.ensures.ranks, c.requires.many, length-map words (λ (v : Vec ℕ Global). v.items)) in
    let own : c.deref.result.now ≡ get_or (lists_of words) r [] = c.deref.ensures.value ∙ (ap (λ (v : Vec ℕ Global). v.items) c.index-words-rank.is ∙ sym (get_or-map (λ (v : Vec ℕ Global). v.items) words r c.index-words-rank.result [] low)) in
    let picked = c.in_ok-of_rank.field-0 in
    let more = picked-more locals (lists_of words) r c.local.result.now picked.items (lists_of c.loop-rank.ranks.items) c.local.ensures (c.in_ok-of_rank.ensures ∙ ap (picked_counts c.local.result.now) own) c.loop-rank.invariant in
    subst (λ (l : List (List VertexCount)). AreAllPicked locals (lists_of words) (r + 1) l) (sym (ap (λ l. lists_of l) c.in_ok-push.ensures.items ∙ map-append (λ (v : Vec VertexCount Global). v.items) c.loop-rank.ranks.items (picked ∷ []))) more
