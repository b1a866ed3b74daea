use Rattle.std.proofs.Common.{◌≡◌, ◌<◌, [], ℕ, length, List, Option, None, IfOk, get_or, arith, sym, subst, ap, ◌∙◌}
use Rattle.std.proofs.lemmas.List.{length-map}
use Rattle.plain_lists.specs.Vectors.{lists_of}
use Rattle.sf_defs.specs.Forest.{Forest, IsForest, invert, roots_on}
use Rattle.sf_graph.specs.Parts.{forest_of, IsForRanks}
use Rattle.rank_laws.proofs.Kept.{invert-forest}
use Rattle.sf_algebra.proofs.Fitting.{length_at, same_within}
use Rattle.sf_algebra.proofs.Steps.{ranks-more}
use Rattle.sf_algebra.proofs.Pieces.{whole, invert-roots, invert-count, invert-own, invert-fits}
use Rattle.sf_algebra.proofs.inverting.converse.Goals as goal

pub loop-own-preserved : goal.loop-own-preserved
loop-own-preserved c =
    let made : Forest = invert c.args.a.now c.args.roots.now in
    let found : List (List (Option (ℕ × ℕ))) = c.in_ok-found.found.items in
    let lent : c.deref-own-items.result.now ≡ found = c.deref-own-items.ensures.value in
    let ranks : length found ≡ length c.args.a.now.roots = sym (length-map found length) ∙ ap length c.in_ok-found.ensures.shape in
    let there : c.loop-own.own-index < length found = omega (arith, ap length lent) in
    let own : c.own-item.result ≡ get_or found c.loop-own.own-index [] = c.own-item.is ∙ (ap (λ (items : List (List (Option (ℕ × ℕ)))). get_or items c.loop-own.own-index c.own-item.result) lent ∙ same_within found c.loop-own.own-index c.own-item.result [] there) in
    let within : c.loop-own.own-index < length made.leaves = omega (arith, invert-count c.args.a.now c.args.roots.now) in
    let size : length c.own-item.result ≡ roots_on c.args.a.now c.loop-own.own-index = ap length own ∙ (length_at found c.loop-own.own-index ∙ ap (λ ns. get_or ns c.loop-own.own-index 0) c.in_ok-found.ensures.shape) in
    let turned = invert-own c.args.a.now c.args.roots.now c.loop-own.own-index c.own-item.result (λ i. ap (λ (ls : List (Option (ℕ × ℕ))). get_or ls i None) own ∙ c.in_ok-found.ensures.leaves c.loop-own.own-index i) size in
    ap (λ vs. lists_of vs) c.in_ok-push.ensures.items ∙ ranks-more made.leaves c.loop-own.leaves.items c.in_ok-turned.field-0 c.loop-own.own-index c.loop-own.invariant within (c.in_ok-turned.ensures ∙ turned)

pub made_of-requires-clause-right : goal.made_of-requires-clause-right
made_of-requires-clause-right c =
    let found : List (List (Option (ℕ × ℕ))) = c.in_ok-found.found.items in
    let ranks : length found ≡ length c.args.a.now.roots = sym (length-map found length) ∙ ap length c.in_ok-found.ensures.shape in
    let end : c.loop-own.own-index ≡ length (invert c.args.a.now c.args.roots.now).leaves = omega (arith, invert-count c.args.a.now c.args.roots.now, ap length c.deref-own-items.ensures.value) in
    let all_made : forest_of c.in_ok-from_slice.field-0.items (lists_of c.loop-own.leaves.items) ≡ invert c.args.a.now c.args.roots.now = whole (invert c.args.a.now c.args.roots.now) c.in_ok-from_slice.field-0.items c.loop-own.leaves.items c.loop-own.own-index (c.in_ok-from_slice.ensures.items ∙ invert-roots c.args.a.now c.args.roots.now) c.loop-own.invariant end in
    subst IsForest (sym all_made) (invert-forest c.args.a.now c.args.roots.now c.in_ok-found.ensures.right c.requires.fits)

pub made_of-requires-clause-for_ranks : goal.made_of-requires-clause-for_ranks
made_of-requires-clause-for_ranks c =
    let found : List (List (Option (ℕ × ℕ))) = c.in_ok-found.found.items in
    let ranks : length found ≡ length c.args.a.now.roots = sym (length-map found length) ∙ ap length c.in_ok-found.ensures.shape in
    let end : c.loop-own.own-index ≡ length (invert c.args.a.now c.args.roots.now).leaves = omega (arith, invert-count c.args.a.now c.args.roots.now, ap length c.deref-own-items.ensures.value) in
    let all_made : forest_of c.in_ok-from_slice.field-0.items (lists_of c.loop-own.leaves.items) ≡ invert c.args.a.now c.args.roots.now = whole (invert c.args.a.now c.args.roots.now) c.in_ok-from_slice.field-0.items c.loop-own.leaves.items c.loop-own.own-index (c.in_ok-from_slice.ensures.items ∙ invert-roots c.args.a.now c.args.roots.now) c.loop-own.invariant end in
    subst IsForRanks (sym all_made) (invert-fits c.args.a.now c.args.roots.now c.in_ok-found.ensures.for_ranks c.requires.ranks c.requires.few)

pub returns : goal.returns
returns c =
    let found : List (List (Option (ℕ × ℕ))) = c.in_ok-found.found.items in
    let ranks : length found ≡ length c.args.a.now.roots = sym (length-map found length) ∙ ap length c.in_ok-found.ensures.shape in
    let end : c.loop-own.own-index ≡ length (invert c.args.a.now c.args.roots.now).leaves = omega (arith, invert-count c.args.a.now c.args.roots.now, ap length c.deref-own-items.ensures.value) in
    let all_made : forest_of c.in_ok-from_slice.field-0.items (lists_of c.loop-own.leaves.items) ≡ invert c.args.a.now c.args.roots.now = whole (invert c.args.a.now c.args.roots.now) c.in_ok-from_slice.field-0.items c.loop-own.leaves.items c.loop-own.own-index (c.in_ok-from_slice.ensures.items ∙ invert-roots c.args.a.now c.args.roots.now) c.loop-own.invariant end in
    subst (λ (t : Forest). IfOk c.made_of.result (λ f. f ≡ t)) all_made c.made_of.ensures
