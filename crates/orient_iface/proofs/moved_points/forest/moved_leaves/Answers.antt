use Rattle.std.proofs.Common.{◌≡◌, ℕ, ◌<◌, List, [], ◌∷◌, ◌++◌, length, get_or, Option, Some, None, Vec, Global, sym, ap, ◌∙◌, arith, append-nil}
use Rattle.std.specs.Prelude.{filter_map, option_map}
use Rattle.std.specs.List.{cons_option}
use Rattle.std.proofs.lemmas.List.{get_or_read, length-map}
use Rattle.plain_lists.specs.Lists.{below}
use Rattle.plain_lists.specs.Vectors.{lists_of}
use Rattle.plain_lists.proofs.Below.{length-below}
use Rattle.sf_defs.specs.declared.Leaf.{Leaf}
use Rattle.sf_defs.specs.Forest.{leaf, leaves_on}
use Rattle.rank_chart_laws.specs.moved_laws.Moves.{moves_on}
use Rattle.orient_iface.proofs.moved_points.Routed.{routes, routed, routed-more, routed-all}
use Rattle.orient_iface.proofs.moved_points.forest.moved_leaves.Goals as goal
use Rattle.orient_iface.proofs.moved_points.forest.moved_leaves.Goals.{in-Some+in_ok-push, in_default}

pub loop-local-preserved : goal.loop-local-preserved
loop-local-preserved c =
    let found = c.in_ok-found.found.items in
    let j = c.loop-local.local in
    let own = moves_on (lists_of c.args.moves.now) c.args.rank in
    let size : length found ≡ length own = ap length c.in_ok-found.ensures ∙ length-map (below (length own)) (routes (lists_of c.args.moves.now) own (leaves_on c.args.forest.now c.args.rank)) ∙ length-below (length own) in
    let within : j < length found = let many = c.requires.fit.as_many c.args.rank (omega (arith, c.requires.rank, c.requires.fit.ranks, length-map c.args.moves.now (λ (v : Vec ℕ Global). v.items))) in omega (arith, size, many, c.loop-local-test.true, c.roots-local-end.ensures) in
    let here : get_or found j None ≡ c.index.result.now = sym (get_or_read found j c.index.result.now within c.index.ensures None) in
    elim c.match-index.branch [
      | in-Some+in_ok-push w ↦
          ap (λ (v : Vec Leaf Global). v.items) w.leaves-is ∙ w.in_ok-push.ensures.items ∙ ap (λ l. l ++ leaf j w.in-Some.root ∷ []) c.loop-local.invariant
          ∙ sym (routed-more found j ∙ ap (λ (o : Option (ℕ × ℕ)). filter_map (routed found) (below j) ++ cons_option (option_map (leaf j) o) []) (here ∙ w.in-Some.is))
      | in_default w ↦
          ap (λ (v : Vec Leaf Global). v.items) w.leaves-is ∙ c.loop-local.invariant
          ∙ sym (routed-more found j ∙ ap (λ (o : Option (ℕ × ℕ)). filter_map (routed found) (below j) ++ cons_option (option_map (leaf j) o) []) (here ∙ w.in_default.is) ∙ append-nil (filter_map (routed found) (below j)))
    ]

pub returns : goal.returns
returns c =
    let own = moves_on (lists_of c.args.moves.now) c.args.rank in
    let end : c.loop-local.local ≡ length own = let many = c.requires.fit.as_many c.args.rank (omega (arith, c.requires.rank, c.requires.fit.ranks, length-map c.args.moves.now (λ (v : Vec ℕ Global). v.items))) in omega (arith, many, c.loop-local-test.false, c.loop-local.auto.local-end, c.roots-local-end.ensures) in
    c.loop-local.invariant ∙ routed-all (lists_of c.args.moves.now) own (leaves_on c.args.forest.now c.args.rank) c.in_ok-found.found.items c.loop-local.local c.in_ok-found.ensures end

pub index-requires : goal.index-requires
index-requires c =
    let own = moves_on (lists_of c.args.moves.now) c.args.rank in
    let size : length c.in_ok-found.found.items ≡ length own = ap length c.in_ok-found.ensures ∙ length-map (below (length own)) (routes (lists_of c.args.moves.now) own (leaves_on c.args.forest.now c.args.rank)) ∙ length-below (length own) in
    let many = c.requires.fit.as_many c.args.rank (omega (arith, c.requires.rank, c.requires.fit.ranks, length-map c.args.moves.now (λ (v : Vec ℕ Global). v.items))) in
    omega (arith, size, many, c.loop-local-test.true, c.roots-local-end.ensures, c.in_ok-found.found.ok.0)
