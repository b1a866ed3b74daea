use Rattle.std.proofs.Common.{◌≡◌, ◌<◌, ◌^◌, length, replicate, ap, sym, subst, ◌∙◌, arith}
use Rattle.std.specs.List.{AllByRecursion}
use Rattle.plain_lists.specs.Vectors.{lists_of}
use Rattle.sf_defs.specs.Rounds.{MeetsConditions}
use Rattle.headline_laws.specs.seed_laws.Asked.{no_rank, before_owners, holder_asks}
use Rattle.headline_laws.proofs.seed_laws.Asking.{holders-meet}
use Rattle.dist_seed.proofs.vertex_owners.Asked.{asks-are, after-are, after-small}
use Rattle.dist_seed.proofs.vertex_owners.owners.vertex_owners.Goals as goal

pub run-requires : goal.run-requires
unfolding before_owners
run-requires g c =
    let m = c.args.mesh.now in
    let a = c.args.ranks.now in
    let held = c.args.held.now in
    let words : c.in_ok-words.words.items ≡ before_owners m = c.in_ok-words.ensures.items_if_clones_equal (λ y e. e) ∙ ap (λ n. replicate n no_rank) c.vertices.ensures in
    let asks : lists_of c.in_ok-asks.asks.items ≡ holder_asks m a (length held) = c.in_ok-asks.ensures ∙ asks-are m a held c.requires.held in
    let few : length m.at < 2 ^ 32 = omega (arith, c.vertices.ensures, c.vertices.type_inv) in
    subst (λ ws. MeetsConditions ws (lists_of c.in_ok-asks.asks.items)) (sym words) (subst (MeetsConditions (before_owners m)) (sym asks) (holders-meet m a (length held) c.requires.right few))

pub narrow-requires : goal.narrow-requires
unfolding before_owners
narrow-requires g c =
    let m = c.args.mesh.now in
    let a = c.args.ranks.now in
    let held = c.args.held.now in
    let words : c.in_ok-words.words.items ≡ before_owners m = c.in_ok-words.ensures.items_if_clones_equal (λ y e. e) ∙ ap (λ n. replicate n no_rank) c.vertices.ensures in
    let asks : c.in_ok-round.round.asks ≡ holder_asks m a (length held) = c.in_ok-round.ensures.asks ∙ c.in_ok-asks.ensures ∙ asks-are m a held c.requires.held in
    subst (AllByRecursion (λ w. w < 2 ^ 32)) (sym c.after.ensures) (after-small m a held c.requires.held c.dim-dim.ensures.right c.requires.right c.in_ok-round.round c.in_ok-round.ensures.legal (c.in_ok-round.ensures.before ∙ words) asks)

pub returns-clause-owners : goal.returns-clause-owners
unfolding before_owners
returns-clause-owners g c =
    let m = c.args.mesh.now in
    let a = c.args.ranks.now in
    let held = c.args.held.now in
    let words : c.in_ok-words.words.items ≡ before_owners m = c.in_ok-words.ensures.items_if_clones_equal (λ y e. e) ∙ ap (λ n. replicate n no_rank) c.vertices.ensures in
    let asks : c.in_ok-round.round.asks ≡ holder_asks m a (length held) = c.in_ok-round.ensures.asks ∙ c.in_ok-asks.ensures ∙ asks-are m a held c.requires.held in
    c.in_ok-narrow.ensures ∙ c.after.ensures ∙ after-are m a held c.requires.held c.dim-dim.ensures.right c.requires.right c.in_ok-round.round c.in_ok-round.ensures.legal (c.in_ok-round.ensures.before ∙ words) asks
