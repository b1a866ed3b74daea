use Rattle.std.proofs.Common.{[], ◌∷◌, map, length, sym, ap, subst, ◌∙◌}
use Rattle.rank_defs.specs.Spread.{PlainDist, IsDist}
use Rattle.dist_number.specs.Drawn.{Drawn}
use Rattle.sf_tests.specs.state_tests.Triangles.{two_triangles}
use Rattle.sf_tests.proofs.state_tests.Spread.{two_ranks-stand, lengths}
use Rattle.sf_tests.proofs.state_tests.spreads.numbered.Goals as goal

pub spread-requires : goal.spread-requires
spread-requires c =
    let stands : IsDist c.args.d.now two_triangles [] (0 ∷ 1 ∷ []) 2 0 = subst (λ (d : PlainDist). IsDist d two_triangles [] (0 ∷ 1 ∷ []) 2 0) (sym c.requires) two_ranks-stand in
    record {
      mesh = two_triangles;
      dofs = [];
      assignment = 0 ∷ 1 ∷ [];
      ranks = 2;
      layers = 0;
      round = c.in_ok-bases.round;
      dist = stands;
      drawn = c.in_ok-bases.ensures.round two_triangles [] (0 ∷ 1 ∷ []) 2 0 stands;
      bases_are = ap (λ (b : Drawn). b.bases) c.in_ok-bases.ensures.bases;
    }

pub returns-clause-shape : goal.returns-clause-shape
returns-clause-shape c =
    let stands : IsDist c.args.d.now two_triangles [] (0 ∷ 1 ∷ []) 2 0 = subst (λ (d : PlainDist). IsDist d two_triangles [] (0 ∷ 1 ∷ []) 2 0) (sym c.requires) two_ranks-stand in
    ap (map length) (c.in_ok-numbers.ensures.numbers two_triangles [] (0 ∷ 1 ∷ []) 2 0 stands) ∙ lengths c.in_ok-bases.bases.bases
