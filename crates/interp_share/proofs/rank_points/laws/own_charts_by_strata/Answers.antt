use Rattle.std.proofs.Common.{◌<◌, ◌^◌, length, sym, ap, subst}
use Rattle.interp_share.specs.rank_points.Seen.{sets_on, part_sets}
use Rattle.interp_share.proofs.rank_points.Own.{own-points, points-few}
use Rattle.interp_share.proofs.rank_points.laws.own_charts_by_strata.Goals as goal

pub returns : goal.returns
unfolding part_sets
returns c = record {
  points = λ m a r right. own-points m right a r;
  sets = λ m a r right. ap sets_on (sym (own-points m right a r));
  few = λ m a r right. subst (λ ps. length ps < 2 ^ 32) (sym (own-points m right a r)) (points-few m right a r);
}
