use Rattle.interp_share.proofs.rank_points.Own.{parts-count, part-is, parts-fit, part-points, part-few}
use Rattle.interp_share.proofs.rank_points.laws.scatters_give_parts.Goals as goal

pub returns : goal.returns
returns c = record {
  ranks = parts-count;
  parts = part-is;
  fit = parts-fit;
  points = part-points;
  few = part-few;
}
