use Rattle.plex_chart.specs.Chart.{point_at}
use Rattle.poly_orient.proofs.Grouping.{orientation-0}
use Rattle.step_report.proofs.point_lines.append_closure.Goals as goal

pub closure_into-requires-clause-orientation : goal.closure_into-requires-clause-orientation
closure_into-requires-clause-orientation c = orientation-0 (point_at c.plex.result.now c.args.p).poly
