use Rattle.std.proofs.Common.{◌≡◌, sym, subst, arith}
use Rattle.std.proofs.lemmas.Grind.{common_steps}
use Rattle.plex_chart.specs.Chart.{IsWhole}
use Rattle.sf_tests.specs.state_tests.Triangles.{first_diagram}
use Rattle.sf_tests.proofs.state_tests.Whole.{first-whole}
use Rattle.sf_tests.proofs.state_tests.triangles.first_plex.Goals as goal

pub finish-requires : goal.finish-requires
finish-requires c =
    let same : c.push-7.new.self ≡ first_diagram = grind (arith, common_steps) in
    subst IsWhole (sym same) first-whole
