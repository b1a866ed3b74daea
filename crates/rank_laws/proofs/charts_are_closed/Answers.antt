use Rattle.std.specs.List.{list_any, AllByRecursion}
use Rattle.std.proofs.Common.{◌≡◌, List, true, subst}
use Rattle.std.proofs.lemmas.List.Elements.{All-contains, All-from_recursion}
use Rattle.plain_lists.specs.Lists.{picked}
use Rattle.mesh_defs.specs.Tables.{Facet, facets_of}
use Rattle.mesh_defs.specs.Points.{Sight, point_on, shows}
use Rattle.rank_defs.specs.Ranks.{held_cells, held}
use Rattle.rank_laws.proofs.ChartsClosed.{chart-closed, held-cells, held-chart}
use Rattle.rank_laws.proofs.charts_are_closed.Goals as goal

pub returns : goal.returns
returns c = λ m a r k sound accepted differ s f held_s facet_f.
    All-contains (λ (g : Facet). list_any (shows (point_on g.poly (picked s.arrangement g.corners))) (held m a r k) ≡ true) (facets_of s.poly) f
    (All-from_recursion (λ (g : Facet). list_any (shows (point_on g.poly (picked s.arrangement g.corners))) (held m a r k) ≡ true) (facets_of s.poly)
    (All-contains (λ (t : Sight). AllByRecursion (λ (g : Facet). list_any (shows (point_on g.poly (picked t.arrangement g.corners))) (held m a r k) ≡ true) (facets_of t.poly)) (held m a r k) s
    (All-from_recursion (λ (t : Sight). AllByRecursion (λ (g : Facet). list_any (shows (point_on g.poly (picked t.arrangement g.corners))) (held m a r k) ≡ true) (facets_of t.poly)) (held m a r k) (subst (λ (points : List Sight). AllByRecursion (λ (t : Sight). AllByRecursion (λ (g : Facet). list_any (shows (point_on g.poly (picked t.arrangement g.corners))) points ≡ true) (facets_of t.poly)) points) (held-chart m a r k) (chart-closed m sound accepted differ (held_cells m a r k) (held-cells m a r k)))) held_s))
    facet_f
