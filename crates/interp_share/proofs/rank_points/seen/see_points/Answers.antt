use Rattle.std.proofs.Common.{◌≡◌, ◌++◌, map, sym, ap, ◌∙◌, subst}
use Rattle.std.specs.List.{AllByRecursion}
use Rattle.local_points.specs.Points.{Local, local_points}
use Rattle.rank_chart_laws.specs.OwnRanks.{set_of}
use Rattle.interp_share.specs.rank_points.Seen.{seen_of, IsSmall}
use Rattle.interp_share.proofs.rank_points.Small.{faces-small}
use Rattle.interp_share.proofs.rank_points.seen.see_points.Goals as goal

pub sets_of-requires : goal.sets_of-requires
sets_of-requires g c = subst (λ (l : Local). AllByRecursion IsSmall l.faces) (sym (c.local.ensures ∙ c.in_ok-finder.ensures)) (faces-small c.args.part.now.cells)

pub returns : goal.returns
unfolding seen_of
returns g c =
    let finder : c.in_ok-finder.finder ≡ local_points c.args.part.now.cells = c.in_ok-finder.ensures in
    λ i. record { local = finder i; sets = (c.in_ok-sets.ensures ∙ ap (λ (l : Local). map set_of (l.faces ++ l.edges)) (c.local.ensures ∙ finder)) i }
