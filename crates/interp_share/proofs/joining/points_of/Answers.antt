use Rattle.std.proofs.Common.{◌≡◌, ℕ, ◌^◌, ◌<◌, List, length, sym, ap, ◌∙◌, subst}
use Rattle.std.specs.List.{AllByRecursion}
use Rattle.plain_lists.proofs.Each.{all_weaker}
use Rattle.plex_defs.specs.Fields.{fields}
use Rattle.local_points.specs.Points.{local_points}
use Rattle.rank_defs.specs.Ranks.{assigned}
use Rattle.rank_defs.specs.Spread.{ScatterPart, own_chart}
use Rattle.dist_state.specs.scatter_state.Whole.{part_at}
use Rattle.interp_share.specs.part_labels.Parts.{IsPartOf, IsSomePart}
use Rattle.interp_share.proofs.rank_points.Pushing.{local-seen}
use Rattle.interp_share.specs.Known.{known}
use Rattle.interp_share.proofs.Ranked.{is-part, some-part, local-is, sets-are, sets-count, sets-few, four-labels, words-all}
use Rattle.interp_share.proofs.joining.points_of.Goals as goal

pub part_labels-requires-clause-given : goal.part_labels-requires-clause-given
part_labels-requires-clause-given c =
    let (m, dofs, a, n, is) = c.requires.some in
    subst IsSomePart (sym c.part-part.ensures.part) (some-part c.args.scatter.now m dofs a n is c.args.rank c.requires.rank)

pub part_labels-requires-clause-local : goal.part_labels-requires-clause-local
part_labels-requires-clause-local c =
    let part = part_at c.args.scatter.now.parts c.args.rank in
    c.finder.ensures ∙ local-seen c.args.seen part.cells c.requires.seen ∙ ap (λ (p : ScatterPart). local_points p.cells) (sym c.part-part.ensures.part)

pub of-requires : goal.of-requires
of-requires c =
    let s = c.args.scatter.now in
    let r = c.args.rank in
    let (m, dofs, a, n, is) = c.requires.some in
    let points = own_chart m (assigned m a r) in
    let labels = c.in_ok-labels.ensures m a n r (subst (λ p. IsPartOf p m a n r) (sym c.part-part.ensures.part) (is-part s m dofs a n is r c.requires.rank)) in
    let count : length c.args.sets ≡ length points = ap length c.requires.sets ∙ sets-count s m dofs a n is r c.requires.rank in
    record {
      few_points = subst (λ l. length l < 2 ^ 32) (sym c.requires.sets) (sets-few s m dofs a n is r c.requires.rank);
      labels = ap length labels ∙ four-labels m points;
      fields = subst (AllByRecursion (λ (f : List (List ℕ)). length f ≡ length c.args.sets)) (sym (c.requires.fields.are m dofs a n is))
          (all_weaker (λ (f : List (List ℕ)). length f ≡ length points) (λ (f : List (List ℕ)). length f ≡ length c.args.sets) (λ f e. e ∙ sym count) (fields m dofs points) (words-all m dofs points));
    }

pub returns : goal.returns
unfolding known
returns c = record {
  is = λ m dofs a n is.
      let s = c.args.scatter.now in
      let r = c.args.rank in
      let part = part_at s.parts r in
      let local = c.into_local.ensures ∙ local-seen c.args.seen part.cells c.requires.seen ∙ local-is s m dofs a n is r c.requires.rank in
      let sets = c.requires.sets ∙ sets-are s m dofs a n is r c.requires.rank in
      let labels = c.in_ok-labels.ensures m a n r (subst (λ p. IsPartOf p m a n r) (sym c.part-part.ensures.part) (is-part s m dofs a n is r c.requires.rank)) in
      c.of.ensures ∙ (λ i. record { local = local i; sets = sets i; labels = labels i; fields = c.requires.fields.are m dofs a n is i });
}
