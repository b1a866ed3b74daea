use Rattle.std.proofs.Common.{◌≡◌, ◌+◌, ◌<◌, true, false, cond, ◌==◌, length, sym, ap, ◌∙◌, arith}
use Rattle.std.specs.Prelude.{count_by}
use Rattle.std.proofs.Math.ListN.{length-set}
use Rattle.std.proofs.lemmas.Bool.{eq-eqb, ne_eqb}
use Rattle.mesh_defs.specs.declared.Poly.{Poly}
use Rattle.mesh_defs.specs.Tables.{dim_of}
use Rattle.mesh_defs.specs.Diagram.{Diagram}
use Rattle.plex_defs.specs.Closure.{point_in}
use Rattle.walk_defs.specs.step_defs.Points.{poly_of}
use Rattle.step_report.specs.Counts.{is_of, has_dim, owned_before}
use Rattle.step_report.proofs.Placing.{count-shown, count-hidden, count-le}
use Rattle.step_report.proofs.Counting.{get_or-counted, count-two, count-stays, dim-few}
use Rattle.step_report.proofs.counts.Counts.count.Goals as goal

pub overflow_add-self : goal.overflow_add-self
overflow_add-self c = omega (arith, c.requires.counted.owned, count-le (is_of c.args.local.now c.args.rank) c.args.p, c.requires.last)

pub returns-then-owner-rank : goal.returns-then-owner-rank
returns-then-owner-rank c =
    let l = c.args.local.now in
    let own : is_of l c.args.rank c.args.p ≡ true = eq-eqb _ _ (sym c.owner.ensures ∙ c.if-owner-rank.true) in
    let dim : c.dim.result ≡ dim_of (poly_of l c.args.p) =
    c.dim.ensures ∙ ap (λ (x : Poly). dim_of x) (c.poly_of.ensures.value ∙ ap (λ (g : Diagram). (point_in g c.args.p).poly) c.plex-plex.ensures.plex) in
    let small : c.dim.result < length c.args.self.now.by_dim = omega (arith, dim, dim-few (poly_of l c.args.p), c.requires.counted.many) in
    record {
      owned = ap (λ n. n + 1) c.requires.counted.owned ∙ sym (count-shown (is_of l c.args.rank) c.args.p own);
      many = length-set c.args.self.now.by_dim c.dim.result _ ∙ c.requires.counted.many;
      by_dim = λ d lt.
          get_or-counted c.args.self.now.by_dim c.dim.result d small ∙ ap (λ n. n + cond (c.dim.result == d) 1 0) (c.requires.counted.by_dim d lt)
          ∙ ap (λ j. count_by (has_dim l d) (owned_before l c.args.rank c.args.p) + cond (j == d) 1 0) dim ∙ sym (count-two (has_dim l d) (is_of l c.args.rank) c.args.p own);
    }

pub returns-else-owner-rank : goal.returns-else-owner-rank
returns-else-owner-rank c =
    let l = c.args.local.now in
    let other : is_of l c.args.rank c.args.p ≡ false = ne_eqb _ _ (λ e. c.if-owner-rank.false (c.owner.ensures ∙ e)) in
    record {
      owned = c.requires.counted.owned ∙ sym (count-hidden (is_of l c.args.rank) c.args.p other);
      many = c.requires.counted.many;
      by_dim = λ d lt. c.requires.counted.by_dim d lt ∙ sym (count-stays (has_dim l d) (is_of l c.args.rank) c.args.p other);
    }
