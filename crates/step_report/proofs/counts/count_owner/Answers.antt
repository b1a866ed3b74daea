use Rattle.std.proofs.Common.{◌+◌, ◌<◌, cond, ◌==◌, length, sym, ap, ◌∙◌, arith}
use Rattle.std.proofs.Math.ListN.{length-set}
use Rattle.step_report.specs.Counts.{is_of, owned_before}
use Rattle.step_report.proofs.Placing.{count-le}
use Rattle.step_report.proofs.Counting.{get_or-counted, count-one}
use Rattle.step_report.proofs.counts.count_owner.Goals as goal

pub overflow_add-counts : goal.overflow_add-counts
overflow_add-counts c =
    let k = c.owner.result in
    let low : k < 64 = omega (arith, c.owner.ensures, c.requires.owner) in
    omega (arith, c.requires.counted.each k low, count-le (is_of c.args.local.now k) c.args.p, c.requires.last)

pub returns : goal.returns
returns c =
    let l = c.args.local.now in
    let k = c.owner.result in
    let counts = c.args.counts.now in
    let low : k < length counts = omega (arith, c.owner.ensures, c.requires.owner, c.requires.counted.many) in
    record {
      many = length-set counts k _ ∙ c.requires.counted.many;
      each = λ o lt.
          get_or-counted counts k o low ∙ ap (λ n. n + cond (k == o) 1 0) (c.requires.counted.each o lt) ∙ ap (λ j. length (owned_before l o c.args.p) + cond (j == o) 1 0) c.owner.ensures
          ∙ sym (count-one (is_of l o) c.args.p);
    }
