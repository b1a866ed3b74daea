use Rattle.std.proofs.Common.{◌≡◌, ◌<◌, ℕ, List, length, sym, ap, ◌∙◌, subst, arith}
use Rattle.std.specs.Prelude.{flat_map}
use Rattle.plain_lists.specs.Lists.{below}
use Rattle.plain_lists.proofs.Each.{all_at}
use Rattle.sf_defs.specs.Rounds.{IsLegal}
use Rattle.report.specs.report_lines.Windows.{HasEntries}
use Rattle.walk_defs.specs.step_defs.Steps.{plain_round}
use Rattle.step_report.proofs.Going.{going-next, going-stop, below-more}
use Rattle.step_report.proofs.Entering.{no_round, round_at, rounds-by_places, at-any, legal-entries}
use Rattle.step_report.proofs.rounds.write_rounds.Goals as goal

pub write_round-requires : goal.write_round-requires
write_round-requires g c =
    let rounds = c.args.rounds.now in
    let found : c.index-rounds-i.result ≡ round_at rounds c.loop-i.i = c.index-rounds-i.is ∙ at-any rounds c.loop-i.i c.index-rounds-i.result no_round c.loop-i-test.true in
    subst HasEntries (sym found) (legal-entries (round_at rounds c.loop-i.i) (all_at IsLegal rounds c.loop-i.i no_round c.requires c.loop-i-test.true))

pub returns-in_err-write_round : goal.returns-in_err-write_round
returns-in_err-write_round g c =
    let rounds = c.args.rounds.now in
    let text : ℕ → List ℕ = λ k. plain_round (round_at rounds k) in
    let low : c.loop-i.i < length rounds = c.loop-i-test.true in
    let found : c.index-rounds-i.result ≡ round_at rounds c.loop-i.i = c.index-rounds-i.is ∙ at-any rounds c.loop-i.i c.index-rounds-i.result no_round low in
    let same : plain_round c.index-rounds-i.result ≡ text c.loop-i.i = ap plain_round found in
    rw (rounds-by_places rounds)
    (going-stop (λ (k : ℕ). flat_map text (below k)) text (below-more text) c.loop-i.i (length rounds) c.from_residual.result c.from_residual.ensures.1 low c.loop-i.invariant (rw same at c.in_err-write_round.ensures))

pub loop-i-preserved : goal.loop-i-preserved
loop-i-preserved g c =
    let rounds = c.args.rounds.now in
    let text : ℕ → List ℕ = λ k. plain_round (round_at rounds k) in
    let found : c.index-rounds-i.result ≡ round_at rounds c.loop-i.i = c.index-rounds-i.is ∙ at-any rounds c.loop-i.i c.index-rounds-i.result no_round c.loop-i-test.true in
    let same : plain_round c.index-rounds-i.result ≡ text c.loop-i.i = ap plain_round found in
    going-next (λ (k : ℕ). flat_map text (below k)) text (below-more text) c.loop-i.i c.loop-i.invariant (rw same at c.in_ok-write_round.ensures)

pub returns : goal.returns
returns g c =
    let all : c.loop-i.i ≡ length c.args.rounds.now = omega arith in
    rw (rounds-by_places c.args.rounds.now) (rw all at c.loop-i.invariant)
