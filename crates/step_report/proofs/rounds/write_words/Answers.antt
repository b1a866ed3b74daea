use Rattle.std.proofs.Common.{◌≡◌, ◌<◌, ℕ, List, length, ap, arith}
use Rattle.std.specs.Prelude.{flat_map, get_or}
use Rattle.plain_lists.specs.Lists.{below}
use Rattle.sf_defs.specs.Rounds.{in_order}
use Rattle.headline_defs.specs.Lines.{window_line}
use Rattle.headline_defs.specs.StepText.{windows_text}
use Rattle.step_report.proofs.Going.{going-next, going-stop, below-more}
use Rattle.step_report.proofs.rounds.write_words.Goals as goal

pub returns-in_err-write_word : goal.returns-in_err-write_word
unfolding windows_text
returns-in_err-write_word g c =
    let r = c.args.round.now in
    let text : ℕ → List ℕ = λ w. window_line c.args.name.now w (get_or r.before w 0) (get_or r.after w 0) (in_order r w) in
    let many = ap length c.before-2.ensures in
    let low : c.loop-word.word < length r.before = omega (arith, many) in
    going-stop (λ (k : ℕ). flat_map text (below k)) text (below-more text) c.loop-word.word (length r.before) c.from_residual.result c.from_residual.ensures.1 low c.loop-word.invariant c.in_err-write_word.ensures

pub loop-word-preserved : goal.loop-word-preserved
loop-word-preserved g c =
    let r = c.args.round.now in
    let text : ℕ → List ℕ = λ w. window_line c.args.name.now w (get_or r.before w 0) (get_or r.after w 0) (in_order r w) in
    going-next (λ (k : ℕ). flat_map text (below k)) text (below-more text) c.loop-word.word c.loop-word.invariant c.in_ok-write_word.ensures

pub returns : goal.returns
unfolding windows_text
returns g c =
    let many = ap length c.before-2.ensures in
    let all : c.loop-word.word ≡ length c.args.round.now.before = omega (arith, many) in
    rw all at c.loop-word.invariant
