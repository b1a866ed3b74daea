use Rattle.std.proofs.Common.{ap, take}
use Rattle.std.specs.Prelude.{◌==◌}
use Rattle.job_words.proofs.WordLemmas.{all_before, none_after, rest_after}
use Rattle.job_words.proofs.made.split_at_colon.Goals as goal

pub returns-then-end-word-clause-before : goal.returns-then-end-word-clause-before
returns-then-end-word-clause-before c = all_before (λ b. b == 58) c.args.word.now c.end_of_kind-end.result c.end_of_kind-end.ensures.value c.if-end-word.true

pub returns-then-end-word-clause-after : goal.returns-then-end-word-clause-after
returns-then-end-word-clause-after c = none_after (λ b. b == 58) c.args.word.now c.end_of_kind-end.result c.end_of_kind-end.ensures.value c.if-end-word.true

pub returns-clause-before : goal.returns-clause-before
returns-clause-before c = ap (λ n. take n c.args.word.now) c.end_of_kind-end.ensures.value

pub returns-clause-after : goal.returns-clause-after
returns-clause-after c = rest_after (λ b. b == 58) c.args.word.now c.end_of_kind-end.result c.end_of_kind-end.ensures.value
