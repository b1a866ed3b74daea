use Rattle.std.proofs.Common.{sym, ap, ◌∙◌}
use Rattle.std.specs.Result.{result_ok}
use Rattle.plex_job.proofs.PickLemmas.{numeral-long, numeral-padded, numeral-read}
use Rattle.plex_job.proofs.picks.pick.Goals as goal

pub returns-then-token-gt-MAX_DIGITS : goal.returns-then-token-gt-MAX_DIGITS
returns-then-token-gt-MAX_DIGITS c = sym (numeral-long c.args.token.now c.if-token-gt-MAX_DIGITS.true)

pub returns-then-is_padded : goal.returns-then-is_padded
returns-then-is_padded c = sym (numeral-padded c.args.token.now (sym c.is_padded.ensures ∙ c.if-is_padded.true))

pub returns : goal.returns
returns c = c.ok.ensures.value ∙ ap result_ok c.read_uint.ensures ∙ numeral-read c.args.token.now c.if-token-gt-MAX_DIGITS.false (sym c.is_padded.ensures ∙ c.if-is_padded.false)
