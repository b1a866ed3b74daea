use Rattle.std.proofs.Common.{◌∙◌, map, string_bytes, subst, sym}
use Rattle.clap.specs.Matches.{found_of}
use Rattle.clap.specs.Walk.{rows_of}
use Rattle.input_laws.proofs.command_laws.SideBySide.{dashes_refused}
use Rattle.job_words.specs.Asking.{IsMatched}
use Rattle.job_words.proofs.Matched.{no_request, request_is}
use Rattle.job_words.proofs.reading.read_words.Goals as goal

pub returns-then-has_dashes : goal.returns-then-has_dashes
returns-then-has_dashes c = sym (dashes_refused (map string_bytes c.args.words.now) (sym c.has_dashes.ensures ∙ c.if-has_dashes.true))

pub returns-in_default : goal.returns-in_default
returns-in_default c =
    let texts = map string_bytes c.args.words.now in
    no_request texts (sym c.has_dashes.ensures ∙ c.if-has_dashes.false) (subst (IsMatched texts) c.in_default.is c.in_ok-matches.ensures)

pub returns : goal.returns
returns c =
    let texts = map string_bytes c.args.words.now in
    let m = subst (IsMatched texts) c.in-Some.is c.in_ok-matches.ensures in
    c.request_of.ensures ∙ request_is texts (rows_of (found_of c.in-Some.matches)) (sym c.has_dashes.ensures ∙ c.if-has_dashes.false) m.0 m.1
