use Rattle.std.proofs.Common.{map, string_bytes}
use Rattle.clap.specs.Simple.{app_of}
use Rattle.job_words.proofs.Matched.{refused}
use Rattle.job_words.proofs.command.matches_of.Goals as goal

pub returns-in_ok-only_refused-in-Err : goal.returns-in_ok-only_refused-in-Err
returns-in_ok-only_refused-in-Err c =
    refused (app_of c.in_ok-command.field-0) (map string_bytes c.args.words.now) c.in-Err.error c.in_ok-command.ensures c.in-Err.ensures.kinds c.in_ok-only_refused-in-Err.ensures
