-- What is kept of the words of a call, as the definition sees it.
use Rattle.std.specs.Prelude.{◌≡◌, ℕ, List, [], Option, option_map, false, MatchOption}
use Rattle.std.specs.Borrow.{Bor}
use Rattle.clap.specs.Faults.{fault_of}
use Rattle.clap.specs.Matches.{found_of}
use Rattle.clap.specs.Simple.{matches_of}
use Rattle.clap.specs.Walk.{rows_of, texts}
use Rattle.std.specs.Option.{option_map_or}
use Rattle.clap.specs.declared.parser.matches.ArgMatches.{ArgMatches}
use Rattle.input_laws.specs.command_laws.Command.{command, passes}
use Rattle.input_defs.specs.declared.Kind.{Kind}
use Rattle.input_defs.specs.Words as words
use Rattle.job_words.specs.declared.asked.Source.{Source}
use Rattle.job_words.specs.declared.asked.Source.TheVariants as source
use Rattle.job_words.specs.declared.asked.Request.{Request}

abbrev pub text_of : Bor (List ℕ) → List ℕ
text_of text = text.now

abbrev pub made_view : Kind × ℕ → words.Source
made_view made = words.Made made.0 made.1

abbrev pub source_view : Source → words.Source
source_view (source.File name) = words.File name.now
source_view (source.Made kind n) = words.Made kind n

abbrev pub request_view : Request → words.Request
request_view r = record { plan = option_map text_of r.plan; source = source_view r.source; summary = r.summary }

-- the values of an argument, or none
abbrev pub texts_in : Option (Bor (List (Bor (List ℕ)))) → List (List ℕ)
texts_in values = option_map_or (λ vs. texts vs.now) values []

-- the matches of the words, where the command takes them
abbrev pub IsMatched : List (List ℕ) → Option ArgMatches → Type 0
IsMatched texts matches = MatchOption matches (passes (fault_of command texts) ≡ false)
    (λ m. (fault_of command texts ≡ []) × (rows_of (found_of m) ≡ matches_of command texts))
