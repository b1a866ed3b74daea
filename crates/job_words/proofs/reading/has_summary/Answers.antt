use Rattle.std.proofs.Common.{◌∙◌, sym, ap, codes, false}
use Rattle.std.specs.Option.{option_map_or}
use Rattle.clap.specs.Matches.{found_of}
use Rattle.plain_lists.specs.Lists.{same_list}
use Rattle.job_words.proofs.Getters.{flag_read}
use Rattle.job_words.proofs.reading.has_summary.Goals as goal

pub returns-in-Some : goal.returns-in-Some
returns-in-Some c =
    c.eq.ensures ∙ (sym (ap (λ o. option_map_or (λ t. same_list t.now (codes "true")) o false) c.in-Some.is) ∙ flag_read (found_of c.args.matches.now) c.get_str.result c.get_str.ensures)

pub returns-in-None : goal.returns-in-None
returns-in-None c = sym (ap (λ o. option_map_or (λ t. same_list t.now (codes "true")) o false) c.in-None.is) ∙ flag_read (found_of c.args.matches.now) c.get_str.result c.get_str.ensures
