use Rattle.std.proofs.Common.{sym, ap, ◌∙◌}
use Rattle.input_defs.specs.scan_defs.Items.{Spot}
use Rattle.input_defs.specs.scan_defs.Lines.{line_number}
use Rattle.input_laws.proofs.reading_laws.Blocks.{blocks-some, blocks-none, last-same, last-is}
use Rattle.msh_reader.proofs.headers.next_header.Goals as goal

pub returns-in-Some-clause-block : goal.returns-in-Some-clause-block
returns-in-Some-clause-block c = blocks-some _ _ c.in-Some.token _ (sym c.in-Some.is ∙ c.header.ensures.name) c.header.ensures.ahead c.header.ensures.bytes c.text.ensures

pub returns-in-Some-clause-file : goal.returns-in-Some-clause-file
returns-in-Some-clause-file c = last-same _ _ c.header.ensures.bytes

pub returns-in-None-clause-none : goal.returns-in-None-clause-none
returns-in-None-clause-none c = blocks-none _ (sym c.in-None.is ∙ c.header.ensures.name)

pub returns-in-None-clause-end : goal.returns-in-None-clause-end
returns-in-None-clause-end c = c.line.ensures ∙ ap (λ (s : Spot). line_number s.bytes s.place) c.in-None.ensures.stands ∙ last-is c.args.scan.now

pub returns-in-None-clause-file : goal.returns-in-None-clause-file
returns-in-None-clause-file c = last-same _ _ c.header.ensures.bytes
