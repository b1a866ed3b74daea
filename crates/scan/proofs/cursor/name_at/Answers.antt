use Rattle.std.proofs.Common.{refl, ap, ◌∙◌}
use Rattle.input_defs.specs.scan_defs.Lines.{back}
use Rattle.scan.proofs.Places.{line-slice, name-within}
use Rattle.scan.proofs.cursor.name_at.Goals as goal

pub returns-clause-name : goal.returns-clause-name
returns-clause-name c =
    let e = c.trimmed_end.ensures ∙ ap back (line-slice c.args.bytes.now c.args.at.place c.line_end.result c.line_end.ensures.end) in
    rw e refl

pub returns-clause-within : goal.returns-clause-within
returns-clause-within c =
    let e = c.trimmed_end.ensures ∙ ap back (line-slice c.args.bytes.now c.args.at.place c.line_end.result c.line_end.ensures.end) in
    rw e (name-within c.args.bytes.now c.args.at c.requires.at c.requires.inside c.requires.header)
