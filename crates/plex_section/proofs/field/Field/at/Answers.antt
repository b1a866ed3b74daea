use Rattle.std.proofs.Common.{length, arith, ap}
use Rattle.std.proofs.lemmas.Grind.{common_steps}
use Rattle.plex_section.proofs.Words.{length-words_by, get_or-words_by}
use Rattle.plex_section.proofs.field.Field.at.Goals as goal

pub offset-start-requires : goal.offset-start-requires
offset-start-requires c = let count = length-words_by c.self.inside.section c.self.inside.words.items in let same = ap length c.self.view_is in omega (arith, c.requires)

pub dof-requires : goal.dof-requires
dof-requires c = let count = length-words_by c.self.inside.section c.self.inside.words.items in let same = ap length c.self.view_is in omega (arith, c.requires)

pub returns : goal.returns
returns c =
    let count = length-words_by c.self.inside.section c.self.inside.words.items in
    let same = ap length c.self.view_is in
    let words = get_or-words_by c.self.inside.section c.self.inside.words.items c.args.p (omega (arith, c.requires)) in
    grind (arith, common_steps)
