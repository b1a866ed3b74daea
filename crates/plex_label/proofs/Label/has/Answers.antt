use Rattle.std.proofs.Common.{◌∙◌, ap, to_z, of_z, w32}
use Rattle.std.proofs.lemmas.Int.{to_z-of_z}
use Rattle.plex_defs.specs.Labels.{has_pair}
use Rattle.plex_label.proofs.Pairs.{found-pair}
use Rattle.plex_label.proofs.Label.has.Goals as goal

pub returns : goal.returns
returns c =
    rw (← c.self.view_is)
    (c.contains.ensures ∙ found-pair c.self.inside.pairs.keys (c.args.p, to_z w32 (of_z w32 c.args.value))
    ∙ ap (λ v. has_pair c.self.inside.pairs.keys (c.args.p, v)) (to_z-of_z w32 c.args.value c.ranges.value))
