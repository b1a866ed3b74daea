use Rattle.std.proofs.Common.{◌≡◌, sym, refl, ◌∙◌, true, false}
use Rattle.input_defs.specs.scan_defs.Numbers.{uint_of}
use Rattle.input_defs.specs.Sections.{has_number}
use Rattle.msh_reader.specs.NumberSets.{numbers_of}
use Rattle.msh_reader.proofs.Going.{goes-tested}
use Rattle.msh_reader.proofs.elements.corner.Goals as goal

pub returns : goal.returns
returns c =
    let known : has_number (numbers_of c.args.known.now) c.in_ok-number.number ≡ true = sym c.knows.ensures ∙ c.if-not-knows.false in
    let fresh : has_number c.args.earlier.now c.in_ok-number.number ≡ false = sym c.contains.ensures.value ∙ c.if-contains.false in
    goes-tested uint_of _ c.in_ok-number.number (rw (known, fresh) refl) c.in_ok-number.ensures
