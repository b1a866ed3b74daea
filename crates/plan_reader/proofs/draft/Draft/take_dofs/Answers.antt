use Rattle.std.proofs.Common.{◌≡◌, ◌∙◌, sym, ap, true, false, rules}
use Rattle.input_defs.specs.Plans.{Before}
use Rattle.plan_reader.proofs.Takes.{is_wrong, dofs-wrong, dofs-right, counts-right}
use Rattle.plan_reader.proofs.draft.Draft.take_dofs.Goals as goal

pub returns-then-is_wrong : goal.returns-then-is_wrong
returns-then-is_wrong c =
    let test : is_wrong c.self.inside.dofs.items c.args.name.now c.args.dofs ≡ true = rw (← c.deref.ensures.value) (sym c.is_wrong.ensures ∙ c.if-is_wrong.true) in
    λ _. dofs-wrong c.args.self.now c.args.line c.args.name.now c.args.dofs c.self.inside.dofs.items (ap (λ (d : Before). d.dofs) (sym c.self.view_is)) test

pub returns : goal.returns
returns c =
    let test : is_wrong c.self.inside.dofs.items c.args.name.now c.args.dofs ≡ false = rw (← c.deref.ensures.value) (sym c.is_wrong.ensures ∙ c.if-is_wrong.false) in
    rw (dofs-right c.args.self.now c.args.line c.args.name.now c.args.dofs c.self.inside.dofs.items (ap (λ (d : Before). d.dofs) (sym c.self.view_is)) test) c.add_dofs.ensures

pub add_dofs-requires : goal.add_dofs-requires
add_dofs-requires c =
    let test : is_wrong c.self.inside.dofs.items c.args.name.now c.args.dofs ≡ false = rw (← c.deref.ensures.value) (sym c.is_wrong.ensures ∙ c.if-is_wrong.false) in
    counts-right c.args.self.now c.args.name.now c.args.dofs c.self.inside.dofs.items (ap (λ (d : Before). d.dofs) (sym c.self.view_is)) (search rules) test c.self.invariant.few_words
