use Rattle.std.proofs.Common.{◌+◌, ◌≤◌, ◌≢◌, false, get_or, arith}
use Rattle.sf_fabric.specs.declared.orders.place.Place.{Place}
use Rattle.sf_fabric.proofs.orders.ByWord.{below-rises, below-within, before-below, past-below, word-past}
use Rattle.sf_fabric.proofs.orders.orders.past_word.Goals as goal

-- what stands where no place does
nowhere : Place
nowhere = record { word = 0; fetched = 0; changes = false; rank = 0; index = 0 }

pub loop-past-init : goal.loop-past-init
loop-past-init c = let rises = below-rises c.args.word c.args.places.now in record { low = omega arith; high = omega arith }

pub loop-past-preserved : goal.loop-past-preserved
unfolding nowhere
loop-past-preserved c =
    let below = before-below (c.args.word + 1) c.args.places.now c.loop-past.past nowhere c.requires.sorted c.loop-past-test.true (omega arith) in
    record { low = omega arith; high = omega arith }

pub returns-else-places-past : goal.returns-else-places-past
unfolding nowhere
returns-else-places-past c =
    let at : c.args.word ≤ (get_or c.args.places.now c.loop-past.past nowhere).word = word-past c.args.word c.args.places.now c.loop-past.past nowhere c.requires.sorted c.loop-past-test.true c.loop-past.invariant.low in
    let other : (get_or c.args.places.now c.loop-past.past nowhere).word ≢ c.args.word = c.if-places-past.false in
    let past = past-below (c.args.word + 1) c.args.places.now c.loop-past.past nowhere c.requires.sorted c.loop-past-test.true (omega arith) in
    omega arith

pub returns-after-loop-past : goal.returns-after-loop-past
returns-after-loop-past c = let within = below-within (c.args.word + 1) c.args.places.now in omega arith
