-- Whether there is a value, and whether there still is when it is seen another way.
use Rattle.std.proofs.Common.{◌≡◌, Bool, true, false, not, Some, None, refl}
use Rattle.std.specs.Prelude.{Option, is_some, is_none, option_map}

pub none-map : {A B : Type 0} (f : A → B) (o : Option A) → is_none o ≡ is_none (option_map f o)
none-map f (Some x) = refl
none-map f None = refl

pub some-map : {A B : Type 0} (f : A → B) (o : Option A) → is_some o ≡ is_some (option_map f o)
some-map f (Some x) = refl
some-map f None = refl

-- a call that answers whether there is none
pub none-is : {A : Type 0} (o : Option A) (b : Bool) → is_some o ≡ not b → b ≡ is_none o
none-is (Some x) true e = absurd (cc e)
none-is (Some x) false e = refl
none-is None true e = refl
none-is None false e = absurd (cc e)
