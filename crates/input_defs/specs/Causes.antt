-- Answers that are something or a fault, and the first of several causes.
use Rattle.std.specs.Prelude.{Bool, if◌then◌else◌, List, find, Option, Some, None, option_map, Result, Ok, Err}

abbrev pub map_ok : {A B E : Type 0} → (A → B) → Result A E → Result B E
map_ok f (Ok x) = Ok (f x)
map_ok f (Err e) = Err e

infixl 10 ◌>>=◌
abbrev pub ◌>>=◌ : {A B E : Type 0} → Result A E → (A → Result B E) → Result B E
(Ok x) >>= k = k x
(Err e) >>= k = Err e

-- this where the test holds, else the fault
abbrev pub ok_where : {E A : Type 0} → Bool → A → E → Result A E
ok_where test x e = if test then Ok x else Err e

-- the first cause that stands, of some in their order
abbrev pub first_cause : {E : Type 0} → List (Bool × E) → Option E
first_cause causes = option_map (λ cause. cause.1) (find (λ cause. cause.0) causes)

-- this, unless there is a fault
abbrev pub unless : {A E : Type 0} → Option E → A → Result A E
unless (Some e) x = Err e
unless None x = Ok x
