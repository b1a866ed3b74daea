-- The own twists of ranks that drew a mesh.
use Rattle.std.proofs.Common.{◌≡◌, ◌<◌, List, [], ◌∷◌, map, length, Option, Some, None, Result, Ok, Err, refl, ap, ◌∙◌, subst, arith}
use Rattle.std.specs.Prelude.{IfOk}
use Rattle.std.specs.List.{AllByRecursion}
use Rattle.std.proofs.lemmas.List.{length-map}
use Rattle.rank_defs.specs.Ranks.{least}
use Rattle.plex_base.specs.declared.key.PointKey.{PointKey}
use Rattle.rank_cones.specs.rank_drawings.Told.{PlainDrawing}
use Rattle.orient_iface.specs.dist_assembly.Drawn.{twist_in}
use Rattle.orient_iface.specs.iface_twist.Least.{numbers, greatest, AreOwnKeys}
use Rattle.orient_iface.specs.Drawn.{AreOfSome}

-- one for each of 1 to 64 ranks, and far below the greatest word
pub own-keys : (ds : List PlainDrawing) (own : List (Option PointKey)) → AreOfSome ds → own ≡ map twist_in ds → AllByRecursion (λ k. k < greatest) (numbers own) → AreOwnKeys own
own-keys ds own some is low = record {
  some_rank = omega (arith, count, some.are.assignment.some_rank);
  few_ranks = omega (arith, count, some.are.assignment.few_ranks);
  low = low;
}
  where
    count : length own ≡ some.n
    count = ap length is ∙ length-map ds twist_in ∙ some.are.drawings.count

-- without a least twist no rank has one
pub whole : (ds : List PlainDrawing) → least (numbers (map twist_in ds)) ≡ None → AllByRecursion (λ d. twist_in d ≡ None) ds
whole [] none = tt
whole (d ∷ ds) none = go (twist_in d) refl (whole ds)
  where
    Rest : Type 0
    Rest = least (numbers (map twist_in ds)) ≡ None → AllByRecursion (λ e. twist_in e ≡ None) ds

    with_head : (o : Option PointKey) → twist_in d ≡ o → least (numbers (o ∷ map twist_in ds)) ≡ None
    with_head o e = subst (λ o. least (numbers (o ∷ map twist_in ds)) ≡ None) e none

    go : (o : Option PointKey) → twist_in d ≡ o → Rest → AllByRecursion (λ e. twist_in e ≡ None) (d ∷ ds)
    go None e rest = (e, rest (with_head None e))
    go (Some key) e rest = absurd (let taken = with_head (Some key) e in cc taken)

-- what is said of successes alone
pub if-ok : {X Y : Type 0} (P Q : X → Type 0) (r : Result X Y) → ((x : X) → P x → Q x) → IfOk r P → IfOk r Q
if-ok P Q (Ok x) h p = h x p
if-ok P Q (Err y) h p = tt
