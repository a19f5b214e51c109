-- Lists in ascending order that grow at their end.
use Rattle.std.proofs.Common.{◌≡◌, ◌+◌, ◌-◌, ◌≤◌, List, [], ◌∷◌, ◌++◌, length, take, get_or, sym, ap, ◌∙◌, arith}
use Rattle.std.specs.List.{AllByRecursion}
use Rattle.std.specs.Cmp.{IsTotalOrder}
use Rattle.std.specs.declared.cmp.Ordering.{Ordering}
use Rattle.std.specs.declared.cmp.Ordering.TheVariants.{Less}
use Rattle.std.proofs.lemmas.List.{take_more, take_all}
use Rattle.list_lemmas.proofs.Each.{each_of_pushed, each_at_middle}
use Rattle.history_model.specs.InOrder.{IsAscending}

all_front : {X : Type 0} (P : X → Type 0) (xs : List X) (y : X) (ys : List X) → AllByRecursion P (xs ++ y ∷ ys) → AllByRecursion P (xs ++ y ∷ [])
all_front P [] y ys all = (all.0, tt)
all_front P (x ∷ xs) y ys all = (all.0, all_front P xs y ys all.1)

-- what is above the last is above all
pub ascends_push : {X : Type 0} {cmp : X → X → Ordering} (o : IsTotalOrder cmp) (xs : List X) (l y : X) → IsAscending cmp (xs ++ l ∷ []) → cmp l y ≡ Less → IsAscending cmp ((xs ++ l ∷ []) ++ y ∷ [])
ascends_push o [] l y up below = ((below, tt), (tt, tt))
ascends_push {X} {cmp} o (x ∷ xs) l y up below =
    (each_of_pushed (λ (z : X). cmp x z ≡ Less) (xs ++ l ∷ []) y up.0 (o.trans x l y (each_at_middle (λ (z : X). cmp x z ≡ Less) xs l [] up.0) below), ascends_push o xs l y up.1 below)

pub last_below : {X : Type 0} (cmp : X → X → Ordering) (xs : List X) (l y : X) → IsAscending cmp ((xs ++ l ∷ []) ++ y ∷ []) → cmp l y ≡ Less
last_below cmp [] l y up = up.0.0
last_below cmp (x ∷ xs) l y up = last_below cmp xs l y up.1

pub ascends_front : {X : Type 0} (cmp : X → X → Ordering) (xs : List X) (y : X) (ys : List X) → IsAscending cmp (xs ++ y ∷ ys) → IsAscending cmp (xs ++ y ∷ [])
ascends_front cmp [] y ys up = (tt, tt)
ascends_front {X} cmp (x ∷ xs) y ys up = (all_front (λ (z : X). cmp x z ≡ Less) xs y ys up.0, ascends_front cmp xs y ys up.1)

pub last_split : {X : Type 0} (xs : List X) (l : X) → 1 ≤ length xs → l ≡ get_or xs (length xs - 1) l → xs ≡ take (length xs - 1) xs ++ l ∷ []
last_split {X} xs l some is =
    let whole : length xs - 1 + 1 ≡ length xs = omega arith in
    sym (take_all (length xs - 1 + 1) xs (omega arith)) ∙ take_more xs (length xs - 1) l (omega arith) ∙ ap (λ (z : X). take (length xs - 1) xs ++ z ∷ []) (sym is)
