-- Postings of descriptions' terms.
use Rattle.std.specs.Prelude.{◌≡◌, ℕ, false, List, [], ◌∷◌}
use Rattle.std.specs.List.{AllByRecursion}
use Rattle.std.specs.Ordering.{nat_cmp, is_lt}
use Rattle.std.specs.Cmp.Lexicographic.{slice_cmp}

-- a folded term and the number of its row in its list
pub record TermAt : Type 0 where
  pub folded : List ℕ
  pub row : ℕ

-- no folding is less than one before it
abbrev pub TextsRise : List TermAt → Type 0
TextsRise [] = Unit {0}
TextsRise (t ∷ ts) =
    AllByRecursion (λ u. is_lt (slice_cmp nat_cmp u.folded t.folded) ≡ false) ts × TextsRise ts
