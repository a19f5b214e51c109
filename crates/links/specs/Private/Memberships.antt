-- Definitions about members of reference sets, for private functions and proofs. No public clause
-- cites them.
use Rattle.std.specs.Prelude.{◌≡◌, ◌≤◌, ◌<◌, ◌++◌, ℕ, Bool, true, List, [], ◌∷◌, length}
use Rattle.std.specs.Prelude.{take, drop, nat_lt, Option, Some, None}
use Rattle.std.specs.List.{filter, AllByRecursion}
use Rattle.history_model.specs.declared.stamped.StampedRow.{StampedRow}
use Rattle.as_of_index.specs.declared.as_of.AsOf.{AsOf}
use Rattle.as_of_index.specs.declared.chosen.Chosen.{Chosen}
use Rattle.as_of_index.specs.Private.Chosen.{chosen_cmp}
use Rattle.links.specs.declared.posting.Tag.TheVariants as tags
use Rattle.links.specs.declared.posting.Posting.{Posting}
use Rattle.links.specs.declared.wanted.Seconds.{Seconds}
use Rattle.links.specs.declared.wanted.Seconds.TheVariants as seconds
use Rattle.links.specs.declared.wanted.Wanted.{Wanted}
use Rattle.links.specs.declared.finding.Asked.{Asked}
use Rattle.links.specs.Private.Asking.{placed_cmp, AreFound}

-- the members of a reference set whose components have these numbers; the active ones, or all
abbrev pub members_with : ℕ → Seconds → Bool → Wanted
members_with refset those active =
    record { tag = tags.Member; first = refset; seconds = those; active = active }

-- the wanted ones with ids greater than `after` and at most `last`, if these are given
abbrev pub asked_above : Wanted → AsOf → Option ℕ → Option ℕ → Asked
asked_above wanted as_of after last =
    record { wanted = wanted; above = after; up_to = last; as_of = as_of }

-- the active members that refer to a component greater than `after` and at most `last`, if these
-- are given
abbrev pub asked_values : ℕ → AsOf → Option ℕ → Option ℕ → Asked
asked_values refset as_of after last =
    record {
      wanted = members_with refset (seconds.Between after last) true;
      above = None;
      up_to = None;
      as_of = as_of;
    }

-- the active members that refer to this component
abbrev pub asked_about : ℕ → AsOf → ℕ → Asked
asked_about refset as_of component =
    record {
      wanted = members_with refset (seconds.Only component) true;
      above = None;
      up_to = None;
      as_of = as_of;
    }

-- how many of the numbers are less than `d`
abbrev pub count_lesser : ℕ → List ℕ → ℕ
count_lesser d ds = length (filter (λ other. nat_lt other d) ds)

-- `count` of the sorted numbers are cut off: those that have fewer than `limit` smaller ones, that
-- is, the first `limit` and all that are equal to the last of these
pub record IsCutAt (limit : ℕ) (ds : List ℕ) (count : ℕ) : Type 0 where
  pub before : AllByRecursion (λ d. count_lesser d ds < limit) (take count ds)
  pub behind : AllByRecursion (λ d. limit ≤ count_lesser d ds) (drop count ds)

-- a place and the others after it, if there are others; otherwise nothing
abbrev pub with_members : Chosen → List Chosen → List Chosen
with_members k [] = []
with_members k (other ∷ others) = k ∷ other ∷ others

-- the places of the descriptions that have members, each followed by the places of its members
abbrev pub AreNamed : List (List StampedRow) → ℕ → AsOf → List (ℕ × Posting) → List Chosen
    → List Chosen → Type 0
AreNamed lists refset as_of xs [] kept = kept ≡ []
AreNamed lists refset as_of xs (k ∷ ks) kept = (those : List Chosen) × (rest : List Chosen)
    × AreFound placed_cmp lists (asked_about refset as_of k.at.key.id) xs those
    × (kept ≡ with_members k those ++ rest) × AreNamed lists refset as_of xs ks rest
