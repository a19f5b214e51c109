-- The least id of a kind, of one list.
use Rattle.std.proofs.Common.{◌≡◌, ℕ, true, false, List, [], refl, arith}
use Rattle.std.specs.Prelude.{◌==◌, Option, Some, None, slice_get}
use Rattle.std.proofs.lemmas.Bool.Decides.{nat_tests}
use Rattle.rf2_values.specs.declared.row.Kind.{Kind}
use Rattle.rf2_values.specs.Key.{kind_place}
use Rattle.history_model.specs.InOrder.{IsAscending}
use Rattle.segment.specs.declared.place.RowPlace.{RowPlace}
use Rattle.as_of_index.specs.declared.search.Start.TheVariants.{Components}
use Rattle.as_of_index.specs.Places.{place_cmp}
use Rattle.as_of_index.specs.Private.Search.{in_segment, is_before, SplitsAt, IsFirstFrom, IsNextId, id_of_kind}
use Rattle.as_of_index.proofs.Following.{next_nothing, next_more, next_of_list}
use Rattle.as_of_index.proofs.Paging.{next_id_is, next_id_other, next_id_none}

itself : (n : ℕ) → (n == n) ≡ true
itself n = grind (arith, nat_tests)

module _ (kind : Kind) (after : Option ℕ) where
  abbrev pub NextIds : List (ℕ × RowPlace) → Option ℕ → Type 0
  NextIds xs best = IsNextId kind after xs best

  id_found : (n : ℕ) (ps : List RowPlace) (found : Option RowPlace) → IsFirstFrom (Components kind after) (λ p. p) ps found → NextIds (in_segment n ps) (id_of_kind kind found)
  id_found n ps None r = next_id_none kind after (in_segment n ps) (next_more (Components kind after) n ps [] None None (next_nothing (Components kind after)) r)
  id_found n ps (Some p) r =
      let next = next_more (Components kind after) n ps [] None (Some p) (next_nothing (Components kind after)) r in
      elim (kind_place p.key.kind == kind_place kind) as (λ t. (kind_place p.key.kind == kind_place kind) ≡ t → NextIds (in_segment n ps) (elim t [ true ↦ Some p.key.id | false ↦ None ])) [
        | true ↦ λ e. next_id_is kind after (in_segment n ps) (n, p) next (rw e (itself p.key.id))
        | false ↦ λ e. next_id_other kind after (in_segment n ps) (n, p) next (rw e refl)
      ] refl

  -- where a search splits a list stands its least id
  pub id_of_list : (n : ℕ) (ps : List RowPlace) (i : ℕ) → IsAscending place_cmp ps → SplitsAt (is_before (Components kind after)) ps i → NextIds (in_segment n ps) (id_of_kind kind (slice_get ps i))
  id_of_list n ps i up split = id_found n ps (slice_get ps i) (next_of_list (Components kind after) ps i (slice_get ps i) up split refl)
