-- Rows that a reader returned for the places of wanted ones.
use Rattle.std.proofs.Common.{◌≡◌, ℕ, List, [], ◌∷◌, ◌++◌, refl, subst, sym}
use Rattle.std.specs.Prelude.{Option, Some}
use Rattle.std.specs.Option.{option_to_list}
use Rattle.std.specs.List.{AllZip}
use Rattle.std.proofs.lemmas.List.Elements.{AllZip-push}
use Rattle.rf2_values.specs.Row.{RowValue}
use Rattle.history_model.specs.declared.stamped.StampedRow.{StampedRow}
use Rattle.segment.specs.declared.place.RowPlace.{RowPlace}
use Rattle.segment.specs.Standing.{StandsAt}
use Rattle.as_of_index.specs.Reader.{ReaderView, IsReturned, IsReadFor}
use Rattle.as_of_index.proofs.Reading.{HasRead}

pub zip_append : {A B : Type 0} (R : A → B → Type 0) (xs us : List A) (ys vs : List B) → AllZip R xs ys → AllZip R us vs → AllZip R (xs ++ us) (ys ++ vs)
zip_append R [] us [] vs each more = more
zip_append R [] us (y ∷ ys) vs each more = absurd each
zip_append R (x ∷ xs) us [] vs each more = absurd each
zip_append R (x ∷ xs) us (y ∷ ys) vs each more = (each.0, zip_append R xs us ys vs each.1 more)

pub zip_weaker : {A B : Type 0} (R Q : A → B → Type 0) → ((x : A) (y : B) → R x y → Q x y) → (xs : List A) (ys : List B) → AllZip R xs ys → AllZip Q xs ys
zip_weaker R Q so [] [] each = tt
zip_weaker R Q so [] (y ∷ ys) each = absurd each
zip_weaker R Q so (x ∷ xs) [] each = absurd each
zip_weaker R Q so (x ∷ xs) (y ∷ ys) each = (so x y each.0, zip_weaker R Q so xs ys each.1)

module _ {old now : ReaderView} (so_far : HasRead old now) where
  returned_before : (segment : ℕ) (at : RowPlace) (row : StampedRow) → IsReturned now segment at row → IsReturned old segment at row
  returned_before segment at row r = record {
    keyed = r.keyed;
    may_be = so_far.steady segment at row r.may_be;
    exact = λ honest there stands. r.exact (so_far.honesty honest) there (subst (λ lists. StandsAt lists segment at there) (sym so_far.lists) stands);
  }

  read_before : (row wanted : RowValue) → IsReadFor now row wanted → IsReadFor old row wanted
  read_before row wanted r = record {
    segment = r.segment;
    at = r.at;
    there = r.there;
    wanted_is = r.wanted_is;
    read = r.read;
    row_is = r.row_is;
    stands = subst (λ lists. StandsAt lists r.segment r.at r.there) so_far.lists r.stands;
    returned = returned_before r.segment r.at r.read r.returned;
  }

  -- rows, and further ones that were read after them
  pub reads_on_to : (rows right more wanted : List RowValue) → AllZip (IsReadFor old) rows right → AllZip (IsReadFor now) more wanted → AllZip (IsReadFor old) (rows ++ more) (right ++ wanted)
  reads_on_to rows right more wanted each those = zip_append (IsReadFor old) rows more right wanted each (zip_weaker (IsReadFor now) (IsReadFor old) read_before more wanted those)

  module _ {segment : ℕ} {at : RowPlace} {row there : StampedRow} (stands : StandsAt old.lists segment at there) (returned : IsReturned now segment at row) where
    read_for : IsReadFor old row.row there.row
    read_for = record { segment = segment; at = at; there = there; wanted_is = refl; stands = stands; read = row; row_is = refl; returned = returned_before segment at row returned }

    pub reads_more : (rows right : List RowValue) → AllZip (IsReadFor old) rows right → AllZip (IsReadFor old) (rows ++ row.row ∷ []) (right ++ there.row ∷ [])
    reads_more rows right each = AllZip-push (IsReadFor old) rows right row.row there.row each read_for

    pub reads_one : (answer : Option RowValue) → answer ≡ Some there.row → AllZip (IsReadFor old) (option_to_list (Some row.row)) (option_to_list answer)
    reads_one answer is = subst (λ o. AllZip (IsReadFor old) (row.row ∷ []) (option_to_list o)) (sym is) (read_for, tt)
