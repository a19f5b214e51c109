-- A version that is current is one up to the date that the pin shows.
use Rattle.std.proofs.Common.{◌≡◌, ℕ, ◌≤◌, List, map, ap, subst, arith}
use Rattle.rf2_values.specs.declared.key.Key.{Key}
use Rattle.rf2_values.specs.Key.{key_of}
use Rattle.history_model.specs.declared.stamped.StampedRow.{StampedRow}
use Rattle.history_model.specs.Lists.{listed}
use Rattle.history_model.proofs.Snapshots.{current_from_snapshot, Has-rows_at_cases, Has-listed_cases, listed_once}
use Rattle.history_model.proofs.Items.{Has-joined_at}
use Rattle.segment.specs.declared.place.RowPlace.{RowPlace}
use Rattle.segment.specs.Standing.{places_of}
use Rattle.segment.proofs.Posting.{says, row_there}
use Rattle.as_of_index.specs.declared.as_of.AsOf.{AsOf}
use Rattle.as_of_index.specs.Places.{ArePlaces}
use Rattle.as_of_index.specs.Current.{rows_seen, IsCurrentAt}
use Rattle.as_of_index.proofs.Among.{looked_up}
use Rattle.as_of_index.proofs.Standing.{are_lists}

pub current_is_early : (lists : List (List StampedRow)) → ArePlaces (map places_of lists) → (as_of : AsOf) (n : ℕ) (p : RowPlace) → IsCurrentAt lists as_of n p → (p.key.time ≤ as_of.date) × (p.import ≤ as_of.pin)
current_is_early lists are as_of n p now =
    let s = now.0 in
    let stands = now.1 in
    let is = says 0 stands.rows (s, p) stands.there in
    let shown_rows = rows_seen as_of lists in
    let cur = current_from_snapshot shown_rows as_of.date s.row (looked_up p.key.kind p.key.id as_of.date shown_rows s.row now.2) in
    let shown = Has-rows_at_cases as_of.pin (listed lists) s.row cur.known in
    let there = Has-listed_cases lists shown.stamped_row shown.known in
    let own = Has-joined_at lists n stands.rows s stands.list_is (row_there 0 stands.rows (s, p) stands.there) in
    let same = listed_once lists (are_lists lists are) shown.stamped_row s there own (ap key_of shown.same) in
    let time_is : p.key.time ≡ s.row.time = ap (λ (k : Key). k.time) is.key_is in
    let import_is = is.import_is in
    let early = cur.early in
    let in_pin : s.import ≤ as_of.pin = subst (λ (t : StampedRow). t.import ≤ as_of.pin) same shown.early in
    (omega (arith, time_is, early), omega (arith, import_is, in_pin))
