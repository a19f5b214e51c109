-- What is left of a store after a query.
use Rattle.std.proofs.Common.{◌≡◌, ◌≢◌, ◌↔◌, ℕ, ◌+◌, ◌≤◌, List, Bool, false, true, Result, Ok, Err, IfOk, IfErr, MatchResult, refl, sym, ap, subst, ◌∙◌, arith, Vec, Global}
use Rattle.std.specs.List.{sum_by}
use Rattle.rf2_values.specs.Row.{RowValue}
use Rattle.std.proofs.lemmas.Bool.{false≢true}
use Rattle.fault_counts.specs.Counting.{Counts as CountsBy, CountsDiskFault}
use Rattle.history_model.specs.declared.stamped.StampedRow.{StampedRow}
use Rattle.history_model.specs.Lists.{listed}
use Rattle.disk_model.specs.View.{DiskView}
use Rattle.segment.specs.declared.place.RowPlace.{RowPlace}
use Rattle.as_of_index.specs.Reader.{ReaderView, IsReadFor, AreFor, IsRowsReadBy}
use Rattle.lru.specs.LruCache.{LruCache}
use Rattle.blocks.specs.Cache.{AgreesWith, LooksUpSome}
use Rattle.blocks.proofs.Looked.{none_looks_up}
use Rattle.directory.specs.declared.entry.Entry.{Entry}
use Rattle.fault_counts.specs.declared.fault.ReadFault.{ReadFault}
use Rattle.fault_counts.specs.declared.fault.ReadFault.TheVariants as readfault
use Rattle.history_store.specs.declared.refusal.Refusal.{Refusal}
use Rattle.history_store.specs.declared.refusal.Refusal.TheVariants as refusals
use Rattle.history_store.specs.Private.Reading.{AreThere, MomentsStay}
use Rattle.history_store.specs.Reading.{row_cost}
use Rattle.history_store.specs.Catalog.{Catalog}
use Rattle.history_store.specs.Stored.{MayBe, IsStored}
use Rattle.history_store.specs.Refusals.{of_read}
use Rattle.history_store.specs.StoreValue.{StoreValue, IsAcknowledged}
use Rattle.history_store.specs.Answers.{Counts, IsRefused, IsReadingOf}
use Rattle.history_store.specs.Queries.{IsQuery, IsStoredFor, IsRowsQueryOf, IsWithoutRead, is_listed}
use Rattle.history_store.proofs.Refusing.{read_undamaged}
use Rattle.history_store.proofs.Returned.{for_weaker, rows_exact, stored_for, stored_so}

-- what was read, as the store answers it
abbrev answer_of : {T : Type 0} → Result T ReadFault → Result T Refusal
answer_of (Ok x) = Ok x
answer_of (Err fault) = Err (of_read fault)

abbrev pub IsAnswerOf : {T : Type 0} → Result T ReadFault → Result T Refusal → Type 0
IsAnswerOf read result = MatchResult read (λ x. result ≡ Ok x) (λ fault. result ≡ Err (of_read fault))

is_answer : {T : Type 0} (read : Result T ReadFault) (result : Result T Refusal) → IsAnswerOf read result → result ≡ answer_of read
is_answer (Ok x) result is = is
is_answer (Err fault) result is = is

-- what holds of what was read, holds of what is answered
pub answered_so : {T : Type 0} (P Q : T → Type 0) (read : Result T ReadFault) (result : Result T Refusal) → IsAnswerOf read result → ((x : T) → P x → Q x) → IfOk read P → IfOk result Q
answered_so P Q (Ok x) result is so h = subst (λ r. IfOk r Q) (sym is) (so x h)
answered_so P Q (Err fault) result is so h = subst (λ r. IfOk r Q) (sym is) tt

undamaged_answer : {T : Type 0} (read : Result T ReadFault) → IfErr read (λ e. e ≢ readfault.Damaged) → IfErr (answer_of read) (λ e. e ≢ refusals.Damaged)
undamaged_answer (Ok x) other = tt
undamaged_answer (Err fault) other = read_undamaged fault (of_read fault) refl other

caused_answer : {T : Type 0} (read : Result T ReadFault) → IfErr read (λ e. e ≡ readfault.OutOfMemory) → IfErr (answer_of read) IsWithoutRead
caused_answer (Ok x) memory = tt
caused_answer (Err fault) memory = subst (λ f. IsWithoutRead (of_read f)) (sym memory) tt

counted_answer : {T : Type 0} (read : Result T ReadFault) (before after : ℕ) → CountsBy CountsDiskFault read before after → Counts (answer_of read) before after
counted_answer (Ok x) before after counts = counts
counted_answer (Err readfault.OutOfMemory) before after counts = counts
counted_answer (Err readfault.DiskFault) before after counts = counts
counted_answer (Err readfault.Damaged) before after counts = counts

refused_beside : {D : Type 0} (e : Refusal) (old new : StoreValue D) (disk : D) (cache : LruCache ℕ (List ℕ)) → IsRefused e (record old { disk = disk; cache = cache }) new → IsRefused e old new
refused_beside e old new disk cache r = record { history = r.history; catalog = r.catalog; closed = r.closed; still = r.still }

-- whatever disk and whatever cache the store has, the answer is the same
read_beside : {T D : Type 0} (read : Result T ReadFault) (old new : StoreValue D) (disk : D) (cache : LruCache ℕ (List ℕ)) → IsReadingOf (answer_of read) (record old { disk = disk; cache = cache }) new → IsReadingOf (answer_of read) old new
read_beside (Ok x) old new disk cache r = record { history = r.history; catalog = r.catalog; open_before = r.open_before; open_still = r.open_still }
read_beside (Err readfault.OutOfMemory) old new disk cache r = (r.0, refused_beside _ old new disk cache r.1)
read_beside (Err readfault.DiskFault) old new disk cache r = (r.0, refused_beside _ old new disk cache r.1)
read_beside (Err readfault.Damaged) old new disk cache r = (r.0, refused_beside _ old new disk cache r.1)

-- the list of segments is unchanged
catalog_kept : {T D : Type 0} (read : Result T ReadFault) (old new : StoreValue D) → IsReadingOf (answer_of read) old new → new.catalog ≡ old.catalog
catalog_kept (Ok x) old new r = r.catalog
catalog_kept (Err readfault.OutOfMemory) old new r = r.1.catalog
catalog_kept (Err readfault.DiskFault) old new r = r.1.catalog
catalog_kept (Err readfault.Damaged) old new r = r.1.catalog

-- the rows were read, and what was read is answered
pub answered_query : {T D : Type 0} (view : D → DiskView) (old new : StoreValue D) (lent disk : D) (cache : LruCache ℕ (List ℕ)) (read : Result T ReadFault) (result : Result T Refusal)
    → old.needs_reopen ≡ false → lent ≡ old.disk → MomentsStay (view lent).is_honest (view disk).is_honest (view lent).moments (view disk).moments → CountsBy CountsDiskFault read (view lent).failures (view disk).failures
    → ((view old.disk).is_honest → IfErr read (λ e. e ≢ readfault.Damaged))
    → IsAnswerOf read result → IsReadingOf result (record old { disk = disk; cache = cache }) new → new.disk ≡ disk → ((view disk).is_honest → new.needs_reopen ≡ false → IsAcknowledged view new)
    → IsQuery result view old new
answered_query view old new lent disk cache read result still lent_is stays counted undamaged answers left same acknowledged =
    let is = is_answer read result answers in
    let stay = subst (λ x. MomentsStay (view x).is_honest (view disk).is_honest (view x).moments (view disk).moments) lent_is stays in
    let counts = subst (λ x. CountsBy CountsDiskFault read (view x).failures (view disk).failures) lent_is counted in record {
      undamaged = λ up. subst (λ r. IfErr r (λ e. e ≢ refusals.Damaged)) (sym is) (undamaged_answer read (undamaged up));
      read = subst (λ r. IsReadingOf r old new) (sym is) (read_beside read old new disk cache (subst (λ r. IsReadingOf r (record old { disk = disk; cache = cache }) new) is left));
      closed = λ closed. absurd (false≢true (sym still ∙ closed));
      moments = λ up. ap (λ d. (view d).moments) same ∙ stay.1 up;
      acknowledged = λ up. acknowledged (stay.0.0 up);
      honesty = subst (λ d. (view old.disk).is_honest ↔ (view d).is_honest) (sym same) stay.0;
      failures = subst (λ d. Counts result (view old.disk).failures (view d).failures) (sym same)
          (subst (λ r. Counts r (view old.disk).failures (view disk).failures) (sym is) (counted_answer read (view old.disk).failures (view disk).failures counts));
    }

-- a store that has to be opened again isn't touched
pub closed_query : {T D : Type 0} (view : D → DiskView) (s : StoreValue D) → s.needs_reopen ≡ true → IsQuery {T = T} (Err refusals.ReopenNeeded) view s s
closed_query view s needs = record {
  undamaged = λ up same. absurd (cc);
  read = (needs, record { history = refl; catalog = refl; closed = λ same. absurd (cc); still = λ other. refl });
  closed = λ closed. refl;
  moments = λ up. refl;
  acknowledged = λ up still. absurd (false≢true (sym still ∙ needs));
  honesty = (λ up. up, λ up. up);
  failures = refl;
}

-- the rows of a list that is answered
abbrev pub row_items : Vec RowValue Global → List RowValue
row_items rows = rows.items

-- rows were read by a reader to which the disk, the cache and the segments were lent, and what was read is answered
module _ {T D : Type 0} (view : D → DiskView) (rows_of : T → List RowValue) (wanted : List StampedRow → List RowValue) where
  -- what a reader shows to which a disk is lent
  abbrev pub shown_of : D → List (List StampedRow) → Type 0 → (ℕ → RowPlace → StampedRow → Type 0) → ℕ → ReaderView
  shown_of disk lists is_honest may_be damages = record { lists = lists; is_honest = is_honest; may_be = may_be; work = (view disk).bytes_read; disk_faults = (view disk).failures; damages = damages }

  module _ (Indexed : List (List StampedRow) → Type 0) (old new : StoreValue D) (lists shown : List (List StampedRow)) (entries : List Entry) (lent disk : D) (lent_cache cache : LruCache ℕ (List ℕ)) (read : Result T ReadFault) (result : Result T Refusal) where
    abbrev pub IsHonestReader : Type 0
    IsHonestReader = (view lent).is_honest × AgreesWith lent_cache (view lent).moments.state.now × AreThere entries shown (view lent).moments.state.now

    abbrev pub BoundOf : List (List StampedRow) → D → D → Type 0
    BoundOf ls before after = (view after).bytes_read ≤ (view before).bytes_read + sum_by row_cost (wanted (listed ls))

    -- what is stored once the rows were read was stored before
    steady_after : (left : List Entry) → lent ≡ old.disk → lent_cache ≡ old.cache → entries ≡ old.catalog.entries → left ≡ entries → new.disk ≡ disk → new.cache ≡ cache → new.catalog ≡ old.catalog
        → ((segment : ℕ) (at : RowPlace) (row : StampedRow) → MayBe (view disk).reads_as cache left segment at row → MayBe (view lent).reads_as lent_cache entries segment at row)
        → (row : RowValue) → IsStored view new row → IsStored view old row
    steady_after left lent_is lent_cache_is entries_are left_is same kept catalog steady row s =
        stored_so view old lent lent_cache entries lent_is lent_cache_is entries_are row (
          s.0,
          s.1,
          s.2,
          s.3,
          steady s.2 s.3 s.0
              (subst (λ (e : List Entry). MayBe (view disk).reads_as cache e s.2 s.3 s.0) (ap (λ (c : Catalog). c.entries) catalog ∙ sym entries_are ∙ sym left_is)
              (subst (λ c. MayBe (view disk).reads_as c new.catalog.entries s.2 s.3 s.0) kept
              (subst (λ d. MayBe (view d).reads_as new.cache new.catalog.entries s.2 s.3 s.0) same s.4))),
        )

    pub rows_answered : (put_in_order : Bool) {left : List (List StampedRow)} {is_honest : Type 0} {left_entries : List Entry} {m n : ℕ} → left_entries ≡ entries → old.history.rows ≡ listed lists → old.needs_reopen ≡ false
        → lent ≡ old.disk → lent_cache ≡ old.cache → entries ≡ old.catalog.entries → shown ≡ lists
        → Indexed lists → ((view old.disk).is_honest → IsHonestReader)
        → IsRowsReadBy put_in_order read rows_of (λ ls. wanted (listed ls)) Indexed row_cost (shown_of lent shown IsHonestReader (MayBe (view lent).reads_as lent_cache entries) m) (shown_of disk left is_honest (MayBe (view disk).reads_as cache left_entries) n)
        → MomentsStay (view lent).is_honest (view disk).is_honest (view lent).moments (view disk).moments
        → LooksUpSome (is_listed entries) lent_cache cache (view lent).bytes_read (view disk).bytes_read
        → (view disk).other_calls ≡ (view lent).other_calls
        → IsAnswerOf read result → IsReadingOf result (record old { disk = disk; cache = cache }) new → new.disk ≡ disk → new.cache ≡ cache
        → ((view disk).is_honest → new.needs_reopen ≡ false → IsAcknowledged view new)
        → IsRowsQueryOf put_in_order result rows_of wanted view old new
    rows_answered put_in_order {left_entries = left_entries} {m = m} left_is rows_are still lent_is lent_cache_is entries_are shown_is indexed lends read_so stays looked_up calls answers answers_left same kept acknowledged =
        let rows = read_so.rows (subst Indexed (sym shown_is) indexed) in
        let same_wanted = ap (λ ls. wanted (listed ls)) shown_is ∙ ap wanted (sym rows_are) in
        let lent_shown : ReaderView = shown_of lent shown IsHonestReader (MayBe (view lent).reads_as lent_cache entries) m in
        record {
          found = λ up. answered_so (λ x. AreFor put_in_order (IsReadFor lent_shown) (rows_of x) (wanted (listed shown))) (λ x. rows_of x ≡ wanted old.history.rows) read result answers (λ x each. rows_exact lent_shown put_in_order (rows_of x) _ each (lends up) ∙ same_wanted) rows.each;
          stored = answered_so (λ x. AreFor put_in_order (IsReadFor lent_shown) (rows_of x) (wanted (listed shown))) (λ x. AreFor put_in_order (IsStoredFor view old) (rows_of x) (wanted old.history.rows)) read result answers
              (λ x each. subst (AreFor put_in_order (IsStoredFor view old) (rows_of x)) same_wanted (for_weaker put_in_order (IsReadFor lent_shown) (IsStoredFor view old) (stored_for lent_shown view old lent lent_cache entries lent_is lent_cache_is entries_are (λ segment at s may. may)) (rows_of x) _ each)) rows.each;
          steady = steady_after left_entries lent_is lent_cache_is entries_are left_is same kept (catalog_kept read (record old { disk = disk; cache = cache }) new (subst (λ r. IsReadingOf r (record old { disk = disk; cache = cache }) new) (is_answer read result answers) answers_left)) read_so.reader.steady;
          causes = λ none. subst (λ r. IfErr r IsWithoutRead) (sym (is_answer read result answers)) (caused_answer read (rows.causes (same_wanted ∙ none)));
          query = answered_query view old new lent disk cache read result still lent_is stays read_so.reader.disk_faults (λ up. rows.undamaged (lends up)) answers answers_left same acknowledged;
          other_calls = ap (λ d. (view d).other_calls) same ∙ calls ∙ ap (λ d. (view d).other_calls) lent_is;
          looked_up =
              subst (λ d. LooksUpSome (is_listed old.catalog.entries) old.cache new.cache (view old.disk).bytes_read (view d).bytes_read) (sym same)
              (subst (λ c. LooksUpSome (is_listed old.catalog.entries) old.cache c (view old.disk).bytes_read (view disk).bytes_read) (sym kept)
              (subst (λ d. LooksUpSome (is_listed old.catalog.entries) old.cache cache (view d).bytes_read (view disk).bytes_read) lent_is
              (subst (λ c. LooksUpSome (is_listed old.catalog.entries) c cache (view lent).bytes_read (view disk).bytes_read) lent_cache_is
              (subst (λ (e : List Entry). LooksUpSome (is_listed e) lent_cache cache (view lent).bytes_read (view disk).bytes_read) entries_are looked_up))));
          bytes_read = answered_so (λ x. (view disk).bytes_read ≤ (view lent).bytes_read + sum_by row_cost (rows_of x)) (λ x. (view new.disk).bytes_read ≤ (view old.disk).bytes_read + sum_by row_cost (rows_of x)) read result answers
              (λ x le. subst (λ d. (view d).bytes_read ≤ (view old.disk).bytes_read + sum_by row_cost (rows_of x)) (sym same) (subst (λ d. (view disk).bytes_read ≤ (view d).bytes_read + sum_by row_cost (rows_of x)) lent_is le)) read_so.work;
          bytes_read_always =
              subst (λ rows. (view new.disk).bytes_read ≤ (view old.disk).bytes_read + sum_by row_cost (wanted rows)) (sym rows_are)
              (subst (λ d. BoundOf lists old.disk d) (sym same)
              (subst (λ d. BoundOf lists d disk) lent_is
              (subst (λ ls. BoundOf ls lent disk) shown_is rows.work_always)));
        }

  -- a store that has to be opened again answers nothing, and isn't touched
  pub closed_rows : (put_in_order : Bool) (s : StoreValue D) → s.needs_reopen ≡ true → IsRowsQueryOf put_in_order (Err refusals.ReopenNeeded) rows_of wanted view s s
  closed_rows put_in_order s needs = record {
    found = λ up. tt;
    stored = tt;
    steady = λ row stored. stored;
    causes = λ none. tt;
    query = closed_query {T = T} view s needs;
    other_calls = refl;
    looked_up = none_looks_up (is_listed s.catalog.entries) s.cache (view s.disk).bytes_read;
    bytes_read = tt;
    bytes_read_always = omega arith;
  }
