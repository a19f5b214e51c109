-- What is fed to a hasher, row by row, and what these rows take to be read.
use Rattle.std.proofs.Common.{◌≡◌, ℕ, ◌+◌, ◌≤◌, ◌<◌, false, Option, Some, None, Ok, Err, List, [], ◌∷◌, ◌++◌, length, map, refl, sym, ap, subst, ◌∙◌, arith, append-nil}
use Rattle.std.specs.List.{filter, sum_by}
use Rattle.std.proofs.lemmas.Grind.{flat_map-append}
use Rattle.std.proofs.lemmas.List.Sums.{sum_by-cons}
use Rattle.disk_model.specs.View.{DiskView}
use Rattle.sha2.specs.declared.Sha256.{Sha256}
use Rattle.sha2.specs.Hashers.{Holds256}
use Rattle.sha2.specs.Sha256.{sha256}
use Rattle.rf2_values.specs.declared.key.Key.{Key}
use Rattle.rf2_values.specs.Row.{RowValue}
use Rattle.rf2_values.specs.Key.{key_of}
use Rattle.history_model.specs.InOrder.{IsAscending}
use Rattle.history_model.specs.History.{History, IsHistory, row_cmp, rows_at}
use Rattle.history_model.specs.KeyOrder.{is_after, rows_after}
use Rattle.history_model.proofs.Snapshots.{IsAscending-rows_at}
use Rattle.as_of_index.specs.Reader.{AreFor}
use Rattle.as_of_index.proofs.Returned.{zip_append, zip_weaker}
use Rattle.history_store.specs.declared.refusal.Refusal.{Refusal}
use Rattle.history_store.specs.Reading.{row_cost}
use Rattle.history_store.specs.StoreValue.{StoreValue}
use Rattle.history_store.specs.Queries.{IsStoredFor}
use Rattle.store_digest.specs.Digest.{text_line, text_of, digest_of, IsDigestQuery}
use Rattle.store_digest.specs.Private.{AreHashed, IsNextAdded}
use Rattle.store_digest.proofs.Composed.{IsAsked, not_asked, asked_then, query_then, looked_up_then, answered_otherwise, refused_otherwise}
use Rattle.store_digest.proofs.Remaining.{IsFirstLeft, all_left, key_answered, none_answered, first_takes_less, fewer_left, less_left, one_moved}

-- The hasher holds the text of rows, one for each of those that were taken, which are those up to the key if all are in order; on an honest disk they are these.
pub record IsFed (honest : Type 0) (IsFor : RowValue → RowValue → Type 0) (hasher : Sha256) (last : Option Key) (rows : List RowValue) : Type 0 where
  pub done : List RowValue
  pub taken : List RowValue
  pub holds : Holds256 hasher (text_of done)
  pub each : AreFor false IsFor done taken
  pub left : IsAscending row_cmp rows → taken ++ filter (is_after last) rows ≡ rows
  pub found : honest → done ≡ taken

-- one for the next row was fed too
fed_next : (honest : Type 0) (IsFor : RowValue → RowValue → Type 0) (hasher more : Sha256) (last : Option Key) (rows : List RowValue) (b : RowValue) → IsFirstLeft last rows b → IsFed honest IsFor hasher last rows → rows_after last 1 rows ≡ b ∷ [] → AreHashed honest IsFor (rows_after last 1 rows) hasher more → (key : Key) → key ≡ key_of b → IsFed honest IsFor more (Some key) rows
fed_next honest IsFor hasher more last rows b first fed one hashed key key_is =
    let left_so : filter (is_after (Some key)) rows ≡ filter (is_after (Some (key_of b))) rows = ap (λ k. filter (is_after (Some k)) rows) key_is in
    record {
      done = fed.done ++ hashed.read;
      taken = fed.taken ++ b ∷ [];
      holds = subst (Holds256 more) (sym (flat_map-append text_line fed.done hashed.read)) (hashed.holds (text_of fed.done) fed.holds);
      each = zip_append IsFor fed.done hashed.read fed.taken (b ∷ []) fed.each (subst (λ (ys : List RowValue). AreFor false IsFor hashed.read ys) one hashed.each);
      left = λ in_order. ap (λ ys. (fed.taken ++ b ∷ []) ++ ys) left_so ∙ one_moved last rows b first in_order fed.taken ∙ fed.left in_order;
      found = λ h. ap (λ ys. ys ++ hashed.read) (fed.found h) ∙ ap (λ ys. fed.taken ++ ys) (hashed.found h ∙ one);
    }

-- there is a row for none
for_none : (IsFor : RowValue → RowValue → Type 0) (rows : List RowValue) → AreFor false IsFor rows [] → rows ≡ []
for_none IsFor [] each = refl
for_none IsFor (row ∷ rows) each = absurd each

-- no row is left: one was fed for each
fed_all : (honest : Type 0) (IsFor : RowValue → RowValue → Type 0) (hasher more : Sha256) (last : Option Key) (rows : List RowValue) (fed : IsFed honest IsFor hasher last rows) → AreHashed honest IsFor (rows_after last 1 rows) hasher more → filter (is_after last) rows ≡ [] → rows_after last 1 rows ≡ []
    → Holds256 more (text_of fed.done) × (IsAscending row_cmp rows → fed.taken ≡ rows)
fed_all honest IsFor hasher more last rows fed hashed none no_next = (
  subst (Holds256 more) (append-nil (text_of fed.done))
      (subst (λ ys. Holds256 more (text_of fed.done ++ text_of ys)) (for_none IsFor hashed.read (subst (λ (ys : List RowValue). AreFor false IsFor hashed.read ys) no_next hashed.each)) (hashed.holds (text_of fed.done) fed.holds)),
  λ in_order. sym (append-nil fed.taken) ∙ ap (λ ys. fed.taken ++ ys) (sym none) ∙ fed.left in_order,
)

-- where there is no row, there is none after a key
none_after : (last : Option Key) (rows : List RowValue) → rows ≡ [] → rows_after last 1 rows ≡ []
unfolding rows_after
none_after last rows none = subst (λ ys. rows_after last 1 ys ≡ []) (sym none) refl

-- the rows that a pin shows
abbrev pub shown_of : {D : Type 0} → ℕ → StoreValue D → List RowValue
shown_of pin store = rows_at pin store.history.rows

module _ {D : Type 0} (view : D → DiskView) (pin : ℕ) where
  -- rows up to a key were fed to the hasher, and no more was read than they take
  pub record IsDigesting (old now : StoreValue D) (hasher : Sha256) (last : Option Key) : Type 0 where
    pub asked : IsAsked view old now
    pub fed : IsFed (view old.disk).is_honest (IsStoredFor view old) hasher last (shown_of pin old)
    pub bytes_read : (view now.disk).bytes_read + sum_by row_cost (filter (is_after last) (shown_of pin old)) ≤ (view old.disk).bytes_read + sum_by row_cost (shown_of pin old)

  pub begun : (old : StoreValue D) (hasher : Sha256) → Holds256 hasher [] → IsDigesting old old hasher None
  begun old hasher holds = record {
    asked = not_asked view old;
    fed = record { done = []; taken = []; holds = holds; each = tt; left = λ in_order. all_left (shown_of pin old); found = λ h. refl };
    bytes_read = (let same = ap (sum_by row_cost) (all_left (shown_of pin old)) in omega arith);
  }

  module _ (old now new : StoreValue D) (hasher more : Sha256) (last : Option Key) (d : IsDigesting old now hasher last) where
    -- what was hashed of the store as it is now, is of the store as it was
    hashed_of : AreHashed (view now.disk).is_honest (IsStoredFor view now) (rows_after last 1 (shown_of pin now)) hasher more → AreHashed (view old.disk).is_honest (IsStoredFor view old) (rows_after last 1 (shown_of pin old)) hasher more
    hashed_of a =
        let same : rows_after last 1 (shown_of pin now) ≡ rows_after last 1 (shown_of pin old) = ap (λ (h : History). rows_after last 1 (rows_at pin h.rows)) d.asked.history in
        record {
          read = a.read;
          each = subst (λ (ys : List RowValue). AreFor false (IsStoredFor view old) a.read ys) same
              (zip_weaker (IsStoredFor view now) (IsStoredFor view old) (λ row wanted is. record { key = is.key; stored = d.asked.steady row is.stored }) a.read (rows_after last 1 (shown_of pin now)) a.each);
          found = λ h. a.found (d.asked.honesty.0 h) ∙ same;
          holds = a.holds;
        }

    -- the next row was added
    module _ (key : Key) (q : IsNextAdded (Ok (Some key)) last pin hasher more view now new) where
      answered : (b : RowValue) × IsFirstLeft last (shown_of pin old) b × (key ≡ key_of b) × (rows_after last 1 (shown_of pin old) ≡ b ∷ [])
      answered = key_answered last (shown_of pin old) key (subst (λ (h : History). key ∷ [] ≡ map key_of (rows_after last 1 (rows_at pin h.rows))) d.asked.history q.key)

      pub gone_on : IsDigesting old new more (Some key)
      gone_on = record {
        asked = asked_then view old now new d.asked (Some key) q.query q.other_calls q.looked_up q.steady;
        fed = fed_next (view old.disk).is_honest (IsStoredFor view old) hasher more last (shown_of pin old) answered.0 answered.1 d.fed answered.3 (hashed_of q.hashed) key answered.2;
        bytes_read =
            let before = d.bytes_read in
            let read = q.bytes_read in
            let same = ap (λ (h : History). sum_by row_cost (rows_after last 1 (rows_at pin h.rows))) d.asked.history in
            let one = ap (sum_by row_cost) answered.3 in
            let cost = sum_by-cons row_cost answered.0 [] in
            let less = less_left last (shown_of pin old) answered.0 answered.1 row_cost in
            let keyed = ap (λ k. sum_by row_cost (filter (is_after (Some k)) (shown_of pin old))) answered.2 in
            omega arith;
      }

      pub fewer : length (filter (is_after (Some key)) (shown_of pin old)) < length (filter (is_after last) (shown_of pin old))
      fewer =
          let less = fewer_left last (shown_of pin old) answered.0 answered.1 in
          let keyed = ap (λ k. length (filter (is_after (Some k)) (shown_of pin old))) answered.2 in
          omega arith

    -- no row was left
    pub ended : IsNextAdded (Ok None) last pin hasher more view now new → IsHistory now.history → (digest : List ℕ) → ((m : List ℕ) → Holds256 more m → digest ≡ sha256 m) → IsDigestQuery (Ok digest) pin view old new
    ended q history digest is =
        let none = none_answered last (shown_of pin old) (subst (λ (h : History). [] ≡ map key_of (rows_after last 1 (rows_at pin h.rows))) d.asked.history q.key) in
        let all = fed_all (view old.disk).is_honest (IsStoredFor view old) hasher more last (shown_of pin old) d.fed (hashed_of q.hashed) none.0 none.1 in
        let hash : digest ≡ digest_of d.fed.done = is (text_of d.fed.done) all.0 in
        let taken : d.fed.taken ≡ shown_of pin old = all.1 (subst (λ (h : History). IsAscending row_cmp (rows_at pin h.rows)) d.asked.history (IsAscending-rows_at pin now.history.rows history.ascending)) in
        record {
          found = λ h. hash ∙ ap digest_of (d.fed.found h ∙ taken);
          stored = (d.fed.done, hash, subst (λ (ys : List RowValue). AreFor false (IsStoredFor view old) d.fed.done ys) taken d.fed.each);
          causes = λ no_row. tt;
          query = query_then view old now new d.asked (Ok digest) (answered_otherwise view now new None digest q.query);
          other_calls = q.other_calls ∙ d.asked.other_calls;
          looked_up = looked_up_then view old now new d.asked q.looked_up;
          bytes_read =
              let before = d.bytes_read in
              let read = q.bytes_read in
              let same = ap (λ (h : History). sum_by row_cost (rows_after last 1 (rows_at pin h.rows))) d.asked.history in
              let less = first_takes_less row_cost last (shown_of pin old) in
              omega arith;
        }

    -- a row wasn't read
    pub stopped : (e : Refusal) → IsNextAdded (Err e) last pin hasher more view now new → IsDigestQuery (Err e) pin view old new
    stopped e q = record {
      found = λ h. tt;
      stored = tt;
      causes = λ no_row. q.causes (none_after last (shown_of pin now) (ap (λ (h : History). rows_at pin h.rows) d.asked.history ∙ no_row));
      query = query_then view old now new d.asked (Err e) (refused_otherwise view now new e q.query);
      other_calls = q.other_calls ∙ d.asked.other_calls;
      looked_up = looked_up_then view old now new d.asked q.looked_up;
      bytes_read =
          let before = d.bytes_read in
          let read = q.bytes_read in
          let same = ap (λ (h : History). sum_by row_cost (rows_after last 1 (rows_at pin h.rows))) d.asked.history in
          let less = first_takes_less row_cost last (shown_of pin old) in
          omega arith;
    }
