-- What is left of a store after the contradictions of a release were listed.
use Rattle.std.proofs.Common.{◌≡◌, ◌⊎◌, inl, inr, ℕ, ◌+◌, ◌≤◌, List, false, true, Result, Ok, Err, IfOk, IfErr, MatchResult, map, refl, sym, ap, subst, ◌∙◌, arith}
use Rattle.std.specs.List.{sum_by}
use Rattle.std.proofs.lemmas.Bool.{false≢true}
use Rattle.fault_counts.specs.Counting.{Counts as CountsBy}
use Rattle.fault_counts.specs.declared.fault.ReadFault.TheVariants as readfault
use Rattle.rf2_values.specs.Row.{RowValue}
use Rattle.history_model.specs.declared.stamped.StampedRow.{StampedRow}
use Rattle.history_model.specs.History.{full}
use Rattle.history_model.specs.Lists.{listed}
use Rattle.disk_model.specs.View.{DiskView}
use Rattle.lru.specs.LruCache.{LruCache}
use Rattle.blocks.specs.Cache.{AgreesWith, LooksUpSome}
use Rattle.directory.specs.declared.entry.Entry.{Entry}
use Rattle.segment.specs.declared.place.RowPlace.{RowPlace}
use Rattle.as_of_index.specs.Places.{Lists}
use Rattle.import_check.specs.declared.release.Release.{Release}
use Rattle.import_check.specs.declared.fault.ImportFault.{ImportFault}
use Rattle.import_check.specs.declared.fault.ImportFault.TheVariants as importfault
use Rattle.import_check.specs.declared.contradicting.Contradictions.{Contradictions}
use Rattle.import_check.specs.Known.{already_known}
use Rattle.import_check.specs.Release.{IsReleaseOf}
use Rattle.import_check.specs.NewRows.{IsRefusalByKey, IsRead, CountsAnyDiskFault}
use Rattle.import_check.specs.Contradictions.{AreContradictionsOf, ArePossibleContradictions, IsNotListed}
use Rattle.import_check.proofs.MoreStored.{more_listed, more_refusals}
use Rattle.history_store.specs.declared.refusal.Refusal.{Refusal}
use Rattle.history_store.specs.declared.refusal.Refusal.TheVariants as refusals
use Rattle.history_store.specs.Refusals.{refusal_of}
use Rattle.history_store.specs.Reading.{row_cost}
use Rattle.history_store.specs.Private.Reading.{AreThere, MomentsStay, rows_of, Early, MayBeRead}
use Rattle.history_store.specs.Stored.{MayBe, IsStored}
use Rattle.history_store.proofs.Returned.{stored_so}
use Rattle.history_store.specs.StoreValue.{StoreValue, IsAcknowledged}
use Rattle.history_store.specs.Queries.{is_listed}
use Rattle.history_store.specs.Answers.{Counts, IsRefused, IsStill}
use Rattle.history_store.specs.Contradicting.{IsListing, IsUnlisted}
use Rattle.history_store.proofs.Refusing.{unlisted_less}
use Rattle.history_store.proofs.MeteredReading.{unread, read_so}

abbrev pub IsAnswerOf : Result Contradictions ImportFault → Result Contradictions Refusal → Type 0
IsAnswerOf read result = MatchResult read (λ found. result ≡ Ok found) (λ fault. result ≡ Err (refusal_of fault))

ok_so : (P : Contradictions → Type 0) (read : Result Contradictions ImportFault) (result : Result Contradictions Refusal) → IsAnswerOf read result → IfOk read P → IfOk result P
ok_so P (Ok x) result is h = subst (λ r. IfOk r P) (sym is) h
ok_so P (Err fault) result is h = subst (λ r. IfOk r P) (sym is) tt

err_so : (P : ImportFault → Type 0) (Q : Refusal → Type 0) (read : Result Contradictions ImportFault) (result : Result Contradictions Refusal) → IsAnswerOf read result → ((fault : ImportFault) → P fault → Q (refusal_of fault)) → IfErr read P → IfErr result Q
err_so P Q (Ok x) result is so h = subst (λ r. IfErr r Q) (sym is) tt
err_so P Q (Err fault) result is so h = subst (λ r. IfErr r Q) (sym is) (so fault h)

counted_so : (read : Result Contradictions ImportFault) (result : Result Contradictions Refusal) (before after : ℕ) → IsAnswerOf read result → CountsBy CountsAnyDiskFault read before after → Counts result before after
counted_so (Ok x) result before after is counts = subst (λ r. Counts r before after) (sym is) counts
counted_so (Err importfault.OutOfMemory) result before after is counts = subst (λ r. Counts r before after) (sym is) counts
counted_so (Err (importfault.Known readfault.OutOfMemory)) result before after is counts = subst (λ r. Counts r before after) (sym is) counts
counted_so (Err (importfault.Known readfault.DiskFault)) result before after is counts = subst (λ r. Counts r before after) (sym is) counts
counted_so (Err (importfault.Known readfault.Damaged)) result before after is counts = subst (λ r. Counts r before after) (sym is) counts
counted_so (Err (importfault.Row file line fault)) result before after is counts = subst (λ r. Counts r before after) (sym is) counts
counted_so (Err (importfault.Contradiction file line key)) result before after is counts = subst (λ r. Counts r before after) (sym is) counts

-- whatever disk and whatever cache the store has, it is left the same
left_so : {D : Type 0} (result : Result Contradictions Refusal) (old new : StoreValue D) (disk : D) (cache : LruCache ℕ (List ℕ)) → MatchResult result (λ found. IsStill (record old { disk = disk; cache = cache }) new) (λ e. IsRefused e (record old { disk = disk; cache = cache }) new)
    → MatchResult result (λ found. IsStill old new) (λ e. IsRefused e old new)
left_so (Ok x) old new disk cache r = record { history = r.history; catalog = r.catalog; open_before = r.open_before; open_still = r.open_still }
left_so (Err e) old new disk cache r = record { history = r.history; catalog = r.catalog; closed = r.closed; still = r.still }

err_both : {T E : Type 0} (P Q : E → Type 0) (r : Result T E) → IfErr r P → IfErr r Q → IfErr r (λ e. P e × Q e)
err_both P Q (Ok x) p q = tt
err_both P Q (Err e) p q = (p, q)

module _ {D : Type 0} (view : D → DiskView) (release : Release) (limit : ℕ) where
  -- a store that has to be opened again lists nothing, and isn't touched
  pub closed_listing : (s : StoreValue D) → s.needs_reopen ≡ true → IsListing (Err refusals.ReopenNeeded) release limit view s s
  closed_listing s needs = record {
    found = λ up. tt;
    compared = tt;
    read = tt;
    refused = inl (refl, needs);
    left = record { history = refl; catalog = refl; closed = λ same. absurd (cc); still = λ other. refl };
    closed = λ closed. refl;
    acknowledged = λ up still. absurd (false≢true (sym still ∙ needs));
    meters = unread view (Err refusals.ReopenNeeded) release s refl;
  }

  -- a release was compared by a reader to which the disk, the cache and the segments were lent
  module _ (pin : ℕ) (places : List (List RowPlace)) (old new : StoreValue D) (lists shown : List (List StampedRow)) (entries : List Entry) (lent disk : D) (lent_cache cache : LruCache ℕ (List ℕ)) (read : Result Contradictions ImportFault) (result : Result Contradictions Refusal) where
    abbrev IsHonestReader : Type 0
    IsHonestReader = (view lent).is_honest × AgreesWith lent_cache (view lent).moments.state.now × AreThere entries shown (view lent).moments.state.now

    -- what may be read of the lent disk
    abbrev Lent : RowValue → Type 0
    Lent = MayBeRead (MayBe (view lent).reads_as lent_cache entries)

    pub listed_so : old.history.rows ≡ listed lists → old.needs_reopen ≡ false
        → lent ≡ old.disk → lent_cache ≡ old.cache → entries ≡ old.catalog.entries → shown ≡ lists
        → Lists places shown × Early pin shown → ((view old.disk).is_honest → IsHonestReader)
        → (IsHonestReader → Lists places shown → Early pin shown → IfOk read (AreContradictionsOf (rows_of shown) release limit))
        → IfOk read (λ found. IsRead release)
        → IfErr read (IsNotListed (IsHonestReader × Lists places shown × Early pin shown) release)
        → (Lists places shown → Early pin shown → IfOk read (ArePossibleContradictions (rows_of shown) Lent release limit))
        → (Lists places shown → Early pin shown → IfErr read (IsRefusalByKey (rows_of shown) Lent release))
        → (Lists places shown → Early pin shown → (rows : List RowValue) → IsReleaseOf release rows → (view disk).bytes_read ≤ (view lent).bytes_read + sum_by row_cost (already_known (rows_of shown) rows))
        → ((IsRead release → ⊥) → (view disk).bytes_read ≤ (view lent).bytes_read)
        → CountsBy CountsAnyDiskFault read (view lent).failures (view disk).failures
        → MomentsStay (view lent).is_honest (view disk).is_honest (view lent).moments (view disk).moments
        → LooksUpSome (is_listed entries) lent_cache cache (view lent).bytes_read (view disk).bytes_read
        → (view disk).other_calls ≡ (view lent).other_calls
        → IsAnswerOf read result
        → MatchResult result (λ found. IsStill (record old { disk = disk; cache = cache }) new) (λ e. IsRefused e (record old { disk = disk; cache = cache }) new)
        → new.disk ≡ disk → new.cache ≡ cache → ((view disk).is_honest → new.needs_reopen ≡ false → IsAcknowledged view new)
        → IsListing result release limit view old new
    listed_so rows_are still lent_is lent_cache_is entries_are shown_is sound lends found is_read why possible by_key work none_read counted stays looked_up calls answers left same kept acknowledged =
        let rows_so : rows_of shown ≡ full old.history = ap rows_of shown_is ∙ sym (ap (map (λ (s : StampedRow). s.row)) rows_are) in
        let stored = stored_so view old lent lent_cache entries lent_is lent_cache_is entries_are in
        let stay = subst (λ x. MomentsStay (view x).is_honest (view disk).is_honest (view x).moments (view disk).moments) lent_is stays in
        let before = ap (λ d. (view d).bytes_read) lent_is in
        let after = ap (λ d. (view d).bytes_read) same in
        record {
          found = λ up. ok_so (AreContradictionsOf (full old.history) release limit) read result answers (subst (λ rows. IfOk read (AreContradictionsOf rows release limit)) rows_so (found (lends up) sound.0 sound.1));
          compared = ok_so (ArePossibleContradictions (full old.history) (IsStored view old) release limit) read result answers
              (more_listed (full old.history) Lent (IsStored view old) stored release limit read (subst (λ rows. IfOk read (ArePossibleContradictions rows Lent release limit)) rows_so (possible sound.0 sound.1)));
          read = ok_so (λ found. IsRead release) read result answers is_read;
          refused = err_so (λ fault. IsNotListed (IsHonestReader × Lists places shown × Early pin shown) release fault × IsRefusalByKey (full old.history) (IsStored view old) release fault) (λ e. ((e ≡ refusals.ReopenNeeded) × (old.needs_reopen ≡ true)) ⊎ ((old.needs_reopen ≡ false) × IsUnlisted (view old.disk).is_honest (full old.history) (IsStored view old) e release)) read result answers
              (λ fault h. inr (still, (fault, refl, unlisted_less (IsHonestReader × Lists places shown × Early pin shown) (view old.disk).is_honest release fault (λ up. (lends up, sound.0, sound.1)) h.0, h.1)))
              (err_both _ _ read why (more_refusals (full old.history) Lent (IsStored view old) stored release read (subst (λ rows. IfErr read (IsRefusalByKey rows Lent release)) rows_so (by_key sound.0 sound.1))));
          left = left_so result old new disk cache left;
          closed = λ closed. absurd (false≢true (sym still ∙ closed));
          acknowledged = λ up. acknowledged (stay.0.0 up);
          meters = read_so view result release old new entries lent lent_cache lent_is lent_cache_is entries_are
              (subst (λ d. MomentsStay (view lent).is_honest (view d).is_honest (view lent).moments (view d).moments) (sym same) stays)
              (subst (λ d. LooksUpSome (is_listed entries) lent_cache new.cache (view lent).bytes_read (view d).bytes_read) (sym same) (subst (λ c. LooksUpSome (is_listed entries) lent_cache c (view lent).bytes_read (view disk).bytes_read) (sym kept) looked_up))
              (ap (λ d. (view d).other_calls) same ∙ calls)
              (subst (λ d. Counts result (view lent).failures (view d).failures) (sym same) (counted_so read result (view lent).failures (view disk).failures answers counted))
              (λ rows are.
              let least = work sound.0 sound.1 rows are in
              let sum = ap (λ known. sum_by row_cost (already_known known rows)) rows_so in
              omega (arith, least, before, after, sum))
              (λ none. let least = none_read none in omega (arith, least, before, after));
        }
