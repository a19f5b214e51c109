-- One question after another, of a store that answered those before.
use Rattle.std.proofs.Common.{◌≡◌, ◌↔◌, true, Ok, Err, Result, refl, sym, subst, ◌∙◌}
use Rattle.disk_model.specs.View.{DiskView}
use Rattle.blocks.proofs.Looked.{none_looks_up, some_more}
use Rattle.history_store.specs.declared.refusal.Refusal.{Refusal}
use Rattle.history_store.specs.declared.refusal.Refusal.TheVariants as refusals
use Rattle.rf2_values.specs.Row.{RowValue}
use Rattle.history_store.specs.Stored.{IsStored}
use Rattle.history_store.specs.StoreValue.{StoreValue}
use Rattle.history_store.specs.Answers.{Counts, IsReadingOf, IsReadRefusal}
use Rattle.history_store.specs.Queries.{IsQuery, ReadsThroughCache, is_listed}

module _ {D : Type 0} (view : D → DiskView) where
  -- the store was asked some questions, and answered them
  pub record IsAsked (old now : StoreValue D) : Type 0 where
    pub history : now.history ≡ old.history
    pub catalog : now.catalog ≡ old.catalog
    pub needs_reopen : now.needs_reopen ≡ old.needs_reopen
    pub closed : old.needs_reopen ≡ true → now ≡ old
    pub moments : (view old.disk).is_honest → (view now.disk).moments ≡ (view old.disk).moments
    pub honesty : (view old.disk).is_honest ↔ (view now.disk).is_honest
    pub failures : (view now.disk).failures ≡ (view old.disk).failures
    pub other_calls : (view now.disk).other_calls ≡ (view old.disk).other_calls
    pub looked_up : ReadsThroughCache view old now
    pub steady : (row : RowValue) → IsStored view now row → IsStored view old row

  pub not_asked : (old : StoreValue D) → IsAsked old old
  not_asked old = record {
    history = refl;
    catalog = refl;
    needs_reopen = refl;
    closed = λ e. refl;
    moments = λ h. refl;
    honesty = (λ h. h, λ h. h);
    failures = refl;
    other_calls = refl;
    looked_up = none_looks_up (is_listed old.catalog.entries) old.cache (view old.disk).bytes_read;
    steady = λ row stored. stored;
  }

  module _ (old now new : StoreValue D) (asked : IsAsked old now) where
    pub looked_up_then : ReadsThroughCache view now new → ReadsThroughCache view old new
    looked_up_then more = some_more (is_listed old.catalog.entries) old.cache now.cache new.cache (view old.disk).bytes_read (view now.disk).bytes_read (view new.disk).bytes_read asked.looked_up
        (rw asked.catalog at more)

    cause : (e : Refusal) → IsReadRefusal e now → IsReadRefusal e old
    cause refusals.OutOfMemory w = sym asked.needs_reopen ∙ w
    cause refusals.DiskFault w = sym asked.needs_reopen ∙ w
    cause refusals.Damaged w = sym asked.needs_reopen ∙ w
    cause refusals.ReopenNeeded w = sym asked.needs_reopen ∙ w
    cause _ w = absurd w

    pub reading_then : {T : Type 0} (result : Result T Refusal) → IsReadingOf result now new → IsReadingOf result old new
    reading_then (Ok x) w = record { history = w.history ∙ asked.history; catalog = w.catalog ∙ asked.catalog; open_before = sym asked.needs_reopen ∙ w.open_before; open_still = w.open_still }
    reading_then (Err e) w = (cause e w.0, record { history = w.1.history ∙ asked.history; catalog = w.1.catalog ∙ asked.catalog; closed = w.1.closed; still = λ other. w.1.still other ∙ asked.needs_reopen })

    pub query_then : {T : Type 0} (result : Result T Refusal) → IsQuery result view now new → IsQuery result view old new
    query_then result q = record {
      undamaged = λ h. q.undamaged (asked.honesty.0 h);
      read = reading_then result q.read;
      closed = λ e. q.closed (asked.needs_reopen ∙ e) ∙ asked.closed e;
      moments = λ h. q.moments (asked.honesty.0 h) ∙ asked.moments h;
      acknowledged = λ h. q.acknowledged (asked.honesty.0 h);
      honesty = (λ h. q.honesty.0 (asked.honesty.0 h), λ h. asked.honesty.1 (q.honesty.1 h));
      failures = subst (λ n. Counts result n (view new.disk).failures) asked.failures q.failures;
    }

    -- a question was answered
    pub asked_then : {T : Type 0} (x : T) → IsQuery (Ok x) view now new → (view new.disk).other_calls ≡ (view now.disk).other_calls → ReadsThroughCache view now new
        → ((row : RowValue) → IsStored view new row → IsStored view now row) → IsAsked old new
    asked_then x q others looked steady = record {
      history = q.read.history ∙ asked.history;
      catalog = q.read.catalog ∙ asked.catalog;
      needs_reopen = q.read.open_still ∙ sym q.read.open_before ∙ asked.needs_reopen;
      closed = λ e. q.closed (asked.needs_reopen ∙ e) ∙ asked.closed e;
      moments = λ h. q.moments (asked.honesty.0 h) ∙ asked.moments h;
      honesty = (λ h. q.honesty.0 (asked.honesty.0 h), λ h. asked.honesty.1 (q.honesty.1 h));
      failures = q.failures ∙ asked.failures;
      other_calls = others ∙ asked.other_calls;
      looked_up = looked_up_then looked;
      steady = λ row stored. asked.steady row (steady row stored);
    }

  -- what was answered last is answered otherwise
  pub answered_otherwise : {T U : Type 0} (old new : StoreValue D) (x : T) (y : U) → IsQuery (Ok x) view old new → IsQuery (Ok y) view old new
  answered_otherwise old new x y q = record { undamaged = λ h. tt; read = q.read; closed = q.closed; moments = q.moments; acknowledged = q.acknowledged; honesty = q.honesty; failures = q.failures }

  -- what was refused is refused, whatever would have been answered
  pub refused_otherwise : {T U : Type 0} (old new : StoreValue D) (e : Refusal) → IsQuery {T = T} (Err e) view old new → IsQuery {T = U} (Err e) view old new
  refused_otherwise old new e q = record { undamaged = q.undamaged; read = q.read; closed = q.closed; moments = q.moments; acknowledged = q.acknowledged; honesty = q.honesty; failures = q.failures }
