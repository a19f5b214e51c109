-- Lines that are too long are answered alike.
use Rattle.std.proofs.Common.{◌≡◌, ℕ, ◌<◌, List, [], ◌∷◌, length, Result, subst, arith, inl, inr}
use Rattle.disk_model.specs.View.{DiskView}
use Rattle.import_check.specs.declared.scope.Scope.{Scope}
use Rattle.import_check.specs.declared.release.Release.{Release}
use Rattle.line_commands.specs.declared.unread.Unread.{Unread}
use Rattle.line_commands.specs.declared.unread.Unread.TheVariants as unread
use Rattle.line_commands.specs.Requests.{IsUnread}
use Rattle.line_server.specs.declared.refusal.LineRefusal.{LineRefusal}
use Rattle.history_store.specs.Prepared.{scope_of}
use Rattle.line_server.specs.Sources.{Releases, SourceView, source_view}
use Rattle.line_server.specs.ReplyValue.{Answer}
use Rattle.line_server.specs.Replies.{Server, Replies}
use Rattle.store_life.specs.Life.{Call, Imported, Failed, Other}
use Rattle.line_server.specs.Turns.{Turn, GoesBy, IsTurn, IsAskedFor, IsOfAsked, Run}

unread_alike : (x y : List ℕ) (reason : Unread) → 4096 < length x → 4096 < length y → IsUnread x reason → IsUnread y reason
unread_alike x y unread.Long long other h = other
unread_alike x y unread.Session long other h = let short = h.0 in absurd (omega arith)
unread_alike x y unread.Command long other h = let short = h.0 in absurd (omega arith)
unread_alike x y unread.Arguments long other h = let short = h.0 in absurd (omega arith)

none_asked_for : (releases : Releases) (scope : Scope) (x : List ℕ) (release : Release) → 4096 < length x → IsAskedFor releases scope x release → ⊥
none_asked_for releases scope x release long h = let short = h.2.short in absurd (omega arith)

asked_alike : (releases : Releases) (scope : Scope) (x y : List ℕ) (call : Call) → 4096 < length x → IsOfAsked releases scope x call → IsOfAsked releases scope y call
asked_alike releases scope x y (Imported release) long h = absurd (none_asked_for releases scope x release long h)
asked_alike releases scope x y (Failed release) long h = absurd (none_asked_for releases scope x release long h)
asked_alike releases scope x y Other long h = tt

module _ {D : Type 0} (outcome : Result Answer LineRefusal) (call : Call) (old new : Server D) where
  abbrev pub turn_of : List ℕ → Turn
  turn_of line = record { line = line; outcome = outcome; call = call }

  replies_alike : (honest : Type 0) (releases : Releases) (x y : List ℕ) → 4096 < length x → 4096 < length y → Replies honest releases x outcome old new → Replies honest releases y outcome old new
  replies_alike honest releases x y long other (inl h) = let short = h.2.short in absurd (omega arith)
  replies_alike honest releases x y long other (inr h) = inr (h.0, unread_alike x y h.0 long other h.1, h.2, h.3)

  goes_alike : (view : D → DiskView) (releases : Releases) (x y : List ℕ) → 4096 < length x → 4096 < length y → GoesBy view releases old (turn_of x) new → GoesBy view releases old (turn_of y) new
  goes_alike view releases x y long other g = record {
    replies = replies_alike (view old.store.disk).is_honest releases x y long other g.replies;
    asked = asked_alike releases (scope_of old.store.catalog) x y call long g.asked;
    disk = λ session command asks. let short = asks.short in absurd (omega (arith, short, other));
  }

  module _ (source : SourceView) (view : D → DiskView) where
    pub turn_alike : (x y : List ℕ) → 4096 < length x → 4096 < length y → IsTurn source view old (turn_of x) new → IsTurn source view old (turn_of y) new
    turn_alike x y long other t = record {
      releases = t.releases;
      goes = goes_alike view t.releases x y long other t.goes;
      own = λ h. goes_alike view source.releases x y long other (t.own h);
      call = t.call;
      counts = t.counts;
    }

    -- what was answered for the source as it is now was answered for the source as it was
    pub turn_now : (now : SourceView) (line : List ℕ) → (source.is_honest → now.is_honest × (now.releases ≡ source.releases))
        → IsTurn now view old (turn_of line) new → IsTurn source view old (turn_of line) new
    turn_now now line same t = record {
      releases = t.releases;
      goes = t.goes;
      own = λ h. subst (λ (r : Releases). GoesBy view r old (turn_of line) new) (same h).1 (t.own (same h).0);
      call = t.call;
      counts = t.counts;
    }

-- a turn on a line, as a turn on the same line under another name
pub turn_on : {D : Type 0} (source : SourceView) (view : D → DiskView) (old new : Server D) (turn : Turn) (line : List ℕ) → turn.line ≡ line → IsTurn source view old turn new
    → IsTurn source view old (turn_of turn.outcome turn.call old new line) new
turn_on source view old new turn line same t = subst (λ (l : List ℕ). IsTurn source view old (turn_of turn.outcome turn.call old new l) new) same t

-- ---- what is told of a source is told of none

turn_of_none : {D : Type 0} (source : SourceView) (has : Releases) (view : D → DiskView) (old : Server D) (turn : Turn) (new : Server D) → IsTurn source view old turn new → IsTurn (source_view ⊥ has) view old turn new
turn_of_none source has view old turn new t =
    record { releases = t.releases; goes = t.goes; own = λ none. absurd none; call = t.call; counts = t.counts }

pub run_of_none : {D : Type 0} (source : SourceView) (has : Releases) (view : D → DiskView) (turns : List Turn) (old new : Server D) → Run source view old turns new → Run (source_view ⊥ has) view old turns new
run_of_none source has view [] old new run = run
run_of_none source has view (turn ∷ turns) old new run =
    (run.0, turn_of_none source has view old turn run.0 run.1, run_of_none source has view turns run.0 new run.2)
