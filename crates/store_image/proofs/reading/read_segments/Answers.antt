use Rattle.std.specs.Prelude.{map}
use Rattle.std.specs.List.{AllByRecursion}
use Rattle.std.proofs.Common.{◌≡◌, ◌++◌, ℕ, List, [], ◌∷◌, get_or, take, sym, ap, subst, ◌∙◌, arith, take_all, length-take, rules}
use Rattle.std.proofs.lemmas.List.{length-map, map_push as map-push}
use Rattle.list_lemmas.proofs.Each.{each_of_pushed}
use Rattle.disk_model.specs.Disk.{Moments}
use Rattle.directory.specs.declared.entry.Entry.{Entry}
use Rattle.history_model.specs.declared.stamped.StampedRow.{StampedRow}
use Rattle.history_model.specs.InOrder.{IsAscending}
use Rattle.rf2_values.specs.Key.{key_cmp}
use Rattle.segment.specs.Standing.{places_of}
use Rattle.directory.specs.declared.sums.Sums.TheVariants as sums
use Rattle.store_image.specs.Pieces.{HoldsAll}
use Rattle.store_image.specs.Kept.{AreSegments, AreSummed, pieces_of}
use Rattle.store_image.specs.Reading.{IsAt}
use Rattle.store_image.specs.Private.Reading.{IsNotReadAt}
use Rattle.store_image.specs.Damage.{AreThere}
use Rattle.store_image.specs.Private.Keys.{keys_of, EachKeyOnce}
use Rattle.store_image.proofs.Segments.{bytes_more, bytes_up_to, bytes_within, more_segments, more_summed, more_numbered, more_held}
use Rattle.store_image.proofs.Damaged.{not_read_at, segments_count}
use Rattle.store_image.proofs.Asked.{stops_in}
use Rattle.store_image.proofs.KeyLists.{ascending_keys, lists_from_once, once_from_lists}
use Rattle.store_image.proofs.reading.read_segments.Goals as goal

-- what an entry is read from where there is none
none : Entry
none = record { first = 0; bytes = 0; rows = 0; sums = sums.Nowhere }

-- the bytes are those from before
same_now : (old new : Moments) → new ≡ old → new.state.now ≡ old.state.now
same_now old new same = ap (λ (m : Moments). m.state.now) same

-- the segments before the one that isn't read
pub returns-in-Err-clause-exact : goal.returns-in-Err-clause-exact
unfolding none
returns-in-Err-clause-exact g c honest =
    let inv = c.loop-entry.invariant in
    let entries = c.args.entries.now in
    let i = c.loop-entry.entry-index in
    let lists = map g.B.SegmentBuilder.sealed c.loop-entry.segments.items in
    let e = c.in-Err.fault in
    let lt = c.loop-entry-test.true in
    let now : List ℕ = (g.D.Disk.view c.args.disk.now).moments.state.now in
    let why = subst (IsNotReadAt e c.args.imports (get_or entries i none)) (same_now _ _ (inv.moments honest)) (c.in-Err.ensures.exact (inv.honesty.0 honest)) in
    let there : AreThere c.args.imports (take i entries) lists now = record { segments = inv.segments; numbered = inv.numbered; held = inv.held honest; sums = inv.sums } in
    let count = segments_count (take i entries) lists inv.segments in
    let long = length-map c.loop-entry.segments.items g.B.SegmentBuilder.sealed in
    let front = length-take i entries in
    let number = c.len-number.ensures in
    rw (c.in_segment.ensures) (not_read_at e _ c.args.imports now entries lists i none lt (omega (arith, count, long, front, lt, number)) there why)

pub loop-entry-preserved : goal.loop-entry-preserved
unfolding none
loop-entry-preserved g c =
    let inv = c.loop-entry.invariant in
    let read = c.in-Ok.ensures in
    let entries = c.args.entries.now in
    let i = c.loop-entry.entry-index in
    let lists = map g.B.SegmentBuilder.sealed c.loop-entry.segments.items in
    let rows = g.B.SegmentBuilder.sealed c.in-Ok.segment in
    let more : List (List StampedRow) = map g.B.SegmentBuilder.sealed c.push.new.self.items in
    let more_is : more ≡ lists ++ rows ∷ [] = ap (map g.B.SegmentBuilder.sealed) c.in_ok-push.ensures.items ∙ map-push g.B.SegmentBuilder.sealed c.loop-entry.segments.items c.in-Ok.segment in
    let lt = c.loop-entry-test.true in
    record {
      segments = more_segments entries i none lists more rows lt more_is inv.segments read.found;
      sums = more_summed entries i none lists more rows lt more_is inv.sums read.sum;
      numbered = more_numbered entries i none lists more rows lt more_is c.args.imports inv.numbered read.numbered;
      told = subst (λ l. AllByRecursion (λ s. g.B.SegmentBuilder.built_with s ≡ c.args.told) l) (sym c.in_ok-push.ensures.items) (each_of_pushed (λ s. g.B.SegmentBuilder.built_with s ≡ c.args.told) c.loop-entry.segments.items c.in-Ok.segment inv.told read.told);
      held = λ honest.
          let there = subst (λ (f : List ℕ). IsAt f (get_or entries i none) rows) (same_now _ _ (inv.moments honest)) (read.exact (inv.honesty.0 honest)) in
          more_held entries i none lists more rows lt more_is _ inv.segments (inv.held honest) there;
      moments = λ honest. read.moments (inv.honesty.0 honest) ∙ inv.moments honest;
      honesty = (λ h. read.meters.honesty.0 (inv.honesty.0 h), λ h. inv.honesty.1 (read.meters.honesty.1 h));
      failures = read.meters.failures ∙ inv.failures;
      bytes_read = omega (arith, inv.bytes_read, read.meters.bytes_read, bytes_more entries i none lt);
      goes_on = omega (arith, inv.goes_on, read.goes_on);
      other_calls = omega (arith, inv.other_calls, read.meters.other_calls);
    }

pub are_apart-requires : goal.are_apart-requires
are_apart-requires g c =
    let sealed = g.B.SegmentBuilder.sealed in
    subst (λ l. AllByRecursion (IsAscending key_cmp) (map keys_of (map places_of (map sealed l)))) (sym c.as_slice.ensures.value) (ascending_keys (map sealed c.loop-entry.segments.items) (take c.loop-entry.entry-index c.args.entries.now) c.loop-entry.invariant.segments)

pub returns-then-not-branch-clause-exact : goal.returns-then-not-branch-clause-exact
unfolding none
returns-then-not-branch-clause-exact g c honest =
    let inv = c.loop-entry.invariant in
    let entries = c.args.entries.now in
    let i = c.loop-entry.entry-index in
    let lists = map g.B.SegmentBuilder.sealed c.loop-entry.segments.items in
    let ended = c.loop-entry-test.false in
    let whole : take i entries ≡ entries = take_all i entries (omega (arith, ended)) in
    let are = subst (λ (l : List Entry). AreSegments l lists) whole inv.segments in
    let now : List ℕ = (g.D.Disk.view c.args.disk.now).moments.state.now in
    let held = subst (λ (l : List Entry). HoldsAll (pieces_of l lists) now) whole (inv.held honest) in
    let summed = subst (λ (l : List Entry). AreSummed l lists) whole inv.sums in
    let there : AreThere c.args.imports entries lists now = record { segments = are; numbered = inv.numbered; held = held; sums = summed } in
    record {
      lists = lists;
      there = there;
      shared = λ apart.
          let once = once_from_lists lists apart in
          let yes = c.in_ok-are_apart.ensures.1 (subst (λ l. EachKeyOnce (map keys_of (map places_of (map g.B.SegmentBuilder.sealed l)))) (sym c.as_slice.ensures.value) once) in
          let no = c.if-not-branch.true in
          absurd cc;
    }

pub returns-clause-read : goal.returns-clause-read
returns-clause-read g c =
    let inv = c.loop-entry.invariant in
    let entries = c.args.entries.now in
    let i = c.loop-entry.entry-index in
    let lists = map g.B.SegmentBuilder.sealed c.loop-entry.segments.items in
    let ended = c.loop-entry-test.false in
    let whole : take i entries ≡ entries = take_all i entries (omega (arith, ended)) in
    let are = subst (λ (l : List Entry). AreSegments l lists) whole inv.segments in
    let once = subst (λ l. EachKeyOnce (map keys_of (map places_of (map g.B.SegmentBuilder.sealed l)))) c.as_slice.ensures.value (c.in_ok-are_apart.ensures.0 c.if-not-branch.false) in
    record {
      segments = are;
      apart = lists_from_once lists entries are once;
      sums = subst (λ (l : List Entry). AreSummed l lists) whole inv.sums;
      numbered = inv.numbered;
    }

-- ---- the bytes that were read

pub returns-in-Err-clause-meters : goal.returns-in-Err-clause-meters
unfolding none
returns-in-Err-clause-meters g c = record {
  honesty = search rules;
  failures = search rules;
  bytes_read =
      let entries = c.args.entries.now in
      let i = c.loop-entry.entry-index in
      omega (arith, c.loop-entry.invariant.bytes_read, c.in-Err.ensures.meters.bytes_read, bytes_up_to entries i none c.loop-entry-test.true);
  other_calls = search rules;
}

pub returns-in_err-push-clause-meters : goal.returns-in_err-push-clause-meters
unfolding none
returns-in_err-push-clause-meters g c = record {
  honesty = search rules;
  failures = search rules;
  bytes_read =
      let entries = c.args.entries.now in
      let i = c.loop-entry.entry-index in
      omega (arith, c.loop-entry.invariant.bytes_read, c.in-Ok.ensures.meters.bytes_read, bytes_up_to entries i none c.loop-entry-test.true);
  other_calls = search rules;
}

pub returns-in_err-are_apart-clause-meters : goal.returns-in_err-are_apart-clause-meters
returns-in_err-are_apart-clause-meters g c = record {
  honesty = search rules;
  failures = search rules;
  bytes_read =
      omega (arith, c.loop-entry.invariant.bytes_read, bytes_within c.args.entries.now c.loop-entry.entry-index);
  other_calls = search rules;
}

pub returns-then-not-branch-clause-meters : goal.returns-then-not-branch-clause-meters
returns-then-not-branch-clause-meters g c = record {
  honesty = search rules;
  failures = search rules;
  bytes_read =
      omega (arith, c.loop-entry.invariant.bytes_read, bytes_within c.args.entries.now c.loop-entry.entry-index);
  other_calls = search rules;
}

pub returns-clause-meters : goal.returns-clause-meters
returns-clause-meters g c = record {
  honesty = search rules;
  failures = search rules;
  bytes_read =
      omega (arith, c.loop-entry.invariant.bytes_read, bytes_within c.args.entries.now c.loop-entry.entry-index);
  other_calls = search rules;
}

-- ---- where it stops

pub returns-in-Err-clause-stops : goal.returns-in-Err-clause-stops
unfolding none
returns-in-Err-clause-stops g c =
    let inv = c.loop-entry.invariant in
    let entries = c.args.entries.now in
    let i = c.loop-entry.entry-index in
    let lt = c.loop-entry-test.true in
    let count = segments_count (take i entries) (map g.B.SegmentBuilder.sealed c.loop-entry.segments.items) inv.segments in
    let long = length-map c.loop-entry.segments.items g.B.SegmentBuilder.sealed in
    let front = length-take i entries in
    let number = c.len-number.ensures in
    rw (c.in_segment.ensures) (stops_in c.in-Err.fault _ entries i none _ (g.D.Disk.view c.loop-entry.disk).bytes_read _ _ _ lt (omega (arith, count, long, front, lt, number)) inv.bytes_read c.in-Err.ensures.meters.bytes_read (omega (arith, inv.other_calls, c.in-Err.ensures.meters.other_calls)))
