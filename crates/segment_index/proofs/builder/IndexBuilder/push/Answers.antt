use Rattle.std.proofs.Common.{◌^◌, ◌<◌, ◌++◌, ◌∷◌, [], ◌∙◌, length, refl, ap, sym, subst, arith}
use Rattle.segment.specs.Records.{segment_of}
use Rattle.segment.proofs.Posting.{rows_at_most_bytes, record_ends}
use Rattle.segment_index.specs.Indexed.{SegmentRows}
use Rattle.segment_index.specs.Private.{words_if}
use Rattle.segment_index.proofs.Built.{built_push, built_same, place_taken_away, row_taken_away}
use Rattle.segment_index.proofs.builder.IndexBuilder.push.Goals as goal

pub overflow_add-self : goal.overflow_add-self
overflow_add-self c =
    let short = subst (λ (s : SegmentRows). length (segment_of (s.rows ++ c.args.row.now ∷ [])) < 2 ^ 32) (sym c.self.view_is) c.requires in
    let ends = record_ends c.self.inside.rows c.args.row.now c.self.inside.bytes c.new-at.result c.self.invariant.bytes_are c.new-at.ensures in
    omega (arith, short, ends)

-- there are no more rows than bytes of their records
pub overflow_cast-len : goal.overflow_cast-len
overflow_cast-len c =
    let short = subst (λ (s : SegmentRows). length (segment_of (s.rows ++ c.args.row.now ∷ [])) < 2 ^ 32) (sym c.self.view_is) c.requires in
    let ends = record_ends c.self.inside.rows c.args.row.now c.self.inside.bytes c.new-at.result c.self.invariant.bytes_are c.new-at.ensures in
    let few = rows_at_most_bytes c.self.inside.rows in
    let count = c.len-len.ensures in
    let bytes = c.self.invariant.bytes_are in
    omega (arith, short, ends, few, count, bytes)

pub invariant_of-self-in-Err : goal.invariant_of-self-in-Err
invariant_of-self-in-Err c =
    let inside = c.self.inside in
    let places = place_taken_away inside.rows inside.places c.push.new.self c.cut_to.new.self c.new-at.result c.len-len.result c.self.invariant.places_are c.len-len.ensures c.in_ok-push.ensures.ok c.cut_to.ensures in
    built_same inside.words inside.rows c.push-2.new.self inside.places c.cut_to.new.self inside.terms inside.terms inside.links inside.links inside.posted_words inside.posted_words inside.bytes c.self.invariant c.in-Err.ensures.err places refl refl refl

pub invariant_of-self-in-Ok : goal.invariant_of-self-in-Ok
invariant_of-self-in-Ok c =
    let inside = c.self.inside in
    built_push inside.words inside.rows c.push-2.new.self inside.places c.push.new.self inside.terms c.post.new.terms inside.links c.post.new.links inside.posted_words c.post.new.posted inside.bytes _ c.len-len.result c.args.row.now c.new-at.result c.self.invariant c.new-at.ensures c.len-len.ensures c.in_default.ensures.ok c.in_ok-push.ensures.ok c.in-Ok.ensures.ok.0 c.in-Ok.ensures.ok.1 (λ is_kept. c.in-Ok.ensures.words ∙ ap (λ k. inside.posted_words ++ words_if k c.args.row.now.row c.len-len.result) is_kept) refl

pub invariant_of-self-in-Err-post : goal.invariant_of-self-in-Err-post
invariant_of-self-in-Err-post c =
    let inside = c.self.inside in
    let rows = row_taken_away inside.rows c.push-2.new.self c.cut_to-in-Err-post.new.self c.args.row.now c.len-len.result c.len-len.ensures c.in_default.ensures.ok c.cut_to-in-Err-post.ensures in
    let places = place_taken_away inside.rows inside.places c.push.new.self c.cut_to-in-Err-post-2.new.self c.new-at.result c.len-len.result c.self.invariant.places_are c.len-len.ensures c.in_ok-push.ensures.ok c.cut_to-in-Err-post-2.ensures in
    built_same inside.words inside.rows c.cut_to-in-Err-post.new.self inside.places c.cut_to-in-Err-post-2.new.self inside.terms c.post.new.terms inside.links c.post.new.links inside.posted_words c.post.new.posted inside.bytes c.self.invariant rows places c.in-Err-post.ensures.err.0 c.in-Err-post.ensures.err.1 c.in-Err-post.ensures.err.2
