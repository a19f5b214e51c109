use Rattle.std.proofs.Common.{◌≡◌, ◌-◌}
use Rattle.term_prefix.specs.Merged.{IsMergeOfTerms, terms_left}
use Rattle.term_words.proofs.merging.Merging.advance.Given as goal

abbrev pub invariant-loop-step : goal.invariant-loop-step
invariant-loop-step l = (IsMergeOfTerms l.numbers l.a l.b l.fn.self → IsMergeOfTerms l.numbers l.a l.b l.self) × (terms_left l.a l.b l.self ≡ terms_left l.a l.b l.fn.self - l._step)
