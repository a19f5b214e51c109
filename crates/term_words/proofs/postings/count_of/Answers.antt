use Rattle.std.proofs.Common.{List, ℕ, length, sym, ap, rules}
use Rattle.std.proofs.lemmas.Str.{chars_from_encodes, chars-IsAscii}
use Rattle.term_words.proofs.InAscii.{where_true}
use Rattle.term_words.proofs.postings.count_of.Goals as goal

pub returns-then-is_ascii : goal.returns-then-is_ascii
returns-then-is_ascii c = ap (λ (cs : List ℕ). length cs) (sym (chars-IsAscii c.args.term.now (where_true _ _ c.is_ascii.result c.is_ascii.ensures.cases c.if-is_ascii.true)))

pub returns : goal.returns
returns c = search (rules, chars_from_encodes)
