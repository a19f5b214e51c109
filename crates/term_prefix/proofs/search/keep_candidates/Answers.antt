use Rattle.std.proofs.Common.{List, sym, subst}
use Rattle.std.specs.List.Sorted.{IsPermutation}
use Rattle.std.proofs.lemmas.Result.{on_ok_weaker}
use Rattle.history_model.proofs.Items.{Has-permuted}
use Rattle.term_prefix.specs.declared.text.Term.{Term}
use Rattle.term_prefix.proofs.FirstKept.{terms_same}
use Rattle.term_prefix.proofs.search.keep_candidates.Goals as goal

pub returns : goal.returns
returns c =
    let a = c.args in
    let sorted = c.as_slice.result.now in
    let same = subst (λ (ts : List Term). IsPermutation a.terms.now ts) (sym c.as_slice.ensures.value) c.in_ok-sorted.ensures.permutation in
    on_ok_weaker c.keep_current-2.result (λ keeps lists listed_so described seen start.
    terms_same lists a.search.now a.segment seen c.keep_current-2.new.kept.items a.terms.now sorted same
    (keeps lists listed_so (λ t there. described t (Has-permuted a.terms.now sorted same t there)) seen start)) c.keep_current-2.ensures
