use Rattle.std.proofs.Common.{rules, sym, subst, take}
use Rattle.std.specs.Prelude.{nat_lt}
use Rattle.std.proofs.lemmas.Fn.{filter_same}
use Rattle.as_of_index.specs.declared.dates.DateEntry.{DateEntry}
use Rattle.as_of_index.specs.Dates.{AreEntries}
use Rattle.as_of_index.proofs.Noted.{entries_cut}
use Rattle.as_of_index.proofs.dates.cut.Goals as goal

pub returns : goal.returns
returns c = λ places a.
    let len = c.args.len in
    let entries = c.args.entries.now.items in
    let left = filter_same _ (λ (e : DateEntry). nat_lt e.first len) _ (λ x b f k. search rules) entries c.retain.new.self.items c.retain.ensures.filtered in
    subst (λ es. AreEntries (take len places) es) (sym left) (entries_cut places entries len a)
