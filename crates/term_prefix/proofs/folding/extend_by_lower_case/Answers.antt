use Rattle.term_prefix.proofs.Ascii.{lower_case_added}
use Rattle.std.proofs.Common.{◌∙◌}
use Rattle.term_prefix.proofs.folding.extend_by_lower_case.Goals as goal

pub returns-clause-ok : goal.returns-clause-ok
returns-clause-ok c =
    lower_case_added c.args.text.now.items c.args.term.now c.deref_mut.result.now c.make_ascii_lowercase.new.self _ _ c.len-start.result c.extend_from_slice.new.self.len c.args.text.now.len
    c.requires (c.deref_mut.ensures.value ∙ c.in_ok-extend_from_slice.ensures.items) c.len-start.ensures c.in_ok-extend_from_slice.ensures.len c.deref_mut.ensures.len c.make_ascii_lowercase.ensures.after
