use Rattle.std.proofs.Common.{Ok, inl, inr, ◌∙◌, sym}
use Rattle.std.proofs.lemmas.Bool.{both_ways}
use Rattle.line_server.specs.ReplyValue.{Done as AllDone}
use Rattle.command_line.specs.declared.endings.Ending.TheVariants.{Differs}
use Rattle.command_line.specs.Endings.{Tells, IsWritten}
use Rattle.command_line.specs.Verifying.{IsComparisonTold, words_of, differs_line}
use Rattle.command_line.proofs.Comparing.{told_or_weaker}
use Rattle.command_line.proofs.telling_differences.tell_found.Goals as goal

pub returns-then-is_whole : goal.returns-then-is_whole
returns-then-is_whole g c =
    told_or_weaker (λ told. Tells told (Ok (AllDone (words_of c.args.found.now.counts)))) (IsComparisonTold c.args.found.now) _
    (λ told. inl (c.is_whole.ensures.0 c.if-is_whole.true, told)) c.write_counts.ensures

pub returns : goal.returns
returns g c =
    told_or_weaker (λ told. IsWritten Differs (differs_line c.args.found.now) told.ended told.old told.new) (IsComparisonTold c.args.found.now) _
    (λ told. inr (λ whole. both_ways c.is_whole.result c.if-is_whole.false (c.is_whole.ensures.1 whole), told)) c.write_numbers.ensures
