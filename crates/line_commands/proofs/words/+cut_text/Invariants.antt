use Rattle.line_commands.proofs.words.+cut_text.Given as goal

abbrev pub decreases-cut_text : goal.decreases-cut_text
decreases-cut_text l = l.count
