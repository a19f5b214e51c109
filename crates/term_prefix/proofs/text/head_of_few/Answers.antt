use Rattle.std.proofs.Common.{◌∙◌}
use Rattle.term_prefix.proofs.Heads.{sixteen}
use Rattle.term_prefix.proofs.text.head_of_few.Goals as goal

pub returns : goal.returns
returns c = c.from_be_bytes.ensures ∙ rw (c.byte_at.ensures, c.byte_at-2.ensures, c.byte_at-3.ensures, c.byte_at-4.ensures, c.byte_at-5.ensures, c.byte_at-6.ensures, c.byte_at-7.ensures, c.byte_at-8.ensures, c.byte_at-9.ensures, c.byte_at-10.ensures, c.byte_at-11.ensures, c.byte_at-12.ensures, c.byte_at-13.ensures, c.byte_at-14.ensures, c.byte_at-15.ensures, c.byte_at-16.ensures) (sixteen c.args.text.now)
