use Rattle.std.proofs.Common.{refl}
use Rattle.std.proofs.lemmas.Bool.{false≢true}
use Rattle.history_store.proofs.AdmittedKinds.{kind_at, none_at_all}
use Rattle.history_store.proofs.preparing.have_members.Goals as goal

pub returns-then-is_member : goal.returns-then-is_member
returns-then-is_member c = (
  λ e. kind_at c.args.files.now c.loop-file.file-index c.file-item.result c.loop-file-test.true c.file-item.is (c.is_member.ensures.0 c.if-is_member.true),
  λ has. refl,
)

pub returns : goal.returns
returns c = (
  λ e. absurd (false≢true e),
  λ has. absurd (none_at_all c.args.files.now c.loop-file.file-index c.loop-file-test.false c.loop-file.invariant has),
)
