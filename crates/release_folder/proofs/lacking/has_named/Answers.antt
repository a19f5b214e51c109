use Rattle.std.proofs.Common.{refl, arith, ◌∙◌, sym}
use Rattle.std.proofs.lemmas.Bool.{false≢true}
use Rattle.release_folder.specs.Names.{BeginsSo}
use Rattle.release_folder.proofs.Among.{found, none_more, none_found, none_of_all}
use Rattle.release_folder.proofs.lacking.has_named.Goals as goal

pub returns-then-begins_so : goal.returns-then-begins_so
returns-then-begins_so c = (
  (λ _. found (BeginsSo c.args.beginning.now) c.args.files.now c.loop-file.file-index c.file-item.result c.loop-file-test.true c.file-item.is (c.begins_so.ensures.0 c.if-begins_so.true)),
  (λ _. refl),
)

pub loop-file-preserved : goal.loop-file-preserved
loop-file-preserved c =
    none_more (BeginsSo c.args.beginning.now) c.args.files.now c.loop-file.file-index c.file-item.result c.loop-file-test.true c.file-item.is
    (λ is. absurd (false≢true (sym c.if-begins_so.false ∙ c.begins_so.ensures.1 is))) c.loop-file.invariant

pub returns : goal.returns
returns c = (
  (λ lie. absurd (false≢true lie)),
  (λ some. absurd (none_found (BeginsSo c.args.beginning.now) c.args.files.now (none_of_all (BeginsSo c.args.beginning.now) c.args.files.now c.loop-file.file-index (omega (arith, c.loop-file-test.false)) c.loop-file.invariant) some)),
)
