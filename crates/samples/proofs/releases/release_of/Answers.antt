use Rattle.std.proofs.Common.{refl, ap, ◌∙◌}
use Rattle.std.proofs.lemmas.List.{take_all}
use Rattle.samples.specs.Private.SampleFiles.{texts_of}
use Rattle.samples.proofs.MadeFiles.{one_more}
use Rattle.samples.proofs.releases.release_of.Goals as goal

pub loop-sample-preserved : goal.loop-sample-preserved
loop-sample-preserved c =
    one_more c.args.samples.now c.loop-sample.sample-index _ c.loop-sample.files.items c.push.new.self.items _ c.loop-sample-test.true
    c.in_ok-push.ensures.items refl (c.in_ok-from_slice.ensures.items ∙ c.as_bytes.ensures.value) c.loop-sample.invariant

pub returns : goal.returns
returns c = c.loop-sample.invariant ∙ ap texts_of (take_all c.loop-sample.sample-index c.args.samples.now c.loop-sample-test.false)
