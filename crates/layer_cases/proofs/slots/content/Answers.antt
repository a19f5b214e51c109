use Rattle.std.proofs.Common.{◌∙◌}
use Rattle.blocks.proofs.Epochs.{epoch_of-front}
use Rattle.layer_cases.proofs.slots.content.Goals as goal

pub returns : goal.returns
returns c = epoch_of-front c.copy_from_slice.new.self _ c.args.epoch (c.copy_from_slice.ensures.after ∙ c.to_be_bytes.ensures) c.ranges.epoch.fits
