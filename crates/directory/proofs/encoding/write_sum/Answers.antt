use Rattle.directory.proofs.Written.{sum_put}
use Rattle.directory.proofs.encoding.write_sum.Goals as goal

pub returns : goal.returns
returns c = sum_put c.args.block.now c.write_u32.new.buf c.crc32c-sum.result c.requires c.write_u32.ensures c.crc32c-sum.ensures
