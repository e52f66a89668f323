use Rattle.std.proofs.Common.{◌-◌, arith}
use Rattle.clients.proofs.LowBits.{low_bits_set}
use Rattle.clients.proofs.watches.low_bits.Goals as goal

pub returns : goal.returns
returns c = low_bits_set c.args.count (32 - c.args.count) (omega arith)
