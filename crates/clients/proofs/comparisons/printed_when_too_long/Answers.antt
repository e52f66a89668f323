use Rattle.clients.proofs.ComparisonLemmas.{said, too_long_printed}
use Rattle.clients.proofs.comparisons.printed_when_too_long.Goals as goal

pub returns : goal.returns
returns c = λ long. said c.is_printed_for.result c.is_printed_for.ensures (too_long_printed c.args.sheet.now long)
