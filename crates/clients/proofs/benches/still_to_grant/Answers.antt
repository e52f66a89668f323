use Rattle.std.proofs.Common.{◌≤◌, arith}
use Rattle.bench.specs.declared.cells.TheConstants.{LIMIT}
use Rattle.clients.proofs.benches.still_to_grant.Goals as goal

pub returns : goal.returns
returns c = λ more.
    let one : 1 ≤ LIMIT = omega arith in
    let (sure, needed) = c.whole_runs.ensures.so_many_are_enough one more in
    (λ low l r left right same. sure low l r record { left = left; right = right; counts = same }, λ any. needed (λ l r ok. any l r ok.left ok.right ok.counts))
