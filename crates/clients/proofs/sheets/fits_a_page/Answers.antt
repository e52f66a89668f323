use Rattle.std.proofs.Common.{◌≤◌, length, rules}
use Rattle.sheet.specs.Reading.{NoneIsLonger}
use Rattle.clients.proofs.SheetLemmas.{as_long}
use Rattle.clients.proofs.sheets.fits_a_page.Goals as goal

pub returns-in-Ok : goal.returns-in-Ok
unfolding NoneIsLonger
returns-in-Ok c =
    let (s, holds, formed, is) = c.in-Ok.ensures.holds_what_is_written in
    let short : length c.args.sheet.now ≤ 2329 = as_long _ s 2329 is (c.none_is_longer.ensures s formed) in
    Prim.search rules
