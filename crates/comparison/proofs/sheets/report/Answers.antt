use Rattle.std.proofs.Common.{refl}
use Rattle.comparison.proofs.Reported.{plain_names, report_of}
use Rattle.comparison.proofs.sheets.report.Goals as goal

pub invariant_of-result : goal.invariant_of-result
invariant_of-result c = let (s, holds, formed) = c.requires in record { readable = rw holds.names (plain_names s.names formed.0.forms) }

pub returns : goal.returns
returns c = λ s holds formed. report_of _ c.args.sheet s _ _ holds c.seal.ensures.same_content c.seal-2.ensures.same_content refl
    (record {
      allows = c.seal.ensures.allows_just_what_holds;
      positions = c.seal.ensures.apart_just_by_rules;
      also_allows = c.seal-2.ensures.allows_just_what_holds;
      also_positions = c.seal-2.ensures.apart_just_by_rules;
      finding = c.books_compared-finding.ensures.finds_what_is_so;
      tally = c.books_compared-finding.ensures.tally_is_theirs;
    })
