use Rattle.std.proofs.Common.{rules, refl}
use Rattle.std.specs.Str.{IsUtf8}
use Rattle.sheet.specs.Names.{names_of}
use Rattle.comparison.proofs.Readable.{name_is, readable}
use Rattle.comparison.proofs.reports.Report.name.Goals as goal

pub unwrap-requires : goal.unwrap-requires
unwrap-requires c =
    let named = name_is (names_of c.args.self.now.names) c.args.cue c.name.result c.unwrap_or-name.result _ c.name.ensures refl c.unwrap_or-name.ensures in
    let text : IsUtf8 c.unwrap_or-name.result.now = rw named (readable (names_of c.args.self.now.names) c.args.cue c.args.self.now.readable) in
    Prim.search rules

pub returns : goal.returns
returns c =
    let named = name_is (names_of c.args.self.now.names) c.args.cue c.name.result c.unwrap_or-name.result _ c.name.ensures refl c.unwrap_or-name.ensures in
    let text = rw c.unwrap.ensures at c.from_utf8.ensures.cases in
    Prim.search rules
