use Rattle.std.proofs.Common.{◌≡◌, refl, arith, drop, ◌∷◌, sym, ◌∙◌, rules, [], Some}
use Rattle.sheet.specs.declared.stretches.Stretch.{Stretch}
use Rattle.sheet.specs.Lines.{rest_of}
use Rattle.sheet.specs.Reader.{Passes}
use Rattle.sheet.proofs.Passing.{all_left, within, next_line, past_line}
use Rattle.sheet.proofs.reader.Reader.line.Goals as goal

pub invariant_of-self : goal.invariant_of-self
invariant_of-self c =
    let r = c.args.self.now in
    let cut = c.in_ok-line.ensures in
    record { inside = rw cut.5 (within _ r.at _ _ r.inside (sym (all_left r.sheet.now r.at) ∙ cut.1)); short = r.short; early = omega (arith, cut.5, r.early) }

pub returns : goal.returns
returns c =
    let r = c.args.self.now in
    let cut = c.in_ok-line.ensures in
    let line = c.in_ok-line.line.text.now in
    let behind = c.in_ok-line.behind.text.now in
    let first = next_line (drop r.at r.sheet.now) line behind (rw (all_left r.sheet.now r.at) at cut.0) in
    let place : (s : Stretch) → c.of.result.rest ≡ Some s → (s.line ≡ r.line) × (s.at ≡ r.at) = λ s e. Prim.search rules in
    let passes : Passes (rest_of c.of.result ∷ []) r _ = record {
      sheet = refl;
      read = rw (cut.5, c.of.ensures) (past_line r.sheet.now r.at line behind (sym (all_left r.sheet.now r.at) ∙ cut.1));
      line = refl;
    } in
    (rw c.of.ensures (sym first), record { passes = passes; place = place })
