use Rattle.std.proofs.Common.{◌≤◌, [], refl, ◌∙◌, arith}
use Rattle.dsc_split.specs.declared.cutter.TheConstants.{MAX_SECTIONS}
use Rattle.dsc_split.proofs.CutLemmas.{closes}
use Rattle.dsc_split.proofs.cutter.Cutter.finish.Goals as goal

pub returns-then-self-gt-MAX_SECTIONS-clause-err :
    goal.returns-then-self-gt-MAX_SECTIONS-clause-err
returns-then-self-gt-MAX_SECTIONS-clause-err c = λ whole h.
    let h1 = c.in_ok-end_prolog.ensures.leads c.args.end [] whole refl h in
    let h2 = c.in_ok-end_part.ensures.leads whole h1 in
    let done = closes c.end_part.new.self c.close.new.self c.args.end whole c.in_ok-end_part.ensures.kind c.in_ok-close.ensures.sections c.in_ok-close.ensures.number h2 in
    (omega (arith, done.0), omega (arith, done.0))

pub returns-clause-ok : goal.returns-clause-ok
returns-clause-ok c = λ whole h.
    let h1 = c.in_ok-end_prolog.ensures.leads c.args.end [] whole refl h in
    let h2 = c.in_ok-end_part.ensures.leads whole h1 in
    let done = closes c.end_part.new.self c.close.new.self c.args.end whole c.in_ok-end_part.ensures.kind c.in_ok-close.ensures.sections c.in_ok-close.ensures.number h2 in
    let few : c.close.new.self.number ≤ MAX_SECTIONS = omega arith in
    (c.from_vec.ensures ∙ done.1 few, omega (arith, done.0))
