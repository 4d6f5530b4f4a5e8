use Rattle.std.proofs.Common.{◌≡◌, rules}
use Rattle.ps_objects.specs.declared.section.SectionKind.TheVariants as kind
use Rattle.dsc_split.proofs.CutLemmas.{prolog_continues}
use Rattle.dsc_split.proofs.cutter.Cutter.end_prolog.Goals as goal

pub returns-in_ok-open-clause-leads : goal.returns-in_ok-open-clause-leads
returns-in_ok-open-clause-leads c =
    let prolog : c.args.self.now.kind ≡ kind.Prolog = search rules in
    λ end marks whole at h. c.in_ok-open.ensures.leads end marks marks whole (prolog_continues c.args.self.now c.args.at end marks prolog at) h
