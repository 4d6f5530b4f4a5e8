use Rattle.std.proofs.Common.{◌≡◌, ◌≢◌, [], true, rules}
use Rattle.ps_objects.specs.declared.section.SectionKind.TheVariants as kind
use Rattle.dsc_split.specs.Cuts.{is_part}
use Rattle.dsc_split.proofs.CutLemmas.{part_else, end_continues_at}
use Rattle.dsc_split.proofs.cutter.Cutter.end_part.Goals as goal

pub returns-in_ok-open-clause-leads : goal.returns-in_ok-open-clause-leads
returns-in_ok-open-clause-leads c =
    let cutter = c.args.self.now in
    let other : cutter.kind ≢ kind.Trailer = search rules in
    let part : is_part cutter.kind ≡ true = part_else cutter.kind c.requires.kind other in
    λ whole h. c.in_ok-open.ensures.leads c.args.end [] [] whole (end_continues_at cutter.number cutter.from c.args.end cutter.kind part) h
