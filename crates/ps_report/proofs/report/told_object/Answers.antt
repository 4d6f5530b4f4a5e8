use Rattle.std.proofs.Common.{ℕ, List, sym, subst, ◌∙◌}
use Rattle.ps_execution.specs.Section as meaning
use Rattle.ps_report.specs.Reports.{Leads, Onward}
use Rattle.ps_report.proofs.Telling.{told_string}
use Rattle.ps_report.proofs.report.told_object.Goals as goal

pub returns-in_ok-bytes-in-Some-2-clause-leads : goal.returns-in_ok-bytes-in-Some-2-clause-leads
returns-in_ok-bytes-in-Some-2-clause-leads g c =
    let log = g.M.Mem.log in
    let x = c.args.object in
    subst (λ (bs : List ℕ). (k : Onward meaning.Told) → Leads (meaning.told_kind x x.kind k) (log c.args.mem.now) (k (record { object = x; bytes = bs })) (log c.bytes_of.new.mem)) (sym (c.in_ok-bytes-in-Some-2.ensures ∙ c.as_slice.ensures.value))
    (told_string x c.in-Some.part c.in_ok-bytes-in-Some.bytes.items (log c.args.mem.now) (log c.bytes_of.new.mem) (sym c.string_of.ensures ∙ c.in-Some.is) c.in_ok-bytes-in-Some.ensures.told)
