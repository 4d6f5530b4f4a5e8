use Rattle.std.proofs.Common.{◌≡◌, true, refl, sym, ◌∙◌, Some, codes}
use Rattle.ps_memory.specs.Memory.{Memory}
use Rattle.ps_execution.specs.Section.{in_error_record}
use Rattle.ps_report.proofs.Taking.{record_stands, stands_at, told_at, looked_view, taken, stays_sound}
use Rattle.ps_report.proofs.report.reports.Goals as goal

pub entry-requires-clause-stands : goal.entry-requires-clause-stands
entry-requires-clause-stands g c = record_stands c.args.state.now.section (g.M.Mem.log c.args.mem.now).view c.requires

pub entry-requires-2-clause-stands : goal.entry-requires-2-clause-stands
entry-requires-2-clause-stands g c =
    let log = g.M.Mem.log in
    let M = (log c.args.mem.now).view in
    let one = looked_view (log c.args.mem.now) (log c.entry.new.mem) M (in_error_record (codes "newerror")) c.in_ok-new.ensures.looked refl in
    stands_at c.args.state.now.section M (log c.entry.new.mem).view one c.requires

pub entry-requires-3-clause-stands : goal.entry-requires-3-clause-stands
entry-requires-3-clause-stands g c =
    let log = g.M.Mem.log in
    let M = (log c.args.mem.now).view in
    let one = looked_view (log c.args.mem.now) (log c.entry.new.mem) M (in_error_record (codes "newerror")) c.in_ok-new.ensures.looked refl in
    let two = looked_view (log c.entry.new.mem) (log c.entry-2.new.mem) M (in_error_record (codes "errorname")) c.in_ok-name.ensures.looked one in
    stands_at c.args.state.now.section M (log c.entry-2.new.mem).view two c.requires

pub told_entry-requires : goal.told_entry-requires
told_entry-requires g c =
    let log = g.M.Mem.log in
    let M = (log c.args.mem.now).view in
    let one = looked_view (log c.args.mem.now) (log c.entry.new.mem) M (in_error_record (codes "newerror")) c.in_ok-new.ensures.looked refl in
    let two = looked_view (log c.entry.new.mem) (log c.entry-2.new.mem) M (in_error_record (codes "errorname")) c.in_ok-name.ensures.looked one in
    let three = looked_view (log c.entry-2.new.mem) (log c.entry-3.new.mem) M (in_error_record (codes "command")) c.in_ok-command.ensures.looked two in
    told_at c.args.state.now.section M (log c.entry.new.mem).view (log c.entry-3.new.mem).view (codes "errorname") c.in_ok-name.name one three c.requires c.in_ok-name.ensures.value

pub told_entry-requires-2 : goal.told_entry-requires-2
told_entry-requires-2 g c =
    let log = g.M.Mem.log in
    let M = (log c.args.mem.now).view in
    let one = looked_view (log c.args.mem.now) (log c.entry.new.mem) M (in_error_record (codes "newerror")) c.in_ok-new.ensures.looked refl in
    let two = looked_view (log c.entry.new.mem) (log c.entry-2.new.mem) M (in_error_record (codes "errorname")) c.in_ok-name.ensures.looked one in
    let three = looked_view (log c.entry-2.new.mem) (log c.entry-3.new.mem) M (in_error_record (codes "command")) c.in_ok-command.ensures.looked two in
    told_at c.args.state.now.section M (log c.entry-2.new.mem).view (log c.told_entry.new.mem).view (codes "command") c.in_ok-command.command two (c.in_ok-name-2.ensures.view ∙ three) c.requires c.in_ok-command.ensures.value

pub forget-requires : goal.forget-requires
forget-requires g c =
    let log = g.M.Mem.log in
    let M = (log c.args.mem.now).view in
    let one = looked_view (log c.args.mem.now) (log c.entry.new.mem) M (in_error_record (codes "newerror")) c.in_ok-new.ensures.looked refl in
    let two = looked_view (log c.entry.new.mem) (log c.entry-2.new.mem) M (in_error_record (codes "errorname")) c.in_ok-name.ensures.looked one in
    let three = looked_view (log c.entry-2.new.mem) (log c.entry-3.new.mem) M (in_error_record (codes "command")) c.in_ok-command.ensures.looked two in
    stands_at c.args.state.now.section M (log c.told_entry-2.new.mem).view (c.in_ok-command-2.ensures.view ∙ c.in_ok-name-2.ensures.view ∙ three) c.requires

pub returns-clause-told : goal.returns-clause-told
returns-clause-told g c =
    let log = g.M.Mem.log in
    taken (log c.args.mem.now) (log c.entry.new.mem) (log c.entry-2.new.mem) (log c.entry-3.new.mem) (log c.told_entry.new.mem) (log c.told_entry-2.new.mem) (log c.forget.new.mem)
    c.in_ok-new.new c.in_ok-name.name c.in_ok-command.command c.in_ok-name-2.name c.in_ok-command-2.command
    c.in_ok-new.ensures.value c.in_ok-new.ensures.looked (sym c.is_true.ensures ∙ c.if-not-is_true.false)
    c.in_ok-name.ensures.value c.in_ok-name.ensures.looked c.in_ok-command.ensures.value c.in_ok-command.ensures.looked
    c.in_ok-name-2.ensures.leads c.in_ok-command-2.ensures.leads c.in_ok-forget.ensures

pub returns-clause-sound : goal.returns-clause-sound
returns-clause-sound g c =
    let log = g.M.Mem.log in
    stays_sound (log c.args.mem.now) (log c.forget.new.mem) (Some (record { name = c.in_ok-name-2.name; command = c.in_ok-command-2.command })) (returns-clause-told g c)
