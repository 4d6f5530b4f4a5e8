use Rattle.std.proofs.Common.{◌≡◌, ◌+◌, List, ◌∷◌, sym, ap, ◌∙◌, subst, [], rules, arith}
use Rattle.ps_objects.specs.Object.{whole_of}
use Rattle.ps_objects.specs.declared.cell.Cell.{Cell}
use Rattle.ps_objects.specs.declared.object.Object.{Object}
use Rattle.ps_objects.specs.declared.object.Kind.TheVariants as kind
use Rattle.ps_objects.specs.declared.place.Shape.TheVariants as shape
use Rattle.ps_memory.specs.Memory.{Memory, fresh, perform}
use Rattle.ps_meaning.specs.Answer.{Log}
use Rattle.ps_meaning.specs.Ready.{ReadyIn}
use Rattle.ps_operator.specs.Making.{next_cell}
use Rattle.ps_operator.specs.Registers.{literal, with_ops}
use Rattle.operator_trial.proofs.Onward.{few, string_ready}
use Rattle.operator_trial.proofs.going.push_string.Goals as goal

pub returns : goal.returns
returns c = λ l.
    let s = c.args.trial.now.state in
    let M = c.args.trial.now.memory in
    let n = c.args.len in
    let x : Object = literal (kind.Str (whole_of (next_cell s) n)) in
    let p : c.push.new.self ≡ x ∷ s.regs.operands = search rules in
    let q : c.make_string.new.mem ≡ perform (fresh (next_cell s) (shape.Str n)) M =
    ap (λ (g : Log). g.view) c.in_ok-make_string.ensures.made ∙ ap (λ (k : Cell). perform (fresh k (shape.Str n)) M) c.next_cell-cell.ensures in
    subst (λ xs. ReadyIn [] (record (with_ops s xs) { count = s.count + 1 }) c.make_string.new.mem) (sym p)
    (subst (λ N. ReadyIn [] (record (with_ops s (x ∷ s.regs.operands)) { count = s.count + 1 }) N) (sym q) (string_ready s M c.requires n (omega arith) (few (s.count + 1) l)))
